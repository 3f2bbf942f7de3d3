-- Two devices ticked in rounds, each with the level that the other sent last: how a host that does both ticks of a device in one call runs a line.
-- Assumes nothing.
use Rattle.std.specs.Prelude.{ℕ, zero, suc}
use Rattle.ins2651_rules.specs.Shape.{Answer}
use Rattle.ins2651_rules.specs.Ticks as chip
use Rattle.joined_rules.specs.declared.Pair.{Pair}

-- the last answer of each device: its value is the level that it sent
pub record Answers : Type 0 where
  pub a : Answer
  pub b : Answer

-- one transmit tick of each
abbrev pub begun : Pair → Answers
begun p = record { a = chip.sending (chip.transmit p.a); b = chip.sending (chip.transmit p.b) }

abbrev pub round : Answers → Answers
round s = record { a = chip.tick s.a.device s.b.value; b = chip.tick s.b.device s.a.value }

abbrev pub rounds : ℕ → Answers → Answers
rounds zero s = s
rounds (suc n) s = rounds n (round s)
