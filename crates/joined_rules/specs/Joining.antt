-- Two devices joined: document 01, "Receiving, by receive ticks". A joined tick is both transmit ticks, then each receiver takes the other's level.
-- Assumes nothing.
use Rattle.std.specs.Prelude.{ℕ, zero, suc, ◌≡◌, cond, ltb}
use Rattle.line_rules.specs.Sending.{on}
use Rattle.line_rules.specs.Clocks.{tx_later, rx_later}
use Rattle.ins2651_rules.specs.Shape.{Ticked}
use Rattle.ins2651_rules.specs.Ranges.{settled}
use Rattle.ins2651_rules.specs.Ticks.{transmit_tick, transmit, receive_tick, receive}
use Rattle.ins2651_rules.specs.Stamps.{transmit_tally, receive_tally}
use Rattle.joined_rules.specs.declared.Pair.{Pair}
use Rattle.joined_rules.specs.declared.Levels.{Levels}

-- what a run of joined ticks answers: its refusal, 0 where it is done, and the pair after it
pub record Ran : Type 0 where
  pub refusal : ℕ
  pub pair : Pair

-- what a joined tick answers: the pair after it, and the level that each device sent
pub record Joined : Type 0 where
  pub pair : Pair
  pub a : ℕ
  pub b : ℕ

-- the call, by the chip's own calls; it is never refused
unfoldable pub tick : Pair → Joined
tick p =
    record {
      pair = record {
        a = (receive (transmit p.a).device (transmit p.b).level).device;
        b = (receive (transmit p.b).device (transmit p.a).level).device;
      };
      a = (transmit p.a).level;
      b = (transmit p.b).level;
    }

-- the levels that it tells
abbrev pub levels : Joined → Levels
levels j = record { a = j.a; b = j.b }

-- n of them, one after another
abbrev pub ticks : ℕ → Pair → Pair
ticks zero p = p
ticks (suc n) p = ticks n (tick p).pair

-- request P9, "Long silent runs": 16 where n is above 65535
abbrev pub run_refusal : ℕ → ℕ
run_refusal n = cond (ltb 65535 n) 16 0

-- the call that does n at once: what as many single ones leave, or, refused, the pair as given
unfoldable pub run : Pair → ℕ → Ran
run p n = record { refusal = run_refusal n; pair = cond (ltb 65535 n) p (ticks n p) }

-- == what ticks count: request P4 ==

-- all four tallies are n ticks on, as the calls give them
pub record TalliesMoved (n : ℕ) (p q : Pair) : Type 0 where
  pub a_sent : transmit_tally q.a ≡ tx_later n (transmit_tally p.a)
  pub a_heard : receive_tally q.a ≡ rx_later n (receive_tally p.a)
  pub b_sent : transmit_tally q.b ≡ tx_later n (transmit_tally p.b)
  pub b_heard : receive_tally q.b ≡ rx_later n (receive_tally p.b)

-- == the same on a pair in range ==

-- a device out of range is taken as one just reset
abbrev pub settled_pair : Pair → Pair
settled_pair p = record { a = settled p.a; b = settled p.b }

-- what both transmit ticks lead to
abbrev pub exchange : Ticked → Ticked → Joined
exchange a b =
    record {
      pair = record { a = receive_tick a.device (on b.level); b = receive_tick b.device (on a.level) };
      a = a.level;
      b = b.level;
    }

unfoldable pub joined_tick : Pair → Joined
joined_tick p = exchange (transmit_tick p.a) (transmit_tick p.b)

abbrev pub joined_ticks : ℕ → Pair → Pair
joined_ticks zero p = p
joined_ticks (suc n) p = joined_ticks n (joined_tick p).pair
