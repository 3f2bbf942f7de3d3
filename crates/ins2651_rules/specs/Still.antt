-- Ticks that change nothing but the tally of their clock: document 01, "Sending, by transmit ticks" and "Receiving, by receive ticks"; P4. A host that
-- keeps a device stores no more than that after one of them (proofs/StaysStill.antt).
-- Assumes nothing.
use Rattle.std.specs.Prelude.{ℕ, Bool, not, ◌&&◌, eqb}
use Rattle.line_rules.specs.Sending.{on}
use Rattle.link_rules.specs.declared.SenderHalf.{SenderHalf}
use Rattle.ins2651_rules.specs.declared.Device.{Device}
use Rattle.ins2651_rules.specs.Conditions.{may_start, break_on, listening}

-- with no frame under way: no break and no waiting character that may start, and no guard
abbrev pub idle : SenderHalf → Bool → Bool → Bool
idle s ready broken = not (ready && broken) && eqb s.guard 0 && not (ready && on s.full)

-- a transmit tick of it: no frame is under way and nothing may start
unfoldable pub rests : Device → Bool
rests d = not (on d.sender.frame.place) && idle d.sender (may_start d) (break_on d)

-- a receive tick of it with this level, where it is in range: it searches, and finds no 0
unfoldable pub searches : Device → ℕ → Bool
searches d x = on x && listening d && eqb d.receiver.state.phase 1

-- both
unfoldable pub still : Device → ℕ → Bool
still d x = searches d x && rests d
