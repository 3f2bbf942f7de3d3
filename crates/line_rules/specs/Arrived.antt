-- What has arrived, and when.
-- Assumes nothing.
use Rattle.std.specs.Prelude.{ℕ, ◌+◌, false, Option, None, Some}
use Rattle.line_rules.specs.declared.Format.{Format}
use Rattle.line_rules.specs.declared.Arrival.{Arrival}
use Rattle.line_rules.specs.declared.RxC.{RxC}
use Rattle.line_rules.specs.Sending.{cut}
use Rattle.line_rules.specs.Clocks.{rx_later}

-- the stamp of what is heard, or what was before it
abbrev pub stamped_or : RxC → Option Arrival → RxC
stamped_or before None = before
stamped_or before (Some a) = a.stamp

-- a character with the number of its stop sample; samples count from 1
pub record Arrived : Type 0 where
  pub at : ℕ
  pub arrival : Arrival

-- the same j samples later
abbrev pub later : ℕ → Arrived → Arrived
later j a = record { at = j + a.at; arrival = a.arrival }

-- c has arrived with sample number k, where the receive tally was t before the first: cut to its length, with no flag
abbrev pub delivered : Format → RxC → ℕ → ℕ → Arrived
delivered f t c k = record { at = k; arrival = record { value = cut f c; parity = false; framing = false; stamp = rx_later k t } }
