-- How the code asks whether a status byte is right: levels and flags that are 0 or 1 are their own bits, and a low level is a 1. Where the pins and flags are
-- in range it is `status_in_range`; no promise to a user speaks of it.
-- Assumes nothing.
use Rattle.std.specs.Prelude.{ℕ, ◌+◌, ◌*◌, Bool, eqb}
use Rattle.ins2651_rules.specs.declared.Pins.{Pins}
use Rattle.ins2651_rules.specs.declared.Flags.{Flags}
use Rattle.ins2651_rules.specs.declared.Device.{Device}
use Rattle.ins2651_rules.specs.Status.{ready_bits}

abbrev pub level_weights : Pins → ℕ
level_weights p = 128 * p.dsr + 64 * p.dcd

abbrev pub error_weights : Flags → ℕ
error_weights f = 32 * f.framing + 16 * f.overrun + 8 * f.parity

abbrev pub right_by_weights : Device → Bool
right_by_weights d = eqb (d.status + level_weights d.pins) (192 + error_weights d.flags + ready_bits d)
