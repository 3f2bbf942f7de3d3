-- The pin call: document 01, "Registers". A change of DSR or DCD sets the change-mark.
-- Assumes nothing.
use Rattle.std.specs.Prelude.{ℕ, Bool, cond, not, ◌||◌, eqb}
use Rattle.line_rules.specs.Sending.{or_set}
use Rattle.ins2651_rules.specs.declared.Pins.{Pins}
use Rattle.ins2651_rules.specs.declared.Device.{Device}
use Rattle.ins2651_rules.specs.Shape.{Outcome, pin_levels, with_pins, status_if, with_change, done, refused}
use Rattle.ins2651_rules.specs.Ranges.{settled}
use Rattle.ins2651_rules.specs.Refusals.{pins_refusal}

abbrev pub changes : Pins → ℕ → ℕ → Bool
changes p dsr dcd = not (eqb p.dsr dsr) || not (eqb p.dcd dcd)

-- the status changes with DSR or DCD
unfoldable pub pinned : Device → ℕ → ℕ → ℕ → Device
pinned d dsr dcd cts =
    status_if (changes d.pins dsr dcd) d
    (with_pins d (pin_levels dsr dcd cts) (with_change d.flags (or_set (changes d.pins dsr dcd) d.flags.change)))

-- the call
unfoldable pub set_pins : Device → ℕ → ℕ → ℕ → Outcome
set_pins d dsr dcd cts =
    cond (eqb (pins_refusal dsr dcd cts) 0)
    (done (pinned (settled d) dsr dcd cts))
    (refused (pins_refusal dsr dcd cts) d)
