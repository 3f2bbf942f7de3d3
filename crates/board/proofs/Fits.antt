-- A channel's refusal is below 256.
-- Assumes nothing.
use Rattle.std.proofs.Common.{ℕ, ◌<◌, arith}
use Rattle.ins2651_rules.specs.declared.Device.{Device}
use Rattle.ins2651_rules.specs.RegisterWrites.{write}
use Rattle.ins2651_rules.specs.Pinning.{set_pins}
use Rattle.ins2651_rules.specs.Ticks.{receive}
use Rattle.ins2651_rules.specs.Runs as chip
use Rattle.ins2651_rules.proofs.Refused.{given_exactly, answers_refusal}

small_refusal : (d : Device) (c : chip.Call) → (chip.said d c).refusal < 256
small_refusal d c = let most = (given_exactly d c).most in omega (arith, most, answers_refusal d c)

pub write_fits : (d : Device) (address v : ℕ) → (write d address v).refusal < 256
write_fits d address v = small_refusal d (chip.Write address v)

pub pins_fit : (d : Device) (dsr dcd cts : ℕ) → (set_pins d dsr dcd cts).refusal < 256
pins_fit d dsr dcd cts = small_refusal d (chip.SetPins dsr dcd cts)

pub receive_fits : (d : Device) (x : ℕ) → (receive d x).refusal < 256
receive_fits d x = small_refusal d (chip.Receive x)
