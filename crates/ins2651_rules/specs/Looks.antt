-- The calls that look at a device and leave it as it is: the outputs, and the status looked at and not read. Of a device out of range they show
-- one just reset.
-- Assumes nothing.
use Rattle.std.specs.Prelude.{ℕ}
use Rattle.ins2651_rules.specs.declared.Device.{Device}
use Rattle.ins2651_rules.specs.declared.OutputPins.{OutputPins}
use Rattle.ins2651_rules.specs.Status.{outputs_of}
use Rattle.ins2651_rules.specs.Ranges.{settled}

-- the stored status byte: the change-mark stays
unfoldable pub peek : Device → ℕ
peek d = (settled d).status

-- the levels of the five outputs
unfoldable pub outputs : Device → OutputPins
outputs d = outputs_of (settled d)
