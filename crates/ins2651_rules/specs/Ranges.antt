-- The ranges of a device's fields: docs/RANGES.md has them one by one. A device outside them is taken as one just reset.
-- Assumes nothing.
use Rattle.std.specs.Prelude.{ℕ, Bool, cond, not, ◌&&◌, leb, eqb}
use Rattle.line_rules.specs.Sending.{on}
use Rattle.link_rules.specs.Within.{sender_in_range, receiver_in_range, sender_rests_in_range, receiver_rests_in_range}
use Rattle.ins2651_rules.specs.declared.Registers.{Registers}
use Rattle.ins2651_rules.specs.declared.Pins.{Pins}
use Rattle.ins2651_rules.specs.declared.Flags.{Flags}
use Rattle.ins2651_rules.specs.declared.Device.{Device}
use Rattle.ins2651_rules.specs.Modes.{has}
use Rattle.ins2651_rules.specs.Refusals.{mode1_refusal, command_refusal}
use Rattle.ins2651_rules.specs.Status.{status_byte}
use Rattle.ins2651_rules.specs.Shape.{reset_device}

-- until one was accepted mode 1 is 0, and then one that is not refused
abbrev pub mode1_in_range : ℕ → ℕ → Bool
mode1_in_range accepted m = cond (on accepted) (eqb accepted 1 && eqb (mode1_refusal m) 0) (eqb m 0)

-- a command that is not refused; bit 4 reads back as 0
abbrev pub command_in_range : ℕ → Bool
command_in_range v = eqb (command_refusal v) 0 && not (has 16 v)

abbrev pub registers_in_range : Registers → Bool
registers_in_range r = mode1_in_range r.accepted r.mode1 && command_in_range r.command && leb r.modes 1 && leb r.syns 2

abbrev pub pins_in_range : Pins → Bool
pins_in_range p = leb p.dsr 1 && leb p.dcd 1 && leb p.cts 1

abbrev pub flags_in_range : Flags → Bool
flags_in_range f = leb f.framing 1 && leb f.overrun 1 && leb f.parity 1 && leb f.empty 1 && leb f.change 1

-- the stored byte is what the other fields mean (P7)
abbrev pub status_in_range : Device → Bool
status_in_range d = eqb d.status (status_byte d)

unfoldable pub in_range : Device → Bool
in_range d =
    registers_in_range d.registers
    && pins_in_range d.pins
    && sender_in_range d.sender
    && receiver_in_range d.receiver
    && flags_in_range d.flags
    && status_in_range d

-- what the status shows by itself, and the byte ..
abbrev pub shown_in_range : Device → Bool
shown_in_range d = pins_in_range d.pins && flags_in_range d.flags && status_in_range d

-- .. and the rest, of a device with no frame and no character under way, where that is known (proofs/RestsInRange.antt)
unfoldable pub rests_in_range : Device → Bool
rests_in_range d = registers_in_range d.registers && sender_rests_in_range d.sender && receiver_rests_in_range d.receiver

-- the device itself, or the one just reset where it is out of range
unfoldable pub settled : Device → Device
settled d = cond (in_range d) d reset_device
