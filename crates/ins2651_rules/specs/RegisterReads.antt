-- Register reads: document 01, "Registers". Address 0 is RHR, 1 status, 2 mode 1 and mode 2 in turn, 3 command.
-- Assumes nothing.
use Rattle.std.specs.Prelude.{ℕ, cond, eqb}
use Rattle.line_rules.specs.Sending.{on}
use Rattle.link_rules.specs.Parts.{emptied}
use Rattle.ins2651_rules.specs.declared.Device.{Device}
use Rattle.ins2651_rules.specs.Shape.{Answer, with_registers, with_flags, with_receiver, status_if, with_change, to_mode1, to_mode2, to_syn1, answered, refused_read}
use Rattle.ins2651_rules.specs.Conditions.{unread}
use Rattle.ins2651_rules.specs.Ranges.{settled}
use Rattle.ins2651_rules.specs.Refusals.{read_refusal}

-- RHR gives what it last held, and is read; the status changes where it was unread
abbrev pub read_holding : Device → Answer
read_holding d = answered d.receiver.holding (status_if (unread d) d (with_receiver d (emptied d.receiver) d.flags))

-- the stored byte, from before the change-mark is cleared; the status changes where it was set
abbrev pub read_status : Device → Answer
read_status d = answered d.status (status_if (on d.flags.change) d (with_flags d (with_change d.flags 0)))

-- the mode pointer moves, and wraps
abbrev pub read_mode : Device → Answer
read_mode d =
    cond (eqb d.registers.modes 0)
    (answered d.registers.mode1 (with_registers d (to_mode2 d.registers)))
    (answered d.registers.mode2 (with_registers d (to_mode1 d.registers)))

-- a command read puts both pointers back
abbrev pub read_command : Device → Answer
read_command d = answered d.registers.command (with_registers d (to_syn1 (to_mode1 d.registers)))

unfoldable pub read_register : Device → ℕ → Answer
read_register d address =
    cond (eqb address 0) (read_holding d)
    (cond (eqb address 1) (read_status d)
    (cond (eqb address 2) (read_mode d)
    (read_command d)))

-- the call
unfoldable pub read : Device → ℕ → Answer
read d address = cond (eqb (read_refusal address) 0) (read_register (settled d) address) (refused_read (read_refusal address) d)
