-- Register writes: document 01, "Registers", with request P1. Address 0 is THR, 1 SYN1, SYN2 and DLE in turn, 2 mode 1 and mode 2 in turn, 3 command.
-- Assumes nothing.
use Rattle.std.specs.Prelude.{ℕ, ◌-◌, ◌*◌, ◌/◌, ◌%◌, Bool, cond, not, ◌||◌, eqb}
use Rattle.line_rules.specs.Sending.{on}
use Rattle.link_rules.specs.declared.ReceiverHalf.{ReceiverHalf}
use Rattle.link_rules.specs.Parts.{loaded, dropped, emptied}
use Rattle.ins2651_rules.specs.declared.Registers.{Registers}
use Rattle.ins2651_rules.specs.declared.Flags.{Flags}
use Rattle.ins2651_rules.specs.declared.Device.{Device}
use Rattle.ins2651_rules.specs.Shape.{Outcome, with_parts, with_registers, with_sender, status_if, with_mode1, with_mode2, accepting, to_mode1, to_mode2, with_syn1, with_syn2, with_dle, to_syn1, to_syn2, to_dle, with_command, with_errors, with_empty, done, refused}
use Rattle.ins2651_rules.specs.Modes.{transmit_enable, receive_enable, command_clears}
use Rattle.ins2651_rules.specs.Conditions.{vacant}
use Rattle.ins2651_rules.specs.Ranges.{settled}
use Rattle.ins2651_rules.specs.Refusals.{write_refusal}

-- THR takes the character, and the empty-mark goes; the status changes where THR was empty or the mark set
abbrev pub write_holding : Device → ℕ → Device
write_holding d v = status_if (vacant d || on d.flags.empty) d (with_sender d (loaded d.sender v) (with_empty d.flags 0))

-- SYN1, SYN2, DLE in turn: the pointer moves at each write, and wraps
abbrev pub syns_written : Registers → ℕ → Registers
syns_written r v =
    cond (eqb r.syns 0) (to_syn2 (with_syn1 r v))
    (cond (eqb r.syns 1) (to_dle (with_syn2 r v))
    (to_syn1 (with_dle r v)))

abbrev pub write_syn : Device → ℕ → Device
write_syn d v = with_registers d (syns_written d.registers v)

-- the mode pointer moves at each accepted write, and wraps; mode 1 is then set
abbrev pub modes_written : Registers → ℕ → Registers
modes_written r v =
    cond (eqb r.modes 0)
    (to_mode2 (accepting (with_mode1 r v)))
    (to_mode1 (with_mode2 r v))

-- a frame and a character under way keep the mode that they began with
abbrev pub write_mode : Device → ℕ → Device
write_mode d v = with_registers d (modes_written d.registers v)

-- == the command ==

-- bit 4 reads back as 0
abbrev pub stored : ℕ → ℕ
stored v = v - v / 16 % 2 * 16

abbrev pub unless : Bool → ℕ → ℕ
unless t x = cond t 0 x

-- reset error, and receive left off (P1), clear framing, overrun and parity; transmit left off clears the empty-mark
abbrev pub flags_commanded : Flags → ℕ → Flags
flags_commanded f v =
    with_empty
    (with_errors f (unless (command_clears v) f.framing) (unless (command_clears v) f.overrun) (unless (command_clears v) f.parity))
    (unless (not (transmit_enable v)) f.empty)

-- receive left off empties RHR, drops the character under way and waits for a 1
abbrev pub receiver_commanded : ReceiverHalf → ℕ → ReceiverHalf
receiver_commanded r v = cond (receive_enable v) r (emptied (dropped r))

abbrev pub write_command : Device → ℕ → Device
write_command d v =
    with_parts d (with_command d.registers (stored v)) d.pins d.sender (receiver_commanded d.receiver v) (flags_commanded d.flags v)

unfoldable pub write_register : Device → ℕ → ℕ → Device
write_register d address v =
    cond (eqb address 0) (write_holding d v)
    (cond (eqb address 1) (write_syn d v)
    (cond (eqb address 2) (write_mode d v)
    (write_command d v)))

-- the call
unfoldable pub write : Device → ℕ → ℕ → Outcome
write d address v =
    cond (eqb (write_refusal (settled d).registers address v) 0)
    (done (write_register (settled d) address v))
    (refused (write_refusal (settled d).registers address v) d)
