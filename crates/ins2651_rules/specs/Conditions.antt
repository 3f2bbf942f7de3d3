-- The conditions that the ticks and status bits 7, 6 and 2 to 0 go by: each reads its pin, mark or command bit here and nowhere else.
-- (Outputs DTR and RTS are command bits by themselves; a pin call compares levels.)
-- Assumes nothing.
use Rattle.std.specs.Prelude.{Bool, ◌&&◌, ◌||◌, eqb}
use Rattle.line_rules.specs.Sending.{on}
use Rattle.ins2651_rules.specs.declared.Device.{Device}
use Rattle.ins2651_rules.specs.Modes.{transmit_enable, receive_enable, force_break}

abbrev pub data_set_ready : Device → Bool
data_set_ready d = eqb d.pins.dsr 0

abbrev pub carrier : Device → Bool
carrier d = eqb d.pins.dcd 0

abbrev pub clear_to_send : Device → Bool
clear_to_send d = eqb d.pins.cts 0

-- mode 1 was accepted since reset
abbrev pub mode_set : Device → Bool
mode_set d = on d.registers.accepted

-- command bit 0
abbrev pub transmit_enabled : Device → Bool
transmit_enabled d = transmit_enable d.registers.command

-- a frame or a break may start
abbrev pub may_start : Device → Bool
may_start d = transmit_enabled d && clear_to_send d && mode_set d

-- command bit 3, whether or not a break may start
abbrev pub break_on : Device → Bool
break_on d = force_break d.registers.command

-- a receive tick looks at its sample
abbrev pub listening : Device → Bool
listening d = receive_enable d.registers.command && carrier d && mode_set d

-- RHR holds an unread character
abbrev pub unread : Device → Bool
unread d = on d.receiver.unread

-- THR is empty
abbrev pub vacant : Device → Bool
vacant d = eqb d.sender.full 0

-- the control program may write
abbrev pub may_write : Device → Bool
may_write d = transmit_enabled d && vacant d

-- status bit 2: the empty-mark or the change-mark
abbrev pub either_mark : Device → Bool
either_mark d = on d.flags.empty || on d.flags.change
