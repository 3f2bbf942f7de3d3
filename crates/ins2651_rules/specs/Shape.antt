-- A device by its parts, the kinds of answer, and the device just reset, which is the one rule here. No other file builds a device, its registers,
-- its pins or its flags field by field, so that a new field is one change.
-- Assumes nothing.
use Rattle.std.specs.Prelude.{ℕ, Bool, cond}
use Rattle.link_rules.specs.declared.SenderHalf.{SenderHalf}
use Rattle.link_rules.specs.declared.ReceiverHalf.{ReceiverHalf}
use Rattle.link_rules.specs.Parts.{idle_sender, idle_receiver, sender_later, receiver_later}
use Rattle.ins2651_rules.specs.declared.Registers.{Registers}
use Rattle.ins2651_rules.specs.declared.Pins.{Pins}
use Rattle.ins2651_rules.specs.declared.Flags.{Flags}
use Rattle.ins2651_rules.specs.declared.Device.{Device}
use Rattle.ins2651_rules.specs.Status.{status_byte}

-- what a transmit tick answers: the level sent
pub record Ticked : Type 0 where
  pub level : ℕ
  pub device : Device

-- what a register write, a pin call or a receive tick answers
pub record Outcome : Type 0 where
  pub refusal : ℕ
  pub device : Device

-- what a register read answers
pub record Answer : Type 0 where
  pub refusal : ℕ
  pub value : ℕ
  pub device : Device

abbrev pub with_status : Device → ℕ → Device
with_status d v = record { registers = d.registers; pins = d.pins; sender = d.sender; receiver = d.receiver; flags = d.flags; status = v }

-- with the status byte that its other fields mean: no other definition puts the byte together (P7). The byte of 0 that it is asked with makes devices
-- of the same parts the same, and no bit goes by it
abbrev pub status_kept : Device → Device
status_kept d = with_status d (status_byte (with_status d 0))

-- a device of these parts, which takes the place of d; a field that is no part would be d's
abbrev pub with_parts : Device → Registers → Pins → SenderHalf → ReceiverHalf → Flags → Device
with_parts d r p s h f = status_kept (record { registers = r; pins = p; sender = s; receiver = h; flags = f; status = d.status })

abbrev pub with_flags : Device → Flags → Device
with_flags d f = with_parts d d.registers d.pins d.sender d.receiver f

abbrev pub with_pins : Device → Pins → Flags → Device
with_pins d p f = with_parts d d.registers p d.sender d.receiver f

abbrev pub with_sender : Device → SenderHalf → Flags → Device
with_sender d s f = with_parts d d.registers d.pins s d.receiver f

abbrev pub with_receiver : Device → ReceiverHalf → Flags → Device
with_receiver d h f = with_parts d d.registers d.pins d.sender h f

-- == where no bit of the status changes: the byte stays, and is not put together again ==

-- n, which d has become, with the byte of d where nothing has happened that a bit goes by
abbrev pub status_if : Bool → Device → Device → Device
status_if happened d n = with_status n (cond happened n.status d.status)

-- other registers with the same command, and halves with the same marks
abbrev pub with_unshown : Device → Registers → SenderHalf → ReceiverHalf → Device
with_unshown d r s h = record { registers = r; pins = d.pins; sender = s; receiver = h; flags = d.flags; status = d.status }

-- registers with the same command
abbrev pub with_registers : Device → Registers → Device
with_registers d r = with_unshown d r d.sender d.receiver

-- with one transmit tick more in its tally, or one receive tick (P4)
abbrev pub send_counted : Device → Device
send_counted d = with_unshown d d.registers (sender_later 1 d.sender) d.receiver

abbrev pub hear_counted : Device → Device
hear_counted d = with_unshown d d.registers d.sender (receiver_later 1 d.receiver)

-- with n ticks more in each
abbrev pub device_later : ℕ → Device → Device
device_later n d = with_unshown d d.registers (sender_later n d.sender) (receiver_later n d.receiver)

-- == registers ==

abbrev pub with_mode1 : Registers → ℕ → Registers
with_mode1 r v = record { mode1 = v; mode2 = r.mode2; accepted = r.accepted; command = r.command; syn1 = r.syn1; syn2 = r.syn2; dle = r.dle; modes = r.modes; syns = r.syns }

abbrev pub with_mode2 : Registers → ℕ → Registers
with_mode2 r v = record { mode1 = r.mode1; mode2 = v; accepted = r.accepted; command = r.command; syn1 = r.syn1; syn2 = r.syn2; dle = r.dle; modes = r.modes; syns = r.syns }

abbrev pub with_command : Registers → ℕ → Registers
with_command r v = record { mode1 = r.mode1; mode2 = r.mode2; accepted = r.accepted; command = v; syn1 = r.syn1; syn2 = r.syn2; dle = r.dle; modes = r.modes; syns = r.syns }

abbrev pub with_syn1 : Registers → ℕ → Registers
with_syn1 r v = record { mode1 = r.mode1; mode2 = r.mode2; accepted = r.accepted; command = r.command; syn1 = v; syn2 = r.syn2; dle = r.dle; modes = r.modes; syns = r.syns }

abbrev pub with_syn2 : Registers → ℕ → Registers
with_syn2 r v = record { mode1 = r.mode1; mode2 = r.mode2; accepted = r.accepted; command = r.command; syn1 = r.syn1; syn2 = v; dle = r.dle; modes = r.modes; syns = r.syns }

abbrev pub with_dle : Registers → ℕ → Registers
with_dle r v = record { mode1 = r.mode1; mode2 = r.mode2; accepted = r.accepted; command = r.command; syn1 = r.syn1; syn2 = r.syn2; dle = v; modes = r.modes; syns = r.syns }

-- a mode 1 was accepted
abbrev pub accepting : Registers → Registers
accepting r = record { mode1 = r.mode1; mode2 = r.mode2; accepted = 1; command = r.command; syn1 = r.syn1; syn2 = r.syn2; dle = r.dle; modes = r.modes; syns = r.syns }

abbrev pub with_mode_pointer : Registers → ℕ → Registers
with_mode_pointer r p = record { mode1 = r.mode1; mode2 = r.mode2; accepted = r.accepted; command = r.command; syn1 = r.syn1; syn2 = r.syn2; dle = r.dle; modes = p; syns = r.syns }

abbrev pub with_syn_pointer : Registers → ℕ → Registers
with_syn_pointer r p = record { mode1 = r.mode1; mode2 = r.mode2; accepted = r.accepted; command = r.command; syn1 = r.syn1; syn2 = r.syn2; dle = r.dle; modes = r.modes; syns = p }

-- the mode pointer is put to mode 1, or to mode 2 ..
abbrev pub to_mode1 : Registers → Registers
to_mode1 r = with_mode_pointer r 0

abbrev pub to_mode2 : Registers → Registers
to_mode2 r = with_mode_pointer r 1

-- .. and the SYN pointer to SYN1, SYN2 or DLE
abbrev pub to_syn1 : Registers → Registers
to_syn1 r = with_syn_pointer r 0

abbrev pub to_syn2 : Registers → Registers
to_syn2 r = with_syn_pointer r 1

abbrev pub to_dle : Registers → Registers
to_dle r = with_syn_pointer r 2

-- == pins ==

abbrev pub pin_levels : ℕ → ℕ → ℕ → Pins
pin_levels dsr dcd cts = record { dsr = dsr; dcd = dcd; cts = cts }

-- == flags ==

abbrev pub with_errors : Flags → ℕ → ℕ → ℕ → Flags
with_errors f framing overrun parity = record { framing = framing; overrun = overrun; parity = parity; empty = f.empty; change = f.change }

abbrev pub with_empty : Flags → ℕ → Flags
with_empty f e = record { framing = f.framing; overrun = f.overrun; parity = f.parity; empty = e; change = f.change }

abbrev pub with_change : Flags → ℕ → Flags
with_change f c = record { framing = f.framing; overrun = f.overrun; parity = f.parity; empty = f.empty; change = c }

-- == reset ==

-- every register clear, both holding registers empty, nothing under way, the receiver waiting for a 1, all three inputs high: the status is 0
abbrev pub reset_device : Device
reset_device =
    record {
      registers = record { mode1 = 0; mode2 = 0; accepted = 0; command = 0; syn1 = 0; syn2 = 0; dle = 0; modes = 0; syns = 0 };
      pins = pin_levels 1 1 1;
      sender = idle_sender;
      receiver = idle_receiver;
      flags = record { framing = 0; overrun = 0; parity = 0; empty = 0; change = 0 };
      status = 0;
    }

-- == answers ==

abbrev pub answered : ℕ → Device → Answer
answered v d = record { refusal = 0; value = v; device = d }

abbrev pub refused_read : ℕ → Device → Answer
refused_read n d = record { refusal = n; value = 0; device = d }

abbrev pub done : Device → Outcome
done d = record { refusal = 0; device = d }

abbrev pub refused : ℕ → Device → Outcome
refused n d = record { refusal = n; device = d }

abbrev pub ticked : ℕ → Device → Ticked
ticked x d = record { level = x; device = d }
