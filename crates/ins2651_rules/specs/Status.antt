-- The status byte, bit by bit, and the outputs: document 01, "Registers".
-- Assumes nothing.
use Rattle.std.specs.Prelude.{ℕ, ◌+◌, ◌≡◌, Bool, cond, not}
use Rattle.line_rules.specs.Sending.{bit, on}
use Rattle.ins2651_rules.specs.declared.Device.{Device}
use Rattle.ins2651_rules.specs.declared.Flags.{Flags}
use Rattle.ins2651_rules.specs.declared.OutputPins.{OutputPins}
use Rattle.ins2651_rules.specs.Modes.{data_terminal_ready, request_to_send}
use Rattle.ins2651_rules.specs.Conditions.{data_set_ready, carrier, either_mark, unread, may_write}

abbrev pub weigh : Bool → ℕ → ℕ
weigh b w = cond b w 0

-- 7 = DSR low; 6 = DCD low
abbrev pub modem_bits : Device → ℕ
modem_bits d = weigh (data_set_ready d) 128 + weigh (carrier d) 64

-- 5 framing; 4 overrun; 3 parity
abbrev pub error_bits : Flags → ℕ
error_bits f = weigh (on f.framing) 32 + weigh (on f.overrun) 16 + weigh (on f.parity) 8

-- 2 = empty-mark or change-mark; 1 = RHR holds an unread character; 0 = transmit enabled and THR empty
abbrev pub ready_bits : Device → ℕ
ready_bits d = weigh (either_mark d) 4 + weigh (unread d) 2 + weigh (may_write d) 1

-- what the stored byte of a device must be; it does not go by that byte itself (P7)
unfoldable pub status_byte : Device → ℕ
status_byte d = modem_bits d + error_bits d.flags + ready_bits d

-- the stored byte of a device is that
abbrev pub Kept : Device → Type 0
Kept d = d.status ≡ status_byte d

-- TxRDY, RxRDY and TxEMT/DSCHG are the complements of status bits 0, 1 and 2; DTR and RTS of command bits 1 and 5
unfoldable pub outputs_of : Device → OutputPins
outputs_of d =
    record {
      txrdy = bit (not (may_write d));
      rxrdy = bit (not (unread d));
      txemt = bit (not (either_mark d));
      dtr = bit (not (data_terminal_ready d.registers.command));
      rts = bit (not (request_to_send d.registers.command));
    }
