-- The INS2651 as a chip on a line. A bench sees it only through its calls.
-- Assumes nothing.
use Rattle.std.specs.Prelude.{ℕ, Bool, true, false, not, ◌&&◌, ◌||◌, eqb}
use Rattle.line_rules.specs.Sending.{bit, on}
use Rattle.ins2651_rules.specs.declared.Device.{Device}
use Rattle.ins2651_rules.specs.Modes.{has, transmit_enable, receive_enable, force_break}
use Rattle.ins2651_rules.specs.RegisterReads.{read}
use Rattle.ins2651_rules.specs.Ticks.{transmit}
use Rattle.ins2651_rules.specs.Stamps.{stamp}
use Rattle.ins2651_rules.specs.Runs.{Call, Transmit, Receive, next, by_call, otherwise, at_read, at_write, at_pins, at_transmit, at_receive, at_outputs}
use Rattle.ins2651_rules.specs.Rows.{refusal}
use Rattle.ins2651_rules.specs.History.{reads, writes_holding}
use Rattle.delivery.specs.Joined.{Chip}

-- == what a bench sees ==

-- what a status read would show: the bit of weight w
abbrev pub status_bit : ℕ → Device → Bool
status_bit w d = has w (read d 1).value

-- bit 0: the device may be written
abbrev pub may_write : Device → Bool
may_write d = status_bit 1 d

-- bit 1: a character has come and is not read
abbrev pub unread : Device → Bool
unread d = status_bit 2 d

-- bits 5, 4 and 3: framing, overrun, parity
abbrev pub flagged : Device → Bool
flagged d = status_bit 32 d || status_bit 16 d || status_bit 8 d

-- what a read of address 0 would give
abbrev pub character : Device → ℕ
character d = (read d 0).value

-- the level that the next transmit tick sends
abbrev pub level_of : Device → Bool
level_of d = on (transmit d).level

-- == what a call is ==

-- the character that a write of address 0 writes
abbrev pub value_of : Call → ℕ
value_of c = by_call (at_write (λ address v. v) (otherwise 0)) c

-- a command in normal operation: bits 7-6 at 00
abbrev pub normal : ℕ → Bool
normal v = not (has 64 v) && not (has 128 v)

-- a done call leaves alone what sending rests on: no reset, no tick of the sender, no mode; a command in normal operation that leaves transmit on
-- and break off; pins that leave CTS low
abbrev pub leaves_sending : Call → Bool
leaves_sending c =
    by_call
    (at_read (λ address. true)
    (at_write (λ address v. eqb address 0 || eqb address 1 || (eqb address 3 && normal v && transmit_enable v && not (force_break v)))
    (at_pins (λ dsr dcd cts. eqb cts 0)
    (at_receive (λ x. true)
    (at_outputs true
    (otherwise false)))))) c

-- .. or what receiving rests on: no reset, no tick of the receiver, no mode; a command in normal operation that leaves receive
-- on; pins that leave DCD low
abbrev pub leaves_receiving : Call → Bool
leaves_receiving c =
    by_call
    (at_read (λ address. true)
    (at_write (λ address v. eqb address 0 || eqb address 1 || (eqb address 3 && normal v && receive_enable v))
    (at_pins (λ dsr dcd cts. eqb dcd 0)
    (at_transmit true
    (at_outputs true
    (otherwise false)))))) c

-- a call that is refused leaves all alone
abbrev pub refused_or : (Call → Bool) → Device → Call → Bool
refused_or p d c = not (eqb (refusal d c) 0) || p c

-- == the chip ==

-- its part of a joined tick is a transmit tick, then a receive tick of the level that the other one sends
abbrev pub ins2651 : Chip Device Call
ins2651 =
    record {
      next = next;
      level = level_of;
      tick = λ d x. next (next d Transmit) (Receive (bit x));
      may_write = may_write;
      writes = λ d c. writes_holding c;
      value = value_of;
      leaves_sending = refused_or leaves_sending;
      unread = unread;
      character = character;
      stamp = stamp;
      reads = λ d c. reads 0 c;
      flagged = flagged;
      leaves_receiving = refused_or leaves_receiving;
    }
