-- What a call of the board is: request P2's ports, select and refusals. Arguments are any numbers, so bytes too.
-- Assumes nothing.
use Rattle.std.specs.Prelude.{ℕ, ◌/◌, ◌%◌, Bool, false, cond, not, ◌&&◌, ◌||◌, List, eqb, ltb, length}
use Rattle.ins2651_rules.specs.declared.Device.{Device}
use Rattle.ins2651_rules.specs.Runs as chip
use Rattle.board_rules.specs.declared.Board.{Board}
use Rattle.board_rules.specs.Interrupts.{transmit_status, receive_status, transmit_lines, receive_lines, both_bytes}

-- the calls: a port is read or written; a reset; pins, ticks and outputs of a named channel; the interrupt lines
pub data Call : Type 0 where
  In : ℕ → Call
  Out : ℕ → ℕ → Call
  Reset : Call
  Pins : ℕ → ℕ → ℕ → ℕ → Call
  Transmit : ℕ → Call
  Receive : ℕ → ℕ → Call
  Outputs : ℕ → Call
  Interrupts : Call

-- == the user select ==

-- bits 2-0 are the channel ..
abbrev pub channel_of : Board → ℕ
channel_of b = b.select % 8

-- .. and bits 4-3 the board's number; one whose number is above 3 is never selected
abbrev pub selected : Board → Bool
selected b = eqb (b.select / 8 % 4) b.number

-- a write to port 7: bits 7-5 are dropped
abbrev pub with_select : Board → ℕ → Board
with_select b v = record { number = b.number; select = v % 32; transmit_mask = b.transmit_mask; receive_mask = b.receive_mask }

-- == the masks ==

abbrev pub with_transmit_mask : Board → ℕ → Board
with_transmit_mask b v = record { number = b.number; select = b.select; transmit_mask = v; receive_mask = b.receive_mask }

abbrev pub with_receive_mask : Board → ℕ → Board
with_receive_mask b v = record { number = b.number; select = b.select; transmit_mask = b.transmit_mask; receive_mask = v }

-- a reset leaves the number alone, and inhibits every interrupt
abbrev pub reset_board : Board → Board
reset_board b = record { number = b.number; select = 0; transmit_mask = 0; receive_mask = 0 }

-- == refusals ==

-- 10 a room of other than eight channels; 8 a port or channel that is not there; 9 another board is selected; in this order
abbrev pub refusal : ℕ → Bool → Bool → ℕ
refusal channels absent elsewhere = cond (eqb channels 8) (cond absent 8 (cond elsewhere 9 0)) 10

-- ports 0 to 5 are read, all but 6 written; every board takes a write to port 7
abbrev pub in_refusal : Board → ℕ → ℕ → ℕ
in_refusal b channels port = refusal channels (ltb 5 port) (not (selected b))

abbrev pub out_refusal : Board → ℕ → ℕ → ℕ
out_refusal b channels port = refusal channels (eqb port 6 || ltb 7 port) (ltb port 6 && not (selected b))

-- of a call that names a channel, and of one that names none: whatever is selected
abbrev pub named_refusal : ℕ → ℕ → ℕ
named_refusal channels channel = refusal channels (ltb 7 channel) false

abbrev pub room_refusal : ℕ → ℕ
room_refusal channels = refusal channels false false

-- == what a call comes to ==

-- it is refused; or it shows a value; or it leaves the board so; or it is this call of the chip at a channel; or it resets everything
pub data Deed : Type 0 where
  Refused : ℕ → Deed
  Shows : ℕ → Deed
  Sets : Board → Deed
  At : ℕ → chip.Call → Deed
  ResetsAll : Deed

abbrev pub unless : ℕ → Deed → Deed
unless n e = cond (eqb n 0) e (Refused n)

-- ports 0 to 3 are the selected channel's registers; 4 and 5 the interrupt status
abbrev pub reading : Board → List Device → ℕ → Deed
reading b room port =
    cond (eqb port 4) (Shows (transmit_status room))
    (cond (eqb port 5) (Shows (receive_status room))
    (At (channel_of b) (chip.Read port)))

-- .. and 4 and 5 the masks, 7 the select
abbrev pub writing : Board → ℕ → ℕ → Deed
writing b port v =
    cond (eqb port 4) (Sets (with_transmit_mask b v))
    (cond (eqb port 5) (Sets (with_receive_mask b v))
    (cond (eqb port 7) (Sets (with_select b v))
    (At (channel_of b) (chip.Write port v))))

abbrev pub named : List Device → ℕ → chip.Call → Deed
named room channel c = unless (named_refusal (length room) channel) (At channel c)

abbrev pub deed : Board → List Device → Call → Deed
deed b room (In port) = unless (in_refusal b (length room) port) (reading b room port)
deed b room (Out port v) = unless (out_refusal b (length room) port) (writing b port v)
deed b room Reset = unless (room_refusal (length room)) ResetsAll
deed b room (Pins channel dsr dcd cts) = named room channel (chip.SetPins dsr dcd cts)
deed b room (Transmit channel) = named room channel chip.Transmit
deed b room (Receive channel x) = named room channel (chip.Receive x)
deed b room (Outputs channel) = named room channel chip.Outputs
deed b room Interrupts = unless (room_refusal (length room)) (Shows (both_bytes (transmit_lines b room) (receive_lines b room)))
