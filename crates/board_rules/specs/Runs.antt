-- Runs of board calls: what a call answers, and the board and the room after it. A refused call leaves both as they were.
-- Assumes nothing.
use Rattle.std.specs.Prelude.{ℕ, ◌+◌, ◌*◌, List, [], ◌∷◌, get_or, set, replicate}
use Rattle.ins2651_rules.specs.declared.Device.{Device}
use Rattle.ins2651_rules.specs.Shape.{reset_device}
use Rattle.ins2651_rules.specs.Runs as chip
use Rattle.board_rules.specs.declared.Board.{Board}
use Rattle.board_rules.specs.Ports.{Call, In, Out, Reset, Pins, Transmit, Receive, Outputs, Interrupts, Deed, Refused, Shows, Sets, At, ResetsAll, reset_board, deed}

-- == after a call ==

-- the device at a channel
abbrev pub device_at : List Device → ℕ → Device
device_at room k = get_or room k reset_device

abbrev pub board_by : Board → Deed → Board
board_by b (Refused n) = b
board_by b (Shows v) = b
board_by b (Sets b') = b'
board_by b (At k c) = b
board_by b ResetsAll = reset_board b

-- a call at a channel leaves the others as they were
abbrev pub room_by : List Device → Deed → List Device
room_by room (Refused n) = room
room_by room (Shows v) = room
room_by room (Sets b) = room
room_by room (At k c) = set room k (chip.next (device_at room k) c)
room_by room ResetsAll = replicate 8 reset_device

-- == answers ==

-- what the chip answers beside its refusal, as one number: a byte or a level is itself, the five output levels are its bits
abbrev pub as_bits : List ℕ → ℕ
as_bits [] = 0
as_bits (x ∷ xs) = x + 2 * as_bits xs

-- the refusal, and the value: 0 where refused
pub record Said : Type 0 where
  pub refusal : ℕ
  pub value : ℕ

abbrev pub said_by : List Device → Deed → Said
said_by room (Refused n) = record { refusal = n; value = 0 }
said_by room (Shows v) = record { refusal = 0; value = v }
said_by room (Sets b) = record { refusal = 0; value = 0 }
said_by room (At k c) = record { refusal = (chip.said (device_at room k) c).refusal; value = as_bits (chip.said (device_at room k) c).values }
said_by room ResetsAll = record { refusal = 0; value = 0 }

-- as one number: 256 times the refusal, and the value; the two bytes of the interrupts have 16 bits, and their answer 32
abbrev pub weight : Call → ℕ
weight Interrupts = 65536
weight (In port) = 256
weight (Out port v) = 256
weight Reset = 256
weight (Pins channel dsr dcd cts) = 256
weight (Transmit channel) = 256
weight (Receive channel x) = 256
weight (Outputs channel) = 256

abbrev pub word : ℕ → Said → ℕ
word w s = s.refusal * w + s.value

-- == the calls ==

unfoldable pub board_after : Board → List Device → Call → Board
board_after b room c = board_by b (deed b room c)

unfoldable pub room_after : Board → List Device → Call → List Device
room_after b room c = room_by room (deed b room c)

unfoldable pub said : Board → List Device → Call → Said
said b room c = said_by room (deed b room c)

unfoldable pub answer : Board → List Device → Call → ℕ
answer b room c = word (weight c) (said b room c)

-- == runs ==

-- a board and the room of its channels
pub record Cabinet : Type 0 where
  pub board : Board
  pub room : List Device

abbrev pub next : Cabinet → Call → Cabinet
next w c = record { board = board_after w.board w.room c; room = room_after w.board w.room c }

-- after a list of calls, the first one first
abbrev pub after : Cabinet → List Call → Cabinet
after w [] = w
after w (c ∷ cs) = after (next w c) cs

abbrev pub answers : Cabinet → List Call → List Said
answers w [] = []
answers w (c ∷ cs) = said w.board w.room c ∷ answers (next w c) cs
