-- Examples of document 000 and rules of request P2 as computed scripts: board calls, each with what it answers (proofs/Computed.antt). They see the board
-- through its calls alone, so that a rule that is wrong in its one definition is refused here.
-- Assumes nothing.
use Rattle.std.specs.Prelude.{ℕ, ◌+◌, ◌*◌, List, [], ◌∷◌, ◌++◌, map, replicate, set}
use Rattle.ins2651_rules.specs.declared.Device.{Device}
use Rattle.ins2651_rules.specs.Shape.{with_registers, with_pins, with_command, pin_levels, reset_device}
use Rattle.board_rules.specs.Ports.{Call, In, Out, Reset, Pins, Transmit, Receive, Outputs, Interrupts}
use Rattle.board_rules.specs.Runs.{Cabinet, answer, next}

-- == a script ==

-- a call, and its answer as one number
pub record Row : Type 0 where
  pub call : Call
  pub word : ℕ

-- the calls as a board answers them
abbrev pub played : Cabinet → List Row → List Row
played w [] = []
played w (r ∷ rs) = let rest = played (next w r.call) rs in record { call = r.call; word = answer w.board w.room r.call } ∷ rest

pub record Script : Type 0 where
  pub start : Cabinet
  pub rows : List Row

-- == words ==

abbrev gives : Call → ℕ → Row
gives c v = record { call = c; word = v }

abbrev done : Call → Row
done c = gives c 0

abbrev refused : Call → ℕ → Row
refused c n = gives c (n * 256)

-- the transmit byte, and the receive byte above it
abbrev lines : ℕ → ℕ → Row
lines transmit receive = gives Interrupts (receive * 256 + transmit)

-- the write that selects a user
abbrev user : ℕ → Row
user n = done (Out 7 n)

abbrev fresh : List Device
fresh = replicate 8 reset_device

abbrev in_room : ℕ → ℕ → List Device → Cabinet
in_room number select room = record { board = record { number = number; select = select; transmit_mask = 0; receive_mask = 0 }; room = room }

-- a board of this number, just reset
abbrev on : ℕ → List Row → Script
on n rs = record { start = in_room n 0 fresh; rows = rs }

-- transmit is enabled; in range where DSR is a level
abbrev commanded_to : ℕ → Device
commanded_to dsr = with_pins (with_registers reset_device (with_command reset_device.registers 1)) (pin_levels dsr 1 1) reset_device.flags

-- == interrupts ==

-- a command of 1 enables transmit, and THR is empty
abbrev ready_to_send : ℕ → List Row
ready_to_send n = user n ∷ done (Out 3 1) ∷ []

-- 5 bits, no parity, one tick a bit, receive on, pins low: then a 1 to mark, the start, a character by its bits, the stop
abbrev hears : ℕ → List ℕ → List Row
hears n bits = user n ∷ done (Out 2 65) ∷ done (Out 2 0) ∷ done (Out 3 4) ∷ done (Pins n 0 0 0) ∷ map (λ (x : ℕ). done (Receive n x)) (1 ∷ 0 ∷ bits ++ 1 ∷ [])

-- 1, 4 and 6 are ready to send; then 2, 3 and 7 hold the characters 2, 3 and 7
abbrev waiting : List Row
waiting =
    ready_to_send 1 ++ ready_to_send 4 ++ ready_to_send 6
    ++ gives (In 4) 82 ∷ gives (In 5) 0
    ∷ hears 2 (0 ∷ 1 ∷ 0 ∷ 0 ∷ 0 ∷ []) ++ hears 3 (1 ∷ 1 ∷ 0 ∷ 0 ∷ 0 ∷ []) ++ hears 7 (1 ∷ 1 ∷ 1 ∷ 0 ∷ 0 ∷ [])
    ++ gives (In 4) 82 ∷ gives (In 5) 140 ∷ []

abbrev interrupt_scripts : List Script
interrupt_scripts =
    -- 52 hex where 1, 4 and 6 are ready to send, 8C hex where 2, 3 and 7 hold a character; no line is asserted after a reset
    on 0 (waiting ++ lines 0 0
    -- masks FF, 52, 00, 8C hex; a 1 enables, and the status does not change with a mask
    ∷ done (Out 4 255) ∷ lines 82 0 ∷ done (Out 5 255) ∷ lines 82 140 ∷ gives (In 4) 82 ∷ gives (In 5) 140
    ∷ done (Out 4 82) ∷ lines 82 140 ∷ done (Out 5 82) ∷ lines 82 0 ∷ gives (In 4) 82 ∷ gives (In 5) 140
    ∷ done (Out 5 140) ∷ lines 82 140 ∷ done (Out 4 140) ∷ lines 0 140 ∷ gives (In 4) 82 ∷ gives (In 5) 140
    ∷ done (Out 4 18) ∷ lines 18 140 ∷ done (Out 5 9) ∷ lines 18 8
    ∷ done (Out 5 0) ∷ lines 18 0 ∷ done (Out 4 0) ∷ lines 0 0 ∷ gives (In 4) 82 ∷ gives (In 5) 140 ∷ [])
    -- a character read is pending no more, and a character to send is awaited no more; no other user changes
    ∷ on 0 (waiting ++ user 3 ∷ gives (In 0) 3 ∷ gives (In 5) 132 ∷ user 2 ∷ gives (In 0) 2 ∷ gives (In 5) 128 ∷ user 7 ∷ gives (In 0) 7 ∷ gives (In 5) 0
    ∷ gives (In 4) 82 ∷ user 1 ∷ done (Out 0 0) ∷ gives (In 4) 80 ∷ [])
    -- every transmit interrupt: FF hex
    ∷ on 0 (ready_to_send 0 ++ gives (In 4) 1 ∷ ready_to_send 1 ++ gives (In 4) 3 ∷ ready_to_send 2 ++ gives (In 4) 7 ∷ ready_to_send 3 ++ gives (In 4) 15
    ∷ ready_to_send 4 ++ gives (In 4) 31 ∷ ready_to_send 5 ++ gives (In 4) 63 ∷ ready_to_send 6 ++ gives (In 4) 127 ∷ ready_to_send 7 ++ gives (In 4) 255 ∷ [])
    -- a channel out of range counts as one just reset
    ∷ record { start = in_room 0 0 (set fresh 3 (commanded_to 1)); rows = gives (In 4) 8 ∷ gives (Outputs 3) 30 ∷ [] }
    ∷ record { start = in_room 0 0 (set fresh 3 (commanded_to 9)); rows = gives (In 4) 0 ∷ gives (Outputs 3) 31 ∷ [] }
    ∷ []

-- == the user select ==

abbrev select_scripts : List Script
select_scripts =
    -- board 1 answers 9 while user 0 is selected, and no more once user 8 is
    on 1 (refused (In 0) 9 ∷ refused (In 1) 9 ∷ refused (In 2) 9 ∷ refused (In 3) 9 ∷ refused (In 4) 9 ∷ refused (In 5) 9
    ∷ refused (Out 0 0) 9 ∷ refused (Out 1 0) 9 ∷ refused (Out 2 77) 9 ∷ refused (Out 3 1) 9 ∷ refused (Out 4 1) 9 ∷ refused (Out 5 1) 9
    ∷ user 8 ∷ gives (In 1) 0 ∷ done (Out 3 1) ∷ gives (In 1) 1 ∷ gives (In 4) 1 ∷ lines 0 0 ∷ done (Out 4 1) ∷ lines 1 0
    -- interrupts, ticks, pins and outputs are not of the selected board alone
    ∷ user 0 ∷ refused (In 4) 9 ∷ lines 1 0 ∷ gives (Transmit 0) 1 ∷ gives (Outputs 0) 30 ∷ done (Pins 0 0 0 0) ∷ done (Receive 0 1)
    ∷ user 8 ∷ gives (In 1) 197 ∷ gives (In 1) 193 ∷ user 9 ∷ gives (In 1) 0 ∷ [])
    -- bits 7-5 are dropped: 32 is user 0, E5 hex is user 5, FF hex user 31
    ∷ on 0 (user 9 ∷ refused (In 1) 9 ∷ user 32 ∷ done (Out 3 1) ∷ gives (In 4) 1 ∷ user 229 ∷ done (Out 3 1) ∷ gives (In 4) 33 ∷ [])
    ∷ on 3 (user 255 ∷ done (Out 3 1) ∷ gives (In 4) 128 ∷ [])
    -- document 000: 05 hex is user 5 of the first board, 12 hex is user 18, the third board's relative user 2
    ∷ on 0 (user 5 ∷ done (Out 3 1) ∷ gives (In 4) 32 ∷ [])
    ∷ on 2 (refused (In 1) 9 ∷ user 18 ∷ done (Out 3 1) ∷ gives (In 4) 4 ∷ user 26 ∷ refused (In 4) 9 ∷ [])
    -- a board numbered above 3 is never selected, and takes a write to port 7
    ∷ on 4 (refused (In 1) 9 ∷ user 0 ∷ refused (In 1) 9 ∷ user 32 ∷ refused (In 1) 9 ∷ user 4 ∷ refused (Out 4 1) 9 ∷ gives (Outputs 0) 31 ∷ [])
    ∷ on 255 (user 255 ∷ refused (In 1) 9 ∷ [])
    -- of a select that is stored, the low five bits count
    ∷ record { start = in_room 1 105 fresh; rows = done (Out 3 1) ∷ gives (In 4) 2 ∷ [] }
    ∷ record { start = in_room 0 32 fresh; rows = done (Out 3 1) ∷ gives (In 4) 1 ∷ [] }
    ∷ record { start = in_room 4 32 fresh; rows = refused (In 4) 9 ∷ [] }
    ∷ record { start = in_room 12 96 fresh; rows = refused (In 4) 9 ∷ [] }
    ∷ []

-- == channels ==

-- transmit ticks of a channel, by the levels that it sends
abbrev sends : ℕ → List ℕ → List Row
sends k levels = map (λ (x : ℕ). gives (Transmit k) x) levels

-- ticks, pins and outputs are of the channel that they name, whatever is selected; its neighbours do not change. User 4 sends 21 once its CTS is low
abbrev channel_scripts : List Script
channel_scripts =
    on 0 (user 4 ∷ done (Out 2 65) ∷ done (Out 2 0) ∷ done (Out 3 35) ∷ gives (Outputs 4) 6 ∷ gives (In 4) 16 ∷ done (Out 0 21) ∷ gives (In 4) 0
    ∷ ready_to_send 3 ++ gives (In 4) 8 ∷ sends 4 (1 ∷ []) ++ done (Pins 3 0 0 0) ∷ done (Pins 5 0 0 0) ∷ sends 4 (1 ∷ []) ++ done (Pins 4 1 1 0)
    ∷ sends 4 (0 ∷ []) ++ gives (In 4) 24 ∷ sends 4 (1 ∷ 0 ∷ []) ++ sends 3 (1 ∷ 1 ∷ []) ++ sends 5 (1 ∷ 1 ∷ []) ++ sends 4 (1 ∷ 0 ∷ 1 ∷ 1 ∷ [])
    ++ gives (Outputs 4) 2 ∷ gives (Outputs 3) 26 ∷ gives (Outputs 5) 27 ∷ gives (Outputs 6) 31
    ∷ user 6 ∷ gives (In 1) 0 ∷ user 5 ∷ gives (In 1) 196 ∷ user 4 ∷ gives (In 1) 5 ∷ user 3 ∷ gives (In 1) 197 ∷ [])
    -- registers are read back from the channel where they were written, and DSR, DCD and CTS come in this order
    ∷ on 0 (user 2 ∷ done (Out 2 206) ∷ done (Out 2 176) ∷ done (Out 3 39) ∷ user 3 ∷ gives (In 2) 0 ∷ gives (In 2) 0 ∷ gives (In 3) 0
    ∷ user 2 ∷ gives (In 2) 206 ∷ gives (In 2) 176 ∷ gives (In 3) 39 ∷ done (Pins 2 0 1 1) ∷ gives (In 1) 133 ∷ done (Pins 2 1 0 1) ∷ gives (In 1) 69 ∷ [])
    ∷ []

-- == refusals ==

-- every call in a room of other than eight channels
abbrev no_room_at_all : List Row
no_room_at_all =
    refused (In 0) 10 ∷ refused (In 4) 10 ∷ refused (In 6) 10 ∷ refused (In 8) 10 ∷ refused (Out 0 0) 10 ∷ refused (Out 4 1) 10 ∷ refused (Out 6 0) 10 ∷ refused (Out 7 8) 10
    ∷ refused (Out 8 0) 10 ∷ refused Reset 10 ∷ refused (Pins 0 0 0 0) 10 ∷ refused (Pins 8 2 2 2) 10 ∷ refused (Transmit 0) 10 ∷ refused (Transmit 8) 10
    ∷ refused (Receive 0 0) 10 ∷ refused (Receive 8 2) 10 ∷ refused (Outputs 0) 10 ∷ refused (Outputs 8) 10 ∷ gives Interrupts (10 * 65536) ∷ []

abbrev refusal_scripts : List Script
refusal_scripts =
    record { start = in_room 1 0 (replicate 7 reset_device); rows = no_room_at_all }
    ∷ record { start = in_room 0 0 (replicate 9 reset_device); rows = no_room_at_all }
    ∷ record { start = in_room 0 0 []; rows = no_room_at_all }
    -- 8 before 9: port 6, a read of port 7, a port above 7
    ∷ on 1 (refused (In 5) 9 ∷ refused (In 6) 8 ∷ refused (In 7) 8 ∷ refused (In 8) 8 ∷ refused (In 255) 8
    ∷ refused (Out 5 0) 9 ∷ refused (Out 6 0) 8 ∷ user 0 ∷ refused (Out 8 0) 8 ∷ refused (Out 255 0) 8 ∷ [])
    ∷ on 0 (done (In 5) ∷ refused (In 6) 8 ∷ refused (In 7) 8 ∷ refused (In 8) 8 ∷ done (Out 5 0) ∷ refused (Out 6 0) 8 ∷ user 0 ∷ refused (Out 8 0) 8 ∷ [])
    -- a channel above 7, before the channel's own; and never 9
    ∷ on 1 (refused (Pins 8 2 2 2) 8 ∷ refused (Pins 7 0 2 0) 2 ∷ done (Pins 7 0 1 0) ∷ refused (Receive 8 2) 8 ∷ refused (Receive 7 2) 2 ∷ done (Receive 7 1)
    ∷ refused (Transmit 8) 8 ∷ gives (Transmit 7) 1 ∷ refused (Outputs 8) 8 ∷ gives (Outputs 7) 27 ∷ refused (Outputs 255) 8 ∷ [])
    -- 9 before the channel's own
    ∷ on 1 (refused (Out 2 0) 9 ∷ refused (Out 3 64) 9 ∷ user 8 ∷ refused (Out 2 1) 3 ∷ refused (Out 2 0) 4 ∷ refused (Out 3 64) 5 ∷ gives (In 3) 0 ∷ [])
    ∷ []

-- == reset ==

abbrev reset_scripts : List Script
reset_scripts =
    -- all eight channels, whichever is selected, and both masks
    on 0 (waiting ++ ready_to_send 0 ++ ready_to_send 5 ++ done (Out 4 255) ∷ done (Out 5 255) ∷ lines 115 140 ∷ user 8 ∷ done Reset ∷ lines 0 0 ∷ gives (In 4) 0 ∷ gives (In 5) 0
    ∷ ready_to_send 0 ++ gives (In 4) 1 ∷ lines 0 0 ∷ user 2 ∷ gives (In 0) 0 ∷ gives (In 2) 0 ∷ user 7 ∷ gives (In 0) 0 ∷ gives (In 1) 0
    ∷ hears 7 (1 ∷ 0 ∷ 0 ∷ 0 ∷ 0 ∷ []) ++ gives (In 5) 128 ∷ lines 0 0 ∷ [])
    -- the select is 0, and the number stays
    ∷ on 2 (user 18 ∷ done (Out 4 255) ∷ done (Out 5 255) ∷ done (Out 3 1) ∷ lines 4 0 ∷ done Reset ∷ refused (In 4) 9 ∷ lines 0 0
    ∷ user 18 ∷ gives (In 1) 0 ∷ done (Out 3 1) ∷ gives (In 4) 4 ∷ lines 0 0 ∷ [])
    ∷ on 0 (user 5 ∷ done Reset ∷ done (Out 3 1) ∷ gives (In 4) 1 ∷ [])
    ∷ []

abbrev pub scripts : List Script
scripts = interrupt_scripts ++ select_scripts ++ channel_scripts ++ refusal_scripts ++ reset_scripts
