-- Which calls of a board are about one channel, which change its masks and its select, and which change nothing: by the board and the call alone. And what
-- counts of a stored select.
-- Assumes nothing.
use Rattle.std.specs.Prelude.{ℕ, ◌%◌, Bool, true, false, not, ◌&&◌, ◌||◌, eqb}
use Rattle.board_rules.specs.declared.Board.{Board}
use Rattle.board_rules.specs.Ports.{Call, In, Out, Reset, Pins, Transmit, Receive, Outputs, Interrupts, channel_of}

-- a read of the interrupt status
abbrev pub status_port : ℕ → Bool
status_port port = eqb port 4 || eqb port 5

-- a write to a mask or to the select
abbrev pub board_port : ℕ → Bool
board_port port = eqb port 4 || eqb port 5 || eqb port 7

-- about channel k and no other, refused or not: a port, where k is selected; what names k; and what is of the board alone, at every k. The
-- interrupt status and lines are of all eight, and so is a reset
abbrev pub about : Board → Call → ℕ → Bool
about b (In port) k = not (status_port port) && eqb (channel_of b) k
about b (Out port v) k = board_port port || eqb (channel_of b) k
about b Reset k = false
about b (Pins channel dsr dcd cts) k = eqb channel k
about b (Transmit channel) k = eqb channel k
about b (Receive channel x) k = eqb channel k
about b (Outputs channel) k = eqb channel k
about b Interrupts k = false

-- a write to this port, or a reset: all that changes a mask or the select
abbrev pub sets : ℕ → Call → Bool
sets p (In port) = false
sets p (Out port v) = eqb port p
sets p Reset = true
sets p (Pins channel dsr dcd cts) = false
sets p (Transmit channel) = false
sets p (Receive channel x) = false
sets p (Outputs channel) = false
sets p Interrupts = false

-- what looks and changes nothing: the interrupt status and lines, and outputs
abbrev pub looks : Call → Bool
looks (In port) = status_port port
looks (Out port v) = false
looks Reset = false
looks (Pins channel dsr dcd cts) = false
looks (Transmit channel) = false
looks (Receive channel x) = false
looks (Outputs channel) = true
looks Interrupts = true

-- the board with the low five bits of its select, which are all that count
abbrev pub cut : Board → Board
cut b = record { number = b.number; select = b.select % 32; transmit_mask = b.transmit_mask; receive_mask = b.receive_mask }
