-- The refusals of request P2, row by row, over calls. Each number is given exactly when its row says and none before it does (proofs/Refused.antt).
-- Assumes nothing.
use Rattle.std.specs.Prelude.{ℕ, ◌/◌, ◌%◌, Bool, false, cond, not, ◌&&◌, ◌||◌, List, eqb, ltb, length}
use Rattle.ins2651_rules.specs.declared.Device.{Device}
use Rattle.ins2651_rules.specs.Runs as chip
use Rattle.ins2651_rules.specs.Rows as chip-rows
use Rattle.board_rules.specs.declared.Board.{Board}
use Rattle.board_rules.specs.Ports.{Call, In, Out, Reset, Pins, Transmit, Receive, Outputs, Interrupts, channel_of}
use Rattle.board_rules.specs.Runs.{device_at}

-- 10: a room of other than eight channels, whatever the call
abbrev pub no_room : List Device → Bool
no_room room = not (eqb (length room) 8)

-- 8: a port or channel above 7, any access to port 6, a read of port 7
abbrev pub absent : Call → Bool
absent (In port) = eqb port 6 || eqb port 7 || ltb 7 port
absent (Out port v) = eqb port 6 || ltb 7 port
absent Reset = false
absent (Pins channel dsr dcd cts) = ltb 7 channel
absent (Transmit channel) = ltb 7 channel
absent (Receive channel x) = ltb 7 channel
absent (Outputs channel) = ltb 7 channel
absent Interrupts = false

-- bits 4-3 of the select are another board's number
abbrev pub another : Board → Bool
another b = not (eqb (b.select / 8 % 4) b.number)

-- 9: access to ports 0 to 5 while another board is selected
abbrev pub elsewhere : Board → Call → Bool
elsewhere b (In port) = ltb port 6 && another b
elsewhere b (Out port v) = ltb port 6 && another b
elsewhere b Reset = false
elsewhere b (Pins channel dsr dcd cts) = false
elsewhere b (Transmit channel) = false
elsewhere b (Receive channel x) = false
elsewhere b (Outputs channel) = false
elsewhere b Interrupts = false

-- the channel's own: of ports 0 to 3, pins and line levels
abbrev pub own : Board → List Device → Call → ℕ
own b room (In port) = cond (ltb port 4) (chip-rows.refusal (device_at room (channel_of b)) (chip.Read port)) 0
own b room (Out port v) = cond (ltb port 4) (chip-rows.refusal (device_at room (channel_of b)) (chip.Write port v)) 0
own b room Reset = 0
own b room (Pins channel dsr dcd cts) = chip-rows.refusal (device_at room channel) (chip.SetPins dsr dcd cts)
own b room (Transmit channel) = 0
own b room (Receive channel x) = chip-rows.refusal (device_at room channel) (chip.Receive x)
own b room (Outputs channel) = 0
own b room Interrupts = 0
