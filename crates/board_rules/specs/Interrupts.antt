-- The interrupts of a board: document 000's interrupt pages. A 1 is pending, and a 1 in a mask enables.
-- Assumes nothing.
use Rattle.std.specs.Prelude.{ℕ, ◌+◌, ◌*◌, Bool, List, [], ◌∷◌}
use Rattle.std.specs.Int.Bits.{bit_and}
use Rattle.ins2651_rules.specs.declared.Device.{Device}
use Rattle.ins2651_rules.specs.Modes.{has}
use Rattle.ins2651_rules.specs.Status.{weigh}
use Rattle.ins2651_rules.specs.Looks.{peek}
use Rattle.board_rules.specs.declared.Board.{Board}

-- bit k is 1 where channel k is so
abbrev pub by_channel : (Device → Bool) → List Device → ℕ
by_channel p [] = 0
by_channel p (d ∷ room) = weigh (p d) 1 + 2 * by_channel p room

-- status bit 0 of a channel, TxRDY asserted, and status bit 1, RxRDY asserted. A channel out of range counts as one just reset
abbrev pub sends_next : Device → Bool
sends_next d = has 1 (peek d)

abbrev pub holds_one : Device → Bool
holds_one d = has 2 (peek d)

-- ports 4 and 5, read: the interrupt status, whatever the masks say
abbrev pub transmit_status : List Device → ℕ
transmit_status room = by_channel sends_next room

abbrev pub receive_status : List Device → ℕ
receive_status room = by_channel holds_one room

-- the interrupt lines: status and mask, bit by bit
abbrev pub transmit_lines : Board → List Device → ℕ
transmit_lines b room = bit_and (transmit_status room) b.transmit_mask

abbrev pub receive_lines : Board → List Device → ℕ
receive_lines b room = bit_and (receive_status room) b.receive_mask

-- both as one number: the receive byte is the high one
abbrev pub both_bytes : ℕ → ℕ → ℕ
both_bytes transmit receive = receive * 256 + transmit
