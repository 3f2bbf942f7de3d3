-- What a call of the board comes to before a channel is looked at, and what is made of the answers of eight channels.
-- Assumes nothing.
use Rattle.std.specs.Prelude.{ℕ, ◌+◌, ◌*◌, ◌/◌, ◌%◌, true, cond, not, eqb, ltb}
use Rattle.std.specs.Int.Bits.{bit_and}
use Rattle.board_rules.specs.declared.Board.{Board}
use Rattle.board_rules.specs.Ports.{in_refusal, out_refusal, named_refusal, room_refusal, channel_of, with_transmit_mask, with_receive_mask, with_select, reset_board}
use Rattle.board_walks.specs.declared.Plan.{Plan}

-- == plans ==

-- a call that is refused, or that is about one channel
abbrev pub plan_at : Board → ℕ → ℕ → Plan
plan_at b refused channel = record { answer = refused * 256; channel = channel; board = b; ends = not (eqb refused 0); single = true }

abbrev pub plan_in : Board → ℕ → ℕ → Plan
plan_in b channels port =
    record { answer = in_refusal b channels port * 256; channel = channel_of b; board = b; ends = not (eqb (in_refusal b channels port) 0); single = ltb port 4 }

-- ports 4, 5 and 7 are the board's own
abbrev pub written : Board → ℕ → ℕ → Board
written b port v = cond (eqb port 4) (with_transmit_mask b v) (cond (eqb port 5) (with_receive_mask b v) (cond (eqb port 7) (with_select b v) b))

-- a write that is taken
abbrev pub plan_taken : Board → ℕ → ℕ → Plan
plan_taken b port v = record { answer = 0; channel = channel_of b; board = written b port v; ends = ltb 3 port; single = true }

unfoldable pub plan_out : Board → ℕ → ℕ → ℕ → Plan
plan_out b channels port v = cond (eqb (out_refusal b channels port) 0) (plan_taken b port v) (plan_at b (out_refusal b channels port) (channel_of b))

abbrev pub plan_named : Board → ℕ → ℕ → Plan
plan_named b channels channel = plan_at b (named_refusal channels channel) channel

abbrev pub plan_interrupts : Board → ℕ → Plan
plan_interrupts b channels = plan_at b (room_refusal channels) 0

unfoldable pub plan_reset : Board → ℕ → Plan
plan_reset b channels = cond (eqb (room_refusal channels) 0) (plan_at (reset_board b) 0 0) (plan_at b (room_refusal channels) 0)

-- == of eight numbers ==

abbrev pub nibble : ℕ → ℕ → ℕ → ℕ → ℕ
nibble a b c d = a % 2 + b % 2 * 2 + (c % 2 * 4 + d % 2 * 8)

-- the lowest bits, the first one's lowest
unfoldable pub low_bits : ℕ → ℕ → ℕ → ℕ → ℕ → ℕ → ℕ → ℕ → ℕ
low_bits a b c d e f g h = nibble a b c d + nibble e f g h * 16

-- of eight statuses: bit 0 of each for port 4, bit 1 for port 5
unfoldable pub interrupt_status : ℕ → ℕ → ℕ → ℕ → ℕ → ℕ → ℕ → ℕ → ℕ → ℕ
interrupt_status a b c d e f g h port = cond (eqb port 4) (low_bits a b c d e f g h) (low_bits (a / 2) (b / 2) (c / 2) (d / 2) (e / 2) (f / 2) (g / 2) (h / 2))

abbrev pub enabled : ℕ → ℕ → ℕ
enabled status mask = bit_and status mask

unfoldable pub interrupt_lines : Board → ℕ → ℕ → ℕ → ℕ → ℕ → ℕ → ℕ → ℕ → ℕ
interrupt_lines board a b c d e f g h =
    enabled (interrupt_status a b c d e f g h 4) board.transmit_mask + enabled (interrupt_status a b c d e f g h 5) board.receive_mask * 256
