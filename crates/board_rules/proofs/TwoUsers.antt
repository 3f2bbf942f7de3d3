-- Two users joined by a line, of one board and of two, computed: a set-up by ports and a character from one to the other, with other calls between.
-- Assumes nothing.
use Prim.Native.Nat.{ℕ, ◌<◌}
use native.Mathlib.Omega.{arith}
use mathlib.Core.Path.{◌≡◌, refl}
use mathlib.Core.Bool.{true, false}
use mathlib.Core.List.{List, [], ◌∷◌}
use lib.ListN.{length, replicate}
use Rattle.line_rules.specs.Sending.{part, odd_ones, parity_bit}
use Rattle.line_rules.specs.Range as line-range
use Rattle.line_rules.specs.Receiving.{sample}
use Rattle.link_rules.specs.Transmitting as link-transmitting
use Rattle.link_rules.specs.Hearing as link-hearing
use Rattle.link_rules.specs.Within.{sender_in_range, receiver_in_range}
use Rattle.ins2651_rules.specs.Shape.{reset_device}
use Rattle.ins2651_rules.specs.Modes.{format_of}
use Rattle.ins2651_rules.specs.Status.{status_byte}
use Rattle.ins2651_rules.specs.Looks.{peek}
use Rattle.ins2651_rules.specs.Ranges.{in_range, settled}
use Rattle.ins2651_rules.specs.Refusals.{write_refusal}
use Rattle.ins2651_rules.specs.RegisterReads.{read_register, read}
use Rattle.ins2651_rules.specs.RegisterWrites.{write_register, write}
use Rattle.ins2651_rules.specs.Pinning.{pinned, set_pins}
use Rattle.ins2651_rules.specs.Ticks.{transmit_tick, transmit, receive_tick, receive}
use Rattle.ins2651_rules.specs.Runs as chip
use Rattle.delivery.specs.Joined.{Side, A, B}
use Rattle.joined_rules.specs.Joining.{tick}
use Rattle.joined_rules.specs.Bench as bench
use Rattle.joined_rules.specs.Demand3.{Settings, Proper, Agree, sequence, FromReset, Holds, all_allowed, Right}
use Rattle.board_rules.specs.Ports.{In, Out, Reset, Pins, Transmit, Receive}
use Rattle.board_rules.specs.Runs.{board_after, room_after, Said, said}
use Rattle.board_rules.specs.Lines.{Boards, Which, One, Two, cabinet, Spots, spot_at, is_at, Joined, Between, nothing, Step, Tick, On, moved, steps_at, begun, fresh}
use Rattle.board_rules.proofs.Lines.{channels_demand_3}

-- board 1 and board 2, just reset
abbrev boards : Boards
boards =
    record {
      one = record { board = record { number = 1; select = 0; transmit_mask = 0; receive_mask = 0 }; room = replicate 8 reset_device };
      two = record { board = record { number = 2; select = 0; transmit_mask = 0; receive_mask = 0 }; room = replicate 8 reset_device };
    }

-- any two of their channels, where these are not one and the same
joined : (l : Spots) → is_at l.a.which l.a.channel l.b ≡ false → l.a.channel < 8 → l.b.channel < 8 → Joined l boards
joined l apart a b = record { apart = apart; there = there; rooms = λ s. rooms (spot_at s l).which }
  where
    there : (s : Side) → (spot_at s l).channel < 8
    there A = a
    there B = b

    rooms : (k : Which) → length (cabinet k boards).room ≡ 8
    rooms One = refl
    rooms Two = refl

-- == users 1 and 4 of board 1 ==

abbrev users : Spots
users = record { a = record { which = One; channel = 1 }; b = record { which = One; channel = 4 } }

-- 65 is 5 bits, no parity, one stop, one tick a bit; 5 is bits 0 and 2
abbrev five : Settings
five = record { mode1 = 65; mode2 = 0; command = 5 }

-- 9 selects user 1 of board 1, and 12 its user 4; user 2 gets a mode and a tick of its own meanwhile
abbrev set_up : List Step
set_up =
    On One Reset ∷ On One (Out 7 9) ∷ On One (Out 2 65) ∷ On One (Out 2 0) ∷ On One (Out 7 10) ∷ On One (Out 2 78) ∷ On One (Transmit 2) ∷ On One (Out 7 9) ∷ On One (Out 3 5)
    ∷ On One (Pins 1 0 0 0) ∷ On One (Pins 4 0 0 0) ∷ On One (Out 7 12) ∷ On One (Out 2 65) ∷ On One (Out 2 0) ∷ On One (Out 3 5) ∷ []

-- the ticks of user 2, in between the four calls
abbrev beside : Between
beside = record { first = record { which = One; call = Transmit 2 } ∷ []; second = record { which = One; call = Receive 2 1 } ∷ []; third = [] }

-- user 1 writes 21; masks and a status of the interrupts, a port that is not there, the other board while it is not selected, and its reset; user 4 reads
abbrev run : List Step
run =
    On One (Out 7 9) ∷ On One (Out 0 21) ∷ Tick nothing ∷ Tick beside ∷ On One (Out 4 255) ∷ On One (In 4) ∷ Tick nothing ∷ On Two (In 0) ∷ On One (In 6) ∷ Tick nothing
    ∷ On Two Reset ∷ Tick beside ∷ On One (Out 7 10) ∷ On One (Out 0 3) ∷ Tick nothing ∷ Tick nothing ∷ On One (In 5) ∷ On One (Out 7 12) ∷ On One (In 1) ∷ On One (In 0) ∷ []

-- what the calls answer
abbrev answered : Spots → Boards → List Step → List Said
answered l w [] = []
answered l w (Tick m ∷ xs) = answered l (moved l w (Tick m)) xs
answered l w (On k c ∷ xs) = said (cabinet k w).board (cabinet k w).room c ∷ answered l (moved l w (On k c)) xs

abbrev done : ℕ → Said
done v = record { refusal = 0; value = v }

abbrev refused : ℕ → Said
refused n = record { refusal = n; value = 0 }

-- 18 is users 1 and 4 ready to send, and 16 user 4 with a character; 199 is its status, and 21 the character
pub users_told : answered users (begun users boards set_up nothing) run
    ≡ done 0 ∷ done 0 ∷ done 0 ∷ done 18 ∷ refused 9 ∷ refused 8 ∷ done 0 ∷ done 0 ∷ done 0 ∷ done 16 ∷ done 0 ∷ done 199 ∷ done 21 ∷ []
unfolding part odd_ones parity_bit sample link-transmitting.transmit link-hearing.receive line-range.in_range sender_in_range receiver_in_range format_of status_byte peek in_range settled write_refusal read_register read write_register write pinned set_pins transmit_tick transmit receive_tick receive tick board_after room_after said
users_told = refl

-- == as demand 3 has it ==

-- to the two chips the set-up is document 01's, mixed in time
pub set_up_steps : steps_at users boards set_up
    ≡ bench.At A chip.Reset ∷ bench.At B chip.Reset ∷ bench.At A (chip.Write 2 65) ∷ bench.At A (chip.Write 2 0) ∷ bench.At A (chip.Write 3 5)
    ∷ bench.At A (chip.SetPins 0 0 0) ∷ bench.At B (chip.SetPins 0 0 0) ∷ bench.At B (chip.Write 2 65) ∷ bench.At B (chip.Write 2 0) ∷ bench.At B (chip.Write 3 5) ∷ []
unfolding part odd_ones parity_bit sample link-transmitting.transmit link-hearing.receive line-range.in_range sender_in_range receiver_in_range format_of status_byte peek in_range settled write_refusal read_register read write_register write pinned set_pins transmit_tick transmit receive_tick receive tick board_after room_after said
set_up_steps = refl

-- and the run a write, seven joined ticks and two reads
pub run_steps : steps_at users (begun users boards set_up nothing) run
    ≡ bench.At A (chip.Write 0 21) ∷ bench.Tick ∷ bench.Tick ∷ bench.Tick ∷ bench.Tick ∷ bench.Tick ∷ bench.Tick ∷ bench.Tick
    ∷ bench.At B (chip.Read 1) ∷ bench.At B (chip.Read 0) ∷ []
unfolding part odd_ones parity_bit sample link-transmitting.transmit link-hearing.receive line-range.in_range sender_in_range receiver_in_range format_of status_byte peek in_range settled write_refusal read_register read write_register write pinned set_pins transmit_tick transmit receive_tick receive tick board_after room_after said
run_steps = refl

five_proper : Proper five
five_proper = record { mode1 = refl; asynchronous = refl; command = refl; transmits = refl; receives = refl; no_break = refl; no_echo = refl; no_loopback = refl }

five_agrees : Agree five five
unfolding format_of
five_agrees = record { there = record { factor = refl; length = refl; parity = refl; kind = λ e. refl }; back = record { factor = refl; length = refl; parity = refl; kind = λ e. refl } }

-- what document 01's sequence leaves holds them; each of the set-ups here leaves the same at both
five_holds : Holds five (chip.after reset_device (sequence five))
unfolding part odd_ones parity_bit sample link-transmitting.transmit link-hearing.receive line-range.in_range sender_in_range receiver_in_range format_of status_byte peek in_range settled write_refusal read_register read write_register write pinned set_pins transmit_tick transmit receive_tick receive tick board_after room_after said
five_holds = record { mode1 = refl; mode2 = refl; command = refl; dsr = refl; dcd = refl; cts = refl }

from_reset : FromReset (steps_at users boards set_up)
unfolding part odd_ones parity_bit sample link-transmitting.transmit link-hearing.receive line-range.in_range sender_in_range receiver_in_range format_of status_byte peek in_range settled write_refusal read_register read write_register write pinned set_pins transmit_tick transmit receive_tick receive tick board_after room_after said
from_reset = record { calls = refl; a_reset = refl; b_reset = refl }

run_allowed : all_allowed five five (fresh users boards set_up nothing) (steps_at users (begun users boards set_up nothing) run) ≡ true
unfolding part odd_ones parity_bit sample link-transmitting.transmit link-hearing.receive line-range.in_range sender_in_range receiver_in_range format_of status_byte peek in_range settled write_refusal read_register read write_register write pinned set_pins transmit_tick transmit receive_tick receive tick board_after room_after said
run_allowed = refl

abbrev end : bench.Bench
end = bench.runs (fresh users boards set_up nothing) (steps_at users (begun users boards set_up nothing) run)

pub users_right : Right five five end
unfolding part odd_ones parity_bit sample link-transmitting.transmit link-hearing.receive line-range.in_range sender_in_range receiver_in_range format_of status_byte peek in_range settled write_refusal read_register read write_register write pinned set_pins transmit_tick transmit receive_tick receive tick board_after room_after said
users_right = channels_demand_3 users boards (joined users refl (omega arith) (omega arith)) set_up nothing refl run five five five_proper five_proper five_agrees from_reset five_holds five_holds run_allowed

-- it comes 1+D = 7 joined ticks after its write
pub users_there : end.there ≡ record { written = record { at = 0; value = 21 } ∷ []; came = record { at = 7; value = 21 } ∷ []; read = 21 ∷ [] }
unfolding part odd_ones parity_bit sample link-transmitting.transmit link-hearing.receive line-range.in_range sender_in_range receiver_in_range format_of status_byte peek in_range settled write_refusal read_register read write_register write pinned set_pins transmit_tick transmit receive_tick receive tick board_after room_after said
users_there = refl

-- a reset of the board, where it would come between, is not allowed
pub reset_stops : all_allowed five five (fresh users boards set_up nothing) (steps_at users (begun users boards set_up nothing) (On One Reset ∷ run)) ≡ false
unfolding part odd_ones parity_bit sample link-transmitting.transmit link-hearing.receive line-range.in_range sender_in_range receiver_in_range format_of status_byte peek in_range settled write_refusal read_register read write_register write pinned set_pins transmit_tick transmit receive_tick receive tick board_after room_after said
reset_stops = refl

-- == user 1 of board 1 and user 4 of board 2 ==

abbrev across : Spots
across = record { a = record { which = One; channel = 1 }; b = record { which = Two; channel = 4 } }

-- a select is written to both: 9 is user 1 of board 1, and 20 user 4 of board 2
abbrev select : ℕ → List Step → List Step
select v xs = On One (Out 7 v) ∷ On Two (Out 7 v) ∷ xs

-- and so is every write, which the board that is not selected refuses
abbrev port : ℕ → ℕ → List Step → List Step
port n v xs = On One (Out n v) ∷ On Two (Out n v) ∷ xs

abbrev across_up : List Step
across_up =
    On One Reset ∷ On Two Reset ∷ On One (Pins 1 0 0 0) ∷ On Two (Pins 4 0 0 0)
    ∷ select 9 (port 2 65 (port 2 0 (port 3 5 (select 20 (port 2 65 (port 2 0 (port 3 5 [])))))))

abbrev across_run : List Step
across_run =
    select 9 (port 0 21 (Tick nothing ∷ Tick nothing ∷ Tick nothing ∷ Tick beside ∷ Tick nothing ∷ Tick nothing ∷ Tick nothing ∷ select 20 (On One (In 0) ∷ On Two (In 0) ∷ [])))

pub across_told : answered across (begun across boards across_up nothing) across_run
    ≡ done 0 ∷ done 0 ∷ done 0 ∷ refused 9 ∷ done 0 ∷ done 0 ∷ refused 9 ∷ done 21 ∷ []
unfolding part odd_ones parity_bit sample link-transmitting.transmit link-hearing.receive line-range.in_range sender_in_range receiver_in_range format_of status_byte peek in_range settled write_refusal read_register read write_register write pinned set_pins transmit_tick transmit receive_tick receive tick board_after room_after said
across_told = refl

across_from_reset : FromReset (steps_at across boards across_up)
unfolding part odd_ones parity_bit sample link-transmitting.transmit link-hearing.receive line-range.in_range sender_in_range receiver_in_range format_of status_byte peek in_range settled write_refusal read_register read write_register write pinned set_pins transmit_tick transmit receive_tick receive tick board_after room_after said
across_from_reset = record { calls = refl; a_reset = refl; b_reset = refl }

across_allowed : all_allowed five five (fresh across boards across_up nothing) (steps_at across (begun across boards across_up nothing) across_run) ≡ true
unfolding part odd_ones parity_bit sample link-transmitting.transmit link-hearing.receive line-range.in_range sender_in_range receiver_in_range format_of status_byte peek in_range settled write_refusal read_register read write_register write pinned set_pins transmit_tick transmit receive_tick receive tick board_after room_after said
across_allowed = refl

pub across_right : Right five five (bench.runs (fresh across boards across_up nothing) (steps_at across (begun across boards across_up nothing) across_run))
unfolding part odd_ones parity_bit sample link-transmitting.transmit link-hearing.receive line-range.in_range sender_in_range receiver_in_range format_of status_byte peek in_range settled write_refusal read_register read write_register write pinned set_pins transmit_tick transmit receive_tick receive tick board_after room_after said
across_right = channels_demand_3 across boards (joined across refl (omega arith) (omega arith)) across_up nothing refl across_run five five five_proper five_proper five_agrees across_from_reset five_holds five_holds across_allowed
