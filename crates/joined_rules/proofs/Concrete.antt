-- Runs of real calls that meet demand 3's premises, computed: what it promises is not promised of nothing.
-- Assumes nothing.
use Prim.Native.Nat.{ℕ}
use mathlib.Core.Path.{◌≡◌, refl, sym}
use mathlib.Core.Bool.{true, false}
use mathlib.Core.List.{List, [], ◌∷◌, ◌++◌}
use lib.ListN.{replicate}
use Rattle.line_rules.specs.Sending.{part, odd_ones, parity_bit, frame_length}
use Rattle.line_rules.specs.Range as line-range
use Rattle.line_rules.specs.Receiving.{sample}
use Rattle.link_rules.specs.Transmitting as link-transmitting
use Rattle.link_rules.specs.Hearing as link-hearing
use Rattle.link_rules.specs.Within.{sender_in_range, receiver_in_range}
use Rattle.ins2651_rules.specs.Modes.{format_of}
use Rattle.ins2651_rules.specs.Status.{status_byte}
use Rattle.ins2651_rules.specs.Ranges.{in_range, settled}
use Rattle.ins2651_rules.specs.Refusals.{write_refusal}
use Rattle.ins2651_rules.specs.RegisterReads.{read_register, read}
use Rattle.ins2651_rules.specs.RegisterWrites.{write_register, write}
use Rattle.ins2651_rules.specs.Pinning.{pinned, set_pins}
use Rattle.ins2651_rules.specs.Stamps.{stamp}
use Rattle.ins2651_rules.specs.Ticks.{transmit_tick, transmit, receive_tick, receive}
use Rattle.ins2651_rules.specs.Runs.{Reset, Read, Write, SetPins, Transmit, Receive, Outputs, said}
use Rattle.ins2651_ends.specs.OnALine.{status_bit}
use Rattle.delivery.specs.OneWay.{no_log}
use Rattle.delivery.specs.OneWay as one_way
use Rattle.delivery.specs.Promise.{Promised}
use Rattle.delivery.specs.Joined.{A, B}
use Rattle.joined_rules.specs.declared.Pair.{Pair}
use Rattle.joined_rules.specs.Joining.{tick}
use Rattle.joined_rules.specs.Bench.{Step, Tick, At, all_moved, just_reset, way_from, Bench, step, runs}
use Rattle.joined_rules.specs.Demand3.{Settings, Proper, sends, Agree, FreshlySetUp, fresh, all_allowed, Right, Open}
use Rattle.joined_rules.proofs.Sequence.{sequences, sequence_sets_up}
use Rattle.joined_rules.proofs.Promised.{one_way_right, demand_3}

-- what the calls of a run answer: the bytes read
abbrev told : Bench → List Step → List ℕ
told w [] = []
told w (Tick ∷ ss) = told (step w Tick) ss
told w (At A c ∷ ss) = (said w.pair.a c).values ++ told (step w (At A c)) ss
told w (At B c ∷ ss) = (said w.pair.b c).values ++ told (step w (At B c)) ss

abbrev pub after : ℕ → List Step → List Step
after n ss = replicate n Tick ++ ss

-- by document 01's sequence
abbrev start : Settings → Settings → Bench
start a b = fresh just_reset (sequences a b)

-- == document 01's session ==

-- 206 is 8 bits, no parity, two stops; 126 makes both clocks internal; 39 is bits 0, 1, 2 and 5
abbrev pub worked : Settings
worked = record { mode1 = 206; mode2 = 126; command = 39 }

abbrev pub session : List Step
session = At A (Write 0 255) ∷ after 152 (At B (Read 1) ∷ Tick ∷ At B (Read 1) ∷ At B (Read 0) ∷ At B (Read 1) ∷ [])

pub worked_proper : Proper worked
worked_proper = record { mode1 = refl; asynchronous = refl; command = refl; transmits = refl; receives = refl; no_break = refl; no_echo = refl; no_loopback = refl }

pub worked_agrees : Agree worked worked
unfolding format_of
worked_agrees = record { there = record { factor = refl; length = refl; parity = refl; kind = λ e. refl }; back = record { factor = refl; length = refl; parity = refl; kind = λ e. refl } }

pub session_allowed : all_allowed worked worked (start worked worked) session ≡ true
unfolding part odd_ones parity_bit sample link-transmitting.transmit link-hearing.receive line-range.in_range sender_in_range receiver_in_range format_of status_byte in_range settled write_refusal read_register read write_register write pinned set_pins transmit_tick transmit receive_tick receive tick
session_allowed = refl

-- the character is not there after 152 ticks, and is there after 153
pub session_told : told (start worked worked) session ≡ 197 ∷ 195 ∷ 255 ∷ 193 ∷ []
unfolding part odd_ones parity_bit sample link-transmitting.transmit link-hearing.receive line-range.in_range sender_in_range receiver_in_range format_of status_byte in_range settled write_refusal read_register read write_register write pinned set_pins transmit_tick transmit receive_tick receive tick
session_told = refl

-- and its stamp is 154: the 153 ticks to it, and the set-up's
pub session_stamped : stamp (runs (start worked worked) session).pair.b ≡ record { 0 = 154 }
unfolding part odd_ones parity_bit sample link-transmitting.transmit link-hearing.receive line-range.in_range sender_in_range receiver_in_range format_of status_byte in_range settled write_refusal read_register read write_register write pinned set_pins transmit_tick transmit receive_tick receive tick stamp
session_stamped = refl

pub session_right : Right worked worked (runs (start worked worked) session)
session_right = demand_3 worked worked worked_proper worked_proper worked_agrees just_reset (sequences worked worked) (sequence_sets_up worked worked just_reset worked_proper worked_proper) session session_allowed

-- == another set-up ==

-- the sides mixed in time, pins before modes, reads and a SYN byte between, three refused calls, a first command that is replaced by a second,
-- from any two devices; a character written and a tick before the one side's reset, behind the other's
abbrev mixed : List Step
mixed =
    At B Reset ∷ At A (SetPins 1 0 1) ∷ At A (Write 0 7) ∷ At A Transmit ∷ At A Reset ∷ At A (SetPins 0 0 0) ∷ At B (Write 3 33) ∷ At A (Write 1 22) ∷ At B (Write 2 206)
    ∷ At A (Read 1) ∷ At A (Write 2 204) ∷ At A (Write 2 206) ∷ At B (Write 2 126) ∷ At B (SetPins 0 2 0) ∷ At A (Write 2 126)
    ∷ At B (SetPins 0 0 0) ∷ At A (Read 0) ∷ At A (Write 3 103) ∷ At B (Write 3 55) ∷ At A (Write 3 39) ∷ At B (Read 2) ∷ []

pub mixed_sets_up : (p : Pair) → FreshlySetUp worked (record { mode1 = 206; mode2 = 126; command = 55 }) p mixed
unfolding part odd_ones parity_bit sample link-transmitting.transmit link-hearing.receive line-range.in_range sender_in_range receiver_in_range format_of status_byte in_range settled write_refusal read_register read write_register write pinned set_pins transmit_tick transmit receive_tick receive tick
mixed_sets_up p =
    record {
      from_reset = record { calls = refl; a_reset = refl; b_reset = refl };
      a_holds = record { mode1 = refl; mode2 = refl; command = refl; dsr = refl; dcd = refl; cts = refl };
      b_holds = record { mode1 = refl; mode2 = refl; command = refl; dsr = refl; dcd = refl; cts = refl };
    }

-- == a sender kept full, with parity and unequal stops, and the other way in use as well ==

-- 125 is 8 bits, even parity, one stop, one tick a bit; 5 is bits 0 and 2
abbrev pub one_stop : Settings
one_stop = record { mode1 = 125; mode2 = 0; command = 5 }

-- 253 is the same with two stops; 15 is a rate; 21 is bits 0, 2 and 4
abbrev pub two_stops : Settings
two_stops = record { mode1 = 253; mode2 = 15; command = 21 }

-- a writes as soon as it may, at ticks 0, 1 and 12; each arrival at b is read as late as it may be, 10 ticks after it; b writes once
abbrev full_line : List Step
full_line =
    At A (Write 0 193) ∷ At B (Write 0 90) ∷ Tick ∷ At A (Write 0 194) ∷ after 11 (At A (Write 0 195)
    ∷ after 9 (At A (Read 0) ∷ At B (Read 0)
    ∷ after 11 (At B (Read 0)
    ∷ after 11 (At B (Read 0) ∷ []))))

pub one_stop_proper : Proper one_stop
one_stop_proper = record { mode1 = refl; asynchronous = refl; command = refl; transmits = refl; receives = refl; no_break = refl; no_echo = refl; no_loopback = refl }

pub two_stops_proper : Proper two_stops
two_stops_proper = record { mode1 = refl; asynchronous = refl; command = refl; transmits = refl; receives = refl; no_break = refl; no_echo = refl; no_loopback = refl }

pub stops_agree : Agree one_stop two_stops
unfolding format_of
stops_agree = record { there = record { factor = refl; length = refl; parity = refl; kind = λ e. refl }; back = record { factor = refl; length = refl; parity = refl; kind = λ e. refl } }

-- under internal clocks the factor bits may differ, and without parity its kind
pub mixed_agree : Agree (record { mode1 = 78; mode2 = 48; command = 5 }) (record { mode1 = 237; mode2 = 63; command = 39 })
unfolding format_of
mixed_agree = record { there = record { factor = refl; length = refl; parity = refl; kind = λ e. e }; back = record { factor = refl; length = refl; parity = refl; kind = λ e. sym e } }

pub full_line_allowed : all_allowed one_stop two_stops (start one_stop two_stops) full_line ≡ true
unfolding part odd_ones parity_bit sample link-transmitting.transmit link-hearing.receive line-range.in_range sender_in_range receiver_in_range format_of status_byte in_range settled write_refusal read_register read write_register write pinned set_pins transmit_tick transmit receive_tick receive tick
full_line_allowed = refl

-- the arrivals are L = 11 apart; the second and the third come at their bound, L+D = 21 ticks after their writes
pub full_line_there : (runs (start one_stop two_stops) full_line).there
    ≡ record {
      written = record { at = 12; value = 195 } ∷ record { at = 1; value = 194 } ∷ record { at = 0; value = 193 } ∷ [];
      came = record { at = 33; value = 195 } ∷ record { at = 22; value = 194 } ∷ record { at = 11; value = 193 } ∷ [];
      read = 195 ∷ 194 ∷ 193 ∷ [];
    }
unfolding part odd_ones parity_bit sample link-transmitting.transmit link-hearing.receive line-range.in_range sender_in_range receiver_in_range format_of status_byte in_range settled write_refusal read_register read write_register write pinned set_pins transmit_tick transmit receive_tick receive tick
full_line_there = refl

pub full_line_back : (runs (start one_stop two_stops) full_line).back.came ≡ record { at = 11; value = 90 } ∷ []
unfolding part odd_ones parity_bit sample link-transmitting.transmit link-hearing.receive line-range.in_range sender_in_range receiver_in_range format_of status_byte in_range settled write_refusal read_register read write_register write pinned set_pins transmit_tick transmit receive_tick receive tick
full_line_back = refl

pub full_line_right : Right one_stop two_stops (runs (start one_stop two_stops) full_line)
full_line_right = demand_3 one_stop two_stops one_stop_proper two_stops_proper stops_agree just_reset (sequences one_stop two_stops) (sequence_sets_up one_stop two_stops just_reset one_stop_proper two_stops_proper) full_line full_line_allowed

-- == what the premises are for ==

-- two characters and no read: as long as the first may still be read all is allowed, and at the next tick the second overruns it
abbrev unread_for : ℕ → List Step
unread_for n = At A (Write 0 193) ∷ Tick ∷ At A (Write 0 194) ∷ after n []

pub may_still_be_read : all_allowed one_stop two_stops (start one_stop two_stops) (unread_for 20) ≡ true
unfolding part odd_ones parity_bit sample link-transmitting.transmit link-hearing.receive line-range.in_range sender_in_range receiver_in_range format_of status_byte in_range settled write_refusal read_register read write_register write pinned set_pins transmit_tick transmit receive_tick receive tick
may_still_be_read = refl

pub late_read_overruns : status_bit 16 (runs (start one_stop two_stops) (unread_for 21)).pair.b ≡ true
unfolding part odd_ones parity_bit sample link-transmitting.transmit link-hearing.receive line-range.in_range sender_in_range receiver_in_range format_of status_byte in_range settled write_refusal read_register read write_register write pinned set_pins transmit_tick transmit receive_tick receive tick
late_read_overruns = refl

-- a write that was not asked for replaces the character that waits
pub unasked_write_loses : (runs (start one_stop two_stops) (At A (Write 0 193) ∷ At A (Write 0 194) ∷ after 40 [])).there.came ≡ record { at = 11; value = 194 } ∷ []
unfolding part odd_ones parity_bit sample link-transmitting.transmit link-hearing.receive line-range.in_range sender_in_range receiver_in_range format_of status_byte in_range settled write_refusal read_register read write_register write pinned set_pins transmit_tick transmit receive_tick receive tick
unasked_write_loses = refl

-- the second character waits until the first one's frame is over, at 11: bit 0 is 0 after 11 ticks, and 1 after 12
pub permission_told : told (start one_stop two_stops) (At A (Write 0 193) ∷ Tick ∷ At A (Write 0 194) ∷ after 10 (At A (Read 1) ∷ Tick ∷ At A (Read 1) ∷ [])) ≡ 196 ∷ 193 ∷ []
unfolding part odd_ones parity_bit sample link-transmitting.transmit link-hearing.receive line-range.in_range sender_in_range receiver_in_range format_of status_byte in_range settled write_refusal read_register read write_register write pinned set_pins transmit_tick transmit receive_tick receive tick
permission_told = refl

-- == one way, whatever happens on the other ==

-- b writes two characters that a never reads, a third, and a fourth unasked in its place; a's receive is turned off. On the way from a all is read in time
abbrev one_sided : List Step
one_sided =
    At A (Write 0 193) ∷ At B (Write 0 90) ∷ Tick ∷ At B (Write 0 91) ∷ At A (Write 0 194) ∷ after 20 (At B (Read 0)
    ∷ At B (Write 0 92) ∷ At B (Write 0 93) ∷ after 2 (At A (Read 1) ∷ At A (Write 3 1) ∷ after 9 (At B (Read 0) ∷ [])))

pub one_sided_is_not_both : all_allowed one_stop two_stops (start one_stop two_stops) one_sided ≡ false
unfolding part odd_ones parity_bit sample link-transmitting.transmit link-hearing.receive line-range.in_range sender_in_range receiver_in_range format_of status_byte in_range settled write_refusal read_register read write_register write pinned set_pins transmit_tick transmit receive_tick receive tick
one_sided_is_not_both = refl

pub one_sided_allowed : one_way.all_allowed (way_from A) (frame_length (sends one_stop)) (no_log (start one_stop two_stops).pair) one_sided ≡ true
unfolding part odd_ones parity_bit sample link-transmitting.transmit link-hearing.receive line-range.in_range sender_in_range receiver_in_range format_of status_byte in_range settled write_refusal read_register read write_register write pinned set_pins transmit_tick transmit receive_tick receive tick
one_sided_allowed = refl

-- a's status has overrun, bit 4; b gets its two characters
pub one_sided_told : told (start one_stop two_stops) one_sided ≡ 193 ∷ 215 ∷ 194 ∷ []
unfolding part odd_ones parity_bit sample link-transmitting.transmit link-hearing.receive line-range.in_range sender_in_range receiver_in_range format_of status_byte in_range settled write_refusal read_register read write_register write pinned set_pins transmit_tick transmit receive_tick receive tick
one_sided_told = refl

pub one_sided_there : (one_way.runs (way_from A) (no_log (start one_stop two_stops).pair) one_sided).log.read ≡ 194 ∷ 193 ∷ []
unfolding part odd_ones parity_bit sample link-transmitting.transmit link-hearing.receive line-range.in_range sender_in_range receiver_in_range format_of status_byte in_range settled write_refusal read_register read write_register write pinned set_pins transmit_tick transmit receive_tick receive tick
one_sided_there = refl

pub one_sided_right : Promised (way_from A) (sends one_stop) (one_way.runs (way_from A) (no_log (start one_stop two_stops).pair) one_sided)
unfolding part odd_ones parity_bit sample link-transmitting.transmit link-hearing.receive line-range.in_range sender_in_range receiver_in_range format_of status_byte in_range settled write_refusal read_register read write_register write pinned set_pins transmit_tick transmit receive_tick receive tick
one_sided_right =
    one_way_right A just_reset (sequences one_stop two_stops) (record { calls = refl; a_reset = refl; b_reset = refl })
    (record { from_normal = record { asynchronous = refl; operation = refl }; to_normal = record { asynchronous = refl; operation = refl }; starts = refl; no_break = refl; listens = refl; alike = stops_agree.there }) one_sided one_sided_allowed

-- == one way, with as little as it rests on ==

-- a's receive and b's transmit are off, and the pins that the way does not rest on are high
abbrev bare_set_up : List Step
bare_set_up =
    At A Reset ∷ At B Reset ∷ At A (SetPins 1 1 0) ∷ At B (SetPins 1 0 1) ∷ At A (Write 2 125) ∷ At A (Write 2 0) ∷ At B (Write 2 253) ∷ At B (Write 2 15)
    ∷ At A (Write 3 1) ∷ At B (Write 3 4) ∷ []

abbrev bare : Pair
bare = (tick (all_moved just_reset bare_set_up)).pair

-- ticks of a's receiver and b's sender by themselves, commands and pins at both, a look at the outputs, a SYN byte, and three refused calls
abbrev busy : List Step
busy =
    At A (Write 0 193) ∷ At A (Receive 0) ∷ At B Transmit ∷ Tick ∷ At A (Write 3 33) ∷ At B (Write 3 22) ∷ At A Outputs ∷ At B (SetPins 0 2 0)
    ∷ after 4 (At A (SetPins 0 1 0) ∷ At B (SetPins 0 0 1) ∷ At B (Write 3 64) ∷ At A (Read 9) ∷ At A (Write 1 22) ∷ At A (Write 0 194)
    ∷ after 6 (At B (Read 0) ∷ At A (Receive 0) ∷ At B Transmit ∷ after 11 (At B (Read 1) ∷ At B (Read 0) ∷ At B (Read 0) ∷ [])))

pub bare_open : Open A (all_moved just_reset bare_set_up)
unfolding part odd_ones parity_bit sample link-transmitting.transmit link-hearing.receive line-range.in_range sender_in_range receiver_in_range format_of status_byte in_range settled write_refusal read_register read write_register write pinned set_pins transmit_tick transmit receive_tick receive tick
bare_open = record { from_normal = record { asynchronous = refl; operation = refl }; to_normal = record { asynchronous = refl; operation = refl }; starts = refl; no_break = refl; listens = refl; alike = stops_agree.there }

pub busy_allowed : one_way.all_allowed (way_from A) (frame_length (sends one_stop)) (no_log bare) busy ≡ true
unfolding part odd_ones parity_bit sample link-transmitting.transmit link-hearing.receive line-range.in_range sender_in_range receiver_in_range format_of status_byte in_range settled write_refusal read_register read write_register write pinned set_pins transmit_tick transmit receive_tick receive tick
busy_allowed = refl

-- the second read of 194 finds nothing unread, and counts as none
pub busy_logged : (one_way.runs (way_from A) (no_log bare) busy).log
    ≡ record {
      written = record { at = 5; value = 194 } ∷ record { at = 0; value = 193 } ∷ [];
      came = record { at = 22; value = 194 } ∷ record { at = 11; value = 193 } ∷ [];
      read = 194 ∷ 193 ∷ [];
    }
unfolding part odd_ones parity_bit sample link-transmitting.transmit link-hearing.receive line-range.in_range sender_in_range receiver_in_range format_of status_byte in_range settled write_refusal read_register read write_register write pinned set_pins transmit_tick transmit receive_tick receive tick
busy_logged = refl

pub busy_right : Promised (way_from A) (sends one_stop) (one_way.runs (way_from A) (no_log bare) busy)
unfolding part odd_ones parity_bit sample link-transmitting.transmit link-hearing.receive line-range.in_range sender_in_range receiver_in_range format_of status_byte in_range settled write_refusal read_register read write_register write pinned set_pins transmit_tick transmit receive_tick receive tick
busy_right = one_way_right A just_reset bare_set_up (record { calls = refl; a_reset = refl; b_reset = refl }) bare_open busy busy_allowed
