-- Sessions with waits, request P12, computed from the definitions: a wait that brings a character, one whose limit is used up, one that finds a
-- character there, and those that are refused. Demand 3 reads on the session too.
-- Assumes nothing.
use Prim.Native.Nat.{ℕ}
use borrow.Author.Tests.{ltb-true, leb-true}
use mathlib.Core.Path.{◌≡◌, refl}
use mathlib.Core.List.{List, [], ◌∷◌, ◌++◌}
use Rattle.line_rules.specs.Sending.{part, odd_ones, parity_bit}
use Rattle.line_rules.specs.Range as line-range
use Rattle.line_rules.specs.Receiving.{sample}
use Rattle.link_rules.specs.Transmitting as link-transmitting
use Rattle.link_rules.specs.Hearing as link-hearing
use Rattle.link_rules.specs.Within.{sender_in_range, receiver_in_range}
use Rattle.ins2651_rules.specs.Modes.{format_of}
use Rattle.ins2651_rules.specs.Status.{status_byte}
use Rattle.ins2651_rules.specs.Ranges.{in_range, settled}
use Rattle.ins2651_rules.specs.Refusals.{write_refusal}
use Rattle.ins2651_rules.specs.RegisterReads.{read_register, read}
use Rattle.ins2651_rules.specs.RegisterWrites.{write_register, write}
use Rattle.ins2651_rules.specs.Pinning.{pinned, set_pins}
use Rattle.ins2651_rules.specs.Stamps.{stamp}
use Rattle.ins2651_rules.specs.Ticks.{transmit_tick, transmit, receive_tick, receive}
use Rattle.ins2651_rules.specs.Runs as chip
use Rattle.joined_rules.specs.Joining.{tick}
use Rattle.line_rules.specs.declared.Unit.TheVariants as unit
use Rattle.joined_rules.specs.Waiting.{wait}
use Rattle.delivery.specs.Promise.{Finished}
use Rattle.delivery.specs.Joined.{Side, A, B}
use Rattle.joined_rules.specs.Bench.{Step, At, just_reset, way_from}
use Rattle.joined_rules.specs.Demand3.{settings_at, sends}
use Rattle.joined_rules.proofs.Concrete as bench
use Rattle.fields.specs.Parted.{field_of, fields_of}
use Rattle.fields.specs.Ascii.{bytes}
use Rattle.records.specs.declared.Record.TheVariants.{Wait}
use Rattle.records.specs.Records.{two, three, four, five}
use Rattle.records.proofs.Parser.{print_printed}
use Rattle.session_rules.specs.Calls.{obey, line_reply, said_text}
use Rattle.rows.specs.Text.{decimal, refusal_text, value_text, held_text, wait_text, counts_text, row_text}
use Rattle.session_rules.specs.Whole.{lines_of, lines_taken, answer_text}
use Rattle.session_rules.specs.Steps.{pair_after}
use Rattle.session_rules.specs.Delivered.{Meets, end, Delivers, ShowsInTime}
use Rattle.session_rules.proofs.Delivered.{text_delivers}
use Rattle.session_rules.proofs.TextWaits.{text_waits}

-- eight lines that set both units up, and the one tick, which is a wait's
abbrev set_up_lines : List ℕ
set_up_lines = bytes "W\tA\t2\t125\nW\tA\t2\t0\nW\tA\t3\t5\nP\tA\t0\t0\t0\nW\tB\t2\t253\nW\tB\t2\t15\nW\tB\t3\t21\nP\tB\t0\t0\t0\nB\tA\t1\n"

abbrev setting_up : List Step
setting_up =
    At A (chip.Write 2 125) ∷ At A (chip.Write 2 0) ∷ At A (chip.Write 3 5) ∷ At A (chip.SetPins 0 0 0)
    ∷ At B (chip.Write 2 253) ∷ At B (chip.Write 2 15) ∷ At B (chip.Write 3 21) ∷ At B (chip.SetPins 0 0 0) ∷ []

-- the second character is not there after 10 ticks, and is after one more; then it is there already. 21 comes
-- after the shape, which five digits have and six do not. Nothing comes to the last wait
abbrev pub waited_input : List ℕ
waited_input =
    set_up_lines
    ++ bytes "W\tA\t0\t193\nB\tB\t12\nR\tB\t0\nW\tB\t0\t90\nB\tA\t10\nB\tA\t10\nB\tA\t10\nR\tA\t0\nB\tB\t65536\nB\tA\t100000\nB\tB\t11\n"

pub waited_answer : answer_text waited_input
    ≡ bytes "B\tA\t1\nB\tB\t11\nR\tB\t0\t193\t12\nB\tA\t10\nB\tA\t1\nB\tA\t0\nR\tA\t0\t90\t23\nE\t18\t21\nE\t19\t6\nB\tB\t11\nN\t20\t2\n"
unfolding answer_text lines_taken lines_of two three four five obey line_reply wait decimal refusal_text value_text held_text wait_text counts_text row_text said_text field_of fields_of part odd_ones parity_bit sample link-transmitting.transmit link-hearing.receive line-range.in_range sender_in_range receiver_in_range format_of status_byte in_range settled write_refusal read_register read write_register write pinned set_pins transmit_tick transmit receive_tick receive stamp tick
waited_answer = refl

-- its steps are those of the bench, the ticks that the waits spend among them, and as demand 3 allows
pub waited_meets : Meets bench.one_stop bench.two_stops (lines_taken waited_input)
unfolding answer_text lines_taken lines_of two three four five obey line_reply wait decimal refusal_text value_text held_text wait_text counts_text row_text said_text field_of fields_of part odd_ones parity_bit sample link-transmitting.transmit link-hearing.receive line-range.in_range sender_in_range receiver_in_range format_of status_byte in_range settled write_refusal read_register read write_register write pinned set_pins transmit_tick transmit receive_tick receive stamp tick
waited_meets =
    record {
      parted = record {
        set_up = setting_up;
        after = At A (chip.Write 0 193) ∷ bench.after 11 (At B (chip.Read 0) ∷ At B (chip.Write 0 90) ∷ bench.after 11 (At A (chip.Read 0) ∷ bench.after 11 []));
        steps = refl;
        quiet = record { calls = refl; a_quiet = refl; b_quiet = refl };
      };
      a_holds = record { mode1 = refl; mode2 = refl; command = refl; dsr = refl; dcd = refl; cts = refl };
      b_holds = record { mode1 = refl; mode2 = refl; command = refl; dsr = refl; dcd = refl; cts = refl };
      allowed = refl;
    }

-- .. so what it prints for the reads of address 0 is what was written ..
pub waited_delivers : (s : Side) → Delivers s (sends (settings_at bench.one_stop bench.two_stops s)) waited_meets.parted
waited_delivers = text_delivers bench.one_stop bench.two_stops bench.one_stop_proper bench.two_stops_proper bench.stops_agree (lines_taken waited_input) waited_meets

-- .. and all of it, as L+D joined ticks pass behind the last write each way
pub waited_finished : (s : Side) → Finished (way_from s) (sends (settings_at bench.one_stop bench.two_stops s)) (end s waited_meets.parted)
unfolding waited_meets answer_text lines_taken lines_of two three four five obey line_reply wait decimal refusal_text value_text held_text wait_text counts_text row_text said_text field_of fields_of part odd_ones parity_bit sample link-transmitting.transmit link-hearing.receive line-range.in_range sender_in_range receiver_in_range format_of status_byte in_range settled write_refusal read_register read write_register write pinned set_pins transmit_tick transmit receive_tick receive stamp tick
waited_finished A = record { passed = leb-true 21 33 refl; read = refl }
waited_finished B = record { passed = leb-true 33 33 refl; read = refl }

-- == with a character still to come ==

abbrev pub awaiting_lines : List (List ℕ)
awaiting_lines = lines_taken (set_up_lines ++ bytes "W\tA\t0\t193\n")

pub awaiting_meets : Meets bench.one_stop bench.two_stops awaiting_lines
unfolding answer_text lines_taken lines_of two three four five obey line_reply wait decimal refusal_text value_text held_text wait_text counts_text row_text said_text field_of fields_of part odd_ones parity_bit sample link-transmitting.transmit link-hearing.receive line-range.in_range sender_in_range receiver_in_range format_of status_byte in_range settled write_refusal read_register read write_register write pinned set_pins transmit_tick transmit receive_tick receive stamp tick
awaiting_meets =
    record {
      parted = record { set_up = setting_up; after = At A (chip.Write 0 193) ∷ []; steps = refl; quiet = record { calls = refl; a_quiet = refl; b_quiet = refl } };
      a_holds = record { mode1 = refl; mode2 = refl; command = refl; dsr = refl; dcd = refl; cts = refl };
      b_holds = record { mode1 = refl; mode2 = refl; command = refl; dsr = refl; dcd = refl; cts = refl };
      allowed = refl;
    }

-- L+D is 21
pub awaiting_stops :
    (n : ℕ)
    → ShowsInTime (sends bench.one_stop) unit.B (said_text n (line_reply (pair_after just_reset awaiting_lines) (bytes "B\tB\t21")).said) (line_reply (pair_after just_reset awaiting_lines) (bytes "B\tB\t21")).pair
unfolding awaiting_meets answer_text lines_taken lines_of two three four five obey line_reply wait decimal refusal_text value_text held_text wait_text counts_text row_text said_text field_of fields_of part odd_ones parity_bit sample link-transmitting.transmit link-hearing.receive line-range.in_range sender_in_range receiver_in_range format_of status_byte in_range settled write_refusal read_register read write_register write pinned set_pins transmit_tick transmit receive_tick receive stamp tick
awaiting_stops =
    text_waits bench.one_stop bench.two_stops bench.one_stop_proper bench.two_stops_proper bench.stops_agree unit.B awaiting_lines awaiting_meets (ltb-true 0 1 refl) 21 (bytes "B\tB\t21")
    (print_printed (Wait unit.B 21) refl) (leb-true 21 21 refl) (leb-true 21 65535 refl)
