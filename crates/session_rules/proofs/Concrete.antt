-- Sessions computed from the definitions: document 01's own, each refusal, and the edges of a line's shape.
-- Assumes nothing.
use Prim.Native.Nat.{ℕ, ◌≤◌}
use native.Mathlib.Omega.{arith}
use mathlib.Core.Path.{◌≡◌, refl}
use mathlib.Core.List.{List, [], ◌∷◌, ◌++◌}
use Rattle.line_rules.specs.Sending.{part, odd_ones, parity_bit}
use Rattle.line_rules.specs.Range as line-range
use Rattle.line_rules.specs.Receiving.{sample}
use Rattle.link_rules.specs.Transmitting as link-transmitting
use Rattle.link_rules.specs.Hearing as link-hearing
use Rattle.link_rules.specs.Within.{sender_in_range, receiver_in_range}
use Rattle.ins2651_rules.specs.Modes.{format_of}
use Rattle.ins2651_rules.specs.Status.{status_byte}
use Rattle.ins2651_rules.specs.Ranges.{in_range, settled}
use Rattle.ins2651_rules.specs.Refusals.{write_refusal}
use Rattle.ins2651_rules.specs.RegisterReads.{read_register, read}
use Rattle.ins2651_rules.specs.RegisterWrites.{write_register, write}
use Rattle.ins2651_rules.specs.Pinning.{pinned, set_pins}
use Rattle.ins2651_rules.specs.Stamps.{stamp}
use Rattle.ins2651_rules.specs.Ticks.{transmit_tick, transmit, receive_tick, receive}
use Rattle.ins2651_rules.specs.Runs as chip
use Rattle.joined_rules.specs.Joining.{tick}
use Rattle.delivery.specs.OneWay.{no_log}
use Rattle.delivery.specs.OneWay as one_way
use Rattle.delivery.specs.Promise.{Finished}
use Rattle.delivery.specs.Joined.{Side, A, B}
use Rattle.joined_rules.specs.Bench.{Step, Tick, At, way_from}
use Rattle.joined_rules.specs.Demand3.{settings_at, sends}
use Rattle.joined_rules.proofs.Concrete as bench
use Rattle.fields.specs.Parted.{field_of, fields_of}
use Rattle.fields.specs.Ascii.{bytes}
use Rattle.records.specs.Records.{two, three, four, five}
use Rattle.session_rules.specs.Calls.{obey, line_reply, said_text}
use Rattle.rows.specs.Text.{decimal, refusal_text, value_text, held_text, counts_text, row_text}
use Rattle.session_rules.specs.Whole.{lines_of, lines_taken, answer_text}
use Rattle.session_rules.specs.Delivered.{Parted, Meets, format_from, MeetsFrom, start, printed, Delivers}
use Rattle.session_rules.proofs.Delivered.{one_way_text_delivers, text_delivers}

-- document 01's session, and its whole output
abbrev input : List ℕ
input =
    bytes "W\tA\t2\t206\nW\tA\t2\t126\nW\tA\t3\t39\n"
    ++ bytes "W\tB\t2\t206\nW\tB\t2\t126\nW\tB\t3\t39\nP\tA\t0\t0\t0\nP\tB\t0\t0\t0\nL\t1\n"
    ++ bytes "W\tA\t0\t255\nL\t152\nR\tB\t1\nL\t1\nR\tB\t1\nR\tB\t0\nR\tB\t1\n"

pub worked : answer_text input ≡ bytes "R\tB\t1\t197\nR\tB\t1\t195\nR\tB\t0\t255\t154\nR\tB\t1\t193\nN\t16\t0\n"
unfolding answer_text lines_taken lines_of two three four five obey line_reply decimal refusal_text value_text held_text counts_text row_text said_text field_of fields_of part odd_ones parity_bit sample link-transmitting.transmit link-hearing.receive line-range.in_range sender_in_range receiver_in_range format_of status_byte in_range settled write_refusal read_register read write_register write pinned set_pins transmit_tick transmit receive_tick receive stamp tick
worked = refl

-- its lines set both units up, eight of them, tick once, and go on as demand 3 allows ..
abbrev setting_up : List Step
setting_up =
    At A (chip.Write 2 206) ∷ At A (chip.Write 2 126) ∷ At A (chip.Write 3 39) ∷ At B (chip.Write 2 206) ∷ At B (chip.Write 2 126) ∷ At B (chip.Write 3 39)
    ∷ At A (chip.SetPins 0 0 0) ∷ At B (chip.SetPins 0 0 0) ∷ []

pub worked_meets : Meets bench.worked bench.worked (lines_taken input)
unfolding answer_text lines_taken lines_of two three four five obey line_reply decimal refusal_text value_text held_text counts_text row_text said_text field_of fields_of part odd_ones parity_bit sample link-transmitting.transmit link-hearing.receive line-range.in_range sender_in_range receiver_in_range format_of status_byte in_range settled write_refusal read_register read write_register write pinned set_pins transmit_tick transmit receive_tick receive stamp tick
worked_meets =
    record {
      parted = record { set_up = setting_up; after = bench.session; steps = refl; quiet = record { calls = refl; a_quiet = refl; b_quiet = refl } };
      a_holds = record { mode1 = refl; mode2 = refl; command = refl; dsr = refl; dcd = refl; cts = refl };
      b_holds = record { mode1 = refl; mode2 = refl; command = refl; dsr = refl; dcd = refl; cts = refl };
      allowed = refl;
    }

-- .. so what it prints for the read of address 0 is what was written
pub worked_delivers : Delivers A (sends bench.worked) worked_meets.parted
worked_delivers = text_delivers bench.worked bench.worked bench.worked_proper bench.worked_proper bench.worked_agrees (lines_taken input) worked_meets A

pub worked_prints : printed A (lines_taken input) ≡ bytes "R\tB\t0\t255\t154\n" ∷ []
unfolding answer_text lines_taken lines_of two three four five obey line_reply decimal refusal_text value_text held_text counts_text row_text said_text field_of fields_of part odd_ones parity_bit sample link-transmitting.transmit link-hearing.receive line-range.in_range sender_in_range receiver_in_range format_of status_byte in_range settled write_refusal read_register read write_register write pinned set_pins transmit_tick transmit receive_tick receive stamp tick
worked_prints = refl

-- == another session, both ways at once ==

-- mixed in time, with a reset, a refused read, a line without shape and a command that is replaced; the first of three ticks ends the set-up; two
-- characters one way and one the other, whose second read finds nothing unread
abbrev pub mixed_input : List ℕ
mixed_input =
    bytes "Z\tA\nP\tB\t0\t0\t0\nW\tA\t2\t125\nW\tB\t3\t1\nR\tA\t9\nW\tA\t2\t0\nhello\nP\tA\t0\t0\t0\n"
    ++ bytes "W\tB\t2\t253\nW\tA\t3\t5\nW\tB\t2\t15\nW\tB\t3\t21\nR\tA\t0\nL\t3\n"
    ++ bytes "W\tA\t0\t193\nW\tB\t0\t90\nL\t1\nW\tA\t0\t194\nL\t11\nR\tB\t0\nR\tA\t0\nR\tA\t0\nL\t11\nR\tB\t0\n"

abbrev pub mixed_lines : List (List ℕ)
mixed_lines = lines_taken mixed_input

abbrev pub mixed_parted : Parted mixed_lines
unfolding answer_text lines_taken lines_of two three four five obey line_reply decimal refusal_text value_text held_text counts_text row_text said_text field_of fields_of part odd_ones parity_bit sample link-transmitting.transmit link-hearing.receive line-range.in_range sender_in_range receiver_in_range format_of status_byte in_range settled write_refusal read_register read write_register write pinned set_pins transmit_tick transmit receive_tick receive stamp tick
mixed_parted =
    record {
      set_up = At A chip.Reset ∷ At B (chip.SetPins 0 0 0) ∷ At A (chip.Write 2 125) ∷ At B (chip.Write 3 1) ∷ At A (chip.Read 9) ∷ At A (chip.Write 2 0)
          ∷ At A (chip.SetPins 0 0 0) ∷ At B (chip.Write 2 253) ∷ At A (chip.Write 3 5) ∷ At B (chip.Write 2 15) ∷ At B (chip.Write 3 21) ∷ At A (chip.Read 0) ∷ [];
      after = bench.after 2 (At A (chip.Write 0 193) ∷ At B (chip.Write 0 90) ∷ Tick ∷ At A (chip.Write 0 194)
          ∷ bench.after 11 (At B (chip.Read 0) ∷ At A (chip.Read 0) ∷ At A (chip.Read 0) ∷ bench.after 11 (At B (chip.Read 0) ∷ [])));
      steps = refl;
      quiet = record { calls = refl; a_quiet = refl; b_quiet = refl };
    }

twenty_four : 24 ≤ 25
twenty_four = omega arith

pub mixed_meets : Meets bench.one_stop bench.two_stops mixed_lines
unfolding answer_text lines_taken lines_of two three four five obey line_reply decimal refusal_text value_text held_text counts_text row_text said_text field_of fields_of part odd_ones parity_bit sample link-transmitting.transmit link-hearing.receive line-range.in_range sender_in_range receiver_in_range format_of status_byte in_range settled write_refusal read_register read write_register write pinned set_pins transmit_tick transmit receive_tick receive stamp tick
mixed_meets =
    record {
      parted = mixed_parted;
      a_holds = record { mode1 = refl; mode2 = refl; command = refl; dsr = refl; dcd = refl; cts = refl };
      b_holds = record { mode1 = refl; mode2 = refl; command = refl; dsr = refl; dcd = refl; cts = refl };
      allowed = refl;
    }

pub mixed_delivers : (s : Side) → Delivers s (sends (settings_at bench.one_stop bench.two_stops s)) mixed_meets.parted
mixed_delivers = text_delivers bench.one_stop bench.two_stops bench.one_stop_proper bench.two_stops_proper bench.stops_agree mixed_lines mixed_meets

-- L+D joined ticks pass behind the last write each way, and all is read: so all that was written is printed
pub mixed_finished : (s : Side) → Finished (way_from s) (sends (settings_at bench.one_stop bench.two_stops s)) (one_way.runs (way_from s) (no_log (start mixed_meets.parted)) mixed_meets.parted.after)
unfolding mixed_parted mixed_meets answer_text lines_taken lines_of two three four five obey line_reply decimal refusal_text value_text held_text counts_text row_text said_text field_of fields_of part odd_ones parity_bit sample link-transmitting.transmit link-hearing.receive line-range.in_range sender_in_range receiver_in_range format_of status_byte in_range settled write_refusal read_register read write_register write pinned set_pins transmit_tick transmit receive_tick receive stamp tick
mixed_finished A = record { passed = twenty_four; read = refl }
mixed_finished B = record { passed = twenty_four; read = refl }

pub mixed_answer : answer_text mixed_input
    ≡ bytes "E\t5\t1\nE\t7\t6\nR\tA\t0\t0\t0\nR\tB\t0\t193\t14\nR\tA\t0\t90\t14\nR\tA\t0\t90\t14\nR\tB\t0\t194\t25\nN\t24\t2\n"
unfolding answer_text lines_taken lines_of two three four five obey line_reply decimal refusal_text value_text held_text counts_text row_text said_text field_of fields_of part odd_ones parity_bit sample link-transmitting.transmit link-hearing.receive line-range.in_range sender_in_range receiver_in_range format_of status_byte in_range settled write_refusal read_register read write_register write pinned set_pins transmit_tick transmit receive_tick receive stamp tick
mixed_answer = refl

pub mixed_prints : (printed A mixed_lines ≡ bytes "R\tB\t0\t193\t14\n" ∷ bytes "R\tB\t0\t194\t25\n" ∷ []) × (printed B mixed_lines ≡ bytes "R\tA\t0\t90\t14\n" ∷ [])
unfolding answer_text lines_taken lines_of two three four five obey line_reply decimal refusal_text value_text held_text counts_text row_text said_text field_of fields_of part odd_ones parity_bit sample link-transmitting.transmit link-hearing.receive line-range.in_range sender_in_range receiver_in_range format_of status_byte in_range settled write_refusal read_register read write_register write pinned set_pins transmit_tick transmit receive_tick receive stamp tick
mixed_prints = (refl, refl)

-- == one way, whatever happens on the other ==

-- the same units; a's first character is not read in time, and its status then shows an overrun. b reads in time, and gets what was written
abbrev pub one_sided_input : List ℕ
one_sided_input =
    bytes "W\tA\t2\t125\nW\tA\t2\t0\nW\tA\t3\t5\nP\tA\t0\t0\t0\nW\tB\t2\t253\nW\tB\t2\t15\nW\tB\t3\t21\nP\tB\t0\t0\t0\nL\t1\n"
    ++ bytes "W\tA\t0\t193\nW\tB\t0\t90\nL\t1\nW\tB\t0\t91\nL\t20\nR\tB\t0\nL\t3\nR\tA\t1\nR\tA\t0\nW\tA\t0\t194\nL\t11\nR\tB\t0\n"

abbrev pub one_sided_lines : List (List ℕ)
one_sided_lines = lines_taken one_sided_input

pub one_sided_answer : answer_text one_sided_input
    ≡ bytes "R\tB\t0\t193\t12\nR\tA\t1\t215\nR\tA\t0\t91\t24\nR\tB\t0\t194\t36\nN\t21\t0\n"
unfolding answer_text lines_taken lines_of two three four five obey line_reply decimal refusal_text value_text held_text counts_text row_text said_text field_of fields_of part odd_ones parity_bit sample link-transmitting.transmit link-hearing.receive line-range.in_range sender_in_range receiver_in_range format_of status_byte in_range settled write_refusal read_register read write_register write pinned set_pins transmit_tick transmit receive_tick receive stamp tick
one_sided_answer = refl

pub one_sided_meets : MeetsFrom A one_sided_lines
unfolding answer_text lines_taken lines_of two three four five obey line_reply decimal refusal_text value_text held_text counts_text row_text said_text field_of fields_of part odd_ones parity_bit sample link-transmitting.transmit link-hearing.receive line-range.in_range sender_in_range receiver_in_range format_of status_byte in_range settled write_refusal read_register read write_register write pinned set_pins transmit_tick transmit receive_tick receive stamp tick
one_sided_meets =
    record {
      parted = record {
        set_up = At A (chip.Write 2 125) ∷ At A (chip.Write 2 0) ∷ At A (chip.Write 3 5) ∷ At A (chip.SetPins 0 0 0)
            ∷ At B (chip.Write 2 253) ∷ At B (chip.Write 2 15) ∷ At B (chip.Write 3 21) ∷ At B (chip.SetPins 0 0 0) ∷ [];
        after = At A (chip.Write 0 193) ∷ At B (chip.Write 0 90) ∷ Tick ∷ At B (chip.Write 0 91) ∷ bench.after 20 (At B (chip.Read 0)
            ∷ bench.after 3 (At A (chip.Read 1) ∷ At A (chip.Read 0) ∷ At A (chip.Write 0 194) ∷ bench.after 11 (At B (chip.Read 0) ∷ [])));
        steps = refl;
        quiet = record { calls = refl; a_quiet = refl; b_quiet = refl };
      };
      opened = record { from_normal = record { asynchronous = refl; operation = refl }; to_normal = record { asynchronous = refl; operation = refl }; starts = refl; no_break = refl; listens = refl; alike = (bench.stops_agree).there };
      allowed = refl;
    }

pub one_sided_delivers : Delivers A (format_from A one_sided_meets.parted) one_sided_meets.parted
one_sided_delivers = one_way_text_delivers A one_sided_lines one_sided_meets

pub one_sided_prints : printed A one_sided_lines ≡ bytes "R\tB\t0\t193\t12\n" ∷ bytes "R\tB\t0\t194\t36\n" ∷ []
unfolding answer_text lines_taken lines_of two three four five obey line_reply decimal refusal_text value_text held_text counts_text row_text said_text field_of fields_of part odd_ones parity_bit sample link-transmitting.transmit link-hearing.receive line-range.in_range sender_in_range receiver_in_range format_of status_byte in_range settled write_refusal read_register read write_register write pinned set_pins transmit_tick transmit receive_tick receive stamp tick
one_sided_prints = refl

-- == edges ==

-- an empty input gives N 0 0
pub empty : answer_text [] ≡ bytes "N\t0\t0\n"
unfolding answer_text lines_taken lines_of two three four five obey line_reply decimal refusal_text value_text held_text counts_text row_text said_text field_of fields_of
empty = refl

-- the device's own numbers in their order, then a value above 255; what was refused changed nothing
pub refusals : answer_text (bytes "R\tA\t4\nP\tB\t0\t2\t0\nW\tA\t2\t14\nW\tA\t2\t204\nW\tB\t3\t64\nW\tA\t256\t0\nW\tA\t3\t39\nR\tA\t3\n") ≡ bytes "E\t1\t1\nE\t2\t2\nE\t3\t3\nE\t4\t4\nE\t5\t5\nE\t6\t6\nR\tA\t3\t39\nN\t8\t6\n"
unfolding answer_text lines_taken lines_of two three four five obey line_reply decimal refusal_text value_text held_text counts_text row_text said_text field_of fields_of part odd_ones parity_bit sample link-transmitting.transmit link-hearing.receive line-range.in_range sender_in_range receiver_in_range format_of status_byte in_range settled write_refusal read_register read write_register write pinned set_pins transmit_tick transmit receive_tick receive stamp tick
refusals = refl

-- five digits and six, a lower case letter, a unit that is none, an empty line, a carriage return, a value above 255, a tab too many
abbrev mended : List ℕ
mended = bytes "R\tA\t00003\nR\tA\t000003\nr\tA\t3\nR\tC\t3\n\nR\tA\t3\r\nR\tA\t256\nR\tA\t3\t\n"

-- 64 bytes of no shape, 65 bytes, and a last line that lacks its newline
abbrev long : List ℕ
long =
    bytes "0000000000000000000000000000000000000000000000000000000000000000\n"
    ++ bytes "00000000000000000000000000000000000000000000000000000000000000000\n"
    ++ bytes "R\tB\t3"

pub shapes : answer_text (mended ++ long) ≡ bytes "R\tA\t3\t0\nE\t2\t6\nE\t3\t6\nE\t4\t6\nE\t5\t6\nE\t6\t6\nE\t7\t6\nE\t8\t6\nE\t9\t6\nE\t10\t7\nR\tB\t3\t0\nN\t11\t9\n"
unfolding answer_text lines_taken lines_of two three four five obey line_reply decimal refusal_text value_text held_text counts_text row_text said_text field_of fields_of part odd_ones parity_bit sample link-transmitting.transmit link-hearing.receive line-range.in_range sender_in_range receiver_in_range format_of status_byte in_range settled write_refusal read_register read write_register write pinned set_pins transmit_tick transmit receive_tick receive stamp tick
shapes = refl

-- a reset, of one unit alone; a count, a level and a value above their limits; the order of the three levels; no ticks at all
abbrev others : List ℕ
others =
    bytes "W\tA\t2\t77\nW\tB\t3\t1\nZ\tA\nR\tA\t2\nR\tB\t3\nL\t65536\nP\tA\t256\t0\t0\nW\tB\t0\t256\n"
    ++ bytes "P\tA\t1\t0\t0\nR\tA\t1\nP\tB\t0\t1\t0\nR\tB\t1\nL\t0\n"

pub limits : answer_text others ≡ bytes "R\tA\t2\t0\nR\tB\t3\t1\nE\t6\t6\nE\t7\t6\nE\t8\t6\nR\tA\t1\t68\nR\tB\t1\t133\nN\t13\t3\n"
unfolding answer_text lines_taken lines_of two three four five obey line_reply decimal refusal_text value_text held_text counts_text row_text said_text field_of fields_of part odd_ones parity_bit sample link-transmitting.transmit link-hearing.receive line-range.in_range sender_in_range receiver_in_range format_of status_byte in_range settled write_refusal read_register read write_register write pinned set_pins transmit_tick transmit receive_tick receive stamp tick
limits = refl
