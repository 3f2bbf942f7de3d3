-- What a record does to the two joined devices, and what is said of it: document 01, "The session text" and "Refusal numbers"; requests P4, a stamp,
-- and P12, a wait.
-- Assumes nothing.
use Rattle.std.specs.Prelude.{ℕ, cond, List, eqb, ltb, length, Option, None, Some, option_map, Result, Ok, Err}
use Rattle.fields.specs.Parted.{fields_of}
use Rattle.ins2651_rules.specs.declared.Device.{Device}
use Rattle.ins2651_rules.specs.Shape.{Outcome, Answer, reset_device}
use Rattle.ins2651_rules.specs.RegisterReads.{read}
use Rattle.ins2651_rules.specs.RegisterWrites.{write}
use Rattle.ins2651_rules.specs.Pinning.{set_pins}
use Rattle.ins2651_rules.specs.Stamps.{stamp}
use Rattle.joined_rules.specs.declared.Pair.{Pair}
use Rattle.line_rules.specs.declared.Unit.{Unit}
use Rattle.line_rules.specs.declared.Unit.TheVariants as unit
use Rattle.joined_rules.specs.Joining.{ticks}
use Rattle.joined_rules.specs.Waiting.{wait}
use Rattle.records.specs.declared.Record.{Record}
use Rattle.records.specs.declared.Record.TheVariants.{Write, Read, Pins, Reset, Ticks, Wait}
use Rattle.records.specs.Printed.{letter_of_unit}
use Rattle.records.specs.Records.{record_of}
use Rattle.rows.specs.declared.Row.{Row}
use Rattle.rows.specs.declared.Row.TheVariants as row
use Rattle.rows.specs.Text.{row_text}
use Rattle.session_rules.specs.declared.Shown.{Shown}
use Rattle.session_rules.specs.declared.Shown.TheVariants.{Value, Held, Waited}
use Rattle.session_rules.specs.declared.Refusal.{Refusal}
use Rattle.session_rules.specs.declared.Refusal.TheVariants.{Chip, Line, Shapeless, Overlong}
use Rattle.ins2651_rules.specs.Refusals as chip
use Rattle.ins2651_rules.specs.declared.Refusal as why
use Rattle.joined_rules.specs.declared.TooLong.{TooLong}
use Rattle.joined_rules.specs.Refused as pair

-- what is said of a line: what it shows where it is done, or why it is refused
abbrev pub Said : Type 0
Said = Result (Option Shown) Refusal

-- what a line does: the pair after it, and what is said
pub record Reply : Type 0 where
  pub pair : Pair
  pub said : Said

-- == one unit of the two ==

abbrev pub device_of : Pair → Unit → Device
device_of p unit.A = p.a
device_of p unit.B = p.b

abbrev pub put_back : Pair → Unit → Device → Pair
put_back p unit.A d = record { a = d; b = p.b }
put_back p unit.B d = record { a = p.a; b = d }

-- == replies ==

-- what is said of a call of the chip ..
abbrev pub by_chip : Result (Option Shown) why.Refusal → Said
by_chip (Ok s) = Ok s
by_chip (Err why) = Err (Chip why)

-- .. and of one of the pair
abbrev pub by_pair : Result (Option Shown) TooLong → Said
by_pair (Ok s) = Ok s
by_pair (Err why) = Err (Line why)

abbrev pub replied : Pair → Unit → Device → Said → Reply
replied p unit d s = record { pair = put_back p unit d; said = s }

-- a write or a pin call
abbrev pub answered : Pair → Unit → Outcome → Reply
answered p unit o = replied p unit o.device (by_chip (chip.told o.refusal None))

-- what a read shows where it is done: its value, and of address 0 the stamp of the held character too (request P4)
abbrev pub shown : Device → Unit → ℕ → Shown
shown d unit address = cond (eqb address 0) (Held unit (read d address).value (stamp d)) (Value unit address (read d address).value)

-- the same by what the read answers: it leaves the stamp (proofs/Lines.antt, `shown_by_lem`)
abbrev pub shown_by : Unit → ℕ → Answer → Shown
shown_by unit address a = cond (eqb address 0) (Held unit a.value a.device.receiver.stamp) (Value unit address a.value)

abbrev pub reading : Pair → Unit → ℕ → Reply
reading p unit address =
    replied p unit (read (device_of p unit) address).device (by_chip (chip.told (read (device_of p unit) address).refusal (Some (shown (device_of p unit) unit address))))

-- so many joined ticks; a line has 65535 at most, so that 16 is never said of it
abbrev pub ticking : Pair → ℕ → Reply
ticking p count = record { pair = ticks count p; said = Ok None }

-- joined ticks until a unit holds an unread character, or as many as the limit has; the count is said where it is done
abbrev pub waiting : Pair → Unit → ℕ → Reply
waiting p unit limit =
    record {
      pair = (wait p unit limit).pair;
      said = by_pair (pair.told (wait p unit limit).refusal (Some (Waited unit (wait p unit limit).count)));
    }

-- a line that is refused for itself leaves the pair alone
abbrev pub refused : Pair → Refusal → Reply
refused p why = record { pair = p; said = Err why }

unfoldable pub obey : Pair → Record → Reply
obey p (Write unit address v) = answered p unit (write (device_of p unit) address v)
obey p (Read unit address) = reading p unit address
obey p (Pins unit dsr dcd cts) = answered p unit (set_pins (device_of p unit) dsr dcd cts)
obey p (Reset unit) = replied p unit reset_device (Ok None)
obey p (Ticks count) = ticking p count
obey p (Wait unit limit) = waiting p unit limit

-- what the record of a line does, where the line has a known shape
abbrev pub obey_known : Pair → Option Record → Reply
obey_known p None = refused p Shapeless
obey_known p (Some r) = obey p r

-- a line: refused over 64 bytes, else for no shape, else by the call, else done
unfoldable pub line_reply : Pair → List ℕ → Reply
line_reply p line = cond (ltb 64 (length line)) (refused p Overlong) (obey_known p (record_of (fields_of line)))

-- document 01's number of a refusal ..
abbrev pub refusal_number : Refusal → ℕ
refusal_number (Chip why) = chip.number why
refusal_number (Line why) = pair.number why
refusal_number Shapeless = 6
refusal_number Overlong = 7

-- .. and of what is said: 0 is done
abbrev pub number : Said → ℕ
number (Ok s) = 0
number (Err why) = refusal_number why

-- the output's line for what is shown ..
abbrev pub row_shown : Shown → Row
row_shown (Value unit address v) = row.Value (letter_of_unit unit) address v
row_shown (Held unit v t) = row.Held (letter_of_unit unit) v t
row_shown (Waited unit count) = row.Waited (letter_of_unit unit) count

-- .. and for what is said, by the line's number: none where nothing is shown
abbrev pub row_of : ℕ → Said → Option Row
row_of line (Ok s) = option_map row_shown s
row_of line (Err why) = Some (row.Refusal line (refusal_number why))

unfoldable pub said_text : ℕ → Said → List ℕ
said_text line s = row_text (row_of line s)
