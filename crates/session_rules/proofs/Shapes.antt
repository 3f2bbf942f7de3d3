-- Which lines are refused for themselves: exactly those that no record's printer writes.
-- Assumes nothing.
use mathlib.Core.Path.{◌≡◌, refl}
use mathlib.Core.List.{List}
use mathlib.Core.Bool.{cond}
use Prim.Native.Nat.{ℕ}
use native.Mathlib.Omega.{arith}
use borrow.Author.Tests.{le-ltb}
use lib.ListN.{length}
use Rattle.std.specs.Prelude.{Option, Some, None}
use Rattle.fields.specs.Parted.{fields_of}
use Rattle.joined_rules.specs.declared.Pair.{Pair}
use Rattle.records.specs.declared.Record.{Record}
use Rattle.records.specs.Records.{record_of}
use Rattle.records.specs.Printed.{Printed}
use Rattle.records.proofs.Parser.{Known, reads_printed, printed_reads, printed_short}
use Rattle.session_rules.specs.Calls.{obey, line_reply}
use Rattle.session_rules.specs.Rows.{shapeless, own_refusal, overlong, line_refusal}

-- every other line is refused for itself: 7 over 64 bytes, else 6
pub unprinted_refused : (p : Pair) (line : List ℕ) → ((r : Record) → Printed r line → ⊥) → line_refusal p line ≡ cond (overlong line) 7 6
unprinted_refused p line h = go (record_of (fields_of line)) (reads_printed line)
  where
    go : (r : Option Record) → Known line r → cond (overlong line) 7 (cond (shapeless r) 6 (own_refusal p r)) ≡ cond (overlong line) 7 6
    go (Some r) k = absurd (h r (k r refl))
    go None k = refl

-- a record, printed, does what it says ..
pub printed_obeyed : (p : Pair) {r : Record} {line : List ℕ} → Printed r line → line_reply p line ≡ obey p r
unfolding line_reply
printed_obeyed p {r} {line} q = rw (le-ltb 64 (length line) (omega (arith, printed_short q)), printed_reads q)

-- .. and is refused for itself never: it is given the call's own number
pub printed_taken : (p : Pair) {r : Record} {line : List ℕ} → Printed r line → line_refusal p line ≡ own_refusal p (Some r)
printed_taken p {r} {line} q = rw (le-ltb 64 (length line) (omega (arith, printed_short q)), printed_reads q)
