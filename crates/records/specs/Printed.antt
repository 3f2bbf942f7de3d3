-- A record as a line: what a line of a known shape is (proofs/Parser.antt). Document 01, "The session text".
-- Assumes nothing.
use Rattle.std.specs.Prelude.{ℕ, ◌^◌, ◌≤◌, ◌<◌, ◌≡◌, Bool, true, ◌&&◌, List, [], ◌∷◌, map, leb}
use Prim.Native.Char.{code}
use Rattle.fields.specs.Parted.{numeral}
use Rattle.line_rules.specs.declared.Unit.{Unit}
use Rattle.line_rules.specs.declared.Unit.TheVariants.{A, B}
use Rattle.records.specs.declared.Record.{Record}
use Rattle.records.specs.declared.Record.TheVariants.{Write, Read, Pins, Reset, Ticks, Wait}
use Rattle.rows.specs.Text.{decimal, letter, tabbed}

-- a field of a record: one letter, or a number
pub data Column : Type 0 where
  Letter : ℕ → Column
  Number : ℕ → Column

-- a unit by its letter
abbrev pub letter_of_unit : Unit → ℕ
letter_of_unit A = code "A"
letter_of_unit B = code "B"

abbrev pub Named : Unit → Column
Named unit = Letter (letter_of_unit unit)

-- document 01's letter, unit and values for each case, and request P12's
abbrev pub columns : Record → List Column
columns (Write unit address v) = Letter (code "W") ∷ Named unit ∷ Number address ∷ Number v ∷ []
columns (Read unit address) = Letter (code "R") ∷ Named unit ∷ Number address ∷ []
columns (Pins unit dsr dcd cts) = Letter (code "P") ∷ Named unit ∷ Number dsr ∷ Number dcd ∷ Number cts ∷ []
columns (Reset unit) = Letter (code "Z") ∷ Named unit ∷ []
columns (Ticks count) = Letter (code "L") ∷ Number count ∷ []
columns (Wait unit limit) = Letter (code "B") ∷ Named unit ∷ Number limit ∷ []

-- a count is up to 65535, a limit up to 99999, all else up to 255
abbrev pub proper : Record → Bool
proper (Write unit address v) = leb address 255 && leb v 255
proper (Read unit address) = leb address 255
proper (Pins unit dsr dcd cts) = leb dsr 255 && leb dcd 255 && leb cts 255
proper (Reset unit) = true
proper (Ticks count) = leb count 65535
proper (Wait unit limit) = leb limit 99999

-- these fields are those columns: a number has 1 to 5 digits, leading zeros among them
pub data Prints : List Column → List (List ℕ) → Type 0 where
  nothing : Prints [] []
  a_letter : {b : ℕ} {cs : List Column} {fs : List (List ℕ)} → Prints cs fs → Prints (Letter b ∷ cs) ((b ∷ []) ∷ fs)
  a_number :
      {n : ℕ} {cs : List Column} {fs : List (List ℕ)} (k : ℕ) → 0 < k → k ≤ 5 → n < 10 ^ k → Prints cs fs
      → Prints (Number n ∷ cs) (numeral k n ∷ fs)

-- the line is the record, printed with some leading zeros
pub record Printed (r : Record) (line : List ℕ) : Type 0 where
  pub within : proper r ≡ true
  pub fields : List (List ℕ)
  pub prints : Prints (columns r) fields
  pub text : line ≡ tabbed fields []

-- the printer, with no leading zeros
abbrev pub field : Column → List ℕ
field (Letter b) = letter b
field (Number n) = decimal n

abbrev pub print : Record → List ℕ
print r = tabbed (map field (columns r)) []
