-- The text of the output: document 01, "The session text", request P4's read of address 0 and request P12's wait.
-- Fields are parted by one tab, and numbers are decimal without leading zeros.
-- Assumes nothing.
use Rattle.std.specs.Prelude.{ℕ, zero, suc, ◌+◌, ◌/◌, ◌%◌, ◌≤◌, ◌≡◌, cond, List, [], ◌∷◌, ◌++◌, ltb, leb, length, take, drop, Option, Some, None}
use Prim.Native.Char.{code}
use Rattle.std.proofs.lemmas.List.Edits.{sets}
use Rattle.line_rules.specs.declared.RxC.{RxC}
use Rattle.rows.specs.declared.Row.{Row}
use Rattle.rows.specs.declared.Row.TheVariants.{Value, Held, Waited, Refusal, Counts}

-- == numbers ==

-- the last digit
abbrev pub glyph : ℕ → ℕ
glyph n = code "0" + n % 10

-- the last two, three and four
abbrev pub two : ℕ → List ℕ
two n = glyph (n / 10) ∷ glyph n ∷ []

abbrev pub three : ℕ → List ℕ
three n = glyph (n / 100) ∷ two n

abbrev pub four : ℕ → List ℕ
four n = two (n / 100) ++ two n

-- a number below 10 is its digit; any other is the text of its tenth, then its last digit. k more digits hold it
abbrev pub digits : ℕ → ℕ → List ℕ
digits zero n = glyph n ∷ []
digits (suc k) n = cond (ltb n 10) (glyph n ∷ []) (digits k (n / 10) ++ glyph n ∷ [])

-- ten digits hold every number of 32 bits
unfoldable pub decimal : ℕ → List ℕ
decimal n = digits 9 n

-- == lines ==

-- fields parted by one tab, and an end behind them
abbrev pub tabbed : List (List ℕ) → List ℕ → List ℕ
tabbed [] end = end
tabbed (f ∷ []) end = f ++ end
tabbed (f ∷ g ∷ gs) end = f ++ code "\t" ∷ tabbed (g ∷ gs) end

-- a line of the output
abbrev pub row : List (List ℕ) → List ℕ
row fields = tabbed fields (code "\n" ∷ [])

-- a field of one letter
abbrev pub letter : ℕ → List ℕ
letter b = b ∷ []

-- the numbers that end a line, each behind its tab
abbrev pub ended : List ℕ → List ℕ
ended [] = code "\n" ∷ []
ended (n ∷ ns) = code "\t" ∷ (decimal n ++ ended ns)

-- a line of what it begins with and of numbers
abbrev pub line : List ℕ → List ℕ → List ℕ
line head ns = head ++ ended ns

-- E, line number, refusal
unfoldable pub refusal_text : ℕ → ℕ → List ℕ
refusal_text line n = row (letter (code "E") ∷ decimal line ∷ decimal n ∷ [])

-- R, unit, address, value
unfoldable pub value_text : ℕ → ℕ → ℕ → List ℕ
value_text unit address v = row (letter (code "R") ∷ letter unit ∷ decimal address ∷ decimal v ∷ [])

-- R, unit, address 0, value, and the receive tally of its arrival: request P4
unfoldable pub held_text : ℕ → ℕ → RxC → List ℕ
held_text unit v t = row (letter (code "R") ∷ letter unit ∷ decimal 0 ∷ decimal v ∷ decimal t.0 ∷ [])

-- B, unit, count: request P12
unfoldable pub wait_text : ℕ → ℕ → List ℕ
wait_text unit count = row (letter (code "B") ∷ letter unit ∷ decimal count ∷ [])

-- N, lines taken, refusals
unfoldable pub counts_text : ℕ → ℕ → List ℕ
counts_text lines refusals = row (letter (code "N") ∷ decimal lines ∷ decimal refusals ∷ [])

-- document 01's letter and values for each case, and those of requests P4 and P12
unfoldable pub row_text : Option Row → List ℕ
row_text None = []
row_text (Some (Value unit address v)) = value_text unit address v
row_text (Some (Held unit v t)) = held_text unit v t
row_text (Some (Waited unit count)) = wait_text unit count
row_text (Some (Refusal line n)) = refusal_text line n
row_text (Some (Counts lines refusals)) = counts_text lines refusals

-- == text in a buffer ==

-- text was stored at the place at, and r is the place behind it
pub record Put (before : List ℕ) (at : ℕ) (text : List ℕ) (after : List ℕ) (r : ℕ) : Type 0 where
  pub stored : after ≡ sets before at text
  pub next : r ≡ at + length text

-- the first r bytes of the buffer are the text, and the others are as they were. The last two parts follow, and are what `&out[..r]` asks of a caller
pub record Spoke (before text after : List ℕ) (r : ℕ) : Type 0 where
  pub said : take r after ≡ text
  pub rest : drop r after ≡ drop r before
  pub within : r ≤ length after
  pub counts : r ≡ length (take r after)

-- a line that has no room is not written
abbrev pub where_room : List ℕ → ℕ → List ℕ → List ℕ
where_room out at text = cond (leb (at + 32) (length out)) text []
