-- A line's fields: document 01, "The session text". They are parted by one tab; a number is decimal.
-- Assumes nothing.
use Rattle.std.specs.Prelude.{ℕ, zero, suc, ◌+◌, ◌-◌, ◌*◌, ◌/◌, ◌%◌, min, Bool, true, cond, ◌&&◌, List, [], ◌∷◌, ◌++◌, map, eqb, ltb, leb, length, Option, Some, None}
use Prim.Native.Char.{code}
use Rattle.fields.specs.declared.Field.{Field}

-- == parts ==

-- x put before the first part
abbrev pub on_first : ℕ → List (List ℕ) → List (List ℕ)
on_first x [] = (x ∷ []) ∷ []
on_first x (p ∷ ps) = (x ∷ p) ∷ ps

-- the parts of a text between the bytes sep: one more than it has of them
abbrev pub parts : ℕ → List ℕ → List (List ℕ)
parts sep [] = [] ∷ []
parts sep (x ∷ xs) = cond (eqb x sep) ([] ∷ parts sep xs) (on_first x (parts sep xs))

-- == a field, read both ways ==

abbrev pub is_digit : ℕ → Bool
is_digit b = leb (code "0") b && leb b (code "9")

abbrev pub are_digits : List ℕ → Bool
are_digits [] = true
are_digits (b ∷ bs) = is_digit b && are_digits bs

-- the value of digits behind a number v
abbrev pub value_from : ℕ → List ℕ → ℕ
value_from v [] = v
value_from v (b ∷ bs) = value_from (v * 10 + (b - code "0")) bs

-- 1 to 9 digits
abbrev pub number_of : List ℕ → Option ℕ
number_of l = cond (are_digits l && ltb 0 (length l) && ltb (length l) 10) (Some (value_from 0 l)) None

-- n written with k digits, leading zeros among them: what a field of k digits is (proofs/Numerals.antt)
abbrev pub numeral : ℕ → ℕ → List ℕ
numeral zero n = []
numeral (suc k) n = numeral k (n / 10) ++ (code "0" + n % 10) ∷ []

-- the byte of a field of one byte
abbrev pub letter_of : List ℕ → Option ℕ
letter_of [] = None
letter_of (b ∷ []) = Some b
letter_of (b ∷ d ∷ ds) = None

unfoldable pub field_of : List ℕ → Field
field_of l = record { number = number_of l; letter = letter_of l; size = min (length l) 10 }

-- a line's fields
unfoldable pub fields_of : List ℕ → List Field
fields_of line = map field_of (parts (code "\t") line)
