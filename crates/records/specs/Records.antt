-- The records of a session: document 01, "The session text", and request P12's wait. A line's fields make a record or have no known shape.
-- Assumes nothing.
use Rattle.std.specs.Prelude.{ℕ, cond, ◌&&◌, List, [], ◌∷◌, ◌++◌, take, eqb, leb, Option, Some, None, option_and_then, option_map}
use Prim.Native.Char.{code}
use Rattle.line_rules.specs.declared.Unit.{Unit}
use Rattle.line_rules.specs.declared.Unit.TheVariants as unit
use Rattle.fields.specs.declared.Field.{Field}
use Rattle.fields.specs.declared.Fields.{Fields}
use Rattle.records.specs.declared.Record.{Record}
use Rattle.records.specs.declared.Record.TheVariants.{Write, Read, Pins, Reset, Ticks, Wait}

-- Unit is A or B
abbrev pub unit_named : ℕ → Option Unit
unit_named b = cond (eqb b (code "A")) (Some unit.A) (cond (eqb b (code "B")) (Some unit.B) None)

abbrev pub unit_of : Field → Option Unit
unit_of f = option_and_then unit_named f.letter

-- 1 to 5 digits, not above the limit
abbrev pub up_to : ℕ → Field → Option ℕ
up_to limit f = option_and_then (λ n. cond (leb f.size 5 && leb n limit) (Some n) None) f.number

-- a byte, a count, and a limit, which has any five digits (request P12)
abbrev pub byte_of : Field → Option ℕ
byte_of f = up_to 255 f

abbrev pub count_of : Field → Option ℕ
count_of f = up_to 65535 f

abbrev pub limit_of : Field → Option ℕ
limit_of f = up_to 99999 f

-- what a unit makes, and what a byte does
abbrev pub with_unit : Field → (Unit → Option Record) → Option Record
with_unit f r = option_and_then r (unit_of f)

abbrev pub with_byte : Field → (ℕ → Option Record) → Option Record
with_byte f r = option_and_then r (byte_of f)

-- Z unit; L count
unfoldable pub two : Field → Field → Option Record
two k u =
    option_and_then (λ kind. cond (eqb kind (code "Z")) (option_map Reset (unit_of u)) (cond (eqb kind (code "L")) (option_map Ticks (count_of u)) None))
    k.letter

-- R unit addr; B unit limit
unfoldable pub three : Field → Field → Field → Option Record
three k u n =
    option_and_then
    (λ kind.
    cond (eqb kind (code "R")) (with_unit u (λ unit. option_map (Read unit) (byte_of n)))
    (cond (eqb kind (code "B")) (with_unit u (λ unit. option_map (Wait unit) (limit_of n))) None))
    k.letter

-- W unit addr value
unfoldable pub four : Field → Field → Field → Field → Option Record
four k u a v =
    option_and_then
    (λ kind. cond (eqb kind (code "W")) (with_unit u (λ unit. with_byte a (λ address. option_map (Write unit address) (byte_of v)))) None)
    k.letter

-- P unit dsr dcd cts
unfoldable pub five : Field → Field → Field → Field → Field → Option Record
five k u dsr dcd cts =
    option_and_then
    (λ kind. cond (eqb kind (code "P")) (with_unit u (λ unit. with_byte dsr (λ s. with_byte dcd (λ d. option_map (Pins unit s d) (byte_of cts))))) None)
    k.letter

abbrev pub record_of : List Field → Option Record
record_of [] = None
record_of (k ∷ []) = None
record_of (k ∷ u ∷ []) = two k u
record_of (k ∷ u ∷ a ∷ []) = three k u a
record_of (k ∷ u ∷ a ∷ v ∷ []) = four k u a v
record_of (k ∷ u ∷ a ∷ b ∷ v ∷ []) = five k u a b v
record_of (k ∷ u ∷ a ∷ b ∷ v ∷ w ∷ ws) = None

-- the same of fields as they are held: more than five are none of these
unfoldable pub held_record : Fields → Option Record
held_record f = cond (leb f.count 4) (record_of (take f.count f.before ++ f.last ∷ [])) None
