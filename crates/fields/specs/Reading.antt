-- A line's fields byte by byte, as they are held.
-- Assumes nothing.
use Rattle.std.specs.Prelude.{ℕ, ◌+◌, ◌-◌, ◌*◌, min, cond, ◌&&◌, List, [], ◌∷◌, ◌++◌, eqb, ltb, length, take, set, replicate, Option, Some, None, option_and_then}
use Prim.Native.Char.{code}
use Rattle.fields.specs.declared.Field.{Field}
use Rattle.fields.specs.declared.Fields.{Fields}
use Rattle.fields.specs.Parted.{is_digit}

-- one more, up to most
abbrev pub counted : ℕ → ℕ → ℕ
counted n most = cond (ltb n most) (n + 1) most

-- == a field ==

abbrev pub blank : Field
blank = record { number = None; letter = None; size = 0 }

abbrev pub digit : ℕ → ℕ
digit b = b - code "0"

-- an empty field has no digit yet
abbrev pub so_far : Field → Option ℕ
so_far f = cond (eqb f.size 0) (Some 0) f.number

-- a tenth digit makes no number ..
abbrev pub one_longer : ℕ → ℕ → ℕ → Option ℕ
one_longer size b n = cond (ltb n 100000000 && is_digit b && ltb size 9) (Some (n * 10 + digit b)) None

-- .. and none is one behind what is no number
unfoldable pub longer : Field → ℕ → Option ℕ
longer f b = option_and_then (one_longer f.size b) (so_far f)

-- the byte b where it is the field's only one
abbrev pub only : Field → ℕ → Option ℕ
only f b = cond (eqb f.size 0) (Some b) None

-- a field with the byte b behind it
unfoldable pub extended : Field → ℕ → Field
extended f b = record { number = longer f b; letter = only f b; size = counted f.size 10 }

-- == the fields of a line ==

-- the last field apart from those before it
abbrev pub held : List Field → Field → Fields
held before l = record { count = min (length before) 5; before = take 4 (before ++ replicate 4 blank); last = l }

abbrev pub gathered : List Field → List Field → Fields
gathered before [] = held before blank
gathered before (p ∷ []) = held before p
gathered before (p ∷ q ∷ qs) = gathered (before ++ p ∷ []) (q ∷ qs)

-- how a line's fields are held
abbrev pub held_fields : List Field → Fields
held_fields fs = gathered [] fs

abbrev pub empty : Fields
empty = held [] blank

-- the last field put to its place among those before, where there is one
unfoldable pub placed : Fields → Fields
placed f = record { count = f.count; before = set f.before f.count f.last; last = f.last }

-- a tab ends the last field
unfoldable pub parted : Fields → Fields
parted f = record (placed f) { count = counted f.count 5; last = blank }

-- the line's next byte
unfoldable pub push : Fields → ℕ → Fields
push f b = cond (eqb b (code "\t")) (parted f) (record { count = f.count; before = f.before; last = extended f.last b })

-- a line, byte by byte
abbrev pub pushes : Fields → List ℕ → Fields
pushes f [] = f
pushes f (b ∷ bs) = pushes (push f b) bs
