-- The record of fields as they are held is the record of the line's fields.
-- Assumes nothing.
use mathlib.Core.Path.{◌≡◌, refl}
use mathlib.Core.List.{List, [], ◌∷◌, ◌++◌}
use Prim.Native.Nat.{min}
use native.Mathlib.Omega.{arith}
use borrow.Author.Tests.{lt-leb}
use lib.ListN.{length}
use Rattle.fields.specs.declared.Field.{Field}
use Rattle.fields.specs.Reading.{gathered, held_fields}
use Rattle.std.specs.Prelude.{None}
use Rattle.records.specs.Records.{record_of, held_record}

-- a sixth field is one too many, and so is every further
many : (a b d e f : Field) (gs hs : List Field) → held_record (gathered (a ∷ b ∷ d ∷ e ∷ f ∷ gs) hs) ≡ None
unfolding held_record
many a b d e f gs [] = rw (lt-leb (min (length (a ∷ b ∷ d ∷ e ∷ f ∷ gs)) 5) 4 (omega arith)) refl
many a b d e f gs (h ∷ []) = rw (lt-leb (min (length (a ∷ b ∷ d ∷ e ∷ f ∷ gs)) 5) 4 (omega arith)) refl
many a b d e f gs (h ∷ i ∷ hs) = many a b d e f (gs ++ h ∷ []) (i ∷ hs)

pub held_record_lem : (fs : List Field) → held_record (held_fields fs) ≡ record_of fs
unfolding held_record
held_record_lem [] = refl
held_record_lem (a ∷ []) = refl
held_record_lem (a ∷ b ∷ []) = refl
held_record_lem (a ∷ b ∷ d ∷ []) = refl
held_record_lem (a ∷ b ∷ d ∷ e ∷ []) = refl
held_record_lem (a ∷ b ∷ d ∷ e ∷ f ∷ []) = refl
held_record_lem (a ∷ b ∷ d ∷ e ∷ f ∷ g ∷ gs) = many a b d e f [] (g ∷ gs)
