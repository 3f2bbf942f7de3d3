-- Lines and the records that they are, computed: each letter of document 01, "The session text", and request P12's, each field at its limit and above it.
-- Assumes nothing.
use Prim.Native.Nat.{ℕ}
use mathlib.Core.Path.{◌≡◌, refl}
use mathlib.Core.List.{List, [], ◌∷◌, map}
use Rattle.std.specs.Prelude.{Option, Some, None}
use Rattle.line_rules.specs.declared.Unit.TheVariants as unit
use Rattle.fields.specs.Ascii.{bytes}
use Rattle.fields.specs.Parted.{field_of, fields_of}
use Rattle.records.specs.declared.Record.{Record}
use Rattle.records.specs.declared.Record.TheVariants.{Write, Read, Pins, Reset, Ticks, Wait}
use Rattle.records.specs.Records.{two, three, four, five, record_of}

pub record Row : Type 0 where
  pub line : List ℕ
  pub says : Option Record

abbrev row : List ℕ → Option Record → Row
row l r = record { line = l; says = r }

abbrev pub table : List Row
table =
    row (bytes "W\tA\t255\t255") (Some (Write unit.A 255 255))
    ∷ row (bytes "W\tB\t0\t7") (Some (Write unit.B 0 7))
    ∷ row (bytes "W\tA\t256\t0") None
    ∷ row (bytes "W\tA\t0\t256") None
    ∷ row (bytes "R\tB\t255") (Some (Read unit.B 255))
    ∷ row (bytes "R\tB\t256") None
    ∷ row (bytes "P\tA\t255\t254\t253") (Some (Pins unit.A 255 254 253))
    ∷ row (bytes "P\tA\t256\t0\t0") None
    ∷ row (bytes "P\tA\t0\t256\t0") None
    ∷ row (bytes "P\tA\t0\t0\t256") None
    ∷ row (bytes "Z\tA") (Some (Reset unit.A))
    ∷ row (bytes "Z\tC") None
    ∷ row (bytes "Z\ta") None
    ∷ row (bytes "Z\tb") None
    ∷ row (bytes "L\t65535") (Some (Ticks 65535))
    ∷ row (bytes "L\t65536") None
    ∷ row (bytes "L\t00007") (Some (Ticks 7))
    ∷ row (bytes "L\t000007") None
    ∷ row (bytes "L\t") None
    ∷ row (bytes "B\tA\t99999") (Some (Wait unit.A 99999))
    ∷ row (bytes "B\tA\t100000") None
    ∷ row (bytes "B\tA\t65535") (Some (Wait unit.A 65535))
    ∷ row (bytes "B\tA\t65536") (Some (Wait unit.A 65536))
    ∷ row (bytes "B\tB\t00007") (Some (Wait unit.B 7))
    ∷ row (bytes "B\tC\t5") None
    ∷ row (bytes "B\ta\t5") None
    ∷ row (bytes "B\tA\t") None
    ∷ row (bytes "B\tA") None
    ∷ row (bytes "Z A") None
    ∷ []

pub lines_read : map (λ (r : Row). record_of (fields_of r.line)) table ≡ map (λ (r : Row). r.says) table
unfolding field_of fields_of two three four five
lines_read = refl
