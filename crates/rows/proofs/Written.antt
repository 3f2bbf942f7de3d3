-- A line of each kind, computed: its letter, its fields in their order, each number at its limit. Request P4's line is among them, R B 0 255 154.
-- Assumes nothing.
use Prim.Native.Char.{code}
use Rattle.std.specs.Prelude.{Some, None}
use mathlib.Core.Path.{◌≡◌, refl}
use mathlib.Core.List.{[], ◌∷◌, map}
use Rattle.fields.specs.Ascii.{bytes}
use Rattle.rows.specs.declared.Row.TheVariants.{Value, Held, Waited, Refusal, Counts}
use Rattle.rows.specs.Text.{decimal, value_text, held_text, wait_text, refusal_text, counts_text, row_text}

pub rows_written :
    map row_text
    (None ∷ Some (Value (code "A") 3 255) ∷ Some (Held (code "B") 255 (record { 0 = 154 })) ∷ Some (Held (code "A") 0 (record { 0 = 4294967295 }))
    ∷ Some (Waited (code "B") 65535) ∷ Some (Waited (code "A") 0) ∷ Some (Refusal 65535 21) ∷ Some (Counts 65535 0) ∷ [])
    ≡ [] ∷ bytes "R\tA\t3\t255\n" ∷ bytes "R\tB\t0\t255\t154\n" ∷ bytes "R\tA\t0\t0\t4294967295\n" ∷ bytes "B\tB\t65535\n"
    ∷ bytes "B\tA\t0\n" ∷ bytes "E\t65535\t21\n" ∷ bytes "N\t65535\t0\n" ∷ []
unfolding decimal value_text held_text wait_text refusal_text counts_text row_text
rows_written = refl
