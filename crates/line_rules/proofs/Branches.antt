-- The definitions by cases, as the code comes to them: it takes 1 from a number that is not 0.
-- Assumes nothing.
use Prim.Native.Nat.{ℕ, zero, suc, ◌+◌, ◌-◌}
use native.Mathlib.Numerals.{add-one}
use native.Mathlib.Omega.{arith}
use mathlib.Core.Path.{◌≡◌, refl}
use mathlib.Core.Bool.{Bool}
use Rattle.line_rules.specs.declared.Format.{Format}
use Rattle.line_rules.specs.declared.RxC.{RxC}
use Rattle.line_rules.specs.Sending.{part}
use Rattle.line_rules.specs.Receiving.{look_next, with_bit, parity_look, stop_look, look_at, under, quiet, assembling}

less_one : (m : ℕ) → suc m - 1 ≡ m
less_one m = omega arith

pub look_part : (f : Format) (m v w : ℕ) (x : Bool) (t : RxC) → (m ≡ 0 → ⊥)
    → look_at f m v w x t ≡ part f (m - 1) (look_next f (m + 1) (with_bit v (m - 1) x) w) (parity_look f (m + 1) v x) (stop_look v w x t)
look_part f zero v w x t h = absurd (h refl)
look_part f (suc m) v w x t h = rw (less_one m, add-one)

pub under_counts : (f : Format) (c m v w : ℕ) (x : Bool) (t : RxC) → (c ≡ 0 → ⊥) → under f c m v w x t ≡ quiet (assembling (c - 1) m v w)
under_counts f zero m v w x t h = absurd (h refl)
under_counts f (suc c) m v w x t h = rw (less_one c)
