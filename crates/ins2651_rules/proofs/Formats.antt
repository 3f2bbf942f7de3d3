-- Every value of the mode registers gives a format in range.
-- Assumes nothing.
use Prim.Native.Nat.{ℕ, ◌+◌, ◌*◌, ◌/◌, ◌%◌}
use native.Mathlib.Omega.{arith}
use mathlib.Core.Path.{◌≡◌, refl}
use mathlib.Core.Bool.{Bool, true}
use lib.Dec.{eqb}
use borrow.Author.Tests.{le-leb}
use Rattle.line_rules.specs.declared.Format.{Format}
use Rattle.line_rules.specs.Range.{is_factor, is_length, is_stop, in_range}
use Rattle.line_rules.proofs.Choice.{either, all}
use Rattle.ins2651_rules.specs.Modes.{stop_of, format_of}

-- 1, 1½ and 2 bits of F ticks
stop_in : (m F : ℕ) (f : ℕ → Format) → is_stop (f F) ≡ true → is_stop (f (3 * F / 2)) ≡ true → is_stop (f (2 * F)) ≡ true → is_stop (f (stop_of m F)) ≡ true
stop_in m F f one half two = either (λ (s : ℕ). is_stop (f s) ≡ true) (eqb (m / 64) 1) one (either (λ (s : ℕ). is_stop (f s) ≡ true) (eqb (m / 64) 2) half two)

module _ (m : ℕ) (internal : Bool) where
  abbrev of : ℕ → ℕ → Format
  of F s = record { factor = F; length = 5 + m / 4 % 4; parity = m / 16 % 2; even = m / 32 % 2; stop = s }

  -- the parts that a factor does not change
  lengths : is_length (5 + m / 4 % 4) ≡ true
  lengths = all (le-leb 5 (5 + m / 4 % 4) (omega arith)) (le-leb (5 + m / 4 % 4) 8 (omega arith))

  in_with : (F : ℕ) → is_factor F ≡ true → is_stop (of F (stop_of m F)) ≡ true → in_range (of F (stop_of m F)) ≡ true
  unfolding in_range
  in_with F a b = all (all (all (all a lengths) (le-leb (m / 16 % 2) 1 (omega arith))) (le-leb (m / 32 % 2) 1 (omega arith))) b

  pub format_in : in_range (format_of m internal) ≡ true
  unfolding format_of
  format_in =
      either (λ (F : ℕ). in_range (of F (stop_of m F)) ≡ true) internal sixteen
      (either (λ (F : ℕ). in_range (of F (stop_of m F)) ≡ true) (eqb (m % 4) 1) (in_with 1 refl (stop_in m 1 (of 1) refl refl refl))
      (either (λ (F : ℕ). in_range (of F (stop_of m F)) ≡ true) (eqb (m % 4) 2) sixteen (in_with 64 refl (stop_in m 64 (of 64) refl refl refl))))
    where
      sixteen : in_range (of 16 (stop_of m 16)) ≡ true
      sixteen = in_with 16 refl (stop_in m 16 (of 16) refl refl refl)
