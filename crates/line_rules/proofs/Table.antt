-- A rule of a table: one test computed over all of its entries gives the rule at each.
-- Assumes nothing.
use Prim.Native.Nat.{ℕ, zero, suc, ◌+◌, ◌<◌}
use native.Mathlib.Nat.{add-zero}
use native.Mathlib.Omega.{arith}
use mathlib.Core.Path.{◌≡◌, refl, ap, ◌∙◌}
use mathlib.Core.Bool.{Bool, true, false, ◌&&◌}
use mathlib.Core.List.{List, [], ◌∷◌}
use lib.ListN.{length, get_or}

-- the two halves of a test
pub both : (a b : Bool) → (a && b) ≡ true → (a ≡ true) × (b ≡ true)
both true b e = (refl, e)
both false b e = absurd (let z : ◌≡◌ {A = ℕ} 0 1 = cc in omega arith)

-- the test p at each entry and its place, counted from i
abbrev pub every : (ℕ → ℕ → Bool) → ℕ → List ℕ → Bool
every p i [] = true
every p i (x ∷ xs) = p i x && every p (suc i) xs

pub entry : (p : ℕ → ℕ → Bool) (xs : List ℕ) (i k : ℕ) → k < length xs → every p i xs ≡ true → p (i + k) (get_or xs k 0) ≡ true
entry p [] i k h e = absurd (omega arith)
entry p (x ∷ xs) i zero h e = rw add-zero (both (p i x) (every p (suc i) xs) e).0
entry p (x ∷ xs) i (suc k) h e =
    ap (λ (j : ℕ). p j (get_or xs k 0)) (let s : i + suc k ≡ suc i + k = omega arith in s)
    ∙ entry p xs (suc i) k (omega arith) (both (p i x) (every p (suc i) xs) e).1
