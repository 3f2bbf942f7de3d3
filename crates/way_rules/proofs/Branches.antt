-- What the ways out of the code are by the definitions.
-- Assumes nothing.
use Prim.Native.Nat.{ℕ, suc, min, ◌+◌, ◌-◌, ◌≤◌, ◌<◌}
use native.Mathlib.Omega.{arith}
use mathlib.Core.Path.{◌≡◌, refl, ap, sym, subst, ◌∙◌}
use mathlib.Core.Bool.{Bool, true, false}
use lib.Dec.{ltb}
use borrow.Author.Tests.{lt-ltb, le-ltb, ltb-true, ltb-false}
use Rattle.way_rules.specs.Calm.{least}

-- == the lesser ==

pub least_first : (m n : ℕ) → m < n → least m n ≡ m
least_first m n h = rw (lt-ltb m n h)

pub least_second : (m n : ℕ) → n ≤ m → least m n ≡ n
least_second m n h = rw (le-ltb m n h)

-- as the library has it
pub least_min : (m n k : ℕ) → k ≡ min m n → k ≡ least m n
least_min m n k h = go (ltb m n) refl
  where
    go : (b : Bool) → ltb m n ≡ b → k ≡ least m n
    go true e = rw e (omega (arith, h, ltb-true m n e))
    go false e = rw e (omega (arith, h, ltb-false m n e))

-- it is at most either
pub record Least (m n k : ℕ) : Type 0 where
  pub first : k ≤ m
  pub second : k ≤ n

pub least_both : (m n : ℕ) → Least m n (least m n)
least_both m n = go (ltb m n) refl
  where
    go : (b : Bool) → ltb m n ≡ b → Least m n (least m n)
    go true e = rw e (record { first = omega arith; second = omega (arith, ltb-true m n e) })
    go false e = rw e (record { first = omega (arith, ltb-false m n e); second = omega arith })

pub least_is : (m n k : ℕ) → k ≡ least m n → Least m n k
least_is m n k e = subst (Least m n) (sym e) (least_both m n)

-- .. and at least what both are
pub least_above : (m n k : ℕ) → k ≤ m → k ≤ n → k ≤ least m n
least_above m n k h i = go (ltb m n) refl
  where
    go : (b : Bool) → ltb m n ≡ b → k ≤ least m n
    go true e = rw e h
    go false e = rw e i

-- .. and falls by one where neither falls by more
pub least_again : (m n j k : ℕ) → m ≤ suc j → n ≤ suc k → least m n ≤ suc (least j k)
least_again m n j k h i =
    let b = least_both m n in
    let l : least m n - 1 ≤ least j k = least_above j k (least m n - 1) (omega arith) (omega arith) in
    omega arith

pub least_none : (m n : ℕ) → m ≡ 0 → 0 ≡ least m n
least_none m n e = let q : 0 ≡ least m n = omega (arith, (least_both m n).first) in q
