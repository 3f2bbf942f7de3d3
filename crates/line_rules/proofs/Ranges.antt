-- What the range of a format gives a proof.
-- Assumes nothing.
use Prim.Native.Nat.{ℕ, ◌*◌, ◌≤◌, ◌<◌}
use native.Mathlib.Omega.{arith}
use mathlib.Core.Logic.{◌⊎◌, inl, inr, ⊎_elim}
use mathlib.Core.Path.{◌≡◌, refl}
use mathlib.Core.Bool.{Bool, true, false, ◌&&◌, ◌||◌}
use lib.Dec.{leb, eqb}
use borrow.Author.Tests.{leb-true, eqb-true}
use Rattle.line_rules.specs.declared.Format.{Format}
use Rattle.line_rules.specs.Sending.{half}
use Rattle.line_rules.specs.Range.{is_factor, is_length, is_stop, in_range, Bounds}
use Rattle.line_rules.proofs.Table.{both}

one_of : (a b : Bool) → (a || b) ≡ true → (a ≡ true) ⊎ (b ≡ true)
one_of true b e = inl refl
one_of false b e = inr e

-- one of three numbers
one_of_three : (x a b c : ℕ) → (eqb x a || eqb x b || eqb x c) ≡ true → (x ≡ a) ⊎ ((x ≡ b) ⊎ (x ≡ c))
one_of_three x a b c e =
    ⊎_elim
    (λ h. ⊎_elim (λ l. inl (eqb-true x a l)) (λ l. inr (inl (eqb-true x b l))) (one_of (eqb x a) (eqb x b) h))
    (λ h. inr (inr (eqb-true x c h)))
    (one_of (eqb x a || eqb x b) (eqb x c) e)

factor_bounds : (x : ℕ) → is_factor x ≡ true → (0 < x) × (x ≤ 64)
factor_bounds x e =
    ⊎_elim (λ h. omega arith) (λ h. ⊎_elim (λ l. omega arith) (λ l. omega arith) h) (one_of_three x _ _ _ e)

between : (a b n : ℕ) → (leb a n && leb n b) ≡ true → (a ≤ n) × (n ≤ b)
between a b n e =
    let h = both (leb a n) (leb n b) e in
    (leb-true a n h.0, leb-true n b h.1)

length_bounds : (n : ℕ) → is_length n ≡ true → (5 ≤ n) × (n ≤ 8)
length_bounds n e = let h = between _ _ n e in omega arith

stop_bounds : (f : Format) → 0 < f.factor → is_stop f ≡ true → (half f < f.stop) × (f.stop ≤ 2 * f.factor)
stop_bounds f pos e =
    ⊎_elim (λ h. omega arith) (λ h. ⊎_elim (λ l. omega arith) (λ l. omega arith) h)
    (one_of_three f.stop _ _ _ e)

pub in_range_bounds : (f : Format) → in_range f ≡ true → Bounds f
unfolding in_range
in_range_bounds f e =
    let s = both _ (is_stop f) e in
    let v = both _ (leb f.even 1) s.0 in
    let p = both _ (leb f.parity 1) v.0 in
    let n = both (is_factor f.factor) (is_length f.length) p.0 in
    let l = length_bounds f.length n.1 in
    let F = factor_bounds f.factor n.0 in
    let S = stop_bounds f F.0 s.1 in
    record {
      ticks = F.0;
      few = F.1;
      long = l.0;
      short = l.1;
      parity = leb-true _ _ p.1;
      even = leb-true _ _ v.1;
      stops = S.0;
      ends = S.1;
    }
