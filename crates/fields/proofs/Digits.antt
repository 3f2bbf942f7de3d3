-- Digits: one more behind a text, the first of them, and the bound of their value.
-- Assumes nothing.
use mathlib.Core.Path.{◌≡◌, refl, sym}
use mathlib.Core.List.{List, [], ◌∷◌, ◌++◌}
use mathlib.Core.Bool.{true, ◌&&◌, and-true, and_assoc, and-eq-true_iff}
use Prim.Native.Nat.{ℕ, suc, ◌+◌, ◌-◌, ◌*◌, ◌^◌, ◌≤◌, ◌<◌}
use native.Mathlib.Omega.{arith}
use native.Mathlib.Nat.{pow-suc, mul-le-mul_right}
use borrow.Author.Tests.{leb-true}
use lib.Dec.{leb}
use lib.ListN.{length}
use Rattle.fields.specs.Parted.{is_digit, are_digits, value_from}

pub digits_more : (l : List ℕ) (b : ℕ) → are_digits (l ++ b ∷ []) ≡ (are_digits l && is_digit b)
digits_more [] b = and-true (is_digit b)
digits_more (x ∷ xs) b = rw (digits_more xs b) (sym (and_assoc (is_digit x) (are_digits xs) (is_digit b)))

pub value_more : (l : List ℕ) (v b : ℕ) → value_from v (l ++ b ∷ []) ≡ value_from v l * 10 + (b - 48)
value_more [] v b = refl
value_more (x ∷ xs) v b = value_more xs (v * 10 + (x - 48)) b

pub digits_first : (b : ℕ) (bs : List ℕ) → are_digits (b ∷ bs) ≡ true → (48 ≤ b) × (b ≤ 57) × (are_digits bs ≡ true)
digits_first b bs e =
    let t = (and-eq-true_iff (is_digit b) (are_digits bs)).0 e in
    let u = (and-eq-true_iff (leb 48 b) (leb b 57)).0 t.0 in
    (omega (arith, leb-true), omega (arith, leb-true), t.1)

-- digits say less than their power of 10
pub value_below : (l : List ℕ) (v : ℕ) → are_digits l ≡ true → value_from v l < suc v * 10 ^ length l
value_below [] v e = omega arith
value_below (b ∷ bs) v e =
    let t = digits_first b bs e in
    let low : suc (v * 10 + (b - 48)) ≤ suc v * 10 = omega arith in
    rw pow-suc (omega (arith, value_below bs (v * 10 + (b - 48)) t.2, mul-le-mul_right (10 ^ length bs) low))
