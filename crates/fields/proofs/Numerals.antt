-- A number written with k digits reads as that number, and a field that is a number is so written.
-- Assumes nothing.
use mathlib.Core.Path.{◌≡◌, refl}
use mathlib.Core.List.{List, [], ◌∷◌, ◌++◌, append-nil}
use mathlib.Core.Bool.{true, ◌&&◌, and-eq-true_iff}
use Prim.Native.Nat.{ℕ, suc, zero, ◌+◌, ◌-◌, ◌*◌, ◌/◌, ◌%◌, ◌^◌, ◌<◌}
use native.Mathlib.Omega.{arith}
use native.Mathlib.Nat.{zero-add, add-zero}
use borrow.Author.Tests.{lt-ltb, le-leb, ltb-true}
use lib.Dec.{ltb}
use lib.ListN.{length, length-append}
use lib.Seq.{append_snoc}
use Rattle.std.specs.Prelude.{Some}
use Rattle.std.proofs.lemmas.Option.{cond_some}
use Rattle.fields.specs.Parted.{are_digits, value_from, number_of, numeral}
use Rattle.fields.proofs.Digits.{digits_more, digits_first, value_more, value_below}

pub length_numeral : (k n : ℕ) → length (numeral k n) ≡ k
length_numeral zero n = refl
length_numeral (suc k) n = rw (length-append, length_numeral k (n / 10)) (omega arith)

digits_numeral : (k n : ℕ) → are_digits (numeral k n) ≡ true
digits_numeral zero n = refl
digits_numeral (suc k) n = rw (digits_more, digits_numeral k (n / 10), le-leb 48 (48 + n % 10) (omega arith), le-leb (48 + n % 10) 57 (omega arith))

value_numeral : (k n : ℕ) → n < 10 ^ k → value_from 0 (numeral k n) ≡ n
value_numeral zero n h = omega arith
value_numeral (suc k) n h = rw (value_more, value_numeral k (n / 10) (omega arith)) (omega arith)

pub reads_numeral : (k n : ℕ) → 0 < k → k < 10 → n < 10 ^ k → number_of (numeral k n) ≡ Some n
reads_numeral k n some few within = rw (digits_numeral, length_numeral, lt-ltb 0 k, lt-ltb k 10, value_numeral k n)

-- digits behind a numeral
numeral_more : (l : List ℕ) (k v : ℕ) → are_digits l ≡ true → numeral k v ++ l ≡ numeral (k + length l) (value_from v l)
numeral_more [] k v e = rw (append-nil, add-zero)
numeral_more (b ∷ bs) k v e =
    let t = digits_first b bs e in
    let w : ℕ = v * 10 + (b - 48) in
    let front : w / 10 ≡ v = omega arith in
    let last : 48 + w % 10 ≡ b = omega arith in
    let size : k + suc (length bs) ≡ suc k + length bs = omega arith in
    rw size (rw (front, last, append_snoc) at (numeral_more bs (suc k) w t.2))

-- a field of 1 to 9 digits, that says n
pub record Numeral (l : List ℕ) (n : ℕ) : Type 0 where
  pub some : 0 < length l
  pub few : length l < 10
  pub within : n < 10 ^ length l
  pub text : l ≡ numeral (length l) n

pub number_is : (l : List ℕ) (n : ℕ) → number_of l ≡ Some n → Numeral l n
number_is l n h =
    let c = cond_some (are_digits l && ltb 0 (length l) && ltb (length l) 10) (value_from 0 l) n h in
    let t = (and-eq-true_iff (are_digits l && ltb 0 (length l)) (ltb (length l) 10)).0 c.0 in
    let u = (and-eq-true_iff (are_digits l) (ltb 0 (length l))).0 t.0 in
    record {
      some = ltb-true _ _ u.1;
      few = ltb-true _ _ t.1;
      within = omega (arith, value_below l 0 u.0, c.1);
      text = rw (← c.1) (rw zero-add at (numeral_more l 0 0 u.0));
    }
