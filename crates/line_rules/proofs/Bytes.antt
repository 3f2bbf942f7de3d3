-- Powers of two and bytes, as the code has them.
-- Assumes nothing.
use Prim.Native.Nat.{ℕ, ◌+◌, ◌*◌, ◌-◌, ◌^◌, ◌/◌, ◌%◌, ◌≤◌, ◌<◌}
use native.Mathlib.Nat.{pow-le-pow_right, mod-eq_of_lt, div-eq_of_lt, mul-mod_right, mul-le-mul, one-mul, zero-mul, add-zero, add-mod-mod}
use native.Mathlib.Omega.{arith}
use mathlib.Core.Path.{◌≡◌, ap, sym, ◌∙◌}
use mathlib.Core.Bool.{true, false}
use lib.Pow.{pow-add}
use Rattle.line_rules.specs.Sending.{bit_at}
use Rattle.line_rules.specs.Receiving.{with_bit}

-- 1 << i in a byte
pub shifted : (i : ℕ) → i < 8 → 1 * 2 ^ i % 256 ≡ 2 ^ i
shifted i h = ap (λ (x : ℕ). x % 256) (one-mul (2 ^ i)) ∙ mod-eq_of_lt (omega (arith, pow-le-pow_right {n = 2} (omega arith) {i = i} {j = 7} (omega arith)))

above : (i : ℕ) → 8 ≤ i → 256 ≤ 2 ^ i
above i h = pow-le-pow_right {n = 2} (omega arith) {i = 8} {j = i} h

pub cut_whole : (c n : ℕ) → c < 256 → 8 ≤ n → c ≡ c % 2 ^ n
cut_whole c n l h = sym (mod-eq_of_lt (omega (arith, above n h)))

pub no_bit : (c i : ℕ) → c < 256 → 8 ≤ i → false ≡ bit_at c i
no_bit c i l h =
    let e : c / 2 ^ i ≡ 0 = div-eq_of_lt (omega (arith, above i h)) in
    rw e

pub no_weight : (i : ℕ) → 8 ≤ i → 0 ≡ 2 ^ i % 256
no_weight i h =
    let e : i ≡ 8 + (i - 8) = omega arith in
    sym (ap (λ (k : ℕ). 2 ^ k % 256) e ∙ ap (λ (k : ℕ). k % 256) (pow-add 2 8 (i - 8)) ∙ mul-mod_right 256 (2 ^ (i - 8)))

pub bit_added : (v i w : ℕ) → w ≡ 2 ^ i % 256 → (v + w) % 256 ≡ with_bit v i true
bit_added v i w e = rw (e, add-mod-mod, one-mul)

pub bit_left_lem : (v i : ℕ) → v < 256 → v ≡ with_bit v i false
bit_left_lem v i l = rw (zero-mul, add-zero) (sym (mod-eq_of_lt l))

-- a product of a byte and a number of bits
pub product_fits : (a b : ℕ) → a ≤ 255 → b ≤ 257 → a * b ≤ 65535
product_fits a b h k = mul-le-mul h k
