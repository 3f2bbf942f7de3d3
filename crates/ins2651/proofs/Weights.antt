-- The status byte by weights: a level or a flag that is 0 or 1 is its own bit, and a low level is a 1 (P7).
-- Assumes nothing.
use Prim.Native.Nat.{ℕ, zero, suc, ◌+◌, ◌*◌, ◌≤◌}
use native.Mathlib.Omega.{arith}
use mathlib.Core.Path.{◌≡◌, refl}
use mathlib.Core.Bool.{Bool, true, false, ◌&&◌}
use lib.Dec.{eqb}
use borrow.Author.Tests.{leb-true, eq-eqb, ne_eqb, eqb-true, eqb-false}
use Rattle.line_rules.specs.Sending.{on}
use Rattle.ins2651_rules.specs.declared.Device.{Device}
use Rattle.ins2651_rules.specs.Status.{weigh, status_byte}
use Rattle.ins2651_rules.specs.Ranges.{pins_in_range, flags_in_range, status_in_range, shown_in_range}
use Rattle.ins2651_rules.specs.Weights.{level_weights, right_by_weights}
use Rattle.ins2651_rules.proofs.InRange.{pins_of, flags_of}

high : (x w : ℕ) → x ≤ 1 → weigh (on x) w ≡ w * x
high zero w l = let e : 0 ≡ w * 0 = omega arith in e
high (suc zero) w l = let e : w ≡ w * 1 = omega arith in e
high (suc (suc x)) w l = absurd (omega arith)

low : (x w : ℕ) → x ≤ 1 → weigh (eqb x 0) w + w * x ≡ w
low zero w l = let e : w + w * 0 ≡ w = omega arith in e
low (suc zero) w l = let e : 0 + w * 1 ≡ w = omega arith in e
low (suc (suc x)) w l = absurd (omega arith)

-- both sides of a test may grow alike
grown : (a b k m n : ℕ) → m ≡ a + k → n ≡ b + k → eqb m n ≡ eqb a b
grown a b k m n p q = go (eqb a b) refl
  where
    go : (t : Bool) → eqb a b ≡ t → eqb m n ≡ t
    go true e = let h = eqb-true a b e in eq-eqb m n (omega (arith, p, q, h))
    go false e = ne_eqb m n (λ z. eqb-false a b e (omega (arith, p, q, z)))

by_weights : (d : Device) → pins_in_range d.pins ≡ true → flags_in_range d.flags ≡ true → right_by_weights d ≡ status_in_range d
unfolding status_byte
by_weights d ps fs =
    let p = pins_of d.pins ps in
    let f = flags_of d.flags fs in
    let l7 = low d.pins.dsr 128 (leb-true _ _ p.dsr) in
    let l6 = low d.pins.dcd 64 (leb-true _ _ p.dcd) in
    let h5 = high d.flags.framing 32 (leb-true _ _ f.framing) in
    let h4 = high d.flags.overrun 16 (leb-true _ _ f.overrun) in
    let h3 = high d.flags.parity 8 (leb-true _ _ f.parity) in
    grown d.status (status_byte d) (level_weights d.pins) _ _ refl (omega (arith, l7, l6, h5, h4, h3))

both : (p f r s : Bool) → (p ≡ true → f ≡ true → r ≡ s) → ((p && f) && r) ≡ (p && f && s)
both false f r s h = refl
both true false r s h = refl
both true true r s h = h refl refl

pub shown_by_weights : (d : Device) → ((pins_in_range d.pins && flags_in_range d.flags) && right_by_weights d) ≡ shown_in_range d
shown_by_weights d = both (pins_in_range d.pins) (flags_in_range d.flags) (right_by_weights d) (status_in_range d) (by_weights d)
