-- The level at a place by the boundaries of its frame, F, F(1+n) and F(1+n+p): document 01, "Sending, by transmit ticks".
-- Assumes nothing.
use Rattle.std.proofs.Common.{◌≡◌, ℕ, zero, suc, ◌+◌, ◌-◌, ◌*◌, ◌/◌, ◌<◌, ◌≤◌, Bool, true, false, ◌||◌, eqb, ltb, refl, ap, ◌∙◌, div-lt_iff_lt-mul, le-div_iff_mul-le, arith, ltb-false, ltb-true, eqb-true}
use native.Mathlib.Nat.{div-zero, div-eq_of_lt, div-eq-sub-div}
use borrow.Author.Tests.{eqb-false}
use Rattle.line_rules.specs.declared.Format.{Format}
use Rattle.line_rules.specs.Sending.{parity_bits, before_stop, data_level, parity_level, level_of, level}
use Rattle.line_rules.proofs.Choice.{neither}
use Rattle.line_rules.proofs.Parts.{part_data, part_parity}

-- == the test of the start, with F at 0 too ==

in_start : (F place : ℕ) → (eqb F 0 || ltb place F) ≡ true → place / F ≡ 0
in_start F place = go (eqb F 0) refl
  where
    go : (endless : Bool) → eqb F 0 ≡ endless → (endless || ltb place F) ≡ true → place / F ≡ 0
    go true e h = ap (λ (k : ℕ). place / k) (eqb-true F 0 e) ∙ div-zero place
    go false e h = div-eq_of_lt (ltb-true place F h)

pub behind_start : (F place : ℕ) → (eqb F 0 || ltb place F) ≡ false → (0 < F) × (F ≤ place)
behind_start F place h =
    let n = neither (eqb F 0) (ltb place F) h in
    let ends : F ≡ 0 → ⊥ = eqb-false F 0 n.0 in
    (omega arith, ltb-false place F n.1)

-- == which bit after the start a place is in ==

-- no place is before a boundary with F at 0
some_ticks : (F k : ℕ) {place : ℕ} → place < F * k → 0 < F
some_ticks zero k h = absurd (omega arith)
some_ticks (suc F) k h = omega arith

module _ (F place : ℕ) (pos : 0 < F) (behind : F ≤ place) where
  next_bit : place / F ≡ suc ((place - F) / F)
  next_bit = omega (arith, div-eq-sub-div pos behind)

  -- k bits after the start end at F(1+k)
  before_end : (k : ℕ) → place < F * suc k → (place - F) / F < k
  before_end k h = omega (arith, next_bit, (div-lt_iff_lt-mul {x = place} {y = suc k} pos).1 (omega arith))

  from_end : (k : ℕ) → F * suc k ≤ place → k ≤ (place - F) / F
  from_end k h = omega (arith, next_bit, (le-div_iff_mul-le {x = suc k} {y = place} pos).1 (omega arith))

-- == start, data and parity; the stop is `level_stop` of `line_rules` ==

module _ (f : Format) (c place : ℕ) where
  pub level_start : (eqb f.factor 0 || ltb place f.factor) ≡ true → level f c place ≡ false
  level_start h = ap (level_of f c) (in_start f.factor place h)

  pub level_data : f.factor ≤ place → place < f.factor * suc f.length → level f c place ≡ data_level c ((place - f.factor) / f.factor)
  level_data l h =
      let pos = some_ticks f.factor (suc f.length) h in
      ap (level_of f c) (next_bit f.factor place pos l) ∙ part_data f _ _ _ _ (before_end f.factor place pos l f.length h)

  pub level_parity : f.factor * suc f.length ≤ place → place < before_stop f → level f c place ≡ parity_level f c
  level_parity l h =
      let pos = some_ticks f.factor (suc (f.length + parity_bits f)) h in
      let behind : f.factor ≤ place = omega arith in
      ap (level_of f c) (next_bit f.factor place pos behind)
      ∙ part_parity f _ _ _ _ (from_end f.factor place pos behind f.length l) (before_end f.factor place pos behind (f.length + parity_bits f) h)
