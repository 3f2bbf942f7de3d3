-- Laws of a frame: half a bit, the level within a bit and after the last, and the frame as a list.
-- Assumes nothing.
use Prim.Native.Nat.{ℕ, zero, suc, ◌+◌, ◌*◌, ◌/◌, ◌%◌, ◌≤◌, ◌<◌}
use native.Mathlib.Nat.{add-zero, zero-add, suc-add, mul-zero, div-add-mod, div-eq_of_lt-le, le-div_iff_mul-le}
use native.Mathlib.Omega.{arith}
use mathlib.Core.Path.{◌≡◌, refl, ap, ap₂, sym, ◌∙◌}
use mathlib.Core.Bool.{Bool, true, false, cond}
use mathlib.Core.List.{List, [], ◌∷◌, ◌++◌}
use lib.ListN.{length, get_or, replicate, length-append, length-replicate}
use Rattle.line_rules.specs.declared.Format.{Format}
use Rattle.line_rules.specs.Sending.{on, half, parity_bits, before_stop, frame_length, data_level, parity_level, level_of, level, listed, held, data_part, parity_part, frame}
use Rattle.line_rules.proofs.Parts.{part_data, part_parity, part_stop}

-- h is F/2 rounded down, and no other number
pub half_is : (f : Format) → (2 * half f ≤ f.factor) × (f.factor ≤ 2 * half f + 1)
half_is f = omega arith

-- == the bit at a place ==

-- tick d of bit m
pub in_bit : (F d m : ℕ) → d < F → (d + F * m) / F ≡ m
in_bit F d m h = div-eq_of_lt-le F (omega arith) (omega arith)

-- within a bit the level stands still
pub level_still : (f : Format) (c i d : ℕ) → i % f.factor + d < f.factor → level f c (i + d) ≡ level f c i
level_still f c i d h =
    let e : i + d ≡ (i % f.factor + d) + f.factor * (i / f.factor) = omega (arith, div-add-mod i f.factor) in
    ap (level_of f c) (ap (λ (k : ℕ). k / f.factor) e ∙ in_bit f.factor (i % f.factor + d) (i / f.factor) h)

stop_bit : (f : Format) (c m : ℕ) → suc (f.length + parity_bits f) ≤ m → level_of f c m ≡ true
stop_bit f c zero h = absurd (omega arith)
stop_bit f c (suc m) h = part_stop f m _ _ _ (omega arith)

-- from the stop on, however far
pub level_stop : (f : Format) (c i : ℕ) → 0 < f.factor → before_stop f ≤ i → level f c i ≡ true
level_stop f c i pos h = stop_bit f c (i / f.factor) ((le-div_iff_mul-le pos).1 (omega arith))

-- == lists of levels ==

pub length_listed : (g : ℕ → Bool) (i k : ℕ) → length (listed g i k) ≡ k
length_listed g i zero = refl
length_listed g i (suc k) = ap suc (length_listed g (suc i) k)

pub listed_append : (g : ℕ → Bool) (i j k : ℕ) → listed g i (j + k) ≡ listed g i j ++ listed g (i + j) k
listed_append g i zero k = rw (zero-add, add-zero)
listed_append g i (suc j) k =
    rw suc-add (ap (λ (r : List Bool). g i ∷ r) (listed_append g (suc i) j k ∙ ap (λ (m : ℕ). listed g (suc i) j ++ listed g m k) (omega arith)))

pub listed_same : (g h : ℕ → Bool) (i k : ℕ) → ((j : ℕ) → i ≤ j → j < i + k → g j ≡ h j) → listed g i k ≡ listed h i k
listed_same g h i zero e = refl
listed_same g h i (suc k) e = rw (e i (omega arith) (omega arith), listed_same g h (suc i) k (λ j l m. e j (omega arith) (omega arith)))

listed_const : (x : Bool) (i k : ℕ) → listed (λ (j : ℕ). x) i k ≡ replicate k x
listed_const x i zero = refl
listed_const x i (suc k) = ap (λ (r : List Bool). x ∷ r) (listed_const x (suc i) k)

pub listed_all : (g : ℕ → Bool) (x : Bool) (i k : ℕ) → ((j : ℕ) → i ≤ j → j < i + k → g j ≡ x) → listed g i k ≡ replicate k x
listed_all g x i k e = listed_same g (λ (j : ℕ). x) i k e ∙ listed_const x i k

listed_suc : (g : ℕ → Bool) (i k : ℕ) → listed (λ (j : ℕ). g (suc j)) i k ≡ listed g (suc i) k
listed_suc g i zero = refl
listed_suc g i (suc k) = ap (λ (r : List Bool). g (suc i) ∷ r) (listed_suc g (suc i) k)

pub lev_listed : (g : ℕ → Bool) (i k : ℕ) (rest : List Bool) (j : ℕ) → j < k → get_or (listed g i k ++ rest) j false ≡ g (i + j)
lev_listed g i zero rest j h = absurd (omega arith)
lev_listed g i (suc k) rest zero h = rw add-zero
lev_listed g i (suc k) rest (suc j) h = lev_listed g (suc i) k rest j (omega arith) ∙ ap g (omega arith)

-- == the frame as a list ==

-- the bits m, m + 1, .., each for F ticks
held_listed : (F : ℕ) (g : ℕ → Bool) → 0 < F → (m k : ℕ) → held F (listed g m k) ≡ listed (λ (i : ℕ). g (i / F)) (F * m) (F * k)
held_listed F g pos m zero = rw mul-zero
held_listed F g pos m (suc k) =
    let tick : (j : ℕ) → F * m ≤ j → j < F * m + F → g (j / F) ≡ g m = λ j l h. ap g (div-eq_of_lt-le F (omega arith) (omega arith)) in
    let more : F * suc k ≡ F + F * k = omega arith in
    let on : F * suc m ≡ F * m + F = omega arith in
    ap (λ (r : List Bool). r ++ held F (listed g (suc m) k)) (sym (listed_all (λ (i : ℕ). g (i / F)) (g m) (F * m) F tick))
    ∙ ap (λ (r : List Bool). listed (λ (i : ℕ). g (i / F)) (F * m) F ++ r) (held_listed F g pos (suc m) k)
    ∙ rw (on, more) (sym (listed_append (λ (i : ℕ). g (i / F)) (F * m) F (F * k)))

module _ (f : Format) (c : ℕ) where
  data_bits : data_part f c ≡ listed (λ (i : ℕ). level_of f c (suc i)) 0 f.length
  data_bits = listed_same (data_level c) (λ (i : ℕ). level_of f c (suc i)) 0 f.length (λ j l h. sym (part_data f j _ _ _ (omega arith)))

  parity_bits_lem : parity_part f c ≡ listed (λ (i : ℕ). level_of f c (suc i)) f.length (parity_bits f)
  parity_bits_lem = go (on f.parity) refl
    where
      go : (b : Bool) → on f.parity ≡ b → parity_part f c ≡ listed (λ (i : ℕ). level_of f c (suc i)) f.length (parity_bits f)
      go true e =
          let q : parity_bits f ≡ 1 = rw e in
          ap (λ (b : Bool). cond b (parity_level f c ∷ []) []) e
          ∙ ap (λ (x : Bool). x ∷ []) (sym (part_parity f f.length (data_level c f.length) (parity_level f c) true (omega arith) (omega arith)))
          ∙ ap (listed (λ (i : ℕ). level_of f c (suc i)) f.length) (sym q)
      go false e = rw e

  bits : false ∷ data_part f c ++ parity_part f c ≡ listed (level_of f c) 0 (suc (f.length + parity_bits f))
  bits =
      ap (λ (r : List Bool). false ∷ r)
      (rw (data_bits, parity_bits_lem, ← listed_suc (level_of f c) 0 (f.length + parity_bits f), listed_append (λ (i : ℕ). level_of f c (suc i)) 0 f.length (parity_bits f), zero-add))

  -- the frame is the list of its levels, place by place
  pub frame_levels : 0 < f.factor → frame f c ≡ listed (level f c) 0 (frame_length f)
  frame_levels pos =
      ap (λ (r : List Bool). held f.factor r ++ replicate f.stop true) bits
      ∙ ap (λ (r : List Bool). r ++ replicate f.stop true)
      (held_listed f.factor (level_of f c) pos 0 (suc (f.length + parity_bits f)) ∙ ap (λ (m : ℕ). listed (level f c) m (before_stop f)) (mul-zero f.factor))
      ∙ ap (λ (r : List Bool). listed (level f c) 0 (before_stop f) ++ r) (sym (listed_all (level f c) true (before_stop f) f.stop (λ j l h. level_stop f c j pos l)))
      ∙ ap (λ (k : ℕ). listed (level f c) 0 (before_stop f) ++ listed (level f c) k f.stop) (sym (zero-add (before_stop f)))
      ∙ sym (listed_append (level f c) 0 (before_stop f) f.stop)

-- a frame lasts L ticks
length_held : (k : ℕ) (xs : List Bool) → length (held k xs) ≡ k * length xs
length_held k [] = sym (mul-zero k)
length_held k (x ∷ xs) = rw (length-append, length-replicate, length_held k xs) (omega arith)

pub length_frame : (f : Format) (c : ℕ) → length (frame f c) ≡ frame_length f
length_frame f c =
    length-append (held f.factor (false ∷ data_part f c ++ parity_part f c)) (replicate f.stop true)
    ∙ ap₂ ◌+◌
    (length_held f.factor (false ∷ data_part f c ++ parity_part f c)
    ∙ ap (λ (k : ℕ). f.factor * k) (ap length (bits f c) ∙ length_listed (level_of f c) 0 (suc (f.length + parity_bits f))))
    (length-replicate f.stop true)
