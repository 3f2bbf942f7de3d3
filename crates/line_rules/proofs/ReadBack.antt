-- A character arrives where each look sees its bit; and so a frame after a mark is read back, with what follows it as if it were not there.
-- Assumes nothing.
use Prim.Native.Nat.{ℕ, zero, suc, ◌+◌, ◌*◌, ◌-◌, ◌^◌, ◌/◌, ◌%◌, ◌≤◌, ◌<◌}
use native.Mathlib.Nat.{add-zero, zero-add, zero-div, pow-suc, div-add-mod', mod-lt, mod-le, mod-eq_of_lt, mul-add-mod_self_left, mul-le-mul_left, mul-le-mul_right, mod-one}
use native.Mathlib.Omega.{arith}
use mathlib.Core.Path.{◌≡◌, refl, ap, ap₂, sym, ◌∙◌}
use mathlib.Core.Bool.{Bool, true, false, cond}
use mathlib.Core.List.{List, [], ◌∷◌, ◌++◌, map, append_assoc}
use lib.Dec.{eqb}
use lib.ListN.{length, get_or, replicate, length-append, length-replicate}
use lib.Seq.{drop_at}
use lib.Pow.{pow_pos}
use Rattle.line_rules.specs.declared.Format.{Format}
use Rattle.line_rules.specs.declared.RxC.{RxC}
use Rattle.line_rules.specs.Sending.{bit, on, differ, half, parity_bits, frame_length, stop_sample, cut, parity_bit, bit_at, level_of, level, listed, frame}
use Rattle.line_rules.specs.Clocks.{rx_later}
use Rattle.line_rules.specs.Receiving.{waiting, searching, sample, arrivals}
use Rattle.line_rules.specs.Reading.{lev, find, seen, number, value_at, arrived_at, reading}
use Rattle.line_rules.specs.Arrived.{Arrived, later, delivered}
use Rattle.line_rules.specs.Sees.{Sees}
use Rattle.line_rules.proofs.Clocks.{rx_later_later}
use Rattle.line_rules.proofs.Parts.{part_data, part_parity, part_stop}
use Rattle.line_rules.proofs.Frames.{in_bit, level_stop, length_listed, listed_append, listed_all, lev_listed, frame_levels}
use Rattle.line_rules.proofs.Samples.{marks_pass, silent_before, arrivals_later}
use Rattle.line_rules.proofs.Received.{heard_at, received}

-- == the number of a number's lowest bits is the number cut ==

pub bit_eqb : (x : ℕ) → x < 2 → bit (eqb x 1) ≡ x
bit_eqb zero h = refl
bit_eqb (suc zero) h = refl
bit_eqb (suc (suc x)) h = omega arith

pub mod_double : (c b : ℕ) → 0 < b → c % (b * 2) ≡ c % b + c / b % 2 * b
mod_double c b h =
    let r : ℕ = c % b + c / b % 2 * b in
    let e : c ≡ b * 2 * (c / b / 2) + r = omega (arith, div-add-mod' c b, ap (λ (x : ℕ). x * b) (div-add-mod' (c / b) 2)) in
    let l : c / b % 2 ≤ 1 = omega arith in
    ap (λ (x : ℕ). x % (b * 2)) e ∙ mul-add-mod_self_left (b * 2) (c / b / 2) r ∙ mod-eq_of_lt (omega (arith, mod-lt c h, mul-le-mul_right b l))

number_cut : (c m : ℕ) → number (bit_at c) m ≡ c % 2 ^ m
number_cut c zero = sym (mod-one c)
number_cut c (suc m) =
    rw (number_cut c m, bit_eqb (c / 2 ^ m % 2) (omega arith)) (sym (mod_double c (2 ^ m) (pow_pos m)) ∙ ap (λ (x : ℕ). c % x) (sym (pow-suc 2 m)))

number_same : (a b : ℕ → Bool) (m : ℕ) → ((i : ℕ) → i < m → a i ≡ b i) → number a m ≡ number b m
number_same a b zero h = refl
number_same a b (suc m) h = rw (number_same a b m (λ i l. h i (omega arith)), h m (omega arith))

finds_edge : (xs : List Bool) → get_or xs 0 false ≡ false → find false xs ≡ 0
finds_edge [] e = refl
finds_edge (x ∷ xs) e = rw e

pub same : (b : Bool) → differ b b ≡ false
same true = refl
same false = refl

-- == where each look sees its bit, the character arrives ==

module _ (f : Format) (c : ℕ) (g : ℕ → Bool) (pos : 0 < f.factor) (byte : c < 256) (sees : Sees f c g) (rest : List Bool) where
  abbrev ls : List Bool
  ls = listed g 0 (suc (stop_sample f)) ++ rest

  at_look : (m : ℕ) → m ≤ suc (f.length + parity_bits f) → seen f ls 0 m ≡ level_of f c m
  at_look m h =
      ap (λ (i : ℕ). lev ls i) (let e : 0 + half f + f.factor * m ≡ half f + f.factor * m = omega arith in e)
      ∙ lev_listed g 0 (suc (stop_sample f)) rest (half f + f.factor * m) (omega (arith, mul-le-mul_left f.factor h))
      ∙ ap g (zero-add (half f + f.factor * m))
      ∙ sees.looks m h

  value_is : value_at f ls 0 ≡ cut f c
  value_is =
      ap (λ (v : ℕ). v % 256)
      (number_same (λ (i : ℕ). seen f ls 0 (suc i)) (bit_at c) f.length (λ i h. at_look (suc i) (omega arith) ∙ part_data f i _ _ _ h)
      ∙ number_cut c f.length)
      ∙ mod-eq_of_lt (omega (arith, mod-le c (2 ^ f.length)))

  agrees : (b : Bool) → on f.parity ≡ b
      → cond b (differ (seen f ls 0 (suc f.length)) (parity_bit f (value_at f ls 0))) false ≡ false
  agrees false e = refl
  agrees true e =
      let q : f.length < f.length + parity_bits f = omega (arith, ap bit e) in
      let r : seen f ls 0 (suc f.length) ≡ parity_bit f (cut f c) =
      at_look (suc f.length) (omega arith) ∙ part_parity f f.length _ _ _ (omega arith) q in
      ap₂ differ r (ap (parity_bit f) value_is) ∙ same (parity_bit f (cut f c))

  stop_is : lev ls (0 + stop_sample f) ≡ true
  stop_is =
      ap (λ (i : ℕ). lev ls i) (let e : 0 + stop_sample f ≡ 0 + half f + f.factor * suc (f.length + parity_bits f) = omega arith in e)
      ∙ at_look (suc (f.length + parity_bits f)) (omega arith)
      ∙ part_stop f (f.length + parity_bits f) _ _ _ (omega arith)

  arrived_is : (t : RxC) → arrived_at f t ls 0 ≡ delivered f t c (suc (0 + stop_sample f))
  arrived_is t = rw (agrees (on f.parity) refl, value_is, stop_is)

  long_enough : 0 + stop_sample f < length ls
  long_enough = rw (length-append, length_listed) (omega arith)

  from_none : (t : RxC) → arrivals f t searching 0 ls ≡ delivered f t c (suc (stop_sample f)) ∷ arrivals f t searching (suc (stop_sample f)) rest
  from_none t =
      heard_at f t ls pos 0 0 (ap (λ (i : ℕ). 0 + i) (finds_edge ls sees.edge)) (at_look 0 (omega arith)) long_enough
      ∙ rw (arrived_is t, stop_is, zero-add (stop_sample f), drop_at (listed g 0 (suc (stop_sample f))) rest (suc (stop_sample f)) (length_listed g 0 (suc (stop_sample f))))

  -- the character arrives with sample 1 + D of these, and the search goes on
  pub seen_arrives : (t : RxC) (k : ℕ)
      → arrivals f t searching k (listed g 0 (suc (stop_sample f)) ++ rest)
      ≡ delivered f t c (k + suc (stop_sample f)) ∷ arrivals f t searching (k + suc (stop_sample f)) rest
  seen_arrives t k =
      ap (λ (j : ℕ). arrivals f t searching j ls) (sym (add-zero k))
      ∙ arrivals_later f t searching k 0 ls
      ∙ ap (map (later k)) (from_none (rx_later k t))
      ∙ ap (λ (u : RxC). record { at = k + suc (stop_sample f); arrival = record { value = cut f c; parity = false; framing = false; stamp = u } }
      ∷ map (later k) (arrivals f (rx_later k t) searching (suc (stop_sample f)) rest)) (rx_later_later (suc (stop_sample f)) k t)
      ∙ ap (λ (r : List Arrived). delivered f t c (k + suc (stop_sample f)) ∷ r) (sym (arrivals_later f t searching k (suc (stop_sample f)) rest))

-- == a frame after a mark ==

-- the looks see a frame of their own format
pub frame_seen : (f : Format) (c : ℕ) → 0 < f.factor → Sees f c (level f c)
frame_seen f c pos =
    record {
      edge = ap (level_of f c) (zero-div f.factor);
      looks = λ m h. ap (level_of f c) (in_bit f.factor (half f) m (omega arith));
    }

mark_passes : (f : Format) (t : RxC) (ls : List Bool) → arrivals f t waiting 0 (true ∷ ls) ≡ arrivals f t searching 1 ls
unfolding sample
mark_passes f t ls = refl

module _ (f : Format) (c : ℕ) (rest : List Bool) (pos : 0 < f.factor) (stops : half f < f.stop) (byte : c < 256) where
  -- the ticks of the stop after its sample
  abbrev tail : ℕ
  tail = f.stop - suc (half f)

  parts : frame f c ++ rest ≡ listed (level f c) 0 (suc (stop_sample f)) ++ (replicate tail true ++ rest)
  parts =
      ap (λ (r : List Bool). r ++ rest)
      (frame_levels f c pos
      ∙ ap (listed (level f c) 0) (let e : frame_length f ≡ suc (stop_sample f) + tail = omega arith in e)
      ∙ listed_append (level f c) 0 (suc (stop_sample f)) tail
      ∙ ap (λ (r : List Bool). listed (level f c) 0 (suc (stop_sample f)) ++ r)
      (listed_all (level f c) true (0 + suc (stop_sample f)) tail (λ j l h. level_stop f c j pos (omega arith))))
      ∙ append_assoc (listed (level f c) 0 (suc (stop_sample f))) (replicate tail true) rest

  -- a search goes on through the marks
  tail_passes : (t : RxC) (k : ℕ) → arrivals f t searching k (replicate tail true ++ rest) ≡ arrivals f t searching (k + tail) rest
  tail_passes t k = silent_before f t searching searching k (replicate tail true) rest (marks_pass f tail) ∙ rw length-replicate

  after_mark_lem : (t : RxC) (ls : List Bool) → reading f t (true ∷ ls) ≡ arrivals f t searching 1 ls
  after_mark_lem t ls = sym (received f t (true ∷ ls) pos) ∙ mark_passes f t ls

  -- it is read with sample 2 + D, and what follows is read as after a mark, L later
  pub frame_read : (t : RxC) → reading f t (true ∷ frame f c ++ rest) ≡ delivered f t c (2 + stop_sample f) ∷ map (later (frame_length f)) (reading f (rx_later (frame_length f) t) (true ∷ rest))
  frame_read t =
      after_mark_lem t (frame f c ++ rest)
      ∙ ap (arrivals f t searching 1) parts
      ∙ seen_arrives f c (level f c) pos byte (frame_seen f c pos) (replicate tail true ++ rest) t 1
      ∙ ap₂ (λ (k : ℕ) (r : List Arrived). delivered f t c k ∷ r)
      (let e : 1 + suc (stop_sample f) ≡ 2 + stop_sample f = omega arith in e)
      (tail_passes t (1 + suc (stop_sample f))
      ∙ ap (λ (k : ℕ). arrivals f t searching k rest) (let e : 1 + suc (stop_sample f) + tail ≡ frame_length f + 1 = omega arith in e)
      ∙ arrivals_later f t searching (frame_length f) 1 rest
      ∙ ap (map (later (frame_length f))) (sym (after_mark_lem (rx_later (frame_length f) t) rest)))
