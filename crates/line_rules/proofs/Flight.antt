-- A character in flight, sample by sample: where each look sees its bit, nothing arrives before the stop sample, and the character with it.
-- A frame of a format alike to the receiver's is so seen.
-- Assumes nothing.
use Prim.Native.Nat.{ℕ, zero, suc, ◌+◌, ◌*◌, ◌-◌, ◌^◌, ◌/◌, ◌%◌, ◌<◌}
use native.Mathlib.Nat.{add-zero, zero-add, add-suc, suc-add}
use native.Mathlib.Omega.{arith}
use mathlib.Core.Path.{◌≡◌, refl, ap, ap₂, sym, ◌∙◌}
use mathlib.Core.Bool.{Bool, true, false, cond, not}
use mathlib.Core.List.{List, [], ◌∷◌, ◌++◌, append-nil, head-eq_of_cons-eq}
use lib.Dec.{ltb, eqb}
use lib.ListN.{length}
use borrow.Author.Tests.{ltb-true, ltb-false, eq-eqb}
use Rattle.std.specs.Prelude.{Option, None, Some}
use Rattle.line_rules.specs.declared.Arrival.{Arrival}
use Rattle.line_rules.specs.declared.Format.{Format}
use Rattle.line_rules.specs.declared.Receiver.{Receiver}
use Rattle.line_rules.specs.declared.RxC.{RxC}
use Rattle.line_rules.specs.declared.Sampled.{Sampled}
use Rattle.line_rules.specs.Sending.{bit, on, half, parity_bits, stop_sample, cut, odd_ones, parity_bit, part, parity_level, level_of, level, listed}
use Rattle.line_rules.specs.Clocks.{rx_later, no_rxc}
use Rattle.line_rules.specs.Receiving.{searching, after_mark, quiet, under, sample, leaves, tell, arrivals, after}
use Rattle.line_rules.specs.Arrived.{Arrived, delivered}
use Rattle.line_rules.specs.Sees.{Sees, Alike}
use Rattle.line_rules.proofs.Choice.{either}
use Rattle.line_rules.proofs.Bits.{is_one, at_most_one}
use Rattle.line_rules.proofs.Parts.{part_data, part_parity, part_stop}
use Rattle.line_rules.proofs.Frames.{length_listed, listed_append}
use Rattle.line_rules.proofs.Samples.{leaves_alike, silent_by_any, brings_by_any, after_append}
use Rattle.line_rules.proofs.ReadBack.{frame_seen, seen_arrives}

-- == frames that look alike ==

module _ (f g : Format) (c : ℕ) (alike : Alike f g) where
  parity_alike : on f.parity ≡ true → parity_level f c ≡ parity_level g c
  unfolding parity_bit
  parity_alike e = ap₂ (λ (b : Bool) (n : ℕ). cond b (odd_ones 8 (c % 2 ^ n)) (not (odd_ones 8 (c % 2 ^ n)))) (alike.kind e) alike.length

  bit_alike : (m : ℕ) → level_of f c m ≡ level_of g c m
  bit_alike zero = refl
  bit_alike (suc i) = go (ltb i f.length) (ltb i (f.length + parity_bits f)) refl refl
    where
      go : (a b : Bool) → ltb i f.length ≡ a → ltb i (f.length + parity_bits f) ≡ b → level_of f c (suc i) ≡ level_of g c (suc i)
      go true b p q = part_data f i _ _ _ (ltb-true _ _ p) ∙ sym (part_data g i _ _ _ (omega (arith, ltb-true)))
      go false true p q =
          part_parity f i _ _ _ (ltb-false _ _ p) (ltb-true _ _ q)
          ∙ parity_alike (sym (is_one (on f.parity)) ∙ eq-eqb (parity_bits f) 1 (omega (arith, ltb-true, ltb-false, at_most_one (on f.parity))))
          ∙ sym (part_parity g i _ _ _ (omega (arith, ltb-false)) (omega (arith, ltb-true, ap bit alike.parity)))
      go false false p q = part_stop f i _ _ _ (ltb-false _ _ q) ∙ sym (part_stop g i _ _ _ (omega (arith, ltb-false, ap bit alike.parity)))

  level_alike : (i : ℕ) → level f c i ≡ level g c i
  level_alike i = ap (λ (n : ℕ). level_of f c (i / n)) alike.factor ∙ bit_alike (i / g.factor)

-- a receiver in the format g sees a frame of c in an alike format f
pub alike_sees : (f g : Format) (c : ℕ) → 0 < g.factor → Alike f g → Sees g c (level f c)
alike_sees f g c pos alike =
    let own = frame_seen g c pos in
    let same = level_alike f g c alike in
    record { edge = same 0 ∙ own.edge; looks = λ m h. same (half g + g.factor * m) ∙ own.looks m h }

-- == one more sample ==

listed_parts : (g : ℕ → Bool) (i j n : ℕ) → i + j ≡ n → listed g 0 n ≡ listed g 0 i ++ listed g i j
listed_parts g i j n e = ap (listed g 0) (sym e) ∙ listed_append g 0 i j ∙ rw zero-add

pub listed_next : (g : ℕ → Bool) (i : ℕ) → listed g 0 (suc i) ≡ listed g 0 i ++ (g i ∷ [])
listed_next g i = listed_parts g i 1 (suc i) (omega arith)

pub after_next : (f : Format) (g : ℕ → Bool) (i : ℕ) (t : RxC) → after f searching (listed g 0 (suc i)) ≡ (sample f (after f searching (listed g 0 i)) (g i) t).next
after_next f g i t =
    ap (after f searching) (listed_next g i) ∙ after_append f searching (listed g 0 i) (g i ∷ []) ∙ sym (leaves_alike f (after f searching (listed g 0 i)) (g i) t)

-- == samples of which a single character arrives ==

-- one before its place brings nothing ..
not_yet : (k : ℕ) (h : Option Arrival) (rest : List Arrived) (a : Arrived) → tell k h rest ≡ a ∷ [] → k < a.at → (h ≡ None) × (rest ≡ a ∷ [])
not_yet k None rest a e l = (refl, e)
not_yet k (Some b) rest a e l = absurd (let z : k ≡ a.at = cc in omega arith)

-- .. so those that follow bring it
to_come : (f : Format) (t : RxC) (r : Receiver) (k : ℕ) (xs ys : List Bool) (a : Arrived) → arrivals f t r k (xs ++ ys) ≡ a ∷ [] → k + length xs < a.at
    → arrivals f t (after f r xs) (k + length xs) ys ≡ a ∷ []
to_come f t r k [] ys a e l = rw add-zero e
to_come f t r k (x ∷ xs) ys a e l =
    rw (add-suc, ← suc-add k (length xs))
    (to_come f t (leaves f r x) (suc k) xs ys a (not_yet (suc k) (sample f r x (rx_later (suc k) t)).heard _ a e (omega arith)).1 (omega arith))

-- the last one brings it, and its level says what the receiver does next
abbrev bringing : Bool → Arrived → Sampled
bringing x a = record { next = after_mark x; heard = Some a.arrival }

abbrev Brings : Bool → Sampled → Type 0
Brings x o = (k : ℕ) (a : Arrived) → tell k o.heard [] ≡ a ∷ [] → o ≡ bringing x a

under_brings : (f : Format) (c m v w : ℕ) (x : Bool) (t : RxC) → Brings x (under f c m v w x t)
unfolding part
under_brings f zero zero v w x t = either (Brings x) x (λ k a e. cc) (λ k a e. cc)
under_brings f zero (suc i) v w x t =
    either (Brings x) (ltb i f.length) (λ k a e. cc) (either (Brings x) (ltb i (f.length + parity_bits f)) (λ k a e. cc) (λ k a e. ap (bringing x) (head-eq_of_cons-eq e)))
under_brings f (suc c) m v w x t = λ k a e. cc

edge_brings : (f : Format) (x : Bool) (t : RxC) → Brings x (cond x (quiet searching) (under f (half f) 0 0 0 false t))
edge_brings f true t = λ k a e. cc
edge_brings f false t = under_brings f (half f) 0 0 0 false t

sample_brings : (f : Format) (r : Receiver) (x : Bool) (t : RxC) → Brings x (sample f r x t)
unfolding sample
sample_brings f r x t =
    either (Brings x) (eqb r.phase 0) (λ k a e. cc)
    (either (Brings x) (eqb r.phase 1) (edge_brings f x t) (under_brings f r.countdown r.look r.value r.wrong x t))

-- == where each look sees its bit ==

module _ (f : Format) (c : ℕ) (g : ℕ → Bool) (pos : 0 < f.factor) (byte : c < 256) (sees : Sees f c g) where
  abbrev it : Arrived
  it = delivered f no_rxc c (suc (stop_sample f))

  -- of the samples up to the stop's, those from i on bring it
  comes : (i j : ℕ) → i + j ≡ stop_sample f → arrivals f no_rxc (after f searching (listed g 0 i)) i (listed g i (suc j)) ≡ it ∷ []
  comes i j e =
      let parts = listed_parts g i (suc j) (suc (stop_sample f)) (omega arith) in
      rw (length_listed, zero-add) at
      (to_come f no_rxc searching 0 (listed g 0 i) (listed g i (suc j)) it
      (ap (arrivals f no_rxc searching 0) (sym parts ∙ sym (append-nil _)) ∙ seen_arrives f c g pos byte sees [] no_rxc 0
      ∙ ap (λ (k : ℕ). delivered f no_rxc c k ∷ []) (zero-add (suc (stop_sample f))))
      (rw length_listed (omega arith)))

  -- nothing arrives with the samples before the stop's ..
  pub flies : (i : ℕ) (t : RxC) → i < stop_sample f → (sample f (after f searching (listed g 0 i)) (g i) t).heard ≡ None
  flies i t h =
      silent_by_any f (after f searching (listed g 0 i)) (g i) (rx_later (suc i) no_rxc) t (not_yet (suc i) _ _ it (comes i (stop_sample f - i) (omega arith)) (omega arith)).0

  -- .. and with it the character, whole, with no flag and with the tally as its stamp; the receiver then searches
  abbrev last : Receiver
  last = after f searching (listed g 0 (stop_sample f))

  lands_first : sample f last (g (stop_sample f)) (rx_later (suc (stop_sample f)) no_rxc) ≡ record { next = searching; heard = Some it.arrival }
  lands_first =
      sample_brings f _ (g (stop_sample f)) _ (suc (stop_sample f)) it (comes (stop_sample f) 0 (omega arith))
      ∙ ap (λ (x : Bool). bringing x it)
      (sees.looks (suc (f.length + parity_bits f)) (omega arith) ∙ part_stop f (f.length + parity_bits f) _ _ _ (omega arith))

  pub lands : (t : RxC) → sample f (after f searching (listed g 0 (stop_sample f))) (g (stop_sample f)) t
      ≡ record { next = searching; heard = Some (record { value = cut f c; parity = false; framing = false; stamp = t }) }
  lands t = brings_by_any f last searching (g (stop_sample f)) (rx_later (suc (stop_sample f)) no_rxc) t it.arrival lands_first
