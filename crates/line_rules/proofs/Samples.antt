-- The skip laws of a receiver: what many samples leave and bring, where little happens. They carry the reading, and a run that leaps.
-- Assumes nothing.
use Prim.Native.Nat.{ℕ, zero, suc, ◌+◌}
use native.Mathlib.Nat.{zero-add, suc-add, add-zero, add-suc}
use native.Mathlib.Omega.{arith}
use mathlib.Core.Path.{◌≡◌, refl, ap, sym, ◌∙◌}
use mathlib.Core.Bool.{Bool, true, false, cond}
use mathlib.Core.List.{List, [], ◌∷◌, ◌++◌, map}
use lib.Dec.{ltb, eqb}
use lib.ListN.{length, replicate}
use Rattle.std.specs.Prelude.{Option, None, Some}
use Rattle.line_rules.specs.declared.Format.{Format}
use Rattle.line_rules.specs.declared.Receiver.{Receiver}
use Rattle.line_rules.specs.declared.RxC.{RxC}
use Rattle.line_rules.specs.declared.Arrival.{Arrival}
use Rattle.line_rules.specs.declared.Sampled.{Sampled}
use Rattle.line_rules.specs.Sending.{half, parity_bits, part}
use Rattle.line_rules.specs.Clocks.{rx_later, no_rxc}
use Rattle.line_rules.specs.Receiving.{waiting, searching, assembling, after_mark, quiet, under, sample, leaves, tell, arrivals, after}
use Rattle.line_rules.specs.Arrived.{Arrived, later, stamped_or}
use Rattle.line_rules.proofs.Clocks.{rx_later_later}

-- == one sample, by the receiver's phase ==

pub sample_waiting : (f : Format) (x : Bool) (t : RxC) → sample f waiting x t ≡ quiet (after_mark x)
unfolding sample
sample_waiting f x t = refl

pub sample_mark : (f : Format) (t : RxC) → sample f searching true t ≡ quiet searching
unfolding sample
sample_mark f t = refl

pub sample_edge : (f : Format) (t : RxC) → sample f searching false t ≡ under f (half f) 0 0 0 false t
unfolding sample
sample_edge f t = refl

pub sample_under : (f : Format) (c m v w : ℕ) (x : Bool) (t : RxC) → sample f (assembling c m v w) x t ≡ under f c m v w x t
unfolding sample
sample_under f c m v w x t = refl

-- == the tally is the stamp of what arrives, and nothing else ==

abbrev stamped_with : RxC → Option Arrival → Option Arrival
stamped_with u None = None
stamped_with u (Some a) = Some (record { value = a.value; parity = a.parity; framing = a.framing; stamp = u })

abbrev restamped : RxC → Sampled → Sampled
restamped u o = record { next = o.next; heard = stamped_with u o.heard }

-- o is what s is, but for the tally u in what it brings
record Restamps (u : RxC) (s o : Sampled) : Type 0 where
  alike : restamped u s ≡ o

same_but : {u : RxC} {s : Sampled} → Restamps u s (restamped u s)
same_but = record { alike = refl }

either_both : (u : RxC) (b : Bool) {s s' o o' : Sampled} → Restamps u s o → Restamps u s' o' → Restamps u (cond b s s') (cond b o o')
either_both u true p q = p
either_both u false p q = q

under_restamps : (f : Format) (c m v w : ℕ) (x : Bool) (t u : RxC) → Restamps u (under f c m v w x t) (under f c m v w x u)
unfolding part
under_restamps f zero zero v w x t u = either_both u x same_but same_but
under_restamps f zero (suc i) v w x t u = either_both u (ltb i f.length) same_but (either_both u (ltb i (f.length + parity_bits f)) same_but same_but)
under_restamps f (suc c) m v w x t u = same_but

restamps : (f : Format) (r : Receiver) (x : Bool) (t u : RxC) → Restamps u (sample f r x t) (sample f r x u)
unfolding sample
restamps f r x t u =
    either_both u (eqb r.phase 0) same_but
    (either_both u (eqb r.phase 1) (either_both u x same_but (under_restamps f (half f) 0 0 0 false t u))
    (under_restamps f r.countdown r.look r.value r.wrong x t u))

-- what a sample leaves is the same by any tally ..
pub leaves_alike : (f : Format) (r : Receiver) (x : Bool) (t : RxC) → (sample f r x t).next ≡ leaves f r x
leaves_alike f r x t = ap (λ (o : Sampled). o.next) (restamps f r x t no_rxc).alike

-- .. what brings nothing does so by any ..
pub silent_by_any : (f : Format) (r : Receiver) (x : Bool) (t u : RxC) → (sample f r x t).heard ≡ None → (sample f r x u).heard ≡ None
silent_by_any f r x t u e = sym (ap (λ (o : Sampled). o.heard) (restamps f r x t u).alike) ∙ ap (stamped_with u) e

-- .. and what brings a character brings it with its own
pub brings_by_any : (f : Format) (r s : Receiver) (x : Bool) (t u : RxC) (a : Arrival) → sample f r x t ≡ record { next = s; heard = Some a }
    → sample f r x u ≡ record { next = s; heard = Some (record { value = a.value; parity = a.parity; framing = a.framing; stamp = u }) }
brings_by_any f r s x t u a e = sym (restamps f r x t u).alike ∙ ap (restamped u) e

-- a character's stamp is the tally with which it came
pub stamp_is_now : (f : Format) (r : Receiver) (x : Bool) (t : RxC) (a : Arrival) → (sample f r x t).heard ≡ Some a → a.stamp ≡ t
stamp_is_now f r x t a e =
    let same : stamped_with t (Some a) ≡ Some a = ap (stamped_with t) (sym e) ∙ ap (λ (o : Sampled). o.heard) (restamps f r x t t).alike ∙ e in
    ap (stamped_or t) (sym same)

-- == samples that bring nothing ==

-- the samples xs take r to s, and nothing arrives
pub record Silent (f : Format) (r : Receiver) (xs : List Bool) (s : Receiver) : Type 0 where
  pub left : after f r xs ≡ s
  pub none : (t : RxC) (k : ℕ) → arrivals f t r k xs ≡ []

silent_none : (f : Format) (r : Receiver) → Silent f r [] r
silent_none f r = record { left = refl; none = λ t k. refl }

silent_step : (f : Format) (r s t : Receiver) (x : Bool) (xs : List Bool) → ((u : RxC) → sample f r x u ≡ quiet s) → Silent f s xs t → Silent f r (x ∷ xs) t
silent_step f r s t x xs e h =
    record {
      left = ap (λ (o : Sampled). after f o.next xs) (e no_rxc) ∙ h.left;
      none = λ u k.
          ap (λ (o : Sampled). tell (suc k) o.heard (arrivals f u (leaves f r x) (suc k) xs)) (e (rx_later (suc k) u))
          ∙ ap (λ (o : Sampled). arrivals f u o.next (suc k) xs) (e no_rxc)
          ∙ h.none u (suc k);
    }

-- any number of 1s leaves a searching receiver searching
pub marks_pass : (f : Format) (k : ℕ) → Silent f searching (replicate k true) searching
marks_pass f zero = silent_none f searching
marks_pass f (suc k) = silent_step f searching searching searching true (replicate k true) (sample_mark f) (marks_pass f k)

-- any number of 0s leaves a waiting one waiting
pub spaces_pass : (f : Format) (k : ℕ) → Silent f waiting (replicate k false) waiting
spaces_pass f zero = silent_none f waiting
spaces_pass f (suc k) = silent_step f waiting waiting waiting false (replicate k false) (sample_waiting f false) (spaces_pass f k)

-- samples between looks change only the countdown
pub between_looks : (f : Format) (xs : List Bool) (c m v w : ℕ) → Silent f (assembling (length xs + c) m v w) xs (assembling c m v w)
between_looks f [] c m v w = rw zero-add (silent_none f (assembling c m v w))
between_looks f (x ∷ xs) c m v w =
    rw suc-add
    (silent_step f (assembling (suc (length xs + c)) m v w) (assembling (length xs + c) m v w) (assembling c m v w) x xs
    (sample_under f (suc (length xs + c)) m v w x) (between_looks f xs c m v w))

-- == runs put together ==

pub after_append : (f : Format) (r : Receiver) (xs ys : List Bool) → after f r (xs ++ ys) ≡ after f (after f r xs) ys
after_append f r [] ys = refl
after_append f r (x ∷ xs) ys = after_append f (leaves f r x) xs ys

tell_append : (k : ℕ) (h : Option Arrival) (rs ss : List Arrived) → tell k h (rs ++ ss) ≡ tell k h rs ++ ss
tell_append k None rs ss = refl
tell_append k (Some a) rs ss = refl

pub arrivals_append : (f : Format) (t : RxC) (r : Receiver) (k : ℕ) (xs ys : List Bool)
    → arrivals f t r k (xs ++ ys) ≡ arrivals f t r k xs ++ arrivals f t (after f r xs) (k + length xs) ys
arrivals_append f t r k [] ys = rw add-zero
arrivals_append f t r k (x ∷ xs) ys =
    let s : Receiver = leaves f r x in
    let heard : Option Arrival = (sample f r x (rx_later (suc k) t)).heard in
    ap (tell (suc k) heard)
    (arrivals_append f t s (suc k) xs ys
    ∙ ap (λ (i : ℕ). arrivals f t s (suc k) xs ++ arrivals f t (after f s xs) i ys) (let e : suc k + length xs ≡ k + suc (length xs) = omega arith in e))
    ∙ tell_append (suc k) heard (arrivals f t s (suc k) xs) (arrivals f t (after f s xs) (k + suc (length xs)) ys)

-- what brings nothing may stand before any samples
pub silent_before : (f : Format) (t : RxC) (r s : Receiver) (k : ℕ) (xs ys : List Bool) → Silent f r xs s
    → arrivals f t r k (xs ++ ys) ≡ arrivals f t s (k + length xs) ys
silent_before f t r s k xs ys h = arrivals_append f t r k xs ys ∙ rw (h.none t k, h.left)

tell_later : (j k : ℕ) (h : Option Arrival) (rs : List Arrived) → map (later j) (tell k h rs) ≡ tell (j + k) h (map (later j) rs)
tell_later j k None rs = refl
tell_later j k (Some a) rs = refl

-- the same samples j later bring the same, j later; the tally before them is j more
pub arrivals_later : (f : Format) (t : RxC) (r : Receiver) (j k : ℕ) (xs : List Bool) → arrivals f t r (j + k) xs ≡ map (later j) (arrivals f (rx_later j t) r k xs)
arrivals_later f t r j k [] = refl
arrivals_later f t r j k (x ∷ xs) =
    let s : Receiver = leaves f r x in
    let now : RxC = rx_later (suc k) (rx_later j t) in
    let e : rx_later (suc (j + k)) t ≡ now = ap (λ (i : ℕ). rx_later i t) (sym (add-suc j k)) ∙ sym (rx_later_later (suc k) j t) in
    ap (λ (u : RxC). tell (suc (j + k)) (sample f r x u).heard (arrivals f t s (suc (j + k)) xs)) e
    ∙ ap (λ (i : ℕ). tell i (sample f r x now).heard (arrivals f t s i xs)) (sym (add-suc j k))
    ∙ ap (tell (j + suc k) (sample f r x now).heard) (arrivals_later f t s j (suc k) xs)
    ∙ sym (tell_later j (suc k) (sample f r x now).heard (arrivals f (rx_later j t) s (suc k) xs))
