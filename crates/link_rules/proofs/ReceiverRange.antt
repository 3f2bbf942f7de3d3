-- A receiving half in range stays in range: over a receive tick in a format in range, when its character is dropped, and when its register is emptied.
-- Assumes nothing.
use Prim.Native.Nat.{ℕ, zero, suc, ◌+◌, ◌*◌, ◌-◌, ◌^◌, ◌≤◌, ◌<◌}
use native.Mathlib.Nat.{le_of_lt, pow-le-pow_right, mod-le}
use native.Mathlib.Omega.{arith}
use mathlib.Core.Path.{◌≡◌, refl}
use mathlib.Core.Bool.{Bool, true, false, cond, ◌&&◌}
use lib.Dec.{ltb, leb, eqb}
use lib.Pow.{pow_pos}
use borrow.Author.Tests.{ltb-true, ltb-false, leb-true, eqb-true, eqb-false, lt-ltb, le-leb, eq-eqb, ne_eqb}
use Rattle.std.specs.Prelude.{Option, None, Some}
use Rattle.line_rules.specs.declared.Arrival.{Arrival}
use Rattle.line_rules.specs.declared.Format.{Format}
use Rattle.line_rules.specs.declared.Receiver.{Receiver}
use Rattle.line_rules.specs.declared.RxC.{RxC}
use Rattle.line_rules.specs.declared.Sampled.{Sampled}
use Rattle.line_rules.specs.Sending.{bit, on, differ, half, parity_bits, parity_bit, part}
use Rattle.line_rules.specs.Range.{in_range}
use Rattle.line_rules.specs.Receiving.{assembling, after_mark, quiet, with_bit, look_next, parity_look, look_at, under, sample}
use Rattle.line_rules.proofs.Table.{both}
use Rattle.line_rules.proofs.Ranges.{in_range_bounds}
use Rattle.link_rules.specs.declared.ReceiverHalf.{ReceiverHalf}
use Rattle.link_rules.specs.Parts.{no_format, idle_receiver, dropped, emptied, receiver_later}
use Rattle.link_rules.specs.Hearing.{Received, under_way, character_format, stepped, brought, hear, receive}
use Rattle.link_rules.specs.Within.{countdown_in_range, value_in_range, wrong_in_range, assembly_in_range, state_in_range, receiver_in_range}
use Rattle.line_rules.proofs.Choice.{either, each, all}

bit_most : (b : Bool) → bit b ≤ 1
bit_most true = omega arith
bit_most false = omega arith

bit_on : (b : Bool) → 0 < bit b → b ≡ true
bit_on true h = refl
bit_on false h = absurd (omega arith)

suc_less : (i : ℕ) → suc i - 1 ≡ i
suc_less i = omega arith

with_bit_lem : (v i : ℕ) (x : Bool) → v < 2 ^ i → with_bit v i x < 2 ^ suc i
with_bit_lem v i true h = omega (arith, mod-le (v + 1 * 2 ^ i) 256)
with_bit_lem v i false h = omega (arith, mod-le (v + 0 * 2 ^ i) 256)

-- == a sample ==

-- what holds of a character at a tick: this is the tick of a look, or the countdown falls into its range
record Due (g : Format) (c m v w : ℕ) : Type 0 where
  looks : m ≤ suc (g.length + parity_bits g)
  ticks : c ≤ cond (eqb m 0) (half g) g.factor
  after_sample : v < 2 ^ (m - 1)
  fits : v < 2 ^ g.length
  wrong : wrong_in_range g m w ≡ true

-- a sample in the format g leaves a state in range, with g kept for it while a character is under way
abbrev Fine : Format → Sampled → Type 0
Fine g o = state_in_range (cond (under_way o.next) g no_format) o.next ≡ true

module _ (g : Format) where
  none_wrong : (m : ℕ) → wrong_in_range g m 0 ≡ true
  none_wrong m = either (λ (t : Bool). t ≡ true) (on g.parity && eqb m (g.length + 2)) refl refl

  -- no parity is wrong before its look
  not_wrong : (m w : ℕ) → m < g.length + 2 → wrong_in_range g m w ≡ true → w ≡ 0
  not_wrong m w l =
      each (λ (t : Bool). t ≡ true → w ≡ 0) (on g.parity && eqb m (g.length + 2))
      (λ e _. let q = eqb-true m (g.length + 2) (both (on g.parity) _ e).1 in omega arith)
      (λ _ e. eqb-true w 0 e)

  due_first : Due g (half g) 0 0 0
  due_first = record { looks = omega arith; ticks = omega arith; after_sample = omega arith; fits = pow_pos g.length; wrong = none_wrong 0 }

  due : (s : Receiver) → assembly_in_range g s ≡ true → Due g s.countdown s.look s.value s.wrong
  due s e =
      let w = both _ (wrong_in_range g s.look s.wrong) e in
      let v = both _ (value_in_range g s.look s.value) w.0 in
      let b = both (ltb s.value (2 ^ (s.look - 1))) (ltb s.value (2 ^ g.length)) v.1 in
      let c = both _ (countdown_in_range g s.look s.countdown) v.0 in
      let m = both (eqb s.phase 2) (leb s.look (suc (g.length + parity_bits g))) c.0 in
      record {
        looks = leb-true _ _ m.1;
        ticks = le_of_lt (ltb-true _ _ c.1);
        after_sample = ltb-true _ _ b.0;
        fits = ltb-true _ _ b.1;
        wrong = w.1;
      }

  after_mark_lem : (x : Bool) → Fine g (quiet (after_mark x))
  after_mark_lem true = refl
  after_mark_lem false = refl

  module _ (ok : in_range g ≡ true) where
    counted : (c m v w : ℕ) → Due g (suc c) m v w → Fine g (quiet (assembling c m v w))
    counted c m v w d =
        all ok
        (all (all (all (le-leb _ _ d.looks) (lt-ltb _ _ d.ticks)) (all (lt-ltb _ _ d.after_sample) (lt-ltb _ _ d.fits)))
        d.wrong)

    next_look : (i v w : ℕ) → i ≤ g.length + parity_bits g → v < 2 ^ i → v < 2 ^ g.length → wrong_in_range g (suc i) w ≡ true
        → Fine g (look_next g (suc i) v w)
    next_look i v w l t h e =
        let F : 0 < g.factor = (in_range_bounds g ok).ticks in
        counted (g.factor - 1) (suc i) v w
        (record { looks = omega arith; ticks = rw (ne_eqb (suc i) 0 (omega arith)) (omega arith); after_sample = rw (suc_less i) t; fits = h; wrong = e })

    data_look : (i v w : ℕ) (x : Bool) → i < g.length → v < 2 ^ i → wrong_in_range g (suc i) w ≡ true
        → Fine g (look_next g (suc (suc i)) (with_bit v i x) w)
    data_look i v w x l t e =
        let h = with_bit_lem v i x t in
        next_look (suc i) (with_bit v i x) w (omega arith) h
        (omega (arith, pow-le-pow_right {n = 2} (omega arith) {i = suc i} {j = g.length} l))
        (rw (not_wrong (suc i) w (omega arith) e) (none_wrong (suc (suc i))))

    parity_look_lem : (i v : ℕ) (x : Bool) → g.length ≤ i → i < g.length + parity_bits g → v < 2 ^ i → v < 2 ^ g.length
        → Fine g (parity_look g (suc (suc i)) v x)
    parity_look_lem i v x n l t h =
        let q : suc (suc i) ≡ g.length + 2 = omega (arith, bit_most (on g.parity)) in
        next_look (suc i) v (bit (differ x (parity_bit g v))) l (omega arith) h
        (rw (bit_on (on g.parity) (omega arith), eq-eqb _ _ q) (le-leb _ 1 (bit_most (differ x (parity_bit g v)))))

    look_in : (m v w : ℕ) (x : Bool) (t : RxC) → Due g 0 m v w → Fine g (look_at g m v w x t)
    unfolding part
    look_in zero v w true now d = refl
    look_in zero v w false now d = next_look 0 0 0 (omega arith) (omega arith) (pow_pos g.length) (none_wrong 1)
    look_in (suc i) v w x now d =
        let t = rw (suc_less i) at d.after_sample in
        each (Fine g) (ltb i g.length) (λ a. data_look i v w x (ltb-true _ _ a) t d.wrong)
        (λ a. each (Fine g) (ltb i (g.length + parity_bits g))
        (λ b. parity_look_lem i v x (ltb-false _ _ a) (ltb-true _ _ b) t d.fits)
        (λ _. after_mark_lem x))

    under_in : (c m v w : ℕ) (x : Bool) (t : RxC) → Due g c m v w → Fine g (under g c m v w x t)
    under_in zero m v w x t d = look_in m v w x t d
    under_in (suc c) m v w x t d = counted c m v w d

    sample_in : (s : Receiver) (x : Bool) (t : RxC) → (under_way s ≡ true → assembly_in_range g s ≡ true) → Fine g (sample g s x t)
    unfolding sample
    sample_in s x t h =
        each (Fine g) (eqb s.phase 0) (λ _. after_mark_lem x)
        (λ a. each (Fine g) (eqb s.phase 1)
        (λ _. either (Fine g) x refl (under_in (half g) 0 0 0 false t due_first))
        (λ b. under_in s.countdown s.look s.value s.wrong x t (due s (h (lt-ltb 1 s.phase (omega (arith, eqb-false)))))))

-- == the half ==

parts : (r : ReceiverHalf) → receiver_in_range r ≡ true → (leb r.unread 1 ≡ true) × (state_in_range r.format r.state ≡ true)
unfolding receiver_in_range
parts r e = both (leb r.unread 1) (state_in_range r.format r.state) e

pub idle_receiver_in : receiver_in_range idle_receiver ≡ true
unfolding receiver_in_range
idle_receiver_in = refl

pub dropped_in : (r : ReceiverHalf) → receiver_in_range r ≡ true → receiver_in_range (dropped r) ≡ true
unfolding receiver_in_range
dropped_in r e = all (parts r e).0 refl

pub emptied_in : (r : ReceiverHalf) → receiver_in_range r ≡ true → receiver_in_range (emptied r) ≡ true
unfolding receiver_in_range
emptied_in r e = (parts r e).1

brought_in : (r : ReceiverHalf) (o : Option Arrival) → receiver_in_range r ≡ true → receiver_in_range (brought r o).half ≡ true
unfolding receiver_in_range
brought_in r None e = e
brought_in r (Some a) e = (parts r e).1

-- the format of a tick is in range, and is the one that a character under way has kept
format_in : (r : ReceiverHalf) (f : Format) → state_in_range r.format r.state ≡ true → in_range f ≡ true
    → (in_range (character_format r f) ≡ true) × (under_way r.state ≡ true → assembly_in_range (character_format r f) r.state ≡ true)
format_in r f e ok =
    each (λ (g : Format). (in_range g ≡ true) × (under_way r.state ≡ true → assembly_in_range g r.state ≡ true)) (under_way r.state)
    (λ u. let h = both _ _ (rw u at e) in (h.0, λ _. h.1))
    (λ u. (ok, λ t. absurd (omega (arith, ltb-true, ltb-false))))

hear_in : (r : ReceiverHalf) (f : Format) (x : Bool) → receiver_in_range r ≡ true → in_range f ≡ true
    → receiver_in_range (hear r (character_format r f) x).half ≡ true
unfolding receiver_in_range
hear_in r f x e ok =
    let g = character_format r f in
    let o = sample g r.state x r.tally in
    let h = format_in r f (parts r e).1 ok in
    brought_in (stepped r g o.next) o.heard (all (parts r e).0 (sample_in g h.0 r.state x r.tally h.1))

pub receive_in : (r : ReceiverHalf) (live : Bool) (f : Format) (x : Bool)
    → receiver_in_range r ≡ true → (live ≡ true → in_range f ≡ true)
    → receiver_in_range (receive r live f x).half ≡ true
unfolding receive receiver_in_range
receive_in r live f x e ok =
    each (λ (o : Received). receiver_in_range o.half ≡ true) live (λ l. hear_in (receiver_later 1 r) f x e (ok l)) (λ _. dropped_in (receiver_later 1 r) e)
