-- A break and the guard behind it, and when a tick ends a frame with nothing waiting: document 01, "Sending, by transmit ticks".
-- Assumes nothing.
use Prim.Native.Nat.{ℕ, zero, suc, ◌+◌, ◌-◌}
use native.Mathlib.Omega.{arith}
use mathlib.Core.Path.{◌≡◌, refl, sym, ap, ◌∙◌}
use mathlib.Core.Bool.{Bool, true, false, cond, ◌&&◌, ◌||◌}
use mathlib.Core.List.{List, [], ◌∷◌}
use lib.Dec.{eqb}
use lib.ListN.{replicate}
use borrow.Author.Tests.{lt-ltb, eq-eqb, ltb-false}
use Rattle.line_rules.specs.declared.Format.{Format}
use Rattle.line_rules.specs.declared.TxC.{TxC}
use Rattle.line_rules.specs.Sending.{on}
use Rattle.line_rules.specs.Clocks.{tx_later}
use Rattle.line_rules.proofs.Clocks.{tx_later_later}
use Rattle.line_rules.proofs.Choice.{either, each}
use Rattle.link_rules.specs.declared.Frame.{Frame}
use Rattle.link_rules.specs.declared.SenderHalf.{SenderHalf}
use Rattle.link_rules.specs.Parts.{no_frame, with_guard, sender_later}
use Rattle.link_rules.specs.Transmitting.{Sent, next_place, frame_at, frame_next, frame_tick, begin_tick, break_tick, mark_tick, transmit}

-- == a break ==

-- where one may start and no frame is under way, a break sends 0 and sets a guard of F ticks
pub break_sends_0 : (s : SenderHalf) (f : Format) → on s.frame.place ≡ false
    → transmit s true true f ≡ record { half = with_guard (sender_later 1 s) f.factor; level = false; began = false; drained = false }
unfolding transmit
break_sends_0 s f t = rw t

-- what k ticks send that may start something and are told of no break, and what they leave
abbrev pub levels_of : Format → ℕ → SenderHalf → List Bool
levels_of f zero s = []
levels_of f (suc k) s = (transmit s true false f).level ∷ levels_of f k (transmit s true false f).half

abbrev pub half_after : Format → ℕ → SenderHalf → SenderHalf
half_after f zero s = s
half_after f (suc k) s = half_after f k (transmit s true false f).half

pub record Guarded (f : Format) (k : ℕ) (s : SenderHalf) : Type 0 where
  pub sends : levels_of f k s ≡ replicate k true
  pub leaves : half_after f k s ≡ with_guard (sender_later k s) 0

-- a guard of k stands for exactly k ticks of 1, whatever waits
pub guard_lasts : (f : Format) (k : ℕ) (s : SenderHalf) → on s.frame.place ≡ false → s.guard ≡ k → Guarded f k s
unfolding transmit
guard_lasts f zero s t e = record { sends = refl; leaves = ap (with_guard s) e }
guard_lasts f (suc k) s t e =
    let g : on s.guard ≡ true = ap on e ∙ lt-ltb 0 (suc k) (omega arith) in
    let c : SenderHalf = sender_later 1 s in
    let m : transmit s true false f ≡ mark_tick c = rw (t, g) in
    let w = guard_lasts f k (mark_tick c).half t (let q : s.guard - 1 ≡ k = omega (arith, e) in q) in
    record {
      sends = ap (λ (o : Sent). o.level ∷ levels_of f k o.half) m ∙ ap (λ (xs : List Bool). true ∷ xs) w.sends;
      leaves = ap (λ (o : Sent). half_after f k o.half) m ∙ w.leaves ∙ ap (λ (n : TxC). record { frame = s.frame; holding = s.holding; full = s.full; guard = 0; start = s.start; tally = n }) (tx_later_later k 1 s.tally ∙ ap (λ (n : ℕ). tx_later n s.tally) (let q : 1 + k ≡ suc k = omega arith in q));
    }

-- so behind a break come exactly F ticks of 1, and then the character that waits begins
pub starts_behind_a_break : (s : SenderHalf) (f : Format) → on s.frame.place ≡ false → on s.full ≡ true → let h = (transmit s true true f).half in
    (levels_of f f.factor h ≡ replicate f.factor true) × (transmit (half_after f f.factor h) true false f ≡ begin_tick (with_guard (sender_later (1 + f.factor + 1) s) 0) f)
unfolding transmit
starts_behind_a_break s f t w =
    let c : SenderHalf = sender_later 1 s in
    let b : (transmit s true true f).half ≡ with_guard c f.factor = ap (λ (o : Sent). o.half) (break_sends_0 s f t) in
    let g = guard_lasts f f.factor (with_guard c f.factor) t refl in (
      ap (levels_of f f.factor) b ∙ g.sends,
      ap (λ (h : SenderHalf). transmit (half_after f f.factor h) true false f) b
          ∙ ap (λ (h : SenderHalf). transmit h true false f) g.leaves ∙ rw (t, w)
          (ap (λ (n : TxC). begin_tick (record { frame = s.frame; holding = s.holding; full = s.full; guard = 0; start = s.start; tally = n }) f)
          (ap (tx_later 1) (tx_later_later f.factor 1 s.tally) ∙ tx_later_later 1 (1 + f.factor) s.tally)),
    )

-- == a frame's end ==

-- no frame is under way behind its last tick, and one is behind any other
place_after : (g : Frame) → eqb (frame_next g).place 0 ≡ eqb (next_place g.format g.place) 0
place_after g = go (on (next_place g.format g.place)) refl
  where
    go : (b : Bool) → on (next_place g.format g.place) ≡ b → eqb (frame_next g).place 0 ≡ eqb (next_place g.format g.place) 0
    go true e = ap (λ (b : Bool). eqb (cond b (frame_at g (next_place g.format g.place)) no_frame).place 0) e
    go false e =
        ap (λ (b : Bool). eqb (cond b (frame_at g (next_place g.format g.place)) no_frame).place 0) e
        ∙ sym (eq-eqb (next_place g.format g.place) 0 (omega (arith, ltb-false 0 (next_place g.format g.place) e)))

-- `drained` is told exactly at the tick that ends a frame with the holding register empty
pub drained_told : (s : SenderHalf) (ready broken : Bool) (f : Format) → let o = transmit s ready broken f in
    o.drained ≡ ((on s.frame.place || o.began) && eqb o.half.frame.place 0 && eqb o.half.full 0)
unfolding transmit
drained_told s ready broken f =
    let c : SenderHalf = sender_later 1 s in
    let P : Sent → Type 0 = λ o. o.drained ≡ ((on s.frame.place || o.began) && eqb o.half.frame.place 0 && eqb o.half.full 0) in
    each P (on s.frame.place) {x = frame_tick c s.frame false} (λ t. rw (t, place_after s.frame))
    λ t. either P (ready && broken) {x = break_tick c f} (rw t)
    (either P (on s.guard) {x = mark_tick c} (rw t)
    (either P (ready && on s.full) {x = begin_tick c f} {y = mark_tick c}
    (rw (t, place_after (record { character = s.holding; format = f; place = 0 }))) (rw t)))
