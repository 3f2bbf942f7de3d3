-- A sending half in range stays there, whatever a tick is told.
-- Assumes nothing.
use Prim.Native.Nat.{ℕ, ◌+◌, ◌-◌, ◌%◌, ◌≤◌}
use native.Mathlib.Omega.{arith}
use mathlib.Core.Path.{◌≡◌, refl, ap, sym, subst, ◌∙◌}
use mathlib.Core.Bool.{Bool, true, false, cond, ◌&&◌}
use lib.Dec.{ltb, leb, eqb}
use borrow.Author.Tests.{ltb-true, ltb-false, le-leb, leb-true, eqb-true}
use Rattle.line_rules.specs.declared.Format.{Format}
use Rattle.line_rules.specs.Sending.{on, frame_length}
use Rattle.line_rules.specs.Range.{in_range}
use Rattle.line_rules.proofs.Ranges.{in_range_bounds}
use Rattle.line_rules.proofs.Table.{both}
use Rattle.link_rules.specs.declared.Frame.{Frame}
use Rattle.link_rules.specs.declared.SenderHalf.{SenderHalf}
use Rattle.link_rules.specs.Parts.{idle_sender, loaded}
use Rattle.link_rules.specs.Transmitting.{Sent, next_place, frame_at, frame_next, transmit}
use Rattle.link_rules.specs.Within.{is_no_format, holding_in_range, busy_in_range, free_in_range, frame_in_range, sender_in_range}
use Rattle.line_rules.proofs.Choice.{each, all}

pub idle_sender_in : sender_in_range idle_sender ≡ true
unfolding sender_in_range
idle_sender_in = refl

pub loaded_in : (s : SenderHalf) (v : ℕ) → sender_in_range s ≡ true → sender_in_range (loaded s v) ≡ true
unfolding sender_in_range
loaded_in s v h = (both (holding_in_range s.full s.holding) (frame_in_range s.frame s.guard) h).1

-- == the frame ==

busy_in : (g : Frame) (k : ℕ) → on g.place ≡ true → frame_in_range g k ≡ true → busy_in_range g k ≡ true
busy_in g k t h = sym (ap (λ (b : Bool). cond b (busy_in_range g k) (free_in_range g k)) t) ∙ h

free_in : (g : Frame) (k : ℕ) → on g.place ≡ false → frame_in_range g k ≡ true → free_in_range g k ≡ true
free_in g k t h = sym (ap (λ (b : Bool). cond b (busy_in_range g k) (free_in_range g k)) t) ∙ h

of_busy : (g : Frame) (k : ℕ) → on g.place ≡ true → busy_in_range g k ≡ true → frame_in_range g k ≡ true
of_busy g k t h = ap (λ (b : Bool). cond b (busy_in_range g k) (free_in_range g k)) t ∙ h

of_free : (g : Frame) (k : ℕ) → on g.place ≡ false → free_in_range g k ≡ true → frame_in_range g k ≡ true
of_free g k t h = ap (λ (b : Bool). cond b (busy_in_range g k) (free_in_range g k)) t ∙ h

-- a place that follows is one of the frame's
next_in : (f : Format) (i : ℕ) → on (next_place f i) ≡ true → ltb (next_place f i) (frame_length f) ≡ true
next_in f i = each (λ (k : ℕ). on k ≡ true → ltb k (frame_length f) ≡ true) (ltb ((i + 1) % 65536) (frame_length f)) (λ t h. t) (λ t h. absurd (omega (arith, ltb-true 0 0 h)))

-- the frame after any tick of it: no guard stands
frame_next_in : (g : Frame) → in_range g.format ≡ true → frame_in_range (frame_next g) 0 ≡ true
frame_next_in g h =
    each (λ (q : Frame). frame_in_range q 0 ≡ true) (on (next_place g.format g.place))
    (λ t. of_busy (frame_at g (next_place g.format g.place)) 0 t (all (all h (next_in g.format g.place t)) refl))
    (λ t. refl)

-- == the tick ==

module _ (s : SenderHalf) (ready broken : Bool) (f : Format) (h : sender_in_range s ≡ true) (format : ready ≡ true → in_range f ≡ true) where
  abbrev In : Sent → Type 0
  In o = sender_in_range o.half ≡ true

  parts : (holding_in_range s.full s.holding ≡ true) × (frame_in_range s.frame s.guard ≡ true)
  unfolding sender_in_range
  parts = both (holding_in_range s.full s.holding) (frame_in_range s.frame s.guard) h

  under_way_lem : on s.frame.place ≡ true → frame_in_range (frame_next s.frame) s.guard ≡ true
  under_way_lem t =
      let b = both (in_range s.frame.format && ltb s.frame.place (frame_length s.frame.format)) (eqb s.guard 0) (busy_in s.frame s.guard t parts.1) in
      let l = both (in_range s.frame.format) (ltb s.frame.place (frame_length s.frame.format)) b.0 in
      subst (λ (k : ℕ). frame_in_range (frame_next s.frame) k ≡ true) (sym (eqb-true s.guard 0 b.1)) (frame_next_in s.frame l.0)

  -- a guard of at most 64 while no frame is under way
  guarded : (k : ℕ) → on s.frame.place ≡ false → k ≤ 64 → frame_in_range s.frame k ≡ true
  guarded k t l =
      let b = both (eqb s.frame.character 0 && is_no_format s.frame.format) (leb s.guard 64) (free_in s.frame s.guard t parts.1) in
      of_free s.frame k t (all b.0 (le-leb k 64 l))

  falls : on s.frame.place ≡ false → s.guard - 1 ≤ 64
  falls t =
      let b = both (eqb s.frame.character 0 && is_no_format s.frame.format) (leb s.guard 64) (free_in s.frame s.guard t parts.1) in
      omega (arith, leb-true s.guard 64 b.1)

  ready_of : (b : Bool) → (ready && b) ≡ true → in_range f ≡ true
  ready_of b t = format (both ready b t).0

  pub transmit_in : sender_in_range (transmit s ready broken f).half ≡ true
  unfolding transmit sender_in_range
  transmit_in =
      each In (on s.frame.place) (λ t. all parts.0 (under_way_lem t)) λ t.
      each In (ready && broken) (λ b. all parts.0 (guarded f.factor t (in_range_bounds f (ready_of broken b)).few)) λ b.
      each In (on s.guard) (λ k. all parts.0 (guarded (s.guard - 1) t (falls t))) λ k.
      let none : s.guard ≡ 0 = omega (arith, ltb-false 0 s.guard k) in
      each In (ready && on s.full)
      (λ w. subst (λ (g : ℕ). frame_in_range (frame_next (record { character = s.holding; format = f; place = 0 })) g ≡ true) (sym none) (frame_next_in (record { character = s.holding; format = f; place = 0 }) (ready_of (on s.full) w)))
      (λ w. all parts.0 (guarded (s.guard - 1) t (falls t)))
