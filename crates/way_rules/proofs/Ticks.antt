-- The level that a sender's next tick sends, and for how many ticks the line keeps it, by what the sender does.
-- Assumes nothing.
use Prim.Native.Nat.{ℕ}
use native.Mathlib.Nat.{zero-div}
use mathlib.Core.Path.{◌≡◌, refl, ap, ap₂, sym, ◌∙◌}
use mathlib.Core.Bool.{Bool, true, false, cond, not, ◌&&◌}
use lib.Dec.{eqb}
use Rattle.line_rules.specs.Sending.{bit, on, level_of, level}
use Rattle.link_rules.specs.declared.SenderHalf.{SenderHalf}
use Rattle.link_rules.specs.Parts.{sender_later}
use Rattle.link_rules.specs.Transmitting.{Sent, begin_tick, transmit}
use Rattle.link_rules.proofs.Halves.{transmit_under}
use Rattle.way_rules.specs.declared.Ends.{Ends}
use Rattle.way_rules.specs.Calm.{breaks, sender_holds, sender_keeps}
use Rattle.way_rules.proofs.Senders.{break_tick_lem, guard_tick, rest_tick}

module _ (e : Ends) (s : SenderHalf) where
  begin_tick_lem : on s.frame.place ≡ false → breaks e ≡ false → on s.guard ≡ false → (e.ready && on s.full) ≡ true → transmit s e.ready e.broken e.send ≡ begin_tick (sender_later 1 s) e.send
  unfolding transmit
  begin_tick_lem t b g w = rw (t, b, g, w)

  abbrev ticked : Sent
  ticked = transmit s e.ready e.broken e.send

  pub frame_levels : (x : Bool) → on s.frame.place ≡ true → x ≡ level s.frame.format s.frame.character s.frame.place → x ≡ ticked.level
  frame_levels x t h = h ∙ sym (ap (λ (o : Sent). o.level) (transmit_under s e.ready e.broken e.send t))

  pub break_level : on s.frame.place ≡ false → breaks e ≡ true → false ≡ ticked.level
  break_level t b = sym (ap (λ (o : Sent). o.level) (break_tick_lem e s t b))

  pub guard_level : on s.frame.place ≡ false → breaks e ≡ false → on s.guard ≡ true → true ≡ ticked.level
  guard_level t b g = sym (ap (λ (o : Sent). o.level) (guard_tick e s t b g))

  -- a start is 0, and where none begins 1 is sent
  pub rest_level : on s.frame.place ≡ false → breaks e ≡ false → on s.guard ≡ false → not (e.ready && on s.full) ≡ ticked.level
  rest_level t b g = go (e.ready && on s.full) refl
    where
      go : (w : Bool) → (e.ready && on s.full) ≡ w → not w ≡ ticked.level
      go true w = sym (ap (λ (o : Sent). o.level) (begin_tick_lem t b g w) ∙ ap (level_of e.send s.holding) (zero-div e.send.factor))
      go false w = sym (ap (λ (o : Sent). o.level) (rest_tick e s t b g w))

  -- what the line keeps, by the level and its ticks
  pub keeps_as : (p : ℕ) (x : Bool) (m : ℕ) → x ≡ ticked.level → sender_holds e s ≡ m → cond (eqb p (bit x)) m 0 ≡ sender_keeps e s p
  unfolding sender_keeps
  keeps_as p x m l h = ap₂ (λ (y : Bool) (k : ℕ). cond (eqb p (bit y)) k 0) l (sym h)
