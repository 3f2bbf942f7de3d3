-- A way that stands is left as it is by any number of ticks, but for the tallies.
-- Assumes nothing.
use Prim.Native.Nat.{ℕ, zero, suc, ◌-◌}
use native.Mathlib.Omega.{arith}
use mathlib.Core.Path.{◌≡◌, refl, ap, ap₂, sym, ◌∙◌}
use mathlib.Core.Bool.{Bool, true, false, not, ◌&&◌}
use lib.Dec.{eqb}
use borrow.Author.Tests.{eqb-true}
use Rattle.line_rules.specs.declared.Format.{Format}
use Rattle.line_rules.specs.Sending.{bit, on}
use Rattle.line_rules.proofs.Choice.{not_so}
use Rattle.line_rules.proofs.Table.{both}
use Rattle.link_rules.specs.declared.SenderHalf.{SenderHalf}
use Rattle.link_rules.specs.declared.ReceiverHalf.{ReceiverHalf}
use Rattle.link_rules.specs.Parts.{sender_later, receiver_later}
use Rattle.link_rules.specs.Transmitting.{Sent, idle_tick, transmit}
use Rattle.link_rules.specs.Hearing.{receive}
use Rattle.link_rules.specs.Within.{clear}
use Rattle.link_rules.proofs.AtRest.{quietly, is_clear, stays, rest_stays}
use Rattle.way_rules.specs.declared.Ends.{Ends}
use Rattle.way_rules.specs.declared.Way.{Way}
use Rattle.way_rules.specs.Along.{received, sent_by, heard_by, way_tick, way_ticks}
use Rattle.way_rules.specs.Calm.{breaks, sender_stands, receiver_stands, way_stands, way_later}
use Rattle.way_rules.proofs.Later.{way_next}
use Rattle.way_rules.proofs.Senders.{break_tick_lem, rest_tick}

-- the sender's tick sends the level of its break or of its rest, and moves only the tally
pub sender_stands_lem : (e : Ends) (s : SenderHalf) → sender_stands s e.ready e.broken e.send.factor ≡ true
    → transmit s e.ready e.broken e.send ≡ idle_tick (sender_later 1 s) (not (breaks e)) s.guard
sender_stands_lem e s h = go (breaks e) refl
  where
    free : on s.frame.place ≡ false
    free = not_so _ (both (not (on s.frame.place)) _ h).0

    go : (b : Bool) → breaks e ≡ b → transmit s e.ready e.broken e.send ≡ idle_tick (sender_later 1 s) (not (breaks e)) s.guard
    go true b =
        let t = (both (not (on s.frame.place)) _ h).1 in
        let g : s.guard ≡ e.send.factor = eqb-true _ _ (rw b at t) in
        break_tick_lem e s free b ∙ ap₂ (λ (x : Bool) (k : ℕ). idle_tick (sender_later 1 s) (not x) k) (sym b) (sym g)
    go false b =
        let t = (both (not (on s.frame.place)) _ h).1 in
        let r = both (eqb s.guard 0) _ (rw b at t) in
        let g : s.guard ≡ 0 = eqb-true _ _ r.0 in
        rest_tick e s free b (ap on g) (not_so _ r.1)
        ∙ ap₂ (λ (x : Bool) (k : ℕ). idle_tick (sender_later 1 s) (not x) k) (sym b) (let q : s.guard - 1 ≡ s.guard = omega (arith, g) in q)

receiver_stands_lem : (r : ReceiverHalf) (live level : Bool) (f : Format) → receiver_stands r live level ≡ true → receive r live f level ≡ quietly (receiver_later 1 r)
receiver_stands_lem r live level f h =
    let t = both (clear r) _ h in
    let p : ℕ = bit (live && level) in
    rest_stays r p live level f (stays live level) (is_clear r p (eqb-true _ _ t.1) t.0)

tick_stands : (e : Ends) (w : Way) → way_stands e w ≡ true → way_tick e w ≡ way_later 1 w
unfolding way_stands way_tick
tick_stands e w h =
    let t = both (sender_stands w.sender e.ready e.broken e.send.factor) _ h in
    ap (λ (o : Sent). heard_by (sent_by e w o) (received e w o.level)) (sender_stands_lem e w.sender t.0)
    ∙ ap (heard_by (way_later 1 w)) (receiver_stands_lem w.receiver e.live (not (breaks e)) e.hear t.1)

-- .. and it stands on
stands_later : (e : Ends) (w : Way) → way_stands e w ≡ true → way_stands e (way_later 1 w) ≡ true
unfolding way_stands
stands_later e w h = h

pub way_stands_lem : (e : Ends) (n : ℕ) (w : Way) → way_stands e w ≡ true → way_ticks e n w ≡ way_later n w
way_stands_lem e zero w h = refl
way_stands_lem e (suc n) w h = ap (way_ticks e n) (tick_stands e w h) ∙ way_stands_lem e n (way_later 1 w) (stands_later e w h) ∙ way_next n w
