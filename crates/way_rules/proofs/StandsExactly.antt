-- A way that a tick leaves as it is, but for the tallies, stands, where its receiver is in range: with `way_stands_lem`, the ways that stand are those that
-- no tick changes otherwise.
-- Assumes nothing.
use Prim.Native.Nat.{ℕ, zero, suc, ◌+◌, ◌-◌, ◌%◌, ◌≤◌, ◌<◌}
use native.Mathlib.Omega.{arith}
use mathlib.Core.Path.{◌≡◌, refl, ap, sym, ◌∙◌}
use mathlib.Core.Bool.{Bool, true, false, not, ◌&&◌}
use lib.Dec.{ltb}
use borrow.Author.Tests.{ltb-true, ltb-false, eq-eqb}
use Rattle.line_rules.specs.declared.Format.{Format}
use Rattle.line_rules.specs.declared.Receiver.{Receiver}
use Rattle.line_rules.specs.declared.RxC.{RxC}
use Rattle.line_rules.specs.declared.Sampled.{Sampled}
use Rattle.line_rules.specs.Sending.{on, frame_length}
use Rattle.line_rules.specs.Clocks.{rx_later}
use Rattle.line_rules.specs.Receiving.{under, sample}
use Rattle.line_rules.proofs.Choice.{either, all}
use Rattle.line_rules.proofs.Table.{both}
use Rattle.link_rules.specs.declared.Frame.{Frame}
use Rattle.link_rules.specs.declared.SenderHalf.{SenderHalf}
use Rattle.link_rules.specs.declared.ReceiverHalf.{ReceiverHalf}
use Rattle.link_rules.specs.Parts.{sender_later, receiver_later}
use Rattle.link_rules.specs.Transmitting.{Sent, next_place, frame_next, transmit}
use Rattle.link_rules.specs.Hearing.{Received, under_way, receive}
use Rattle.link_rules.specs.Within.{receiver_in_range}
use Rattle.link_rules.proofs.AtRest.{in_range_clear}
use Rattle.link_rules.proofs.Halves.{off_leaves, receive_under, hear_state}
use Rattle.way_rules.specs.declared.Ends.{Ends}
use Rattle.way_rules.specs.declared.Way.{Way}
use Rattle.way_rules.specs.Along.{sent, way_tick}
use Rattle.way_rules.specs.Calm.{breaks, sender_stands, receiver_stands, way_stands, way_later}
use Rattle.way_rules.proofs.Exactly.{sample_under, counts_down, stays_level, phase_in}
use Rattle.way_rules.proofs.Standing.{sender_stands_lem}

-- == the sender ==

-- a tick of a frame moves its place: to the one that follows, or to 0
frame_moves : (g : Frame) → on g.place ≡ true → (frame_next g).place ≡ g.place → ⊥
frame_moves g t =
    let p : 0 < g.place = ltb-true 0 g.place t in
    either (λ (q : Frame). q.place ≡ g.place → ⊥) (on (next_place g.format g.place))
    (either (λ (i : ℕ). i ≡ g.place → ⊥) (ltb ((g.place + 1) % 65536) (frame_length g.format)) (λ e. omega (arith, p, e)) (λ e. omega (arith, p, e)))
    (λ e. omega (arith, p, e))

abbrev Standing : Ends → SenderHalf → Type 0
Standing e s = sender_stands s e.ready e.broken e.send.factor ≡ true

-- no frame is under way; a break makes the guard F, any other guard falls, and a character that may start leaves its register
sender_unchanged : (e : Ends) (s : SenderHalf) → (transmit s e.ready e.broken e.send).half ≡ sender_later 1 s → Standing e s
unfolding transmit
sender_unchanged e s h = go (on s.frame.place) refl
  where
    by_full : on s.frame.place ≡ false → breaks e ≡ false → on s.guard ≡ false → (b : Bool) → (e.ready && on s.full) ≡ b → Standing e s
    by_full t b g true w =
        let z : 0 ≡ s.full = ap (λ (q : SenderHalf). q.full) (rw (t, b, g, w) at h) in
        absurd (omega (arith, ltb-true 0 s.full (both e.ready _ w).1))
    by_full t b g false w = rw (t, b, w, eq-eqb s.guard 0 (omega (arith, ltb-false 0 s.guard g)))

    by_guard : on s.frame.place ≡ false → breaks e ≡ false → (b : Bool) → on s.guard ≡ b → Standing e s
    by_guard t b true g =
        let k : s.guard - 1 ≡ s.guard = ap (λ (q : SenderHalf). q.guard) (rw (t, b, g) at h) in
        absurd (omega (arith, ltb-true 0 s.guard g))
    by_guard t b false g = by_full t b g (e.ready && on s.full) refl

    by_break : on s.frame.place ≡ false → (b : Bool) → breaks e ≡ b → Standing e s
    by_break t true b =
        let q : e.send.factor ≡ s.guard = ap (λ (q : SenderHalf). q.guard) (rw (t, b) at h) in
        rw (t, b) (eq-eqb s.guard e.send.factor (sym q))
    by_break t false b = by_guard t b (on s.guard) refl

    go : (b : Bool) → on s.frame.place ≡ b → Standing e s
    go true t = absurd (frame_moves s.frame t (ap (λ (q : SenderHalf). q.frame.place) (rw t at h)))
    go false t = by_break t (breaks e) refl

-- == the receiver ==

-- a tick between two looks lowers the countdown
under_lowers : (f : Format) (c m v w : ℕ) (x : Bool) (now : RxC) → 1 ≤ c → (under f c m v w x now).next.countdown ≡ c → ⊥
under_lowers f zero m v w x now l e = omega arith
under_lowers f (suc c) m v w x now l e = omega arith

-- a character under way is never left as it is
under_changes : (f : Format) (s : Receiver) (x : Bool) (now : RxC) → s.phase ≡ 2 → (sample f s x now).next ≡ s → ⊥
under_changes f s x now p h =
    under_lowers f s.countdown s.look s.value s.wrong x now
    (counts_down f s x now (ap (λ (q : Receiver). q.phase) h) (ap (λ (q : Receiver). q.look) h) p)
    (sym (ap (λ (o : Sampled). o.next.countdown) (sample_under f s x now p)) ∙ ap (λ (q : Receiver). q.countdown) h)

-- off it waits, on it is in the phase of the level, and in range it has no more than that
receiver_unchanged : (r : ReceiverHalf) → receiver_in_range r ≡ true → (live : Bool) (f : Format) (x : Bool) → (receive r live f x).half ≡ receiver_later 1 r → receiver_stands r live x ≡ true
receiver_unchanged r ok false f x h =
    let p : 0 ≡ r.state.phase = sym (ap (λ (s : Receiver). s.phase) (off_leaves r f x).state) ∙ ap (λ (q : ReceiverHalf). q.state.phase) h in
    all (in_range_clear r ok (omega arith)) (eq-eqb r.state.phase 0 (sym p))
receiver_unchanged r ok true f x h = go (under_way r.state) refl
  where
    now : RxC
    now = rx_later 1 r.tally

    next : (receive r true f x).half.state ≡ r.state
    next = ap (λ (q : ReceiverHalf). q.state) h

    go : (b : Bool) → under_way r.state ≡ b → receiver_stands r true x ≡ true
    go true u =
        let same = receive_under r r.format x u ∙ sym (receive_under r f x u) in
        let step = sym (hear_state r.format r x (rw u)) ∙ ap (λ (o : Received). o.half.state) same ∙ next in
        absurd (under_changes r.format r.state x now (phase_in r ok (ltb-true 1 r.state.phase u)) step)
    go false u =
        let l : r.state.phase < 2 = omega (arith, ltb-false 1 r.state.phase u) in
        all (in_range_clear r ok l) (eq-eqb _ _ (stays_level f r.state x now (ap (λ (q : Receiver). q.phase) (sym (hear_state f r x (rw u)) ∙ next)) l))

-- == the way ==

-- a sender that stands sends the level of its break or of its rest, and the receiver stands on that
pub unchanged_stands : (e : Ends) (w : Way) → receiver_in_range w.receiver ≡ true → way_tick e w ≡ way_later 1 w → way_stands e w ≡ true
unfolding way_tick way_stands
unchanged_stands e w ok h =
    let s = sender_unchanged e w.sender (ap (λ (q : Way). q.sender) h) in
    let level : (sent e w).level ≡ not (breaks e) = ap (λ (o : Sent). o.level) (sender_stands_lem e w.sender s) in
    let r = receiver_unchanged w.receiver ok e.live e.hear (sent e w).level (ap (λ (q : Way). q.receiver) h) in
    all s (sym (ap (receiver_stands w.receiver e.live) level) ∙ r)
