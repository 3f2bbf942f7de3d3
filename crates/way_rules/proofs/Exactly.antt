-- A tick that only counts is calm: of halves in range, one that does what skipping does is one of those that are skipped, so that none of them is left
-- to be done by itself.
-- Assumes nothing.
use Prim.Native.Nat.{ℕ, zero, suc, ◌+◌, ◌%◌, ◌≤◌, ◌<◌}
use native.Mathlib.Nat.{mod-eq_of_lt, mod-lt}
use native.Mathlib.Omega.{arith}
use mathlib.Core.Path.{◌≡◌, refl, ap, sym, ◌∙◌}
use mathlib.Core.Bool.{Bool, true, false, cond, ◌&&◌}
use lib.Dec.{ltb, leb, eqb}
use borrow.Author.Tests.{ltb-true, ltb-false, lt-ltb, eqb-true, eqb-false, eq-eqb, ne_eqb}
use Rattle.line_rules.specs.declared.Format.{Format}
use Rattle.line_rules.specs.declared.Receiver.{Receiver}
use Rattle.line_rules.specs.declared.RxC.{RxC}
use Rattle.line_rules.specs.declared.Sampled.{Sampled}
use Rattle.line_rules.specs.Sending.{bit, on, half, parity_bits, frame_length, part}
use Rattle.line_rules.specs.Receiving.{after_mark, quiet, searching, under, look_at, sample}
use Rattle.line_rules.specs.Clocks.{rx_later}
use Rattle.line_rules.specs.Range.{in_range, Bounds}
use Rattle.line_rules.proofs.Choice.{each, either}
use Rattle.line_rules.proofs.Ranges.{in_range_bounds}
use Rattle.line_rules.proofs.Table.{both}
use Rattle.link_rules.specs.declared.Frame.{Frame}
use Rattle.link_rules.specs.declared.SenderHalf.{SenderHalf}
use Rattle.link_rules.specs.declared.ReceiverHalf.{ReceiverHalf}
use Rattle.link_rules.specs.Transmitting.{frame_next, transmit}
use Rattle.link_rules.specs.Hearing.{Received, under_way, receive}
use Rattle.link_rules.specs.Within.{holding_in_range, busy_in_range, free_in_range, frame_in_range, countdown_in_range, value_in_range, wrong_in_range, assembly_in_range, state_in_range, sender_in_range, receiver_in_range}
use Rattle.link_rules.proofs.AtRest.{in_range_clear}
use Rattle.link_rules.proofs.Halves.{length_bound, frame_ends, off_leaves, receive_under, hear_state}
use Rattle.way_rules.specs.declared.Ends.{Ends}
use Rattle.way_rules.specs.declared.Way.{Way}
use Rattle.way_rules.specs.Along.{sent, way_tick}
use Rattle.way_rules.specs.Calm.{breaks, places_left, sender_calm, stopping, sender_level, sender_holds, sender_keeps, sender_moved, sender_skipped, receiver_calm, lowered, receiver_skipped, way_calm, way_skipped, Exactly}
use Rattle.way_rules.proofs.Branches.{least_above}
use Rattle.way_rules.proofs.Senders.{frame_calm}
use Rattle.way_rules.proofs.Ways.{skips}

-- == the sender ==

-- a frame under way, in range
record Busy (g : Frame) : Type 0 where
  format : Bounds g.format
  place : g.place < frame_length g.format

busy : (s : SenderHalf) → sender_in_range s ≡ true → on s.frame.place ≡ true → Busy s.frame
unfolding sender_in_range
busy s ok t =
    let g = s.frame in
    let p = both (holding_in_range s.full s.holding) (frame_in_range g s.guard) ok in
    let b = both (in_range g.format && ltb g.place (frame_length g.format)) _ (sym (ap (λ (b : Bool). cond b (busy_in_range g s.guard) (free_in_range g s.guard)) t) ∙ p.1) in
    let l = both (in_range g.format) _ b.0 in
    record { format = in_range_bounds _ l.0; place = ltb-true _ _ l.1 }

-- the last tick of a frame ends it: its place does not go on
frame_left : (g : Frame) → Busy g → (frame_next g).place ≡ (g.place + 1) % 65536 → 1 ≤ places_left g
frame_left g b h = go (ltb (suc g.place) (frame_length g.format)) refl
  where
    fits : frame_length g.format ≤ 768
    fits = length_bound g.format b.format

    go : (t : Bool) → ltb (suc g.place) (frame_length g.format) ≡ t → 1 ≤ places_left g
    go true t =
        let l : suc g.place < frame_length g.format = ltb-true _ _ t in
        omega (arith, least_above (frame_length g.format) 65536 (suc (suc g.place)) (omega arith) (omega (arith, fits)))
    go false t =
        let l : suc g.place ≡ frame_length g.format = omega (arith, ltb-false (suc g.place) (frame_length g.format) t, b.place) in
        let z : 0 ≡ (g.place + 1) % 65536 = sym (ap (λ (q : Frame). q.place) (frame_ends g.format g.character g.place fits l)) ∙ h in
        let m : (g.place + 1) % 65536 ≡ g.place + 1 = mod-eq_of_lt (omega (arith, fits)) in
        absurd (omega arith)

module _ (e : Ends) (s : SenderHalf) (ok : sender_in_range s ≡ true) where
  -- a level lasts for a tick that only counts: F is not 0
  holds_some : 1 ≤ sender_calm e s → 1 ≤ sender_holds e s
  unfolding sender_holds
  holds_some h =
      each (λ (k : ℕ). 1 ≤ k) (on s.frame.place)
      (λ t.
      let F = (busy s ok t).format.ticks in
      either (λ (k : ℕ). 1 ≤ k) (stopping s.frame) (omega (arith, frame_calm e s t)) (omega (arith, mod-lt s.frame.place F))) λ t.
      either (λ (k : ℕ). 1 ≤ k) (breaks e) (omega arith)
      (each (λ (k : ℕ). 1 ≤ k) (on s.guard) (λ g. ltb-true 0 s.guard g) (λ g. omega arith))

  keeps_some : 1 ≤ sender_calm e s → (p : ℕ) → p ≡ bit (sender_level e s) → 1 ≤ sender_keeps e s p
  unfolding sender_keeps
  keeps_some h p q = rw (eq-eqb _ _ q) (holds_some h)

  sender_calm_lem : (transmit s e.ready e.broken e.send).half ≡ sender_skipped e 1 s → 1 ≤ sender_calm e s
  unfolding transmit sender_skipped sender_moved sender_calm
  sender_calm_lem h = go (on s.frame.place) refl
    where
      by_full : on s.frame.place ≡ false → breaks e ≡ false → on s.guard ≡ false → (b : Bool) → (e.ready && on s.full) ≡ b → 1 ≤ sender_calm e s
      by_full t b g true w =
          let z : 0 ≡ s.full = ap (λ (q : SenderHalf). q.full) (rw (t, b, g, w) at h) in
          absurd (omega (arith, ltb-true 0 s.full (both e.ready _ w).1))
      by_full t b g false w = rw (t, b, g, w) (omega arith)

      by_guard : on s.frame.place ≡ false → breaks e ≡ false → (b : Bool) → on s.guard ≡ b → 1 ≤ sender_calm e s
      by_guard t b true g = rw (t, b, g) (ltb-true 0 s.guard g)
      by_guard t b false g = by_full t b g (e.ready && on s.full) refl

      by_break : on s.frame.place ≡ false → (b : Bool) → breaks e ≡ b → 1 ≤ sender_calm e s
      by_break t true b =
          let q : e.send.factor ≡ s.guard = ap (λ (q : SenderHalf). q.guard) (rw (t, b) at h) in
          rw (t, b, eq-eqb s.guard e.send.factor (sym q)) (omega arith)
      by_break t false b = by_guard t b (on s.guard) refl

      go : (b : Bool) → on s.frame.place ≡ b → 1 ≤ sender_calm e s
      go true t = rw t (frame_left s.frame (busy s ok t) (ap (λ (q : SenderHalf). q.frame.place) (rw t at h)))
      go false t = by_break t (breaks e) refl

-- == the receiver ==

-- a look leaves no character under way, or one whose next look is another
abbrev OtherLook : ℕ → Receiver → Type 0
OtherLook m s = s.phase ≡ 2 → s.look ≡ m → ⊥

look_moves : (f : Format) (m v w : ℕ) (x : Bool) (now : RxC) → OtherLook m (look_at f m v w x now).next
unfolding part
look_moves f zero v w true now = λ p l. omega arith
look_moves f zero v w false now = λ p l. omega arith
look_moves f (suc i) v w x now =
    either (λ (o : Sampled). OtherLook (suc i) o.next) (ltb i f.length) (λ p l. omega arith)
    (either (λ (o : Sampled). OtherLook (suc i) o.next) (ltb i (f.length + parity_bits f)) (λ p l. omega arith)
    (either (OtherLook (suc i)) x (λ p l. omega arith) (λ p l. omega arith)))

-- a tick that finds the countdown at 0 is a look
under_moves : (f : Format) (c m v w : ℕ) (x : Bool) (now : RxC) → (under f c m v w x now).next.phase ≡ 2 → (under f c m v w x now).next.look ≡ m → 1 ≤ c
under_moves f zero m v w x now p l = absurd (look_moves f m v w x now p l)
under_moves f (suc c) m v w x now p l = omega arith

-- a 0 begins a character, which is then under way
under_starts : (f : Format) (c : ℕ) (now : RxC) → (under f c 0 0 0 false now).next.phase ≡ 2
under_starts f zero now = refl
under_starts f (suc c) now = refl

-- one that waits is left in the phase of the level, and so is one that searches, as long as it searches
mark_phase : (x : Bool) → (after_mark x).phase ≡ bit x
mark_phase true = refl
mark_phase false = refl

search_phase : (f : Format) (x : Bool) (now : RxC) → (cond x (quiet searching) (under f (half f) 0 0 0 false now)).next.phase ≡ 1 → 1 ≡ bit x
search_phase f true now h = refl
search_phase f false now h = absurd (omega (arith, under_starts f (half f) now))

sample_waits : (f : Format) (s : Receiver) (x : Bool) (now : RxC) → s.phase ≡ 0 → sample f s x now ≡ quiet (after_mark x)
unfolding sample
sample_waits f s x now p = rw (eq-eqb s.phase 0 p)

sample_searches : (f : Format) (s : Receiver) (x : Bool) (now : RxC) → s.phase ≡ 1 → sample f s x now ≡ cond x (quiet searching) (under f (half f) 0 0 0 false now)
unfolding sample
sample_searches f s x now p = rw (ne_eqb s.phase 0 (λ z. omega arith), eq-eqb s.phase 1 p)

pub sample_under : (f : Format) (s : Receiver) (x : Bool) (now : RxC) → s.phase ≡ 2 → sample f s x now ≡ under f s.countdown s.look s.value s.wrong x now
unfolding sample
sample_under f s x now p = rw (ne_eqb s.phase 0 (λ z. omega arith), ne_eqb s.phase 1 (λ z. omega arith))

module _ (f : Format) (s : Receiver) (x : Bool) (now : RxC) (h : (sample f s x now).next.phase ≡ s.phase) where
  phase_same : (o : Sampled) → sample f s x now ≡ o → o.next.phase ≡ s.phase
  phase_same o e = sym (ap (λ (q : Sampled). q.next.phase) e) ∙ h

  -- a character under way whose next look stays is between two looks
  pub counts_down : (sample f s x now).next.look ≡ s.look → s.phase ≡ 2 → 1 ≤ s.countdown
  counts_down l p =
      let u = sample_under f s x now p in
      under_moves f s.countdown s.look s.value s.wrong x now (phase_same _ u ∙ p) (sym (ap (λ (o : Sampled). o.next.look) u) ∙ l)

  -- a phase that stays is that of the level
  pub stays_level : s.phase < 2 → s.phase ≡ bit x
  stays_level l = go (eqb s.phase 0) refl
    where
      go : (b : Bool) → eqb s.phase 0 ≡ b → s.phase ≡ bit x
      go true e = sym (phase_same _ (sample_waits f s x now (eqb-true _ _ e))) ∙ mark_phase x
      go false e =
          let p : s.phase ≡ 1 = omega (arith, eqb-false s.phase 0 e) in
          p ∙ search_phase f x now (phase_same _ (sample_searches f s x now p) ∙ p)

-- in range, what has no character under way is clear, and what has one is in phase 2
module _ (r : ReceiverHalf) (ok : receiver_in_range r ≡ true) where
  state_in : state_in_range r.format r.state ≡ true
  unfolding receiver_in_range
  state_in = (both (leb r.unread 1) (state_in_range r.format r.state) ok).1

  pub phase_in : 2 ≤ r.state.phase → r.state.phase ≡ 2
  phase_in l =
      let a = (both (in_range r.format) (assembly_in_range r.format r.state) (rw (lt-ltb 1 r.state.phase l) at state_in)).1 in
      let w = both _ (wrong_in_range r.format r.state.look r.state.wrong) a in
      let v = both _ (value_in_range r.format r.state.look r.state.value) w.0 in
      let c = both _ (countdown_in_range r.format r.state.look r.state.countdown) v.0 in
      eqb-true _ _ (both (eqb r.state.phase 2) _ c.0).0

  module _ (keeps : ℕ) where
    off_calm : 0 ≡ r.state.phase → 1 ≤ receiver_calm r false keeps
    unfolding receiver_calm
    off_calm p = rw (eq-eqb r.state.phase 0 (sym p), in_range_clear r ok (omega arith)) (omega arith)

    under_calm : r.state.phase ≡ 2 → 1 ≤ r.state.countdown → 1 ≤ receiver_calm r true keeps
    unfolding receiver_calm
    under_calm p c = rw (eq-eqb r.state.phase 2 p) c

    rest_calm : r.state.phase < 2 → 1 ≤ keeps → 1 ≤ receiver_calm r true keeps
    unfolding receiver_calm
    rest_calm l k = rw (ne_eqb r.state.phase 2 (λ z. omega arith), in_range_clear r ok l) k

    receiver_calm_lem : (live : Bool) (f : Format) (x : Bool) → (receive r live f x).half ≡ receiver_skipped 1 r → (r.state.phase ≡ bit x → 1 ≤ keeps) → 1 ≤ receiver_calm r live keeps
    receiver_calm_lem false f x h level = off_calm (sym (ap (λ (s : Receiver). s.phase) (off_leaves r f x).state) ∙ ap (λ (q : ReceiverHalf). q.state.phase) h)
    receiver_calm_lem true f x h level = go (under_way r.state) refl
      where
        now : RxC
        now = rx_later 1 r.tally

        next : (receive r true f x).half.state ≡ lowered r.state 1
        next = ap (λ (q : ReceiverHalf). q.state) h

        go : (b : Bool) → under_way r.state ≡ b → 1 ≤ receiver_calm r true keeps
        go true u =
            let p = phase_in (ltb-true 1 r.state.phase u) in
            let same = receive_under r r.format x u ∙ sym (receive_under r f x u) in
            let step = sym (hear_state r.format r x (rw u)) ∙ ap (λ (o : Received). o.half.state) same ∙ next in
            under_calm p (counts_down r.format r.state x now (ap (λ (q : Receiver). q.phase) step) (ap (λ (q : Receiver). q.look) step) p)
        go false u =
            let l : r.state.phase < 2 = omega (arith, ltb-false 1 r.state.phase u) in
            rest_calm l (level (stays_level f r.state x now (ap (λ (q : Receiver). q.phase) (sym (hear_state f r x (rw u)) ∙ next)) l))

-- == the way ==

pub only_counts_is_calm : (e : Ends) (w : Way) → sender_in_range w.sender ≡ true → receiver_in_range w.receiver ≡ true → way_tick e w ≡ way_skipped e 1 w → 1 ≤ way_calm e w
unfolding way_tick way_skipped way_calm
only_counts_is_calm e w s r h =
    let c = sender_calm_lem e w.sender s (ap (λ (q : Way). q.sender) h) in
    least_above _ _ 1
    (receiver_calm_lem w.receiver r (sender_keeps e w.sender w.receiver.state.phase) e.live e.hear (sent e w).level (ap (λ (q : Way). q.receiver) h)
    (keeps_some e w.sender s c w.receiver.state.phase))
    c

-- the calm ticks are those that only count, no fewer and no more
pub calm_exactly : (e : Ends) (w : Way) → sender_in_range w.sender ≡ true → receiver_in_range w.receiver ≡ true → Exactly e w
calm_exactly e w s r = record { counts = λ c. sym (skips e 1 w (omega arith) c); calm = only_counts_is_calm e w s r }
