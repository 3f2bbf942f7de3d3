-- A receiver in step with a frame stays so from look to look: whole bits pass at once.
-- Assumes nothing.
use Prim.Native.Nat.{ℕ, zero, suc, ◌+◌, ◌*◌, ◌-◌, ◌^◌, ◌/◌, ◌%◌, ◌≤◌, ◌<◌}
use native.Mathlib.Nat.{add-zero, mul-zero, pow-suc, mod-le, mod-eq_of_lt, mod-one}
use native.Mathlib.Omega.{arith}
use mathlib.Core.Path.{◌≡◌, refl, ap, ap₂, sym, ◌∙◌}
use mathlib.Core.Bool.{Bool, true, false, ◌&&◌}
use lib.Dec.{ltb, eqb}
use lib.Pow.{pow_pos}
use borrow.Author.Tests.{eqb-true, ltb-true, ltb-false, lt-ltb}
use Rattle.line_rules.specs.declared.Format.{Format}
use Rattle.line_rules.specs.declared.Receiver.{Receiver}
use Rattle.line_rules.specs.declared.RxC.{RxC}
use Rattle.line_rules.specs.Sending.{bit, on, differ, half, parity_bits, frame_length, cut, parity_bit, bit_at, level_of, level, or_set}
use Rattle.line_rules.specs.Receiving.{assembling, quiet, with_bit, look_next, sample}
use Rattle.line_rules.specs.Sees.{Alike}
use Rattle.line_rules.proofs.Parts.{part_data, part_parity}
use Rattle.line_rules.proofs.ReadBack.{bit_eqb, mod_double, same}
use Rattle.line_rules.proofs.Flight.{alike_sees}
use Rattle.line_rules.proofs.Table.{both}
use Rattle.link_rules.specs.declared.Frame.{Frame}
use Rattle.link_rules.specs.declared.SenderHalf.{SenderHalf}
use Rattle.link_rules.specs.declared.ReceiverHalf.{ReceiverHalf}
use Rattle.link_rules.specs.Parts.{with_frame, sender_later, receiver_later}
use Rattle.link_rules.specs.Transmitting.{Sent, frame_at, frame_tick}
use Rattle.link_rules.specs.Hearing.{after_sample, receive}
use Rattle.link_rules.proofs.AtRest.{quietly}
use Rattle.link_rules.proofs.Halves.{transmit_under, receive_under}
use Rattle.way_rules.specs.declared.Ends.{Ends}
use Rattle.way_rules.specs.declared.Way.{Way}
use Rattle.way_rules.specs.Parts.{with_sender, with_receiver, with_state}
use Rattle.way_rules.specs.Along.{received, sent_by, heard_by, way_tick, way_ticks}
use Rattle.way_rules.specs.Calm.{least, places_left, sender_calm, sender_keeps, heard_calm, way_calm, way_skipped, way_later}
use Rattle.way_rules.specs.Leap.{last_look, so_far, same_bits, both_busy, in_step, fly_at, leap_ticks, Ahead}
use Rattle.way_rules.proofs.Branches.{least_both, least_above, least_first, least_second}
use Rattle.way_rules.proofs.Later.{sender_later_lem, receiver_later_lem}
use Rattle.way_rules.proofs.Senders.{at, within, moves, frame_is, frame_stays, skips_frame, frame_calm}
use Rattle.way_rules.proofs.Receivers.{looks_calm}
use Rattle.way_rules.proofs.Ways.{skips, ticks_add}

-- == the lowest bits of a number, one more ==

one_more : (c i : ℕ) → c % 2 ^ i + bit (bit_at c i) * 2 ^ i ≡ c % 2 ^ suc i
one_more c i =
    ap (λ (x : ℕ). c % 2 ^ i + x * 2 ^ i) (bit_eqb (c / 2 ^ i % 2) (omega arith))
    ∙ sym (mod_double c (2 ^ i) (pow_pos i))
    ∙ ap (λ (x : ℕ). c % x) (sym (pow-suc 2 i))

-- == a look ==

module _ (g : Format) (c : ℕ) (byte : c < 256) where
  abbrev flown : ℕ → ℕ → Receiver
  flown m k = assembling k m (so_far g c m) 0

  in_data : (i : ℕ) → i < g.length → with_bit (so_far g c (suc i)) i (bit_at c i) ≡ so_far g c (suc (suc i))
  in_data i h =
      let a : least (suc i - 1) g.length ≡ i = least_first (suc i - 1) g.length (omega arith) ∙ (let q : suc i - 1 ≡ i = omega arith in q) in
      let b : least (suc (suc i) - 1) g.length ≡ suc i = next (ltb (suc i) g.length) refl in
      ap (λ (n : ℕ). (c % 2 ^ n + bit (bit_at c i) * 2 ^ i) % 256) a
      ∙ ap (λ (n : ℕ). n % 256) (one_more c i)
      ∙ mod-eq_of_lt (omega (arith, mod-le c (2 ^ suc i)))
      ∙ ap (λ (n : ℕ). c % 2 ^ n) (sym b)
    where
      next : (t : Bool) → ltb (suc i) g.length ≡ t → least (suc (suc i) - 1) g.length ≡ suc i
      next true e = least_first (suc (suc i) - 1) g.length (omega (arith, ltb-true (suc i) g.length e)) ∙ (let q : suc (suc i) - 1 ≡ suc i = omega arith in q)
      next false e = least_second (suc (suc i) - 1) g.length (omega (arith, ltb-false (suc i) g.length e)) ∙ (let q : g.length ≡ suc i = omega (arith, ltb-false (suc i) g.length e) in q)

  all_data : (m : ℕ) → g.length < m → so_far g c m ≡ cut g c
  all_data m h = ap (λ (n : ℕ). c % 2 ^ n) (least_second (m - 1) g.length (omega arith))

  none_yet : so_far g c 1 ≡ 0
  none_yet = ap (λ (n : ℕ). c % 2 ^ n) (go (ltb 0 g.length) refl) ∙ mod-one c
    where
      go : (t : Bool) → ltb 0 g.length ≡ t → least 0 g.length ≡ 0
      go true e = rw e
      go false e = rw e (let q : g.length ≡ 0 = omega (arith, ltb-false 0 g.length e) in q)

  -- a look that sees its bit, before the stop's, goes on to the next
  looks_on : (m : ℕ) (now : RxC) → m ≤ g.length + parity_bits g → sample g (flown m 0) (level_of g c m) now ≡ quiet (flown (suc m) (g.factor - 1))
  unfolding sample
  looks_on zero now h = ap (λ (v : ℕ). quiet (assembling (g.factor - 1) 1 v 0)) (sym none_yet)
  looks_on (suc i) now h = go (ltb i g.length) refl
    where
      go : (t : Bool) → ltb i g.length ≡ t → sample g (flown (suc i) 0) (level_of g c (suc i)) now ≡ quiet (flown (suc (suc i)) (g.factor - 1))
      go true e =
          let l : i < g.length = ltb-true i g.length e in
          part_data g i _ _ _ l
          ∙ ap (λ (x : Bool). look_next g (suc (suc i)) (with_bit (so_far g c (suc i)) i x) 0) (part_data g i _ _ _ l)
          ∙ ap (λ (v : ℕ). look_next g (suc (suc i)) v 0) (in_data i l)
      go false e =
          let l : g.length ≤ i = ltb-false i g.length e in
          part_parity g i _ _ _ l (omega arith)
          ∙ ap₂ (λ (x : Bool) (v : ℕ). look_next g (suc (suc i)) v (bit (differ x (parity_bit g v)))) (part_parity g i _ _ _ l (omega arith)) (all_data (suc i) (omega arith))
          ∙ ap₂ (λ (x : Bool) (v : ℕ). look_next g (suc (suc i)) v (bit x)) (same (parity_bit g (cut g c))) (sym (all_data (suc (suc i)) (omega arith)))

-- == the way ==

-- the halves that fly, k ticks on
abbrev sends : Way → ℕ → SenderHalf
sends w k = (fly_at w k 0 0).sender

abbrev flies : Way → ℕ → ℕ → ℕ → ReceiverHalf
flies w k m n = (fly_at w k m n).receiver

module _ (e : Ends) (w : Way) (live : e.live ≡ true) (byte : w.sender.frame.character < 256) (pos : 0 < w.receiver.format.factor)
    (alike : Alike w.sender.frame.format w.receiver.format) where
  abbrev g : Format
  g = w.receiver.format

  abbrev f : Format
  f = w.sender.frame.format

  abbrev c : ℕ
  c = w.sender.frame.character

  -- the place k ticks on
  abbrev i : ℕ → ℕ
  i k = w.sender.frame.place + k

  -- .. and the places that are left after it
  abbrev left : ℕ → ℕ
  left k = places_left (frame_at w.sender.frame (i k))

  -- n more
  sends_on : (k n : ℕ) → sender_later n (at (sends w k) (i k + n)) ≡ sends w (k + n)
  sends_on k n =
      sender_later_lem n k (at w.sender (i k + n))
      ∙ ap (λ (j : ℕ). sender_later (k + n) (at w.sender j)) (let q : i k + n ≡ i (k + n) = omega arith in q)

  -- up to the look
  gap : (k m n : ℕ) → on (i k) ≡ true → n ≤ left k → way_ticks e n (fly_at w k m n) ≡ fly_at w (k + n) m 0
  unfolding way_skipped way_calm
  gap k m zero t h = ap (λ (j : ℕ). fly_at w j m 0) (sym (add-zero k))
  gap k m (suc n) t h =
      sym (skips e (suc n) (fly_at w k m (suc n)) (omega arith) calm)
      ∙ ap₂ (λ (s : SenderHalf) (r : ReceiverHalf). record { sender = s; receiver = r; empty = w.empty; faults = w.faults })
      (skips_frame e (sends w k) (suc n) t
      ∙ ap (λ (j : ℕ). sender_later (suc n) (at (sends w k) j)) (moves (frame_at w.sender.frame (i k)) n h)
      ∙ sends_on k (suc n))
      (ap (λ (j : ℕ). receiver_later (suc n) (flies w k m j)) (let q : suc n - suc n ≡ 0 = omega arith in q) ∙ receiver_later_lem (suc n) k (flies w 0 m 0))
    where
      calm : suc n ≤ way_calm e (fly_at w k m (suc n))
      calm =
          least_above (heard_calm e (fly_at w k m (suc n))) (sender_calm e (sends w k)) (suc n)
          (omega (arith, looks_calm (flies w k m (suc n)) e.live (sender_keeps e (sends w k) 2) live refl))
          (omega (arith, frame_calm e (sends w k) t))

  -- what the look's sample brings
  hears : (k m : ℕ) → m ≤ g.length + parity_bits g → receive (flies w k m 0) e.live e.hear (level_of g c m) ≡ quietly (flies w (k + 1) (suc m) (g.factor - 1))
  hears k m h =
      let r : ReceiverHalf = receiver_later 1 (flies w k m 0) in
      ap (λ (b : Bool). receive (flies w k m 0) b e.hear (level_of g c m)) live
      ∙ receive_under (flies w k m 0) e.hear (level_of g c m) refl
      ∙ ap (after_sample r g) (looks_on g c byte m r.tally h)
      ∙ ap quietly (receiver_later_lem 1 k (flies w 0 (suc m) (g.factor - 1)))

  -- the look itself
  look : (k m : ℕ) → on (i k) ≡ true → i k ≡ half g + g.factor * m → m ≤ g.length + parity_bits g → 1 ≤ left k
      → way_tick e (fly_at w k m 0) ≡ fly_at w (k + 1) (suc m) (g.factor - 1)
  unfolding way_tick
  look k m t p h l =
      let s : SenderHalf = sends w k in
      let now : SenderHalf = sender_later 1 s in
      let v : Way = fly_at w k m 0 in
      let sees : level f c (i k) ≡ level_of g c m = ap (level f c) p ∙ (alike_sees f g c pos alike).looks m (omega arith) in
      ap (λ (o : Sent). heard_by (sent_by e v o) (received e v o.level)) (transmit_under s e.ready e.broken e.send t)
      ∙ ap (λ (x : Bool). heard_by (sent_by e v (frame_tick now s.frame false)) (received e v x)) sees
      ∙ ap (heard_by (sent_by e v (frame_tick now s.frame false))) (hears k m h)
      ∙ ap₂ (λ (q : Frame) (z : Bool). record { sender = with_frame now q; receiver = flies w (k + 1) (suc m) (g.factor - 1); empty = or_set (z && e.enabled) w.empty; faults = w.faults })
      (frame_is s l) (frame_stays s l)
      ∙ ap (with_sender (fly_at w (k + 1) (suc m) (g.factor - 1))) (sends_on k 1)

  -- a whole bit
  one_bit : (k m : ℕ) → on (i k) ≡ true → i k ≡ half g + g.factor * m → m ≤ g.length + parity_bits g → g.factor ≤ left k
      → way_ticks e g.factor (fly_at w k m 0) ≡ fly_at w (k + g.factor) (suc m) 0
  one_bit k m t p h l =
      let b = within (frame_at w.sender.frame (i k)) (g.factor - 1) (omega arith) in
      let d = least_both (frame_length f) 65536 in
      ap (λ (n : ℕ). way_ticks e n (fly_at w k m 0)) (let q : g.factor ≡ suc (g.factor - 1) = omega arith in q)
      ∙ ap (way_ticks e (g.factor - 1)) (look k m t p h (omega arith))
      ∙ gap (k + 1) (suc m) (g.factor - 1) (lt-ltb 0 (i (k + 1)) (omega arith)) (omega arith)
      ∙ ap (λ (j : ℕ). fly_at w j (suc m) 0) (let q : k + 1 + (g.factor - 1) ≡ k + g.factor = omega arith in q)

  -- q of them
  bits : (q k m : ℕ) → on (i k) ≡ true → i k ≡ half g + g.factor * m → m + q ≤ last_look g → g.factor * q ≤ left k
      → way_ticks e (g.factor * q) (fly_at w k m 0) ≡ fly_at w (k + g.factor * q) (m + q) 0
  bits zero k m t p h l =
      ap (λ (n : ℕ). way_ticks e n (fly_at w k m 0)) (mul-zero g.factor)
      ∙ ap₂ (λ (j n : ℕ). fly_at w j n 0) (let r : k ≡ k + g.factor * 0 = omega arith in r) (sym (add-zero m))
  bits (suc q) k m t p h l =
      ap (λ (n : ℕ). way_ticks e n (fly_at w k m 0)) (let r : g.factor * suc q ≡ g.factor + g.factor * q = omega arith in r)
      ∙ ticks_add e g.factor (g.factor * q) (fly_at w k m 0)
      ∙ ap (way_ticks e (g.factor * q)) (one_bit k m t p (omega arith) (omega arith))
      ∙ bits q (k + g.factor) (suc m) (lt-ltb 0 (i (k + g.factor)) (omega arith)) (omega arith) (omega arith) (omega arith)
      ∙ ap₂ (λ (j n : ℕ). fly_at w j n 0) (let r : k + g.factor + g.factor * q ≡ k + g.factor * suc q = omega arith in r) (let r : suc m + q ≡ m + suc q = omega arith in r)

-- == the leap ==

-- a way k ticks on whose receiver has a character under way, no wrong parity and the bits so far
pub flies_as : (w : Way) (k m n v : ℕ) → w.receiver.state.phase ≡ 2 → w.receiver.state.wrong ≡ 0 → v ≡ so_far w.receiver.format w.sender.frame.character m
    → way_later k
    (record {
      sender = at w.sender (w.sender.frame.place + k);
      receiver = with_state (record { phase = w.receiver.state.phase; countdown = n; value = v; wrong = w.receiver.state.wrong; look = m }) w.receiver.format w.receiver;
      empty = w.empty;
      faults = w.faults;
    })
    ≡ fly_at w k m n
flies_as w k m n v p z e =
    let W : ℕ → ℕ → ℕ → Way = λ a x y.
    with_receiver (fly_at w k m n) (receiver_later k (with_state (record { phase = a; countdown = n; value = x; wrong = y; look = m }) w.receiver.format w.receiver)) in
    ap (λ (a : ℕ). W a v w.receiver.state.wrong) p
    ∙ ap (λ (x : ℕ). W 2 x w.receiver.state.wrong) e
    ∙ ap (W 2 (so_far w.receiver.format w.sender.frame.character m)) z

-- what being in step says
pub record InStep (w : Way) : Type 0 where
  pub same_bits_lem : same_bits w.sender.frame.format w.receiver.format ≡ true
  pub place : w.sender.frame.place + w.receiver.state.countdown ≡ half w.receiver.format + w.receiver.format.factor * w.receiver.state.look
  pub wrong : w.receiver.state.wrong ≡ 0
  pub value : w.receiver.state.value ≡ so_far w.receiver.format w.sender.frame.character w.receiver.state.look

pub step_parts : (w : Way) → in_step w ≡ true → InStep w
unfolding in_step
step_parts w h =
    let placed : Bool = eqb (w.sender.frame.place + w.receiver.state.countdown) (half w.receiver.format + w.receiver.format.factor * w.receiver.state.look) in
    let x = both (same_bits w.sender.frame.format w.receiver.format && placed && eqb w.receiver.state.wrong 0) _ h in
    let y = both (same_bits w.sender.frame.format w.receiver.format && placed) _ x.0 in
    let z = both (same_bits w.sender.frame.format w.receiver.format) placed y.0 in
    record { same_bits_lem = z.0; place = eqb-true _ _ z.1; wrong = eqb-true _ _ y.1; value = eqb-true _ _ x.1 }

in_step_is : (w : Way) → both_busy w ≡ true → in_step w ≡ true → w ≡ fly_at w 0 w.receiver.state.look w.receiver.state.countdown
in_step_is w b h =
    let s = step_parts w h in
    let p = both (on w.sender.frame.place) (eqb w.receiver.state.phase 2) b in
    ap (λ (i : ℕ). with_sender w (at w.sender i)) (sym (add-zero w.sender.frame.place))
    ∙ flies_as w 0 w.receiver.state.look w.receiver.state.countdown w.receiver.state.value (eqb-true w.receiver.state.phase 2 p.1) s.wrong s.value

alike_is : (f g : Format) → same_bits f g ≡ true → Alike f g
alike_is f g h =
    let x = both (eqb f.factor g.factor && eqb f.length g.length && eqb f.parity g.parity) _ h in
    let y = both (eqb f.factor g.factor && eqb f.length g.length) _ x.0 in
    let z = both (eqb f.factor g.factor) _ y.0 in
    record { factor = eqb-true _ _ z.0; length = eqb-true _ _ z.1; parity = ap on (eqb-true f.parity g.parity y.1); kind = λ e. ap on (eqb-true f.even g.even x.1) }

-- to the look q after the next
pub leaps : (e : Ends) (w : Way) (q : ℕ) → e.live ≡ true → w.sender.frame.character < 256 → both_busy w ≡ true → in_step w ≡ true
    → Ahead w (places_left w.sender.frame) q
    → way_ticks e (leap_ticks w q) w ≡ fly_at w (leap_ticks w q) (w.receiver.state.look + q) 0
leaps e w q live byte busy step a =
    let i : ℕ = w.sender.frame.place in
    let n : ℕ = w.receiver.state.countdown in
    let m : ℕ = w.receiver.state.look in
    let F : ℕ = w.receiver.format.factor in
    let t = (both (on i) (eqb w.receiver.state.phase 2) busy).0 in
    let d = least_both (frame_length w.sender.frame.format) 65536 in
    ap (way_ticks e (leap_ticks w q)) (in_step_is w busy step)
    ∙ ticks_add e n (F * q) (fly_at w 0 m n)
    ∙ ap (way_ticks e (F * q)) (gap e w live byte a.some alike 0 m n (lt-ltb 0 (i + 0) (omega (arith, ltb-true 0 i t))) (omega (arith, a.ticks)))
    ∙ bits e w live byte a.some alike q (0 + n) m (lt-ltb 0 (i + (0 + n)) (omega (arith, ltb-true 0 i t))) (omega (arith, placed)) a.looks (omega (arith, a.ticks))
    ∙ ap (λ (j : ℕ). fly_at w j (m + q) 0) (let r : 0 + n + F * q ≡ n + F * q = omega arith in r)
  where
    alike : Alike w.sender.frame.format w.receiver.format
    alike = alike_is _ _ (step_parts w step).same_bits_lem

    placed : w.sender.frame.place + w.receiver.state.countdown ≡ half w.receiver.format + w.receiver.format.factor * w.receiver.state.look
    placed = (step_parts w step).place
