-- Delivery from a sending half to a receiving half: a tick, a write and a read keep what demand 3 promises of one way of the line.
-- The times of the writes decide everything: a frame begins once it is written and the one before it is over.
-- Assumes nothing.
use Prim.Native.Nat.{ℕ, suc, ◌+◌, ◌*◌, ◌/◌, ◌%◌, ◌^◌, ◌≤◌, ◌<◌, max}
use native.Mathlib.Omega.{arith}
use mathlib.Core.Path.{◌≡◌, refl, ap, ap₂, sym, subst, ◌∙◌}
use mathlib.Core.Bool.{Bool, true, false, cond, not, ◌&&◌}
use mathlib.Core.List.{List, [], ◌∷◌, map}
use lib.Dec.{ltb, eqb}
use borrow.Author.Tests.{ltb-true, ltb-false, lt-ltb, le-ltb}
use Rattle.std.specs.Prelude.{Option, Some}
use Rattle.line_rules.specs.declared.Arrival.{Arrival}
use Rattle.line_rules.specs.declared.Format.{Format}
use Rattle.line_rules.specs.declared.Receiver.{Receiver}
use Rattle.line_rules.specs.declared.TxC.{TxC}
use Rattle.line_rules.specs.declared.RxC.{RxC}
use Rattle.line_rules.specs.Sending.{bit, on, cut, frame_length, stop_sample, level, listed}
use Rattle.line_rules.specs.Range.{Bounds}
use Rattle.line_rules.specs.Clocks.{tx_later, rx_later, no_txc}
use Rattle.line_rules.specs.declared.Sampled.{Sampled}
use Rattle.line_rules.specs.Receiving.{searching, quiet, sample, after}
use Rattle.line_rules.specs.Sees.{Alike}
use Rattle.line_rules.proofs.Clocks.{rx_later_later}
use Rattle.line_rules.proofs.Frames.{level_stop}
use Rattle.line_rules.proofs.Samples.{sample_mark}
use Rattle.line_rules.proofs.Flight.{alike_sees, flies, lands, after_next}
use Rattle.link_rules.specs.declared.Frame.{Frame}
use Rattle.link_rules.specs.declared.SenderHalf.{SenderHalf}
use Rattle.link_rules.specs.declared.ReceiverHalf.{ReceiverHalf}
use Rattle.link_rules.specs.Parts.{no_frame, loaded, emptied, receiver_later}
use Rattle.link_rules.specs.Transmitting.{Sent, frame_next, transmit}
use Rattle.link_rules.specs.Hearing.{Received, stepped, holds, arrives, after_sample, receive}
use Rattle.link_rules.proofs.Halves.{transmit_under, length_bound, frame_of, frame_goes_on, frame_ends, Tuned, stepped_tuned, receive_is}
use Rattle.delivery.specs.Log.{Entry, Way, nothing_yet, log_write, log_arrival, log_read}
use Rattle.delivery.specs.OneWay.{latest}
use Rattle.delivery.specs.Promise
use Rattle.delivery.specs.Promise.{over, has_begun, Answers, Answered, nothing, one, Delivered, due, values, Fetched, FirstWrites, Idles, Stamped}
use Rattle.delivery.specs.Ends.{faulty, Fit, Idle}

-- a character that is read, or not: what the receiving half holds, what came and what was read
pub data Held : ℕ → ℕ → List Entry → List ℕ → Type 0 where
  all : {v : ℕ} {ys : List Entry} → Held 0 v ys (values ys)
  but_one : {y : Entry} {ys : List Entry} → Held 1 y.value (y ∷ ys) (values ys)

-- what a tick that makes q of the receiving half r adds to the log: a character came if the half was read and is not
abbrev pub noticed : ℕ → ReceiverHalf → ReceiverHalf → Way → Way
noticed now r q w = cond (not (on r.unread) && on q.unread) (log_arrival now q.holding w) w

not_twice : {X : Type 0} (u : Bool) (x y : X) → cond (not u && u) x y ≡ y
not_twice true x y = refl
not_twice false x y = refl

-- t is the receive tally where the way began
module _ {f g : Format} (fit : Fit f g) (t : RxC) where
  bounds : Bounds f
  bounds = fit.bounds

  alike : Alike f g
  alike = fit.alike

  abbrev L : ℕ
  L = frame_length f

  abbrev D : ℕ
  D = stop_sample f

  fits : L ≤ 768
  fits = length_bound f bounds

  -- the stop lasts beyond its sample
  ends : D < L
  ends = omega (arith, bounds.stops)

  same_stop : stop_sample g ≡ D
  same_stop =
      sym (ap₂ (λ (F m : ℕ). F / 2 + F * suc m) alike.factor (ap₂ ◌+◌ alike.length (ap bit alike.parity)))

  same_cut : (c : ℕ) → cut g c ≡ cut f c
  same_cut c = ap (λ (n : ℕ). c % 2 ^ n) (sym alike.length)

  -- == the receiver while the first i levels of a frame of c pass ==

  abbrev in_flight : ℕ → ℕ → Receiver
  in_flight c i = after g searching (listed (level f c) 0 i)

  ticks : 0 < g.factor
  ticks = omega (arith, bounds.ticks, alike.factor)

  flying : (c i : ℕ) (n : RxC) → c < 256 → i < D → sample g (in_flight c i) (level f c i) n ≡ quiet (in_flight c (suc i))
  flying c i n byte h =
      ap₂ (λ (r : Receiver) (h : Option Arrival). record { next = r; heard = h }) (sym (after_next g (level f c) i n))
      (flies g c (level f c) ticks byte (alike_sees f g c ticks alike) i n (omega (arith, same_stop)))

  -- what comes with a good stop sample
  abbrev good : ℕ → RxC → Sampled
  good v n = record { next = searching; heard = Some (record { value = v; parity = false; framing = false; stamp = n }) }

  landing : (c i : ℕ) (n : RxC) → c < 256 → i ≡ D → sample g (in_flight c i) (level f c i) n ≡ good (cut f c) n
  landing c i n byte e =
      ap (λ (k : ℕ). sample g (in_flight c k) (level f c k) n) (e ∙ sym same_stop)
      ∙ lands g c (level f c) ticks byte (alike_sees f g c ticks alike) n
      ∙ ap (λ (v : ℕ). good v n) (same_cut c)

  passing : (c i : ℕ) (n : RxC) → D < i → sample g searching (level f c i) n ≡ quiet searching
  passing c i n h = ap (λ (x : Bool). sample g searching x n) (level_stop f c i bounds.ticks (omega arith)) ∙ sample_mark g n

  -- == the invariant ==

  -- the frame under way and the receiver that hears it; the writes whose frames have begun, and those that have come.
  -- A frame in flight began at the later of its write and the end of the one before
  data Phase (now : ℕ) : Frame → Receiver → List Entry → List Entry → Type 0 where
    rest : {xs : List Entry} → over L xs ≤ now → Phase now no_frame searching xs xs
    fly : {x : Entry} {xs : List Entry} (i : ℕ) → 0 < i → i ≤ D → x.value < 256 → max x.at (over L xs) + i ≡ now → over L xs < x.at + L
        → Phase now (frame_of f x.value i) (in_flight x.value i) (x ∷ xs) xs
    tail : {xs : List Entry} (c i : ℕ) → D < i → i < L → over L xs + i ≡ now + L → Phase now (frame_of f c i) searching xs xs

  -- the character that waits, written after the frame under way began; then all the writes, and those whose frames have begun
  data Waits (now : ℕ) : ℕ → ℕ → List Entry → List Entry → Type 0 where
    empty : {v : ℕ} {xs : List Entry} → Waits now 0 v xs xs
    full : {x : Entry} {xs : List Entry} → x.value < 256 → x.at ≤ now → now ≤ max x.at (over L xs) → over L xs < x.at + L
        → Waits now 1 x.value (x ∷ xs) xs

  -- the latest arrival came with the stop sample of the last of these frames
  abbrev Spaced : List Entry → List Entry → Type 0
  Spaced [] xs = Unit {0}
  Spaced (y ∷ ys) xs = y.at + L ≤ over L xs + (1 + D)

  pub record Flow (s : SenderHalf) (r : ReceiverHalf) (now : ℕ) (w : Way) : Type 0 where
    begun : List Entry
    come : List Entry
    waits : Waits now s.full s.holding w.written begun
    phase : Phase now s.frame r.state begun come
    answered : Answered f w.came come
    spaced : Spaced w.came come
    guard : s.guard ≡ 0
    tuned : Tuned g r
    held : Held r.unread r.holding w.came w.read
    clock : r.tally ≡ rx_later now t
    stamped : Stamped t r.stamp w.came

  -- == a tick ==

  -- what the tick must show: the invariant after it, and no fault
  pub record Flows (o : SenderHalf) (r : ReceiverHalf) (q : Received) (now : ℕ) (w : Way) : Type 0 where
    pub flow : Flow o q.half (suc now) (noticed (suc now) r q.half w)
    pub sound : arrives faulty q.heard ≡ false
    pub no_overrun : q.overrun ≡ false

  module _ (now : ℕ) (w : Way) (r : ReceiverHalf) (tuned : Tuned g r) (held : Held r.unread r.holding w.came w.read)
      (clock : r.tally ≡ rx_later now t) (stamped : Stamped t r.stamp w.came) where
    -- the half with this tick counted
    abbrev counted : ReceiverHalf
    counted = receiver_later 1 r

    on_time : rx_later 1 r.tally ≡ rx_later (suc now) t
    on_time = ap (rx_later 1) clock ∙ rx_later_later 1 now t ∙ ap (λ (n : ℕ). rx_later n t) (let e : now + 1 ≡ suc now = omega arith in e)

    -- nothing comes with the sample x
    quietly : (o : SenderHalf) (x : Bool) (st : Receiver) (begun come : List Entry) → sample g r.state x counted.tally ≡ quiet st
        → Waits (suc now) o.full o.holding w.written begun → Phase (suc now) o.frame st begun come
        → Answered f w.came come → Spaced w.came come → o.guard ≡ 0
        → Flows o r (receive r true g x) now w
    quietly o x st begun come e ws ph an sp gd =
        subst (λ (q : Received). Flows o r q now w) (sym (receive_is g r x tuned ∙ ap (after_sample counted g) e))
        (record {
          flow = subst (λ (l : Way). Flow o (stepped counted g st) (suc now) l) (sym (not_twice (on r.unread) (log_arrival (suc now) r.holding w) w))
              (record { begun = begun; come = come; waits = ws; phase = ph; answered = an; spaced = sp; guard = gd; tuned = stepped_tuned g counted st; held = held; clock = on_time; stamped = stamped });
          sound = refl;
          no_overrun = refl;
        })

    -- the character v comes, and the one before it was read
    arriving : (o : SenderHalf) (x : Bool) (v : ℕ) (begun come : List Entry) → r.unread ≡ 0 → w.read ≡ values w.came
        → sample g r.state x counted.tally ≡ good v counted.tally
        → Waits (suc now) o.full o.holding w.written begun → Phase (suc now) o.frame searching begun come
        → Answered f (record { at = suc now; value = v } ∷ w.came) come → suc now + L ≤ over L come + (1 + D) → o.guard ≡ 0
        → Flows o r (receive r true g x) now w
    arriving o x v begun come u rd e ws ph an sp gd =
        subst (λ (q : Received). Flows o r q now w) (sym (receive_is g r x tuned ∙ ap (after_sample counted g) e))
        (record {
          flow = subst (λ (l : Way). Flow o (holds (stepped counted g searching) v counted.tally) (suc now) l)
              (sym (ap (λ (k : ℕ). cond (not (on k) && true) (log_arrival (suc now) v w) w) u))
              (record {
                begun = begun;
                come = come;
                waits = ws;
                phase = ph;
                answered = an;
                spaced = sp;
                guard = gd;
                tuned = stepped_tuned g counted searching;
                held = subst (λ (l : List ℕ). Held 1 v (record { at = suc now; value = v } ∷ w.came) l) (sym rd) but_one;
                clock = on_time;
                stamped = on_time;
              });
          sound = refl;
          no_overrun = ap on u;
        })

  -- L after the latest arrival it has been read
  module _ (now : ℕ) where
    abbrev Past : List Entry → Type 0
    Past [] = Unit {0}
    Past (y ∷ ys) = y.at + L ≤ suc now

    read_by_then : {u v : ℕ} {ys : List Entry} {vs : List ℕ} → Held u v ys vs → (on u ≡ true → suc now < latest ys + L) → Past ys
        → (u ≡ 0) × (vs ≡ values ys)
    read_by_then all h p = (refl, refl)
    read_by_then but_one h p = let k = h refl in absurd (omega arith)

    past : (ys xs : List Entry) → Spaced ys xs → over L xs + (1 + D) ≤ suc now → Past ys
    past [] xs s h = tt
    past (y ∷ ys) xs s h = omega arith

    -- a frame under way keeps the character that waits
    advance : {u v : ℕ} {ws xs : List Entry} → suc now ≤ over L xs → Waits now u v ws xs → Waits (suc now) u v ws xs
    advance h empty = empty
    advance h (full {x = x} {xs = xs} b a m o) = full {x = x} {xs = xs} b (omega arith) (omega arith) o

  abbrev sender : Frame → ℕ → ℕ → TxC → TxC → SenderHalf
  sender fr u v a b = record { frame = fr; holding = v; full = u; guard = 0; start = a; tally = b }

  module _ (now : ℕ) (w : Way) (r : ReceiverHalf) (tuned : Tuned g r) (held : Held r.unread r.holding w.came w.read)
      (clock : r.tally ≡ rx_later now t) (stamped : Stamped t r.stamp w.came)
      (in_time_lem : on r.unread ≡ true → suc now < latest w.came + L) where
    -- the tick of place i of a frame in flight; 0 is its first
    fly_tick : (x : Entry) (xs : List Entry) (i u v : ℕ) (a b : TxC) (k : SenderHalf) → k ≡ sender (frame_next (frame_of f x.value i)) u v a b
        → r.state ≡ in_flight x.value i → i ≤ D → x.value < 256 → max x.at (over L xs) + i ≡ now → over L xs < x.at + L
        → Waits (suc now) u v w.written (x ∷ xs) → Answered f w.came xs → Spaced w.came xs
        → Flows k r (receive r true g (level f x.value i)) now w
    fly_tick x xs i u v a b k ke st h byte at late ws an sp = go (ltb i D) refl
      where
        c : ℕ
        c = x.value

        on_frame : (fr : Frame) → frame_next (frame_of f c i) ≡ fr → k ≡ sender fr u v a b
        on_frame fr e = ke ∙ ap (λ (m : Frame). sender m u v a b) e

        went_on : suc i < L → k ≡ sender (frame_of f c (suc i)) u v a b
        went_on l = on_frame (frame_of f c (suc i)) (frame_goes_on f c i fits l)

        answer : i ≡ D → Answers f (record { at = suc now; value = cut f c }) x xs
        answer e = record { value = refl; bound = omega arith; idle = λ q. omega arith; exact = omega arith }

        land : i ≡ D → (fr : Frame) → k ≡ sender fr u v a b → Phase (suc now) fr searching (x ∷ xs) (x ∷ xs) → Flows k r (receive r true g (level f c i)) now w
        land e fr q ph =
            let rd = read_by_then now held in_time_lem (past now w.came xs sp (omega arith)) in
            subst (λ (m : SenderHalf). Flows m r (receive r true g (level f c i)) now w) (sym q)
            (arriving now w r tuned held clock stamped (sender fr u v a b) (level f c i) (cut f c) (x ∷ xs) (x ∷ xs) rd.0 rd.1
            (ap (λ (m : Receiver). sample g m (level f c i) (rx_later 1 r.tally)) st ∙ landing c i (rx_later 1 r.tally) byte e) ws ph (one (answer e) an) (omega arith) refl)

        go : (b : Bool) → ltb i D ≡ b → Flows k r (receive r true g (level f c i)) now w
        go true t =
            let l = ltb-true i D t in
            subst (λ (m : SenderHalf). Flows m r (receive r true g (level f c i)) now w) (sym (went_on (omega (arith, ends))))
            (quietly now w r tuned held clock stamped (sender (frame_of f c (suc i)) u v a b) (level f c i) (in_flight c (suc i)) (x ∷ xs) xs
            (ap (λ (m : Receiver). sample g m (level f c i) (rx_later 1 r.tally)) st ∙ flying c i (rx_later 1 r.tally) byte l) ws
            (fly (suc i) (omega arith) (omega arith) byte (omega arith) late) an sp refl)
        go false t = last (ltb (suc i) L) refl
          where
            e : i ≡ D
            e = omega (arith, ltb-false i D t)

            last : (b : Bool) → ltb (suc i) L ≡ b → Flows k r (receive r true g (level f c i)) now w
            last true q = land e (frame_of f c (suc i)) (went_on (ltb-true _ _ q)) (tail c (suc i) (omega (arith, e)) (ltb-true _ _ q) (omega (arith, e)))
            last false q =
                let z = ltb-false (suc i) L q in
                land e no_frame (on_frame no_frame (frame_ends f c i fits (omega (arith, ends, e)))) (rest (omega (arith, ends, e)))

    -- the ticks of its stop after the stop sample
    tail_tick : (xs : List Entry) (c i u v : ℕ) (a b : TxC) (k : SenderHalf) → k ≡ sender (frame_next (frame_of f c i)) u v a b
        → r.state ≡ searching → D < i → i < L → over L xs + i ≡ now + L
        → Waits (suc now) u v w.written xs → Answered f w.came xs → Spaced w.came xs
        → Flows k r (receive r true g (level f c i)) now w
    tail_tick xs c i u v a b k ke st h l at ws an sp = go (ltb (suc i) L) refl
      where
        on_frame : (fr : Frame) → frame_next (frame_of f c i) ≡ fr → Phase (suc now) fr searching xs xs → Flows k r (receive r true g (level f c i)) now w
        on_frame fr e ph =
            subst (λ (m : SenderHalf). Flows m r (receive r true g (level f c i)) now w) (sym (ke ∙ ap (λ (m : Frame). sender m u v a b) e))
            (quietly now w r tuned held clock stamped (sender fr u v a b) (level f c i) searching xs xs
            (ap (λ (m : Receiver). sample g m (level f c i) (rx_later 1 r.tally)) st ∙ passing c i (rx_later 1 r.tally) h) ws ph an sp refl)

        go : (b : Bool) → ltb (suc i) L ≡ b → Flows k r (receive r true g (level f c i)) now w
        go true q = on_frame (frame_of f c (suc i)) (frame_goes_on f c i fits (ltb-true _ _ q)) (tail c (suc i) (omega arith) (ltb-true _ _ q) (omega arith))
        go false q =
            let z = ltb-false (suc i) L q in
            on_frame no_frame (frame_ends f c i fits (omega arith)) (rest (omega arith))

    abbrev o : SenderHalf → Sent
    o s = transmit s true false f

    -- the sending half and the receiving half at a tick
    tick_cases : {fr : Frame} {st : Receiver} {u v : ℕ} (p q : TxC) {ws begun come : List Entry} → r.state ≡ st → ws ≡ w.written
        → Phase now fr st begun come → Waits now u v ws begun → Answered f w.came come → Spaced w.came come
        → Flows (o (sender fr u v p q)).half r (receive r true g (o (sender fr u v p q)).level) now w
    unfolding transmit
    tick_cases {v = v} p q se we (rest {xs = xs} h) empty an sp =
        quietly now w r tuned held clock stamped (sender no_frame 0 v p (tx_later 1 q)) true searching xs xs
        (ap (λ (m : Receiver). sample g m true (rx_later 1 r.tally)) se ∙ sample_mark g (rx_later 1 r.tally)) (subst (λ (l : List Entry). Waits (suc now) 0 v l xs) we empty) (rest (omega arith)) an sp refl
    tick_cases p q se we (rest h) (full {x = x} {xs = xs} b a m l) an sp =
        fly_tick x xs 0 0 0 (tx_later 1 q) (tx_later 1 q) (o (sender no_frame 1 x.value p q)).half refl se (omega arith) b (omega arith) l
        (subst (λ (k : List Entry). Waits (suc now) 0 0 k (x ∷ xs)) we empty) an sp
    tick_cases {u = u} {v = v} k q se we (fly {x = x} {xs = xs} i p h b a l) ws an sp =
        let e = transmit_under (sender (frame_of f x.value i) u v k q) true false f (lt-ltb 0 i p) in
        subst (λ (n : Sent). Flows n.half r (receive r true g n.level) now w) (sym e)
        (fly_tick x xs i u v k (tx_later 1 q) (sender (frame_next (frame_of f x.value i)) u v k (tx_later 1 q)) refl se h b a l
        (advance now (omega (arith, ends)) (subst (λ (k : List Entry). Waits now u v k (x ∷ xs)) we ws)) an sp)
    tick_cases {u = u} {v = v} k q se we (tail {xs = xs} c i h l a) ws an sp =
        let e = transmit_under (sender (frame_of f c i) u v k q) true false f (lt-ltb 0 i (omega arith)) in
        subst (λ (n : Sent). Flows n.half r (receive r true g n.level) now w) (sym e)
        (tail_tick xs c i u v k (tx_later 1 q) (sender (frame_next (frame_of f c i)) u v k (tx_later 1 q)) refl se h l a
        (advance now (omega arith) (subst (λ (k : List Entry). Waits now u v k xs) we ws)) an sp)

  -- a tick of both halves, where what has come is read in time
  pub tick_flows : {s : SenderHalf} {r : ReceiverHalf} {now : ℕ} {w : Way} → Flow s r now w → (on r.unread ≡ true → suc now < latest w.came + L)
      → Flows (transmit s true false f).half r (receive r true g (transmit s true false f).level) now w
  tick_flows {s = s} {r = r} {now = now} {w = w} h in_time_lem =
      let e : sender s.frame s.full s.holding s.start s.tally ≡ s =
      ap (λ (k : ℕ). record { frame = s.frame; holding = s.holding; full = s.full; guard = k; start = s.start; tally = s.tally }) (sym h.guard) in
      subst (λ (m : SenderHalf). Flows (transmit m true false f).half r (receive r true g (transmit m true false f).level) now w) e
      (tick_cases now w r h.tuned h.held h.clock h.stamped in_time_lem s.start s.tally refl refl h.phase h.waits h.answered h.spaced)

  -- == a write and a read ==

  -- the frames that have begun are over before L more ticks
  over_soon : {now : ℕ} {fr : Frame} {st : Receiver} {begun come : List Entry} → Phase now fr st begun come → over L begun < now + L
  over_soon (rest h) = omega (arith, ends)
  over_soon (fly i p h b a l) = omega arith
  over_soon (tail c i h l a) = omega arith

  all_begun : {now u v : ℕ} {ws begun : List Entry} → u ≡ 0 → Waits now u v ws begun → ws ≡ begun
  all_begun e empty = refl
  all_begun e (full b a m l) = absurd (omega arith)

  -- a write of an empty holding register
  pub write_flows : {s : SenderHalf} {r : ReceiverHalf} {now : ℕ} {w : Way} (v : ℕ) → Flow s r now w → s.full ≡ 0 → v < 256
      → Flow (loaded s v) r now (log_write now v w)
  write_flows {now = now} v h e byte =
      let x : Entry = record { at = now; value = v } in
      let soon = over_soon h.phase in
      record {
        begun = h.begun;
        come = h.come;
        waits = subst (λ (l : List Entry). Waits now 1 v (x ∷ l) h.begun) (sym (all_begun e h.waits))
            (full {x = x} {xs = h.begun} byte (omega arith) (omega arith) soon);
        phase = h.phase;
        answered = h.answered;
        spaced = h.spaced;
        guard = h.guard;
        tuned = h.tuned;
        held = h.held;
        clock = h.clock;
        stamped = h.stamped;
      }

  -- a read: what was not read is logged, and the register is empty
  read_held : {u v : ℕ} {ys : List Entry} {vs : List ℕ} (k : ℕ) → Held u v ys vs → Held 0 k ys (cond (on u) (v ∷ vs) vs)
  read_held k all = all
  read_held k but_one = all

  pub read_flows : {s : SenderHalf} {r : ReceiverHalf} {now : ℕ} {w : Way} → Flow s r now w
      → Flow s (emptied r) now (cond (on r.unread) (log_read r.holding w) w)
  read_flows {s = s} {r = r} {now = now} {w = w} h = go (on r.unread) (read_held r.holding h.held)
    where
      with_read : (vs : List ℕ) → Held 0 r.holding w.came vs → Flow s (emptied r) now (record { written = w.written; came = w.came; read = vs })
      with_read vs k =
          record { begun = h.begun; come = h.come; waits = h.waits; phase = h.phase; answered = h.answered; spaced = h.spaced; guard = h.guard; tuned = h.tuned; held = k; clock = h.clock; stamped = h.stamped }

      go : (b : Bool) → Held 0 r.holding w.came (cond b (r.holding ∷ w.read) w.read) → Flow s (emptied r) now (cond b (log_read r.holding w) w)
      go true k = with_read (r.holding ∷ w.read) k
      go false k = with_read w.read k

  -- == what it promises ==

  delivered_begun : {now : ℕ} {fr : Frame} {st : Receiver} {begun come ys : List Entry} → Phase now fr st begun come → Answered f ys come → Delivered f now ys begun
  delivered_begun (rest h) an = Promise.all an
  delivered_begun (fly {x = x} i p h b a l) an = due {x = x} (omega arith) (Promise.all an)
  delivered_begun (tail c i h l a) an = Promise.all an

  delivered_all : {now u v : ℕ} {ws begun ys : List Entry} → Waits now u v ws begun → Delivered f now ys begun → Delivered f now ys ws
  delivered_all empty d = d
  delivered_all (full {x = x} b a m l) d = due {x = x} (omega (arith, ends)) d

  pub flow_delivers : {s : SenderHalf} {r : ReceiverHalf} {now : ℕ} {w : Way} → Flow s r now w → Delivered f now w.came w.written
  flow_delivers h = delivered_all h.waits (delivered_begun h.phase h.answered)

  held_fetched : {u v : ℕ} {ys : List Entry} {vs : List ℕ} → Held u v ys vs → Fetched (on u) ys vs
  held_fetched all = Promise.all
  held_fetched but_one = Promise.but_one

  pub flow_fetched : {s : SenderHalf} {r : ReceiverHalf} {now : ℕ} {w : Way} → Flow s r now w → Fetched (on r.unread) w.came w.read
  flow_fetched h = held_fetched h.held

  idles : {now u v : ℕ} {fr : Frame} {st : Receiver} {ws begun come : List Entry} → Phase now fr st begun come → Waits now u v ws begun → Idles f (sender fr u v no_txc no_txc) now ws
  idles (rest h) empty = record { nothing = λ o. (refl, refl); over_by_now = λ p q. h }
  idles (rest h) (full b a m l) = record { nothing = λ o. absurd (omega (arith, ends)); over_by_now = λ p q. absurd (omega arith) }
  idles (fly i p h b a l) empty = record { nothing = λ o. absurd (omega (arith, ends)); over_by_now = λ q e. absurd (omega arith) }
  idles (fly i p h b a l) (full c d m n) = record { nothing = λ o. absurd (omega (arith, ends)); over_by_now = λ q e. absurd (omega arith) }
  idles (tail c i h l a) empty = record { nothing = λ o. absurd (omega arith); over_by_now = λ q e. absurd (omega arith) }
  idles (tail c i h l a) (full b d m n) = record { nothing = λ o. absurd (omega (arith, ends)); over_by_now = λ q e. absurd (omega arith) }

  pub flow_idles : {s : SenderHalf} {r : ReceiverHalf} {now : ℕ} {w : Way} → Flow s r now w → Idles f s now w.written
  flow_idles h = let k = idles h.phase h.waits in record { nothing = k.nothing; over_by_now = k.over_by_now }

  -- the frames of these writes have begun, so that of the latest has
  latest_begun : {now : ℕ} {fr : Frame} {st : Receiver} {begun come : List Entry} → Phase now fr st begun come → has_begun L now begun ≡ true
  latest_begun (rest {xs = []} h) = refl
  latest_begun (rest {xs = x ∷ xs} h) = lt-ltb (max x.at (over L xs)) _ (omega (arith, ends))
  latest_begun (fly {x = x} {xs = xs} i p h b a l) = lt-ltb (max x.at (over L xs)) _ (omega arith)
  latest_begun (tail {xs = []} c i h l a) = refl
  latest_begun (tail {xs = x ∷ xs} c i h l a) = lt-ltb (max x.at (over L xs)) _ (omega arith)

  permits_is : {now u v : ℕ} {ws begun : List Entry} → has_begun L now begun ≡ true → Waits now u v ws begun → eqb u 0 ≡ has_begun L now ws
  permits_is b empty = sym b
  permits_is {now = now} b (full {x = x} {xs = xs} c a m l) = sym (le-ltb (max x.at (over L xs)) now m)

  -- the holding register is empty exactly when the frame of the latest write has begun
  pub flow_permits : {s : SenderHalf} {r : ReceiverHalf} {now : ℕ} {w : Way} → Flow s r now w → eqb s.full 0 ≡ has_begun L now w.written
  flow_permits h = permits_is (latest_begun h.phase) h.waits

  -- the stamp of the held character
  pub flow_stamps : {s : SenderHalf} {r : ReceiverHalf} {now : ℕ} {w : Way} → Flow s r now w → Stamped t r.stamp w.came
  flow_stamps h = h.stamped

  -- nothing has happened yet
  pub flow_begins : (s : SenderHalf) (r : ReceiverHalf) → Idle s → r.state ≡ searching → r.unread ≡ 0 → r.tally ≡ t → Tuned g r → Flow s r 0 nothing_yet
  flow_begins s r e q u c tuned =
      record {
        begun = [];
        come = [];
        waits = subst (λ (k : ℕ). Waits 0 k s.holding [] []) (sym e.empty) empty;
        phase = subst (λ (k : Frame). Phase 0 k r.state [] []) (sym e.frame) (subst (λ (m : Receiver). Phase 0 no_frame m [] []) (sym q) (rest (omega arith)));
        answered = nothing;
        spaced = tt;
        guard = e.guard;
        tuned = tuned;
        held = subst (λ (k : ℕ). Held k r.holding [] []) (sym u) all;
        clock = c;
        stamped = tt;
      }

-- == what was read ==

answered_values : (f : Format) {ys xs : List Entry} → Answered f ys xs → values ys ≡ map (λ (x : Entry). cut f x.value) xs
answered_values f nothing = refl
answered_values f (one a an) = ap₂ (λ (v : ℕ) (vs : List ℕ). v ∷ vs) a.value (answered_values f an)

answered_first : (f : Format) {b : Bool} {ys xs : List Entry} {vs : List ℕ} → Fetched b ys vs → Answered f ys xs → FirstWrites f vs xs
answered_first f {xs = xs} Promise.all an = record { later = []; first = xs; written = refl; read = answered_values f an }
answered_first f Promise.but_one (one {x = x} {xs = xs} a an) = record { later = x ∷ []; first = xs; written = refl; read = answered_values f an }

-- the values read are those of the first writes, cut
pub first_writes : (f : Format) {now : ℕ} {b : Bool} {ys xs : List Entry} {vs : List ℕ} → Fetched b ys vs → Delivered f now ys xs → FirstWrites f vs xs
first_writes f g (Promise.all an) = answered_first f g an
first_writes f g (due {x = x} h d) =
    let r = first_writes f g d in
    record { later = x ∷ r.later; first = r.first; written = ap (λ (l : List Entry). x ∷ l) r.written; read = r.read }
