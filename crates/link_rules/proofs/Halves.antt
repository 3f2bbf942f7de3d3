-- What a tick of a half does, for those who run many of them: a frame goes on whatever the tick is told, and a receiver that is on takes the
-- line's own steps in one format.
-- Assumes nothing.
use Prim.Native.Nat.{ℕ, suc, ◌+◌, ◌*◌, ◌%◌, ◌≤◌, ◌<◌}
use native.Mathlib.Nat.{mul-le-mul, mod-eq_of_lt}
use native.Mathlib.Omega.{arith}
use mathlib.Core.Path.{◌≡◌, refl, ap, sym, ◌∙◌}
use mathlib.Core.Bool.{Bool, true, false, cond, ◌&&◌, true≢false}
use borrow.Author.Tests.{lt-ltb, le-ltb}
use Rattle.std.specs.Prelude.{Option, None, Some}
use Rattle.line_rules.specs.declared.Format.{Format}
use Rattle.line_rules.specs.declared.Receiver.{Receiver}
use Rattle.line_rules.specs.declared.RxC.{RxC}
use Rattle.line_rules.specs.declared.Arrival.{Arrival}
use Rattle.line_rules.specs.declared.Sampled.{Sampled}
use Rattle.line_rules.specs.Sending.{on, parity_bits, frame_length}
use Rattle.line_rules.specs.Range.{Bounds}
use Rattle.line_rules.specs.Clocks.{tx_later, rx_later}
use Rattle.line_rules.specs.Arrived.{stamped_or}
use Rattle.line_rules.specs.Receiving.{waiting, sample}
use Rattle.line_rules.proofs.Bits.{at_most_one}
use Rattle.line_rules.proofs.Samples.{stamp_is_now}
use Rattle.link_rules.specs.declared.Frame.{Frame}
use Rattle.link_rules.specs.declared.SenderHalf.{SenderHalf}
use Rattle.link_rules.specs.declared.ReceiverHalf.{ReceiverHalf}
use Rattle.link_rules.specs.Parts.{no_frame, no_format, dropped, sender_later, receiver_later}
use Rattle.link_rules.specs.Transmitting.{Sent, next_place, frame_next, frame_tick, begin_tick, break_tick, mark_tick, transmit}
use Rattle.line_rules.proofs.Choice.{either}
use Rattle.link_rules.specs.Hearing.{Received, under_way, character_format, stepped, arrives, arrived_or, brought, hear, receive}

-- == the sender ==

module _ (s : SenderHalf) (ready broken : Bool) (f : Format) where
  -- the half with this tick counted
  abbrev now : SenderHalf
  now = sender_later 1 s

  -- a frame begun is finished: nothing that the tick is told matters
  pub transmit_under : on s.frame.place ≡ true → transmit s ready broken f ≡ frame_tick now s.frame false
  unfolding transmit
  transmit_under t = rw t

  pub transmit_begins : on s.frame.place ≡ false → ready ≡ true → broken ≡ false → on s.guard ≡ false → on s.full ≡ true
      → transmit s ready broken f ≡ begin_tick now f
  unfolding transmit
  transmit_begins t r b g w = rw (t, r, b, g, w)

  -- where nothing may start and no frame is under way 1 is sent, and a guard falls all the same
  pub transmit_idle : on s.frame.place ≡ false → ready ≡ false → transmit s ready broken f ≡ mark_tick now
  unfolding transmit
  transmit_idle t r = rw (t, r) (either (λ (o : Sent). o ≡ mark_tick now) (on s.guard) {x = mark_tick now} {y = mark_tick now} refl refl)

  -- what holds of each kind of tick holds of the tick
  of_each : (P : Sent → Type 0) → P (frame_tick now s.frame false) → P (break_tick now f) → P (mark_tick now) → P (begin_tick now f) → P (transmit s ready broken f)
  unfolding transmit
  of_each P under brk mark begin =
      either P (on s.frame.place) under
      (either P (ready && broken) brk
      (either P (on s.guard) mark
      (either P (ready && on s.full) begin mark)))

  -- the holding register is empty after a frame's first tick, and as it was after any other
  pub full_after : (transmit s ready broken f).half.full ≡ cond (transmit s ready broken f).began 0 s.full
  full_after = of_each (λ o. o.half.full ≡ cond o.began 0 s.full) refl refl refl refl

  pub holding_after : (transmit s ready broken f).half.holding ≡ cond (transmit s ready broken f).began 0 s.holding
  holding_after = of_each (λ o. o.half.holding ≡ cond o.began 0 s.holding) refl refl refl refl

  -- each tick counts, and the one that begins a frame is its start (P4)
  pub transmit_counts : (transmit s ready broken f).half.tally ≡ tx_later 1 s.tally
  transmit_counts = of_each (λ o. o.half.tally ≡ tx_later 1 s.tally) refl refl refl refl

  pub start_after : (transmit s ready broken f).half.start ≡ cond (transmit s ready broken f).began (tx_later 1 s.tally) s.start
  start_after = of_each (λ o. o.half.start ≡ cond o.began (tx_later 1 s.tally) s.start) refl refl refl refl

-- L is at most 768
pub length_bound : (f : Format) → Bounds f → frame_length f ≤ 768
length_bound f b =
    let l : suc (f.length + parity_bits f) ≤ 10 = omega (arith, b.short, at_most_one (on f.parity)) in
    let m : f.factor * suc (f.length + parity_bits f) ≤ 64 * 10 = mul-le-mul b.few l in
    omega (arith, m, b.ends, b.few)

module _ (f : Format) (i : ℕ) (fits : frame_length f ≤ 768) where
  counted : i < frame_length f → (i + 1) % 65536 ≡ suc i
  counted h = let e : (i + 1) % 65536 ≡ i + 1 = mod-eq_of_lt (omega arith) in e ∙ (let q : i + 1 ≡ suc i = omega arith in q)

  pub next_place_lem : suc i < frame_length f → next_place f i ≡ suc i
  next_place_lem h = rw (counted (omega arith), lt-ltb (suc i) (frame_length f) h)

  pub last_place : suc i ≡ frame_length f → next_place f i ≡ 0
  last_place h = rw (counted (omega arith), le-ltb (suc i) (frame_length f) (omega arith))

abbrev pub frame_of : Format → ℕ → ℕ → Frame
frame_of f c i = record { character = c; format = f; place = i }

pub frame_goes_on : (f : Format) (c i : ℕ) → frame_length f ≤ 768 → suc i < frame_length f → frame_next (frame_of f c i) ≡ frame_of f c (suc i)
frame_goes_on f c i fits h = ap (λ (k : ℕ). cond (on k) (frame_of f c k) no_frame) (next_place_lem f i fits h) ∙ rw (lt-ltb 0 (suc i) (omega arith))

pub frame_ends : (f : Format) (c i : ℕ) → frame_length f ≤ 768 → suc i ≡ frame_length f → frame_next (frame_of f c i) ≡ no_frame
frame_ends f c i fits h = ap (λ (k : ℕ). cond (on k) (frame_of f c k) no_frame) (last_place f i fits h)

-- == the receiver ==

abbrev any : Option Arrival → Bool
any h = arrives (λ (a : Arrival). true) h

brought_unread : (r : ReceiverHalf) (h : Option Arrival) → on (brought r h).half.unread ≡ cond (any (brought r h).heard) true (on r.unread)
brought_unread r None = refl
brought_unread r (Some a) = refl

brought_overrun : (r : ReceiverHalf) (h : Option Arrival) → (brought r h).overrun ≡ (any (brought r h).heard && on r.unread)
brought_overrun r None = refl
brought_overrun r (Some a) = refl

brought_stamp : (r : ReceiverHalf) (h : Option Arrival) → (brought r h).half.stamp ≡ stamped_or r.stamp (brought r h).heard
brought_stamp r None = refl
brought_stamp r (Some a) = refl

brought_tally : (r : ReceiverHalf) (h : Option Arrival) → (brought r h).half.tally ≡ r.tally
brought_tally r None = refl
brought_tally r (Some a) = refl

brought_held : (r : ReceiverHalf) (h : Option Arrival) → (brought r h).half.holding ≡ arrived_or r.holding (brought r h).heard
brought_held r None = refl
brought_held r (Some a) = refl

brought_heard : (r : ReceiverHalf) (h : Option Arrival) → (brought r h).heard ≡ h
brought_heard r None = refl
brought_heard r (Some a) = refl

nothing_came : (a : Arrival) → None ≡ Some a → ⊥
nothing_came a e = true≢false (sym (ap any e))

-- what a tick that is off leaves: nothing arrives
abbrev unheard : ReceiverHalf → Received
unheard r = record { half = dropped r; heard = None; overrun = false }

module _ (r : ReceiverHalf) (live : Bool) (f : Format) (x : Bool) where
  abbrev tick : Received
  tick = receive r live f x

  -- the half with this tick clocked
  abbrev clocked : ReceiverHalf
  clocked = receiver_later 1 r

  abbrev sampled : Sampled
  sampled = sample (character_format r f) r.state x clocked.tally

  -- what holds of all that a sample brings, and where none is looked at
  of_tick : (P : Received → Type 0) → ((s : Receiver) → P (brought (stepped clocked (character_format r f) s) sampled.heard)) → P (unheard clocked) → P tick
  unfolding receive
  of_tick P p q = either P live {x = hear clocked (character_format r f) x} {y = unheard clocked} (p sampled.next) q

  -- an arrival fills the register ..
  pub unread_after : on tick.half.unread ≡ cond (any tick.heard) true (on r.unread)
  unread_after =
      of_tick (λ (o : Received). on o.half.unread ≡ cond (any o.heard) true (on r.unread))
      (λ s. brought_unread (stepped clocked (character_format r f) s) sampled.heard) refl

  -- .. with its value, whether it was full or not ..
  pub character_held : tick.half.holding ≡ arrived_or r.holding tick.heard
  character_held =
      of_tick (λ (o : Received). o.half.holding ≡ arrived_or r.holding o.heard)
      (λ s. brought_held (stepped clocked (character_format r f) s) sampled.heard) refl

  -- .. and its stamp beside it ..
  pub stamp_held : tick.half.stamp ≡ stamped_or r.stamp tick.heard
  stamp_held = of_tick (λ (o : Received). o.half.stamp ≡ stamped_or r.stamp o.heard) (λ s. brought_stamp (stepped clocked (character_format r f) s) sampled.heard) refl

  -- .. and tells whether it found it unread
  pub overrun_told : tick.overrun ≡ (any tick.heard && on r.unread)
  overrun_told =
      of_tick (λ (o : Received). o.overrun ≡ (any o.heard && on r.unread))
      (λ s. brought_overrun (stepped clocked (character_format r f) s) sampled.heard) refl

  -- each tick counts, on or off ..
  pub receive_counts : tick.half.tally ≡ rx_later 1 r.tally
  receive_counts = of_tick (λ (o : Received). o.half.tally ≡ rx_later 1 r.tally) (λ s. brought_tally (stepped clocked (character_format r f) s) sampled.heard) refl

  -- .. and is the stamp of what arrives with it
  pub stamp_now : (a : Arrival) → tick.heard ≡ Some a → a.stamp ≡ rx_later 1 r.tally
  stamp_now =
      of_tick (λ (o : Received). (a : Arrival) → o.heard ≡ Some a → a.stamp ≡ rx_later 1 r.tally)
      (λ s a e. stamp_is_now (character_format r f) r.state x clocked.tally a (sym (brought_heard (stepped clocked (character_format r f) s) sampled.heard) ∙ e))
      (λ a e. absurd (nothing_came a e))

-- a tick that is off drops the character under way, waits for a 1 and brings nothing
pub receive_off_lem : (r : ReceiverHalf) (f : Format) (x : Bool) → receive r false f x ≡ record { half = dropped (receiver_later 1 r); heard = None; overrun = false }
unfolding receive
receive_off_lem r f x = refl

-- what is left of r where its character is dropped, with the unread mark u and the tally t
pub record Dropped (r : ReceiverHalf) (u : ℕ) (t : RxC) (q : ReceiverHalf) : Type 0 where
  pub state : q.state ≡ waiting
  pub format : q.format ≡ no_format
  pub holding : q.holding ≡ r.holding
  pub unread : q.unread ≡ u
  pub stamp : q.stamp ≡ r.stamp
  pub tally : q.tally ≡ t

-- .. and leaves the holding register, its mark and its stamp; the tick counts
pub off_leaves : (r : ReceiverHalf) (f : Format) (x : Bool) → Dropped r r.unread (rx_later 1 r.tally) (receive r false f x).half
unfolding receive
off_leaves r f x = record { state = refl; format = refl; holding = refl; unread = refl; stamp = refl; tally = refl }

-- a character under way is read in the format of its tick 0, whatever the tick is told
pub receive_under : (r : ReceiverHalf) (f : Format) (x : Bool) → under_way r.state ≡ true → receive r true f x ≡ hear (receiver_later 1 r) r.format x
unfolding receive
receive_under r f x u = ap (λ (b : Bool). hear (receiver_later 1 r) (cond b r.format f) x) u

-- the half reads in the format f: it has no character under way, or one that began in f
abbrev pub Tuned : Format → ReceiverHalf → Type 0
Tuned f r = character_format r f ≡ f

-- after a sample that was read in f it does
pub stepped_tuned : (f : Format) (r : ReceiverHalf) (s : Receiver) → Tuned f (stepped r f s)
stepped_tuned f r s = kept (under_way s)
  where
    kept : (b : Bool) → cond b (cond b f no_format) f ≡ f
    kept true = refl
    kept false = refl

brought_state : (r : ReceiverHalf) (h : Option Arrival) → (brought r h).half.state ≡ r.state
brought_state r None = refl
brought_state r (Some a) = refl

brought_format : (r : ReceiverHalf) (h : Option Arrival) → (brought r h).half.format ≡ r.format
brought_format r None = refl
brought_format r (Some a) = refl

module _ (f : Format) (r : ReceiverHalf) (x : Bool) (t : Tuned f r) where
  -- the half with this tick counted, and the sample
  abbrev q : ReceiverHalf
  q = receiver_later 1 r

  abbrev o : Sampled
  o = sample f r.state x q.tally

  pub receive_is : receive r true f x ≡ hear q f x
  unfolding receive
  receive_is = ap (λ (g : Format). hear q g x) t

  -- its state and what it hears are the line's own step
  pub hear_state : (receive r true f x).half.state ≡ (sample f r.state x (rx_later 1 r.tally)).next
  hear_state = ap (λ (p : Received). p.half.state) receive_is ∙ brought_state (stepped q f o.next) o.heard

  pub hear_heard : (receive r true f x).heard ≡ (sample f r.state x (rx_later 1 r.tally)).heard
  hear_heard = ap (λ (p : Received). p.heard) receive_is ∙ brought_heard (stepped q f o.next) o.heard

  hear_format : (receive r true f x).half.format ≡ cond (under_way o.next) f no_format
  hear_format = ap (λ (p : Received). p.half.format) receive_is ∙ brought_format (stepped q f o.next) o.heard

  pub hear_tuned : Tuned f (receive r true f x).half
  hear_tuned = rw (hear_state, hear_format) (stepped_tuned f r o.next)
