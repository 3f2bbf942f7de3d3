-- What arrives over a run of calls is the reading of the levels given to its receive ticks, stamps and all; and RHR holds the last of it.
-- Assumes nothing.
use Prim.Native.Nat.{ℕ, suc, ◌+◌, ◌<◌}
use native.Mathlib.Omega.{arith}
use mathlib.Core.Path.{◌≡◌, refl, sym, ap, ap₂, subst, ◌∙◌}
use mathlib.Core.Bool.{Bool, true, false, cond, ◌&&◌}
use mathlib.Core.List.{List, [], ◌∷◌}
use lib.Dec.{leb, eqb}
use borrow.Author.Tests.{eqb-true, eqb-false}
use Rattle.std.specs.Prelude.{Option, None, Some}
use Rattle.line_rules.specs.declared.Arrival.{Arrival}
use Rattle.line_rules.specs.declared.Format.{Format}
use Rattle.line_rules.specs.declared.Receiver.{Receiver}
use Rattle.line_rules.specs.declared.RxC.{RxC}
use Rattle.line_rules.specs.Sending.{bit, on}
use Rattle.line_rules.specs.Arrived.{Arrived}
use Rattle.line_rules.specs.Clocks.{rx_later}
use Rattle.line_rules.specs.Receiving.{waiting, sample, leaves, tell, arrivals}
use Rattle.line_rules.specs.Reading.{reading}
use Rattle.line_rules.proofs.Ranges.{in_range_bounds}
use Rattle.line_rules.proofs.Clocks.{rx_later_later}
use Rattle.line_rules.proofs.Samples.{leaves_alike}
use Rattle.line_rules.proofs.Received as line-received
use Rattle.line_rules.proofs.Table.{both}
use Rattle.link_rules.specs.declared.ReceiverHalf.{ReceiverHalf}
use Rattle.link_rules.specs.Parts.{emptied, dropped, receiver_later}
use Rattle.link_rules.specs.Hearing.{Received, brought, stepped}
use Rattle.link_rules.specs.Hearing as link-hearing
use Rattle.line_rules.proofs.Choice.{either}
use Rattle.link_rules.proofs.Halves.{Tuned, receive_is, receive_counts, hear_state, hear_heard, hear_tuned}
use Rattle.ins2651_rules.specs.declared.Device.{Device}
use Rattle.ins2651_rules.specs.Shape.{Outcome}
use Rattle.ins2651_rules.specs.Modes.{has, receive_enable, receive_format}
use Rattle.ins2651_rules.specs.Conditions.{listening}
use Rattle.ins2651_rules.specs.Ranges.{in_range, settled}
use Rattle.ins2651_rules.specs.RegisterWrites.{stored, write_register}
use Rattle.ins2651_rules.specs.Ticks.{received, receive_tick}
use Rattle.ins2651_rules.specs.Runs.{Call, Reset, Read, Write, SetPins, Transmit, Receive, Outputs, next, after}
use Rattle.ins2651_rules.specs.Rows.{refusal}
use Rattle.ins2651_rules.specs.Line.{if_sample, samples, arrived_in, Held, held, last_held, Listens, Throughout}
use Rattle.ins2651_rules.proofs.Settled.{settled_is}
use Rattle.ins2651_rules.proofs.Done.{done_write, done_receive}
use Rattle.ins2651_rules.proofs.Commands.{receive_stored}
use Rattle.ins2651_rules.proofs.Formats.{format_in}
use Rattle.ins2651_rules.proofs.Refused.{refused_unchanged}
use Rattle.ins2651_rules.proofs.InRange.{next_in}
use Rattle.ins2651_rules.proofs.Leaves.{transmit_leaves, pins_leave, read_leaves}

-- == calls without a sample ==

-- the character under way and the character held are those of another half
pub record SameHearing (r q : ReceiverHalf) : Type 0 where
  pub state : q.state ≡ r.state
  pub format : q.format ≡ r.format
  pub holds : held q ≡ held r
  pub tally : q.tally ≡ r.tally

same_as : {r q : ReceiverHalf} → q ≡ r → SameHearing r q
same_as e =
    record {
      state = ap (λ (h : ReceiverHalf). h.state) e;
      format = ap (λ (h : ReceiverHalf). h.format) e;
      holds = ap held e;
      tally = ap (λ (h : ReceiverHalf). h.tally) e;
    }

held_alike : {v w : ℕ} {t u : RxC} → v ≡ w → t ≡ u → ◌≡◌ {A = Held} (record { value = v; stamp = t }) (record { value = w; stamp = u })
held_alike p q = rw (p, q)

on_so : (a b c : Bool) → (a && b && c) ≡ true → a ≡ true
on_so a b c e = (both a b (both (a && b) c e).0).0

write_same : (d : Device) (address v : ℕ) → listening (write_register d address v) ≡ true → SameHearing d.receiver (write_register d address v).receiver
unfolding write_register
write_same d address v =
    let Same : Device → Type 0 = λ e. listening e ≡ true → SameHearing d.receiver e.receiver in
    either Same (eqb address 0) (λ _. same_as refl)
    (either Same (eqb address 1) (λ _. same_as refl)
    (either Same (eqb address 2) (λ _. same_as refl)
    (λ l. same_as (ap (λ (b : Bool). cond b d.receiver (emptied (dropped d.receiver))) (sym (receive_stored v) ∙ on_so (receive_enable (stored v)) (eqb d.pins.dcd 0) (on d.registers.accepted) l)))))

abbrev has_sample : Call → Bool
has_sample c = if_sample c (λ (x : Bool). true) false

done_same : (d : Device) (c : Call) → refusal d c ≡ 0 → has_sample c ≡ false → in_range d ≡ true → listening (next d c) ≡ true → SameHearing (settled d).receiver (next d c).receiver
done_same d Reset n s h l = absurd (let z : ◌≡◌ {A = ℕ} 0 1 = ap bit l in omega arith)
done_same d (Read address) n s h l = let r = read_leaves d address n in record { state = r.state; format = r.format; holds = held_alike r.holding r.stamp; tally = r.tally }
done_same d (Write address v) n s h l =
    let e : next d (Write address v) ≡ write_register (settled d) address v = ap (λ (o : Outcome). o.device) (done_write d address v n) in
    subst (λ (k : Device). SameHearing (settled d).receiver k.receiver) (sym e) (write_same (settled d) address v (subst (λ (k : Device). listening k ≡ true) e l))
done_same d (SetPins dsr dcd cts) n s h l = same_as (pins_leave d dsr dcd cts n).receiver
done_same d Transmit n s h l = same_as (transmit_leaves d).receiver
done_same d (Receive x) n s h l = absurd (sampled (leb x 1) n s)
  where
    sampled : (b : Bool) → ◌≡◌ {A = ℕ} (cond b 0 2) 0 → cond b true false ≡ false → ⊥
    sampled true n s = let z : ◌≡◌ {A = ℕ} 1 0 = ap bit s in omega arith
    sampled false n s = omega arith
done_same d Outputs n s h l = same_as (ap (λ (e : Device). e.receiver) (sym (settled_is d h)))

-- every call but an accepted receive tick leaves what is under way and what is held, as long as receive stays on
pub hearing_kept : (d : Device) (c : Call) → in_range d ≡ true → has_sample c ≡ false → listening (next d c) ≡ true → SameHearing d.receiver (next d c).receiver
hearing_kept d c h s l = go (eqb (refusal d c) 0) refl
  where
    go : (b : Bool) → eqb (refusal d c) 0 ≡ b → SameHearing d.receiver (next d c).receiver
    go true e = subst (λ (k : Device). SameHearing k.receiver (next d c).receiver) (settled_is d h) (done_same d c (eqb-true _ _ e) s h l)
    go false e = same_as (ap (λ (k : Device). k.receiver) (refused_unchanged d c (eqb-false _ _ e)).device)

-- == a sample ==

brought_holding : (r : ReceiverHalf) (k : ℕ) (h : Option Arrival) (rest : List Arrived) → last_held (held r) (tell k h rest) ≡ last_held (held (brought r h).half) rest
brought_holding r k None rest = refl
brought_holding r k (Some a) rest = refl

module _ (f : Format) (d : Device) (x : Bool) (h : in_range d ≡ true) (l : Listens f d) (t : Tuned f d.receiver) where
  half_is : received d x ≡ link-hearing.receive d.receiver true f x
  half_is = ap₂ (λ (live : Bool) (g : Format). link-hearing.receive d.receiver live g x) l.live l.format

  -- the half with this tick counted
  abbrev q : ReceiverHalf
  q = receiver_later 1 d.receiver

  heard_is : (received d x).heard ≡ (sample f d.receiver.state x (rx_later 1 d.receiver.tally)).heard
  heard_is = ap (λ (o : Received). o.heard) half_is ∙ hear_heard f d.receiver x t

  state_is : (received d x).half.state ≡ leaves f d.receiver.state x
  state_is = ap (λ (o : Received). o.half.state) half_is ∙ hear_state f d.receiver x t ∙ leaves_alike f d.receiver.state x q.tally

  counted : (received d x).half.tally ≡ rx_later 1 d.receiver.tally
  counted = ap (λ (o : Received). o.half.tally) half_is ∙ receive_counts d.receiver true f x

  tuned_still : Tuned f (received d x).half
  tuned_still = subst (λ (o : Received). Tuned f o.half) (sym half_is) (hear_tuned f d.receiver x t)

  holds_it : (k : ℕ) (rest : List Arrived) → last_held (held d.receiver) (tell k (received d x).heard rest) ≡ last_held (held (received d x).half) rest
  holds_it k rest =
      let o = sample f d.receiver.state x q.tally in
      ap (λ (h : Option Arrival). last_held (held d.receiver) (tell k h rest)) heard_is
      ∙ brought_holding (stepped q f o.next) k o.heard rest
      ∙ ap (λ (o : Received). last_held (held o.half) rest) (sym (half_is ∙ receive_is f d.receiver x t))

-- == a run ==

-- after k samples that were before, of which the first found the tally at t
pub record Hears (f : Format) (t : RxC) (k : ℕ) (d : Device) (cs : List Call) : Type 0 where
  pub brings : arrived_in d k cs ≡ arrivals f t d.receiver.state k (samples cs)
  pub holds : held (after d cs).receiver ≡ last_held (held d.receiver) (arrived_in d k cs)

at_none : {A : Type 0} (c : Call) (g : Bool → A) (b : A) → has_sample c ≡ false → if_sample c g b ≡ b
at_none Reset g b e = refl
at_none (Read address) g b e = refl
at_none (Write address v) g b e = refl
at_none (SetPins dsr dcd cts) g b e = refl
at_none Transmit g b e = refl
at_none (Receive x) g b e = refused (leb x 1) (g (on x)) b e
  where
    refused : {A : Type 0} (t : Bool) (a b : A) → cond t true false ≡ false → cond t a b ≡ b
    refused true a b e = absurd (let z : ◌≡◌ {A = ℕ} 1 0 = ap bit e in omega arith)
    refused false a b e = refl
at_none Outputs g b e = refl

listens_at : (f : Format) (d : Device) (cs : List Call) → Throughout (Listens f) d cs → Listens f d
listens_at f d [] l = l
listens_at f d (c ∷ cs) l = l.0

module _ (f : Format) (t : RxC) where
  -- what is known before the calls cs, after k samples
  record Ready (k : ℕ) (d : Device) (cs : List Call) : Type 0 where
    within : in_range d ≡ true
    listens : Throughout (Listens f) d cs
    tuned : Tuned f d.receiver
    tally : d.receiver.tally ≡ rx_later k t

  -- a call without a sample brings nothing
  passes : (k : ℕ) (d : Device) (c : Call) (cs : List Call) → has_sample c ≡ false → Ready k d (c ∷ cs) → (Ready k (next d c) cs → Hears f t k (next d c) cs) → Hears f t k d (c ∷ cs)
  passes k d c cs s a rest =
      let same = hearing_kept d c a.within s (listens_at f (next d c) cs a.listens.1).live in
      let none : arrived_in d k (c ∷ cs) ≡ arrived_in (next d c) k cs = at_none c (λ (x : Bool). tell (suc k) (received (settled d) x).heard (arrived_in (next d c) (suc k) cs)) (arrived_in (next d c) k cs) s in
      let w = rest (record {
        within = next_in d c a.within;
        listens = a.listens.1;
        tuned = rw (same.state, same.format) a.tuned;
        tally = same.tally ∙ a.tally;
      }) in
      record {
        brings =
            none ∙ w.brings
            ∙ ap₂ (λ (r : Receiver) (ls : List Bool). arrivals f t r k ls) same.state (sym (at_none c (λ (x : Bool). x ∷ samples cs) (samples cs) s));
        holds = w.holds ∙ ap₂ last_held same.holds (sym none);
      }

  -- an accepted receive tick takes the line's own step
  takes : (k : ℕ) (d : Device) (x : ℕ) (cs : List Call) → leb x 1 ≡ true → Ready k d (Receive x ∷ cs) → (Ready (suc k) (next d (Receive x)) cs → Hears f t (suc k) (next d (Receive x)) cs) → Hears f t k d (Receive x ∷ cs)
  unfolding receive_tick
  takes k d x cs s a rest =
      let l : Listens f d = a.listens.0 in
      let e : next d (Receive x) ≡ receive_tick d (on x) =
      ap (λ (o : Outcome). o.device) (done_receive d x (ap (λ (b : Bool). cond b 0 2) s)) ∙ ap (λ (q : Device). receive_tick q (on x)) (settled_is d a.within) in
      let now : rx_later 1 d.receiver.tally ≡ rx_later (suc k) t =
      ap (rx_later 1) a.tally ∙ rx_later_later 1 k t ∙ ap (λ (n : ℕ). rx_later n t) (let q : k + 1 ≡ suc k = omega arith in q) in
      let w = rest (record {
        within = next_in d (Receive x) a.within;
        listens = a.listens.1;
        tuned = subst (λ (q : Device). Tuned f q.receiver) (sym e) (tuned_still f d (on x) a.within l a.tuned);
        tally = ap (λ (q : Device). q.receiver.tally) e ∙ counted f d (on x) a.within l a.tuned ∙ now;
      }) in
      let some : arrived_in d k (Receive x ∷ cs) ≡ tell (suc k) (received d (on x)).heard (arrived_in (next d (Receive x)) (suc k) cs) =
      ap (λ (b : Bool). cond b (tell (suc k) (received (settled d) (on x)).heard (arrived_in (next d (Receive x)) (suc k) cs)) (arrived_in (next d (Receive x)) k cs)) s
      ∙ ap (λ (q : Device). tell (suc k) (received q (on x)).heard (arrived_in (next d (Receive x)) (suc k) cs)) (settled_is d a.within) in
      record {
        brings =
            some
            ∙ ap₂ (tell (suc k)) (heard_is f d (on x) a.within l a.tuned ∙ ap (λ (n : RxC). (sample f d.receiver.state (on x) n).heard) now)
            (w.brings ∙ ap (λ (r : Receiver). arrivals f t r (suc k) (samples cs)) (ap (λ (q : Device). q.receiver.state) e ∙ state_is f d (on x) a.within l a.tuned))
            ∙ ap (arrivals f t d.receiver.state k) (sym (ap (λ (b : Bool). cond b (on x ∷ samples cs) (samples cs)) s));
        holds =
            w.holds
            ∙ ap (λ (q : Device). last_held (held q.receiver) (arrived_in (next d (Receive x)) (suc k) cs)) e
            ∙ sym (holds_it f d (on x) a.within l a.tuned (suc k) (arrived_in (next d (Receive x)) (suc k) cs))
            ∙ ap (last_held (held d.receiver)) (sym some);
      }

  run : (k : ℕ) (d : Device) (cs : List Call) → Ready k d cs → Hears f t k d cs
  run k d [] a = record { brings = refl; holds = refl }
  run k d (Reset ∷ cs) a = passes k d Reset cs refl a (run k (next d Reset) cs)
  run k d (Read address ∷ cs) a = passes k d (Read address) cs refl a (run k (next d (Read address)) cs)
  run k d (Write address v ∷ cs) a = passes k d (Write address v) cs refl a (run k (next d (Write address v)) cs)
  run k d (SetPins dsr dcd cts ∷ cs) a = passes k d (SetPins dsr dcd cts) cs refl a (run k (next d (SetPins dsr dcd cts)) cs)
  run k d (Transmit ∷ cs) a = passes k d Transmit cs refl a (run k (next d Transmit) cs)
  run k d (Receive x ∷ cs) a = tick k d x cs (leb x 1) refl a (run k (next d (Receive x)) cs) (run (suc k) (next d (Receive x)) cs)
    where
      tick : (k : ℕ) (d : Device) (x : ℕ) (cs : List Call) (b : Bool) → leb x 1 ≡ b → Ready k d (Receive x ∷ cs) → (Ready k (next d (Receive x)) cs → Hears f t k (next d (Receive x)) cs) → (Ready (suc k) (next d (Receive x)) cs → Hears f t (suc k) (next d (Receive x)) cs) → Hears f t k d (Receive x ∷ cs)
      tick k d x cs true e a same more = takes k d x cs e a more
      tick k d x cs false e a same more = passes k d (Receive x) cs (ap (λ (b : Bool). cond b true false) e) a same
  run k d (Outputs ∷ cs) a = passes k d Outputs cs refl a (run k d cs)

module _ (f : Format) (d : Device) (cs : List Call) (h : in_range d ≡ true) (w : d.receiver.state ≡ waiting) (l : Throughout (Listens f) d cs) where
  -- the tally before the levels
  abbrev t : RxC
  t = d.receiver.tally

  ready : Ready f t 0 d cs
  ready = record { within = h; listens = l; tuned = rw w; tally = refl }

  positive : 0 < f.factor
  positive = subst (λ (g : Format). 0 < g.factor) (listens_at f d cs l).format (in_range_bounds (receive_format d.registers) (format_in d.registers.mode1 (has 16 d.registers.mode2))).ticks

  -- the arrivals are the reading of the levels, same sample numbers, values, flags and stamps, in order
  pub arrivals_are_the_reading : arrived_in d 0 cs ≡ reading f d.receiver.tally (samples cs)
  arrivals_are_the_reading = (run f t 0 d cs ready).brings ∙ ap (λ (r : Receiver). arrivals f t r 0 (samples cs)) w ∙ line-received.received f t (samples cs) positive

  -- and RHR holds the last of them, with its stamp
  pub holds_the_last : held (after d cs).receiver ≡ last_held (held d.receiver) (reading f d.receiver.tally (samples cs))
  holds_the_last = (run f t 0 d cs ready).holds ∙ ap (last_held (held d.receiver)) arrivals_are_the_reading
