-- Demand 3 holds of one way of any bench: after every list of allowed steps, from a sender that is idle to a receiver that searches.
-- The two ends follow their halves, so that delivery between halves is delivery between ends.
-- Assumes nothing.
use Prim.Native.Nat.{ℕ, suc, ◌+◌, ◌<◌}
use mathlib.Core.Path.{◌≡◌, refl, ap, ap₂, sym, subst, ◌∙◌}
use mathlib.Core.Bool.{Bool, true, false, cond, not, ◌&&◌, ◌||◌, true≢false}
use mathlib.Core.List.{List, [], ◌∷◌, reverse, reverse_aux, reverse-reverse}
use lib.Dec.{ltb}
use borrow.Author.Tests.{ltb-true, eqb-true}
use Rattle.line_rules.specs.declared.Format.{Format}
use Rattle.line_rules.specs.declared.Receiver.{Receiver}
use Rattle.line_rules.specs.declared.RxC.{RxC}
use Rattle.line_rules.specs.Sending.{on, frame_length}
use Rattle.line_rules.proofs.Table.{both}
use Rattle.link_rules.specs.declared.SenderHalf.{SenderHalf}
use Rattle.link_rules.specs.declared.ReceiverHalf.{ReceiverHalf}
use Rattle.link_rules.specs.Parts.{emptied}
use Rattle.link_rules.specs.Transmitting.{transmit}
use Rattle.link_rules.specs.Hearing.{under_way}
use Rattle.link_rules.proofs.Halves.{Tuned}
use Rattle.delivery.specs.Log.{Way, log_arrival, log_read}
use Rattle.delivery.specs.OneWay.{Deed, Ticks, Writes, Reads, Passes, OneWay, latest, Logged, no_log, entered, made, step, runs, permits, allowed, all_allowed, gets_of}
use Rattle.delivery.specs.Promise.{Fetched, Idles, Stamped, stamps_read, Promised}
use Rattle.delivery.specs.Ends.{sender_after, receiver_after, receive_on, faults, Fit, Sends, Receives, Begins}
use Rattle.delivery.proofs.Delivery.{noticed, Flow, Flows, tick_flows, write_flows, read_flows, flow_delivers, flow_fetched, flow_permits, flow_idles, flow_stamps, flow_begins, first_writes}
use Rattle.delivery.proofs.StampsRead.{got, got_on, behind}

-- where p makes q so
or_else : (p q : Bool) → (not p || q) ≡ true → p ≡ true → q ≡ true
or_else true q h e = h
or_else false q h e = absurd (true≢false (sym e))

module _ {W X : Type 0} {o : OneWay W X} {f g : Format} (fit : Fit f g) {Sending Hearing : W → Type 0} {sender : W → SenderHalf} {receiver : W → ReceiverHalf}
    (from : Sends o f Sending sender) (to : Receives o g Hearing receiver) (t : RxC) where
  abbrev L : ℕ
  L = frame_length f

  abbrev Goes : SenderHalf → ReceiverHalf → ℕ → Way → Type 0
  Goes s r now l = Flow fit t s r now l

  -- both ends are ready, and the way flows
  record Keeps (w : Logged W) : Type 0 where
    sends : Sending w.bench
    hears : Hearing w.bench
    flow : Goes (sender w.bench) (receiver w.bench) w.now w.log

  -- what the bench notices of a tick is what the receiving half does
  notices : (now : ℕ) (d e : W) (l : Way) → Hearing d → Hearing e → entered o now d e Ticks l ≡ noticed (suc now) (receiver d) (receiver e) l
  notices now d e l h k =
      ap₂ (λ (b : Bool) (v : ℕ). cond b (log_arrival (suc now) v l) l)
      (ap₂ (λ (x y : Bool). not x && y) (to.unread d h) (to.unread e k)) (to.character e k)

  module _ (w : Logged W) (x : X) (h : Keeps w) (s : o.steady w.bench x ≡ true) where
    abbrev d : W
    d = w.bench

    abbrev e : W
    e = o.next d x

    sends_on : Sending e
    sends_on = from.ready d x h.sends s

    hears_on : faults g (o.level d) (o.deed d x) (receiver d) ≡ false → Hearing e
    hears_on n = to.ready d x h.hears s n

    -- a step that is this deed
    sender_is : (k : Deed) → o.deed d x ≡ k → sender e ≡ sender_after f k (sender d)
    sender_is k q = from.follows d x h.sends s ∙ ap (λ (m : Deed). sender_after f m (sender d)) q

    receiver_is : (k : Deed) → o.deed d x ≡ k → receiver e ≡ receiver_after g (o.level d) k (receiver d)
    receiver_is k q = to.follows d x h.hears s ∙ ap (λ (m : Deed). receiver_after g (o.level d) m (receiver d)) q

    -- it brings no fault, and leaves the way flowing
    keeps_on : (k : Deed) → o.deed d x ≡ k → faults g (o.level d) k (receiver d) ≡ false
        → (Hearing e → Goes (sender_after f k (sender d)) (receiver_after g (o.level d) k (receiver d)) (made o w e k).now (made o w e k).log)
        → Keeps (made o w e k)
    keeps_on k q n go =
        let at_to : Hearing e = hears_on (ap (λ (m : Deed). faults g (o.level d) m (receiver d)) q ∙ n) in
        record {
          sends = sends_on;
          hears = at_to;
          flow = subst (λ (a : SenderHalf). Goes a (receiver e) (made o w e k).now (made o w e k).log) (sym (sender_is k q))
              (subst (λ (r : ReceiverHalf). Goes (sender_after f k (sender d)) r (made o w e k).now (made o w e k).log) (sym (receiver_is k q)) (go at_to));
        }

    -- a joined tick, where what has come is read in time
    tick_keeps : o.deed d x ≡ Ticks → permits o L w Ticks ≡ true → Keeps (made o w e Ticks)
    tick_keeps q p =
        let lv = from.level d h.sends in
        let timely : on (receiver d).unread ≡ true → suc w.now < latest w.log.came + L =
        λ u. ltb-true _ _ (or_else (o.unread d) (ltb (suc w.now) (latest w.log.came + L)) p (to.unread d h.hears ∙ u)) in
        let goes : Flows fit t (transmit (sender d) true false f).half (receiver d) (receive_on g (o.level d) (receiver d)) w.now w.log =
        subst (λ (y : Bool). Flows fit t (transmit (sender d) true false f).half (receiver d) (receive_on g y (receiver d)) w.now w.log) (sym lv)
        (tick_flows fit t h.flow timely) in
        keeps_on Ticks q (rw goes.no_overrun goes.sound) λ at_to.
        subst (Goes (transmit (sender d) true false f).half (receive_on g (o.level d) (receiver d)).half (suc w.now))
        (sym (notices w.now d e w.log h.hears at_to ∙ ap (λ (r : ReceiverHalf). noticed (suc w.now) (receiver d) r w.log) (receiver_is Ticks q)))
        goes.flow

    write_keeps : (v : ℕ) → o.deed d x ≡ Writes v → permits o L w (Writes v) ≡ true → Keeps (made o w e (Writes v))
    write_keeps v q p =
        let m = both (o.may_write d) (ltb v 256) p in
        keeps_on (Writes v) q refl λ at_to.
        write_flows fit t v h.flow (eqb-true _ _ (sym (from.may_write_lem d h.sends) ∙ m.0)) (ltb-true _ _ m.1)

    read_keeps : o.deed d x ≡ Reads → Keeps (made o w e Reads)
    read_keeps q =
        keeps_on Reads q refl λ at_to.
        subst (Goes (sender d) (emptied (receiver d)) w.now)
        (sym (ap₂ (λ (b : Bool) (v : ℕ). cond b (log_read v w.log) w.log) (to.unread d h.hears) (to.character d h.hears)))
        (read_flows fit t h.flow)

    deed_keeps : (k : Deed) → o.deed d x ≡ k → permits o L w k ≡ true → Keeps (made o w e k)
    deed_keeps Ticks q p = tick_keeps q p
    deed_keeps (Writes v) q p = write_keeps v q p
    deed_keeps Reads q p = read_keeps q
    deed_keeps Passes q p = keeps_on Passes q refl λ at_to. h.flow

  all_keep : (w : Logged W) (xs : List X) → Keeps w → all_allowed o L w xs ≡ true → Keeps (runs o w xs)
  all_keep w [] h al = h
  all_keep w (x ∷ xs) h al =
      let p = both (allowed o L w x) (all_allowed o L (step o w x) xs) al in
      let q = both (o.steady w.bench x) (permits o L w (o.deed w.bench x)) p.0 in
      all_keep (step o w x) xs (deed_keeps w x h q.0 (o.deed w.bench x) refl q.1) p.1

  -- what holds where the way flows
  keeps_fetched : (w : Logged W) → Keeps w → Fetched (o.unread w.bench) w.log.came w.log.read
  keeps_fetched w h = subst (λ (u : Bool). Fetched u w.log.came w.log.read) (sym (to.unread w.bench h.hears)) (flow_fetched fit t h.flow)

  keeps_stamped : (w : Logged W) → Keeps w → Stamped t (o.stamp w.bench) w.log.came
  keeps_stamped w h = subst (λ (n : RxC). Stamped t n w.log.came) (sym (to.stamp w.bench h.hears)) (flow_stamps fit t h.flow)

  -- .. and what its reads give
  all_got : (w : Logged W) (xs : List X) → Keeps w → all_allowed o L w xs ≡ true → reverse_aux (gets_of o o.stamp w.bench xs) (got t o w) ≡ got t o (runs o w xs)
  all_got w [] h al = refl
  all_got w (x ∷ xs) h al =
      let p = both (allowed o L w x) (all_allowed o L (step o w x) xs) al in
      let q = both (o.steady w.bench x) (permits o L w (o.deed w.bench x)) p.0 in
      let k = deed_keeps w x h q.0 (o.deed w.bench x) refl q.1 in
      let d : W = w.bench in
      behind (o.unread d) (o.stamp d) (o.deed d x) (gets_of o o.stamp (o.next d x) xs) (got t o w)
      ∙ ap (reverse_aux (gets_of o o.stamp (o.next d x) xs)) (got_on t o w (o.next d x) (keeps_stamped w h) (o.deed d x) (keeps_fetched w h) (keeps_fetched (step o w x) k))
      ∙ all_got (step o w x) xs k p.1

-- == the theorems ==

module _ {W X : Type 0} {o : OneWay W X} {f g : Format} (fit : Fit f g) {Sending Hearing : W → Type 0} {sender : W → SenderHalf} {receiver : W → ReceiverHalf}
    (from : Sends o f Sending sender) (to : Receives o g Hearing receiver)
    -- from where a way begins, any steps that are allowed
    (w : W) (b : Begins Sending Hearing sender receiver w) (xs : List X) (ok : all_allowed o (frame_length f) (no_log w) xs ≡ true) where
  -- the receive tally there
  abbrev t : RxC
  t = (receiver w).tally

  abbrev end : Logged W
  end = runs o (no_log w) xs

  begun : Keeps fit from to t (no_log w)
  begun =
      let tuned : Tuned g (receiver w) = ap (λ (r : Receiver). cond (under_way r) (receiver w).format g) b.searches in
      record { sends = b.sends; hears = b.hears; flow = flow_begins fit t (sender w) (receiver w) b.idle b.searches b.read refl tuned }

  kept : Keeps fit from to t end
  kept = all_keep fit from to t (no_log w) xs begun ok

  -- demand 3 of one way
  pub way_delivers : Promised o f end
  way_delivers =
      record {
        delivered = flow_delivers fit t kept.flow;
        unread = keeps_fetched fit from to t end kept;
        reads = first_writes f (keeps_fetched fit from to t end kept) (flow_delivers fit t kept.flow);
        permission = from.may_write_lem end.bench kept.sends ∙ flow_permits fit t kept.flow;
        no_flag = to.no_flag end.bench kept.hears;
      }

  -- and its stamps: the held character's is the tally where the way began, and the joined ticks to its arrival
  pub way_stamps : Stamped (receiver w).tally (o.stamp end.bench) end.log.came
  way_stamps = keeps_stamped fit from to t end kept

  -- so each read of an unread character gives, with its value, the stamp of what came, the first one first
  pub way_reads_stamps : gets_of o o.stamp w xs ≡ reverse (stamps_read (receiver w).tally (o.unread end.bench) end.log.came)
  way_reads_stamps =
      sym (reverse-reverse (gets_of o o.stamp w xs))
      ∙ ap reverse (ap (reverse_aux (gets_of o o.stamp w xs)) none ∙ all_got fit from to t (no_log w) xs begun ok)
    where
      nothing_read : (u : Bool) → [] ≡ stamps_read t u []
      nothing_read true = refl
      nothing_read false = refl

      none : [] ≡ got t o (no_log w)
      none = nothing_read (o.unread w)

  -- 'idle', as the promise reads it from the log, is what it is in the sending half
  pub way_idles : Idles f (sender end.bench) end.now end.log.written
  way_idles = flow_idles fit t kept.flow
