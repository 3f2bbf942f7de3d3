-- Where a way begins: an idle sending half, and a receiving half that waits for a 1 with nothing unread, after one joined tick. The line is at mark,
-- so that the receiver searches for a start.
-- Assumes nothing.
use Prim.Native.Nat.{ℕ}
use mathlib.Core.Path.{◌≡◌, refl, sym, ap, ap₂, subst, ◌∙◌}
use mathlib.Core.Bool.{Bool, true, false}
use Rattle.line_rules.specs.declared.Format.{Format}
use Rattle.line_rules.specs.declared.Receiver.{Receiver}
use Rattle.line_rules.specs.Clocks.{rx_later}
use Rattle.line_rules.specs.Receiving.{waiting, searching, sample}
use Rattle.link_rules.specs.declared.Frame.{Frame}
use Rattle.link_rules.specs.declared.SenderHalf.{SenderHalf}
use Rattle.link_rules.specs.declared.ReceiverHalf.{ReceiverHalf}
use Rattle.link_rules.specs.Parts.{no_frame}
use Rattle.link_rules.specs.Transmitting.{transmit}
use Rattle.link_rules.specs.Hearing.{receive}
use Rattle.delivery.specs.OneWay.{Deed, Ticks, OneWay}
use Rattle.delivery.specs.Ends.{sender_after, receiver_after, receive_on, tick_faults, faults, Sends, Receives, Idle, Begins}
use Rattle.link_rules.proofs.Halves.{receive_counts}

-- a receiving half that waits and holds nothing unread, whatever it held, searches once it has heard mark, and brings no fault
record Marked (g : Format) (r : ReceiverHalf) : Type 0 where
  searches : (receive_on g true r).half.state ≡ searching
  read : (receive_on g true r).half.unread ≡ 0
  faultless : tick_faults g true r ≡ false

hears_mark : (g : Format) (r : ReceiverHalf) → r.state ≡ waiting → r.unread ≡ 0 → Marked g r
unfolding receive sample
hears_mark g r e q =
    subst (λ (s : Receiver). Marked g (record { state = s; format = r.format; holding = r.holding; unread = r.unread; stamp = r.stamp; tally = r.tally })) (sym e)
    (subst (λ (u : ℕ). Marked g (record { state = waiting; format = r.format; holding = r.holding; unread = u; stamp = r.stamp; tally = r.tally })) (sym q)
    (record { searches = refl; read = refl; faultless = refl }))

-- an idle sending half sends mark, and is idle behind it
record Idles (f : Format) (s : SenderHalf) : Type 0 where
  marks : (transmit s true false f).level ≡ true
  idles : Idle (transmit s true false f).half

sends_mark : (f : Format) (s : SenderHalf) → Idle s → Idles f s
unfolding transmit
sends_mark f s i =
    subst (λ (g : Frame). Idles f (record { frame = g; holding = s.holding; full = s.full; guard = s.guard; start = s.start; tally = s.tally })) (sym i.frame)
    (subst (λ (u : ℕ). Idles f (record { frame = no_frame; holding = s.holding; full = u; guard = s.guard; start = s.start; tally = s.tally })) (sym i.empty)
    (subst (λ (k : ℕ). Idles f (record { frame = no_frame; holding = s.holding; full = 0; guard = k; start = s.start; tally = s.tally })) (sym i.guard)
    (record { marks = refl; idles = record { frame = refl; empty = refl; guard = refl } })))

-- a joined tick counts at the end that hears it
pub tick_counts : {W X : Type 0} {o : OneWay W X} {g : Format} {R : W → Type 0} {receiver : W → ReceiverHalf} (hears : Receives o g R receiver)
    (w : W) (x : X) → o.deed w x ≡ Ticks → o.steady w x ≡ true → R w → (receiver (o.next w x)).tally ≡ rx_later 1 (receiver w).tally
tick_counts {o = o} {g = g} {receiver = receiver} hears w x ticks steady listens =
    ap (λ (r : ReceiverHalf). r.tally) (hears.follows w x listens steady ∙ ap (λ (k : Deed). receiver_after g (o.level w) k (receiver w)) ticks)
    ∙ receive_counts (receiver w) true g (o.level w)

module _ {W X : Type 0} {o : OneWay W X} {f g : Format} {S R : W → Type 0} {sender : W → SenderHalf} {receiver : W → ReceiverHalf}
    (sends : Sends o f S sender) (hears : Receives o g R receiver) (w : W) (x : X) (ticks : o.deed w x ≡ Ticks) (steady : o.steady w x ≡ true)
    (ready : S w) (listens : R w) (idle : Idle (sender w)) (waits : (receiver w).state ≡ waiting) (read : (receiver w).unread ≡ 0) where
  at_mark : Idles f (sender w)
  at_mark = sends_mark f (sender w) idle

  still_idle : Idle (sender (o.next w x))
  still_idle = subst Idle (sym (sends.follows w x ready steady ∙ ap (λ (k : Deed). sender_after f k (sender w)) ticks)) at_mark.idles

  mark : o.level w ≡ true
  mark = sends.level w ready ∙ at_mark.marks

  marked : Marked g (receiver w)
  marked = hears_mark g (receiver w) waits read

  receiver_is : receiver (o.next w x) ≡ (receive_on g true (receiver w)).half
  receiver_is = hears.follows w x listens steady ∙ ap₂ (λ (y : Bool) (k : Deed). receiver_after g y k (receiver w)) mark ticks

  faultless : faults g (o.level w) (o.deed w x) (receiver w) ≡ false
  faultless = ap₂ (λ (y : Bool) (k : Deed). faults g y k (receiver w)) mark ticks ∙ marked.faultless

  pub tick_begins : Begins S R sender receiver (o.next w x)
  tick_begins =
      record {
        sends = sends.ready w x ready steady;
        hears = hears.ready w x listens steady faultless;
        idle = still_idle;
        searches = ap (λ (h : ReceiverHalf). h.state) receiver_is ∙ marked.searches;
        read = ap (λ (h : ReceiverHalf). h.unread) receiver_is ∙ marked.read;
      }
