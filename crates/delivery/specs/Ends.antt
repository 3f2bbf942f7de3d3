-- What the two ends of a way have to show to be joined: each follows its half of `link` while nothing changes what the way rests on.
-- A chip shows `SendingEnd` and `ReceivingEnd`, once for its kind; a bench with two such chips on a line shows `Joins`, and has the rest from
-- proofs/Joined.antt. Any other bench shows `Sends` and `Receives` itself.
-- Assumes nothing.
use Rattle.std.specs.Prelude.{◌≡◌, Bool, true, false, cond, ◌||◌, eqb}
use Rattle.line_rules.specs.declared.Format.{Format}
use Rattle.line_rules.specs.declared.Arrival.{Arrival}
use Rattle.line_rules.specs.Sending.{on}
use Rattle.line_rules.specs.Range.{Bounds}
use Rattle.line_rules.specs.Receiving.{searching}
use Rattle.line_rules.specs.Sees.{Alike}
use Rattle.link_rules.specs.declared.SenderHalf.{SenderHalf}
use Rattle.link_rules.specs.declared.ReceiverHalf.{ReceiverHalf}
use Rattle.link_rules.specs.Parts.{no_frame, loaded, emptied}
use Rattle.link_rules.specs.Transmitting.{transmit}
use Rattle.link_rules.specs.Hearing.{Received, arrives, receive}
use Rattle.delivery.specs.OneWay.{Deed, Ticks, Writes, Reads, Passes, OneWay}
use Rattle.delivery.specs.Joined.{Chip}

-- == the halves ==

-- what a deed makes of the sending half: a tick of one that may start, with no break on, in the format f; a write loads it
abbrev pub sender_after : Format → Deed → SenderHalf → SenderHalf
sender_after f Ticks h = (transmit h true false f).half
sender_after f (Writes v) h = loaded h v
sender_after f Reads h = h
sender_after f Passes h = h

-- the tick of a receiving half that is on, in the format g, with the level x
abbrev pub receive_on : Format → Bool → ReceiverHalf → Received
receive_on g x h = receive h true g x

-- what a deed makes of the receiving half: a tick, with the level x on the line; a read empties it
abbrev pub receiver_after : Format → Bool → Deed → ReceiverHalf → ReceiverHalf
receiver_after g x Ticks h = (receive_on g x h).half
receiver_after g x (Writes v) h = h
receiver_after g x Reads h = emptied h
receiver_after g x Passes h = h

-- an arrival with a wrong parity or a stop of 0
abbrev pub faulty : Arrival → Bool
faulty a = a.parity || a.framing

-- a tick brings a fault: such an arrival, or one that finds the register unread
abbrev pub tick_faults : Format → Bool → ReceiverHalf → Bool
tick_faults g x h = (receive_on g x h).overrun || arrives faulty (receive_on g x h).heard

abbrev pub faults : Format → Bool → Deed → ReceiverHalf → Bool
faults g x Ticks h = tick_faults g x h
faults g x (Writes v) h = false
faults g x Reads h = false
faults g x Passes h = false

-- == the ends of a bench ==

-- the sender's format f is one of document 01's, and frames of the receiver's format g are alike
pub record Fit (f g : Format) : Type 0 where
  pub bounds : Bounds f
  pub alike : Alike f g

-- an end that sends in the format f: `Ready` is what its sending rests on
pub record Sends {W X : Type 0} (o : OneWay W X) (f : Format) (Ready : W → Type 0) (half : W → SenderHalf) : Type 0 where
  -- it may be written when its holding register is empty, and sends what its half sends
  pub may_write_lem : (w : W) → Ready w → o.may_write w ≡ eqb (half w).full 0
  pub level : (w : W) → Ready w → o.level w ≡ (transmit (half w) true false f).level
  -- a steady step leaves it ready, and does to its half what the deed does
  pub ready : (w : W) (x : X) → Ready w → o.steady w x ≡ true → Ready (o.next w x)
  pub follows : (w : W) (x : X) → Ready w → o.steady w x ≡ true → half (o.next w x) ≡ sender_after f (o.deed w x) (half w)

-- an end that receives in the format g: `Ready` is what its receiving rests on, with no error flag set
pub record Receives {W X : Type 0} (o : OneWay W X) (g : Format) (Ready : W → Type 0) (half : W → ReceiverHalf) : Type 0 where
  -- it holds an unread character when its half does, and a read gives that, with its stamp; it shows no flag
  pub unread : (w : W) → Ready w → o.unread w ≡ on (half w).unread
  pub character : (w : W) → Ready w → o.character w ≡ (half w).holding
  pub stamp : (w : W) → Ready w → o.stamp w ≡ (half w).stamp
  pub no_flag : (w : W) → Ready w → o.flagged w ≡ false
  -- a steady step that brings no fault leaves it ready; every steady step does to its half what the deed does
  pub ready : (w : W) (x : X) → Ready w → o.steady w x ≡ true → faults g (o.level w) (o.deed w x) (half w) ≡ false → Ready (o.next w x)
  pub follows : (w : W) (x : X) → Ready w → o.steady w x ≡ true → half (o.next w x) ≡ receiver_after g (o.level w) (o.deed w x) (half w)

-- nothing waits, no frame is under way and no guard stands, whatever the tallies are
pub record Idle (s : SenderHalf) : Type 0 where
  pub frame : s.frame ≡ no_frame
  pub empty : s.full ≡ 0
  pub guard : s.guard ≡ 0

-- where a way begins: both ends ready, nothing waiting and nothing under way at the one, the other searching for a start, with nothing unread
pub record Begins {W : Type 0} (Sending Hearing : W → Type 0) (sender : W → SenderHalf) (receiver : W → ReceiverHalf) (w : W) : Type 0 where
  pub sends : Sending w
  pub hears : Hearing w
  pub idle : Idle (sender w)
  pub searches : (receiver w).state ≡ searching
  pub read : (receiver w).unread ≡ 0

-- == a chip as an end ==

module _ {D C : Type 0} (k : Chip D C) where
  -- it sends in the format f
  pub record SendingEnd (f : Format) (Ready : D → Type 0) (half : D → SenderHalf) : Type 0 where
    pub may_write_lem : (d : D) → Ready d → k.may_write d ≡ eqb (half d).full 0
    pub level : (d : D) → Ready d → k.level d ≡ (transmit (half d) true false f).level
    -- its part of a joined tick, whatever it hears meanwhile
    pub tick_ready : (d : D) (x : Bool) → Ready d → Ready (k.tick d x)
    pub tick_half : (d : D) (x : Bool) → Ready d → half (k.tick d x) ≡ (transmit (half d) true false f).half
    -- a call that leaves its sending alone: a write loads the half
    pub call_ready : (d : D) (c : C) → Ready d → k.leaves_sending d c ≡ true → Ready (k.next d c)
    pub call_half : (d : D) (c : C) → Ready d → k.leaves_sending d c ≡ true → half (k.next d c) ≡ cond (k.writes d c) (loaded (half d) (k.value c)) (half d)

  -- it receives in the format g
  pub record ReceivingEnd (g : Format) (Ready : D → Type 0) (half : D → ReceiverHalf) : Type 0 where
    pub unread : (d : D) → Ready d → k.unread d ≡ on (half d).unread
    pub character : (d : D) → Ready d → k.character d ≡ (half d).holding
    pub stamp : (d : D) → Ready d → k.stamp d ≡ (half d).stamp
    pub no_flag : (d : D) → Ready d → k.flagged d ≡ false
    -- its part of a joined tick, with the level x on the line
    pub tick_ready : (d : D) (x : Bool) → Ready d → tick_faults g x (half d) ≡ false → Ready (k.tick d x)
    pub tick_half : (d : D) (x : Bool) → Ready d → half (k.tick d x) ≡ (receive_on g x (half d)).half
    -- a call that leaves its receiving alone: a read empties the half
    pub call_ready : (d : D) (c : C) → Ready d → k.leaves_receiving d c ≡ true → Ready (k.next d c)
    pub call_half : (d : D) (c : C) → Ready d → k.leaves_receiving d c ≡ true → half (k.next d c) ≡ cond (k.reads d c) (emptied (half d)) (half d)
