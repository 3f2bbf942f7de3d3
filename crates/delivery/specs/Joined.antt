-- Two chips on a line, of any two kinds, on a bench that may hold more: what a bench sees of a chip, and the line's two ways.
-- Assumes nothing.
use Rattle.std.specs.Prelude.{ℕ, ◌≡◌, Bool, true, false, cond}
use Rattle.line_rules.specs.declared.RxC.{RxC}
use Rattle.delivery.specs.OneWay.{Deed, Ticks, Writes, Reads, Passes, OneWay}

-- == a chip ==

-- a chip with states D and calls C
pub record Chip (D C : Type 0) : Type 0 where
  -- the device after a call; the level that it sends at a joined tick; its part of that tick, where it hears a level
  pub next : D → C → D
  pub level : D → Bool
  pub tick : D → Bool → D
  -- to send: whether it may be written, whether a call writes a character and which, and whether a call leaves alone what sending rests on
  pub may_write : D → Bool
  pub writes : D → C → Bool
  pub value : C → ℕ
  pub leaves_sending : D → C → Bool
  -- to receive: whether it holds an unread character, what a read would give, that character's stamp, whether a call is that read, whether an error
  -- flag is shown, and whether a call leaves alone what receiving rests on
  pub unread : D → Bool
  pub character : D → ℕ
  pub stamp : D → RxC
  pub reads : D → C → Bool
  pub flagged : D → Bool
  pub leaves_receiving : D → C → Bool

-- == two of them ==

pub data Side : Type 0 where
  A : Side
  B : Side

abbrev pub other : Side → Side
other A = B
other B = A

-- what a step of a bench is to two chips on a line: a joined tick, a call to the one at a side, nothing to either, or anything else
pub data Happens (Call : Side → Type 0) : Type 0 where
  Together : Happens Call
  To : (s : Side) → Call s → Happens Call
  Elsewhere : Happens Call
  Upset : Happens Call

-- a bench with states W and steps X that has two chips on a line: the chip and the device at each side, the bench after a step, and what the step is
-- to the two
pub record Line (W X : Type 0) (State Call : Side → Type 0) : Type 0 where
  pub chip : (s : Side) → Chip (State s) (Call s)
  pub device : (s : Side) → W → State s
  pub next : W → X → W
  pub happens : W → X → Happens Call

module _ {W X : Type 0} {State Call : Side → Type 0} (l : Line W X State Call) where
  -- what the device at a side then becomes: it takes its part of a joined tick, with the level that the other one sends; a call is for its own
  -- device alone; of anything else nothing is said
  abbrev pub Becomes : (s : Side) → W → Happens Call → State s → Type 0
  Becomes s w Together e = e ≡ (l.chip s).tick (l.device s w) ((l.chip (other s)).level (l.device (other s) w))
  Becomes A w (To A c) e = e ≡ (l.chip A).next (l.device A w) c
  Becomes A w (To B c) e = e ≡ l.device A w
  Becomes B w (To A c) e = e ≡ l.device B w
  Becomes B w (To B c) e = e ≡ (l.chip B).next (l.device B w) c
  Becomes s w Elsewhere e = e ≡ l.device s w
  Becomes s w Upset e = Unit {0}

  -- the bench joins the two
  pub record Joins : Type 0 where
    pub follows : (s : Side) (w : W) (x : X) → Becomes s w (l.happens w x) (l.device s (l.next w x))

-- == the way from a side to the other ==

-- what a call is to the way, at the side that sends and at the one that receives
abbrev pub writing : {D C : Type 0} → Chip D C → D → C → Deed
writing k d c = cond (k.writes d c) (Writes (k.value c)) Passes

abbrev pub reading : {D C : Type 0} → Chip D C → D → C → Deed
reading k d c = cond (k.reads d c) Reads Passes

module _ {W X : Type 0} {State Call : Side → Type 0} (l : Line W X State Call) where
  abbrev pub deed_from : Side → W → Happens Call → Deed
  deed_from s w Together = Ticks
  deed_from A w (To A c) = writing (l.chip A) (l.device A w) c
  deed_from A w (To B c) = reading (l.chip B) (l.device B w) c
  deed_from B w (To A c) = reading (l.chip A) (l.device A w) c
  deed_from B w (To B c) = writing (l.chip B) (l.device B w) c
  deed_from s w Elsewhere = Passes
  deed_from s w Upset = Passes

  abbrev pub steady_from : Side → W → Happens Call → Bool
  steady_from s w Together = true
  steady_from A w (To A c) = (l.chip A).leaves_sending (l.device A w) c
  steady_from A w (To B c) = (l.chip B).leaves_receiving (l.device B w) c
  steady_from B w (To A c) = (l.chip A).leaves_receiving (l.device A w) c
  steady_from B w (To B c) = (l.chip B).leaves_sending (l.device B w) c
  steady_from s w Elsewhere = true
  steady_from s w Upset = false

  abbrev pub way_from : Side → OneWay W X
  way_from s =
      record {
        next = l.next;
        deed = λ w x. deed_from s w (l.happens w x);
        steady = λ w x. steady_from s w (l.happens w x);
        may_write = λ w. (l.chip s).may_write (l.device s w);
        level = λ w. (l.chip s).level (l.device s w);
        unread = λ w. (l.chip (other s)).unread (l.device (other s) w);
        character = λ w. (l.chip (other s)).character (l.device (other s) w);
        stamp = λ w. (l.chip (other s)).stamp (l.device (other s) w);
        flagged = λ w. (l.chip (other s)).flagged (l.device (other s) w);
      }
