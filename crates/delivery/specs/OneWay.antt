-- One way of the line on a bench of any kind: what can be seen of it, the log that is kept beside it, and what is allowed.
-- Assumes nothing.
use Rattle.std.specs.Prelude.{ℕ, suc, ◌+◌, Bool, true, cond, not, ◌&&◌, ◌||◌, List, [], ◌∷◌, ltb}
use Rattle.line_rules.specs.declared.RxC.{RxC}
use Rattle.delivery.specs.Log.{Entry, Way, nothing_yet, log_write, log_arrival, log_read}

-- == what can be seen ==

-- what a step of the bench is to the way: a joined tick, a character written at the end that sends, a read of the holding register at the end
-- that receives, or none of these
pub data Deed : Type 0 where
  Ticks : Deed
  Writes : ℕ → Deed
  Reads : Deed
  Passes : Deed

-- one way of a bench with states W and steps X
pub record OneWay (W X : Type 0) : Type 0 where
  -- the bench after a step, what the step is to the way, and whether it leaves alone what the way rests on
  pub next : W → X → W
  pub deed : W → X → Deed
  pub steady : W → X → Bool
  -- the end that sends: whether it may be written, and the level that it sends at the next joined tick
  pub may_write : W → Bool
  pub level : W → Bool
  -- the end that receives: whether it holds an unread character, what a read would give, that character's stamp, and whether it shows an error flag
  pub unread : W → Bool
  pub character : W → ℕ
  pub stamp : W → RxC
  pub flagged : W → Bool

-- == the log ==

-- the bench, the joined ticks so far, and the log
pub record Logged (W : Type 0) : Type 0 where
  pub bench : W
  pub now : ℕ
  pub log : Way

abbrev pub no_log : {W : Type 0} → W → Logged W
no_log w = record { bench = w; now = 0; log = nothing_yet }

-- a joined tick counts
abbrev pub later : ℕ → Deed → ℕ
later now Ticks = suc now
later now (Writes v) = now
later now Reads = now
later now Passes = now

module _ {W X : Type 0} (o : OneWay W X) where
  -- what a step adds to the log, where it makes e of the bench d: a character came if none was unread before the tick and one is after it
  abbrev pub entered : ℕ → W → W → Deed → Way → Way
  entered now d e Ticks l = cond (not (o.unread d) && o.unread e) (log_arrival (suc now) (o.character e) l) l
  entered now d e (Writes v) l = log_write now v l
  entered now d e Reads l = cond (o.unread d) (log_read (o.character d) l) l
  entered now d e Passes l = l

  abbrev pub made : Logged W → W → Deed → Logged W
  made w e k = record { bench = e; now = later w.now k; log = entered w.now w.bench e k w.log }

  abbrev pub step : Logged W → X → Logged W
  step w x = made w (o.next w.bench x) (o.deed w.bench x)

  -- after a list of steps, the first one first
  abbrev pub runs : Logged W → List X → Logged W
  runs w [] = w
  runs w (x ∷ xs) = runs (step w x) xs

-- == what is allowed ==

-- when the latest came
abbrev pub latest : List Entry → ℕ
latest [] = 0
latest (y ∷ ys) = y.at

-- a joined tick is allowed if nothing is unread, or if it is not the L-th since the latest came: that one is read before L more
abbrev pub in_time : ℕ → ℕ → Bool → Way → Bool
in_time L now unread w = not unread || ltb (suc now) (latest w.came + L)

module _ {W X : Type 0} (o : OneWay W X) where
  -- a character is written only when the end may be, and is read before L more joined ticks, where L is the sender's
  abbrev pub permits : ℕ → Logged W → Deed → Bool
  permits L w Ticks = in_time L w.now (o.unread w.bench) w.log
  permits L w (Writes v) = o.may_write w.bench && ltb v 256
  permits L w Reads = true
  permits L w Passes = true

  abbrev pub allowed : ℕ → Logged W → X → Bool
  allowed L w x = o.steady w.bench x && permits L w (o.deed w.bench x)

  -- each step where it stands
  abbrev pub all_allowed : ℕ → Logged W → List X → Bool
  all_allowed L w [] = true
  all_allowed L w (x ∷ xs) = allowed L w x && all_allowed L (step o w x) xs

-- == what was written and read, from the steps alone, the first one first ==

abbrev pub putting : Deed → List ℕ → List ℕ
putting Ticks vs = vs
putting (Writes v) vs = v ∷ vs
putting Reads vs = vs
putting Passes vs = vs

-- a read counts where a character was unread: c is what it gives
abbrev pub getting : {A : Type 0} → Bool → A → Deed → List A → List A
getting unread c Ticks vs = vs
getting unread c (Writes v) vs = vs
getting unread c Reads vs = cond unread (c ∷ vs) vs
getting unread c Passes vs = vs

module _ {W X : Type 0} (o : OneWay W X) where
  -- the characters written
  abbrev pub puts : W → List X → List ℕ
  puts d [] = []
  puts d (x ∷ xs) = putting (o.deed d x) (puts (o.next d x) xs)

  -- what c tells of the bench at each read made while a character was unread ..
  abbrev pub gets_of : {A : Type 0} → (W → A) → W → List X → List A
  gets_of c d [] = []
  gets_of c d (x ∷ xs) = getting (o.unread d) (c d) (o.deed d x) (gets_of c (o.next d x) xs)

  -- .. the values of those reads
  abbrev pub gets : W → List X → List ℕ
  gets d xs = gets_of o.character d xs
