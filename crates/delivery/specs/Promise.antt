-- Demand 3 for one way of the line: every character arrives unchanged, in order, with no flag, within L+D joined ticks of its write, and after
-- exactly 1+D on an idle sender; when the sender may be written, and what is read.
-- Assumes nothing.
use Rattle.std.specs.Prelude.{ℕ, ◌+◌, ◌≤◌, ◌<◌, max, ◌≡◌, Bool, true, false, List, [], ◌∷◌, ◌++◌, map, ltb, length}
use Rattle.line_rules.specs.declared.Format.{Format}
use Rattle.line_rules.specs.declared.RxC.{RxC}
use Rattle.line_rules.specs.Sending.{cut, frame_length, stop_sample}
use Rattle.line_rules.specs.Clocks.{rx_later}
use Rattle.link_rules.specs.declared.SenderHalf.{SenderHalf}
use Rattle.delivery.specs.Log.{Entry}
use Rattle.delivery.specs.OneWay.{OneWay, Logged, latest}

-- when the frames of these characters are over: each begins once it is written and the one before it is over, and takes L ticks.
-- A sender is idle from then on: no frame under way, nothing waiting (proofs/Carried.antt, `way_idles`)
abbrev pub over : ℕ → List Entry → ℕ
over L [] = 0
over L (x ∷ xs) = max x.at (over L xs) + L

-- the frame of the latest character written has begun; with no write yet there is none to wait for
abbrev pub has_begun : ℕ → ℕ → List Entry → Bool
has_begun L now [] = true
has_begun L now (x ∷ xs) = ltb (max x.at (over L xs)) now

-- in the sender's format
module _ (f : Format) where
  abbrev pub L : ℕ
  L = frame_length f

  abbrev pub D : ℕ
  D = stop_sample f

  -- y is the arrival of the character x, written after the characters xs: unchanged but for the bits above its length,
  -- not later than L+D after the write, at exactly 1+D where the sender was idle, and at 1+D after its frame began in every case
  pub record Answers (y x : Entry) (xs : List Entry) : Type 0 where
    pub value : y.value ≡ cut f x.value
    pub bound : y.at ≤ x.at + (L + D)
    pub idle : over L xs ≤ x.at → y.at ≡ x.at + (1 + D)
    pub exact : y.at ≡ max x.at (over L xs) + (1 + D)

  -- the arrivals, one by one, in the order of the writes; the latest first
  pub data Answered : List Entry → List Entry → Type 0 where
    nothing : Answered [] []
    one : {y x : Entry} {ys xs : List Entry} → Answers y x xs → Answered ys xs → Answered (y ∷ ys) (x ∷ xs)

  -- those of the first writes; each write that has none yet is still within its bound
  pub data Delivered (now : ℕ) (ys : List Entry) : List Entry → Type 0 where
    all : {xs : List Entry} → Answered ys xs → Delivered now ys xs
    due : {x : Entry} {xs : List Entry} → now < x.at + (L + D) → Delivered now ys xs → Delivered now ys (x ∷ xs)

-- each of them was logged by now
pub data ByNow (now : ℕ) : List Entry → Type 0 where
  nothing : ByNow now []
  one : {x : Entry} {xs : List Entry} → x.at ≤ now → ByNow now xs → ByNow now (x ∷ xs)

-- == what the bench sees ==

abbrev pub values : List Entry → List ℕ
values ys = map (λ (y : Entry). y.value) ys

-- none is unread when all that came is read, and one is from an arrival's tick until its read
pub data Fetched : Bool → List Entry → List ℕ → Type 0 where
  all : {ys : List Entry} → Fetched false ys (values ys)
  but_one : {y : Entry} {ys : List Entry} → Fetched true (y ∷ ys) (values ys)

-- the values read are, in order, the first writes, cut
pub record FirstWrites (f : Format) (vs : List ℕ) (xs : List Entry) : Type 0 where
  pub later : List Entry
  pub first : List Entry
  pub written : xs ≡ later ++ first
  pub read : vs ≡ map (λ (x : Entry). cut f x.value) first

-- the same with the first one first: what was read is a beginning of what was written, cut, and all of it where the run is finished
pub record InOrder (f : Format) (finished : Type 0) (read written : List ℕ) : Type 0 where
  pub later : List ℕ
  pub begins : map (cut f) written ≡ read ++ later
  pub all : finished → map (cut f) written ≡ read

-- 'idle' in a sending half: no frame under way and nothing waiting exactly when the frames of all that was written are over
pub record Idles (f : Format) (s : SenderHalf) (now : ℕ) (xs : List Entry) : Type 0 where
  pub nothing : over (frame_length f) xs ≤ now → (s.frame.place ≡ 0) × (s.full ≡ 0)
  pub over_by_now : s.frame.place ≡ 0 → s.full ≡ 0 → over (frame_length f) xs ≤ now

-- == stamps: request P4 ==

-- the stamp of a character that came: t is the receive tally where the way began, and each joined tick since then counts
abbrev pub stamp_of : RxC → Entry → RxC
stamp_of t y = rx_later y.at t

-- the held character's, which is the latest that came
abbrev pub Stamped : RxC → RxC → List Entry → Type 0
Stamped t shown [] = Unit {0}
Stamped t shown (y ∷ ys) = shown ≡ stamp_of t y

-- of what came, what was read: all of it, but for one that is unread
abbrev pub read_of : Bool → List Entry → List Entry
read_of false ys = ys
read_of true [] = []
read_of true (y ∷ ys) = ys

-- the stamps of that, in the order of the log
abbrev pub stamps_read : RxC → Bool → List Entry → List RxC
stamps_read t unread ys = map (stamp_of t) (read_of unread ys)

-- == the promise ==

pub record Promised {W X : Type 0} (o : OneWay W X) (f : Format) (w : Logged W) : Type 0 where
  pub delivered : Delivered f w.now w.log.came w.log.written
  pub unread : Fetched (o.unread w.bench) w.log.came w.log.read
  pub reads : FirstWrites f w.log.read w.log.written
  pub permission : o.may_write w.bench ≡ has_begun (frame_length f) w.now w.log.written
  pub no_flag : o.flagged w.bench ≡ false

-- a run is finished where L+D joined ticks have passed since the latest write, and nothing is unread
pub record Finished {W X : Type 0} (o : OneWay W X) (f : Format) (w : Logged W) : Type 0 where
  pub passed : latest w.log.written + (L f + D f) ≤ w.now
  pub read : o.unread w.bench ≡ false

-- == a character still to come: request P12 ==

-- more were written than have come
abbrev pub Awaited : {W : Type 0} → Logged W → Type 0
Awaited w = length w.log.came < length w.log.written
