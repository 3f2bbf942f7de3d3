-- Two channels joined by a line, of one board or of two: request P2, "Demand 3 per channel". What a run of board calls is to the two chips.
-- Assumes nothing.
use Rattle.std.specs.Prelude.{ℕ, ◌<◌, ◌≡◌, Bool, true, false, cond, ◌&&◌, List, [], ◌∷◌, ◌++◌, map, eqb, length}
use Rattle.ins2651_rules.specs.declared.Device.{Device}
use Rattle.ins2651_rules.specs.Runs as chip
use Rattle.delivery.specs.Log.{nothing_yet}
use Rattle.delivery.specs.Joined.{Side, A, B}
use Rattle.joined_rules.specs.declared.Pair.{Pair}
use Rattle.joined_rules.specs.Bench as bench
use Rattle.board_rules.specs.Ports.{Call, Reset, Transmit, Receive, Deed, deed}
use Rattle.board_rules.specs.Runs.{device_at, said, Cabinet, next}
use Rattle.board_rules.specs.Channels.{reaches, calls_by}

-- == the boards ==

-- two of them, each with its room; where both channels are of one board the other one may be any
pub record Boards : Type 0 where
  pub one : Cabinet
  pub two : Cabinet

pub data Which : Type 0 where
  One : Which
  Two : Which

abbrev pub same : Which → Which → Bool
same One One = true
same One Two = false
same Two One = false
same Two Two = true

abbrev pub cabinet : Which → Boards → Cabinet
cabinet One w = w.one
cabinet Two w = w.two

-- a call to one of them leaves the other as it was
abbrev pub called : Which → Call → Boards → Boards
called One c w = record { one = next w.one c; two = w.two }
called Two c w = record { one = w.one; two = next w.two c }

-- the value that it answers, and what it comes to
abbrev pub told : Which → Call → Boards → ℕ
told k c w = (said (cabinet k w).board (cabinet k w).room c).value

abbrev pub deed_of : Which → Call → Boards → Deed
deed_of k c w = deed (cabinet k w).board (cabinet k w).room c

-- == two channels ==

pub record Spot : Type 0 where
  pub which : Which
  pub channel : ℕ

pub record Spots : Type 0 where
  pub a : Spot
  pub b : Spot

abbrev pub spot_at : Side → Spots → Spot
spot_at A l = l.a
spot_at B l = l.b

abbrev pub is_at : Which → ℕ → Spot → Bool
is_at k n p = same k p.which && eqb n p.channel

abbrev pub device_of : Spot → Boards → Device
device_of p w = device_at (cabinet p.which w).room p.channel

abbrev pub pair_of : Spots → Boards → Pair
pair_of l w = record { a = device_of l.a w; b = device_of l.b w }

-- two different channels, each of the eight of its board
pub record Joined (l : Spots) (w : Boards) : Type 0 where
  pub apart : is_at l.a.which l.a.channel l.b ≡ false
  pub there : (s : Side) → (spot_at s l).channel < 8
  pub rooms : (s : Side) → length (cabinet (spot_at s l).which w).room ≡ 8

-- == steps ==

-- a call to one of the boards, and what such calls leave, the first one first
pub record Aside : Type 0 where
  pub which : Which
  pub call : Call

abbrev pub all_called : List Aside → Boards → Boards
all_called [] w = w
all_called (x ∷ xs) w = all_called xs (called x.which x.call w)

-- what comes between the four calls of a joined tick
pub record Between : Type 0 where
  pub first : List Aside
  pub second : List Aside
  pub third : List Aside

abbrev pub nothing : Between
nothing = record { first = []; second = []; third = [] }

pub data Place : Type 0 where
  First : Place
  Second : Place
  Third : Place

abbrev pub asides_at : Place → Between → List Aside
asides_at First m = m.first
asides_at Second m = m.second
asides_at Third m = m.third

-- a reset of the board that has the channel at a side
abbrev pub reset_of : Spots → Side → Aside
reset_of l s = record { which = (spot_at s l).which; call = Reset }

-- a joined tick of the two channels, or any call to one of the boards
pub data Step : Type 0 where
  Tick : Between → Step
  On : Which → Call → Step

module _ (l : Spots) where
  abbrev pub sends : Side → Boards → Boards
  sends s w = called (spot_at s l).which (Transmit (spot_at s l).channel) w

  abbrev pub sent : Side → Boards → ℕ
  sent s w = told (spot_at s l).which (Transmit (spot_at s l).channel) w

  abbrev pub hears : Side → ℕ → Boards → Boards
  hears s x w = called (spot_at s l).which (Receive (spot_at s l).channel x) w

  -- two board transmit ticks, then two board receive ticks with the other's level
  module _ (m : Between) (w : Boards) where
    abbrev pub one_sent : Boards
    one_sent = all_called m.first (sends A w)

    abbrev pub both_sent : Boards
    both_sent = all_called m.second (sends B one_sent)

    abbrev pub one_heard : Boards
    one_heard = all_called m.third (hears A (sent B one_sent) both_sent)

    abbrev pub ticked : Boards
    ticked = hears B (sent A w) one_heard

  abbrev pub moved : Boards → Step → Boards
  moved w (Tick m) = ticked m w
  moved w (On k c) = called k c w

  -- after a list of steps, the first one first
  abbrev pub all_moved : Boards → List Step → Boards
  all_moved w [] = w
  all_moved w (x ∷ xs) = all_moved (moved w x) xs

-- == what they are to the two chips ==

-- a board call makes one of the chip at a spot ..
abbrev pub reaches_spot : Spot → Which → Deed → Bool
reaches_spot p k e = same k p.which && reaches p.channel e

-- .. and these are the calls
abbrev pub made_at : Spot → Which → Deed → List chip.Call
made_at p k e = cond (same k p.which) (calls_by p.channel e) []

abbrev pub call_steps : Spots → Which → Deed → List bench.Step
call_steps l k e = map (bench.At A) (made_at l.a k e) ++ map (bench.At B) (made_at l.b k e)

abbrev pub none : List bench.Step → Bool
none [] = true
none (x ∷ xs) = false

abbrev pub aside_steps : Spots → List Aside → Boards → List bench.Step
aside_steps l [] w = []
aside_steps l (x ∷ xs) w = call_steps l x.which (deed_of x.which x.call w) ++ aside_steps l xs (called x.which x.call w)

module _ (l : Spots) (m : Between) (w : Boards) where
  -- what comes between is nothing to the two
  abbrev pub aloof : Bool
  aloof = none (aside_steps l m.first (sends l A w)) && none (aside_steps l m.second (sends l B (one_sent l m w)))
      && none (aside_steps l m.third (hears l A (sent l B (one_sent l m w)) (both_sent l m w)))

  abbrev pub one_by_one : List bench.Step
  one_by_one =
      (bench.At A chip.Transmit ∷ aside_steps l m.first (sends l A w))
      ++ (bench.At B chip.Transmit ∷ aside_steps l m.second (sends l B (one_sent l m w)))
      ++ (bench.At A (chip.Receive (sent l B (one_sent l m w))) ∷ aside_steps l m.third (hears l A (sent l B (one_sent l m w)) (both_sent l m w)))
      ++ (bench.At B (chip.Receive (sent l A w)) ∷ [])

-- then the four are a joined tick, and else each is a call for itself
abbrev pub steps_of : Spots → Boards → Step → List bench.Step
steps_of l w (Tick m) = cond (aloof l m w) (bench.Tick ∷ []) (one_by_one l m w)
steps_of l w (On k c) = call_steps l k (deed_of k c w)

-- each step where it stands
abbrev pub steps_at : Spots → Boards → List Step → List bench.Step
steps_at l w [] = []
steps_at l w (x ∷ xs) = steps_of l w x ++ steps_at l (moved l w x) xs

-- == demand 3 ==

-- a set-up, then one joined tick
abbrev pub begun : Spots → Boards → List Step → Between → Boards
begun l w us m = ticked l m (all_moved l w us)

-- the bench of the two chips from there, with the logs of both ways
abbrev pub fresh : Spots → Boards → List Step → Between → bench.Bench
fresh l w us m = record { pair = pair_of l (begun l w us m); now = 0; there = nothing_yet; back = nothing_yet }
