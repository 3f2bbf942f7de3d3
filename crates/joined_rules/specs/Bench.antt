-- A bench of two joined devices, and the logs that are kept beside them. It sees a device only through the chip's calls, and counts time in joined ticks.
-- Assumes nothing.
use Rattle.std.specs.Prelude.{ℕ, suc, List, [], ◌∷◌}
use Rattle.ins2651_rules.specs.declared.Device.{Device}
use Rattle.ins2651_rules.specs.Shape.{reset_device}
use Rattle.ins2651_rules.specs.Runs.{Call, next}
use Rattle.ins2651_ends.specs.OnALine.{ins2651}
use Rattle.delivery.specs.Log.{Way}
use Rattle.delivery.specs.OneWay.{Deed, OneWay, Logged, entered}
use Rattle.delivery.specs.Joined.{Side, A, B, Happens, Together, To, Line}
use Rattle.delivery.specs.Joined as joined
use Rattle.joined_rules.specs.declared.Pair.{Pair}
use Rattle.joined_rules.specs.Joining.{tick}

-- == steps ==

abbrev pub device_at : Side → Pair → Device
device_at A p = p.a
device_at B p = p.b

-- a joined tick, or a call to the device at one side
pub data Step : Type 0 where
  Tick : Step
  At : Side → Call → Step

abbrev pub moved : Pair → Step → Pair
moved p Tick = (tick p).pair
moved p (At A c) = record { a = next p.a c; b = p.b }
moved p (At B c) = record { a = p.a; b = next p.b c }

-- after a list of steps, the first one first
abbrev pub all_moved : Pair → List Step → Pair
all_moved p [] = p
all_moved p (s ∷ ss) = all_moved (moved p s) ss

abbrev pub just_reset : Pair
just_reset = record { a = reset_device; b = reset_device }

-- == one way of the line, from a side to the other ==

-- what a step is to the two
abbrev pub happens : Step → Happens (λ s. Call)
happens Tick = Together
happens (At s c) = To s c

-- two chips of one kind
abbrev pub line : Line Pair Step (λ s. Device) (λ s. Call)
line = record { chip = λ s. ins2651; device = device_at; next = moved; happens = λ p. happens }

abbrev pub way_from : Side → OneWay Pair Step
way_from s = joined.way_from line s

-- what a step is to it
abbrev pub deed_from : Side → Pair → Step → Deed
deed_from s p x = (way_from s).deed p x

-- == the bench ==

-- the two devices, the joined ticks so far, and the logs of the two ways: from a to b, and back
pub record Bench : Type 0 where
  pub pair : Pair
  pub now : ℕ
  pub there : Way
  pub back : Way

-- what it keeps of the way from a side
abbrev pub seen_from : Side → Bench → Logged Pair
seen_from A w = record { bench = w.pair; now = w.now; log = w.there }
seen_from B w = record { bench = w.pair; now = w.now; log = w.back }

abbrev pub clock : ℕ → Step → ℕ
clock now Tick = suc now
clock now (At s c) = now

-- a step that makes p of the two devices
abbrev pub stepped : Bench → Step → Pair → Bench
stepped w s p =
    record {
      pair = p;
      now = clock w.now s;
      there = entered (way_from A) w.now w.pair p (deed_from A w.pair s) w.there;
      back = entered (way_from B) w.now w.pair p (deed_from B w.pair s) w.back;
    }

abbrev pub step : Bench → Step → Bench
step w s = stepped w s (moved w.pair s)

-- after a list of steps, the first one first
abbrev pub runs : Bench → List Step → Bench
runs w [] = w
runs w (s ∷ ss) = runs (step w s) ss
