-- A receive tick of the receiving half: document 01, "Receiving, by receive ticks".
-- Assumes nothing.
use Rattle.std.specs.Prelude.{ℕ, Bool, false, cond, ltb, Option, None, Some}
use Rattle.line_rules.specs.declared.Format.{Format}
use Rattle.line_rules.specs.declared.Receiver.{Receiver}
use Rattle.line_rules.specs.declared.RxC.{RxC}
use Rattle.line_rules.specs.declared.Arrival.{Arrival}
use Rattle.line_rules.specs.declared.Sampled.{Sampled}
use Rattle.line_rules.specs.Sending.{on}
use Rattle.line_rules.specs.Receiving.{sample}
use Rattle.link_rules.specs.declared.ReceiverHalf.{ReceiverHalf}
use Rattle.link_rules.specs.declared.HeardTick.{HeardTick}
use Rattle.link_rules.specs.Parts.{no_format, dropped, receiver_later}

-- what a receive tick leaves and brings, and whether that found the holding register unread
pub record Received : Type 0 where
  pub half : ReceiverHalf
  pub heard : Option Arrival
  pub overrun : Bool

-- a character is under way: it neither waits for a 1 nor searches for a 0
abbrev pub under_way : Receiver → Bool
under_way s = ltb 1 s.phase

-- the format of a character is that of its tick 0
abbrev pub character_format : ReceiverHalf → Format → Format
character_format r f = cond (under_way r.state) r.format f

-- the format g is kept while a character is under way
abbrev pub kept_format : Receiver → Format → Format
kept_format s g = cond (under_way s) g no_format

-- after a sample that was read in the format g
abbrev pub stepped : ReceiverHalf → Format → Receiver → ReceiverHalf
stepped r g s = record { state = s; format = kept_format s g; holding = r.holding; unread = r.unread; stamp = r.stamp; tally = r.tally }

-- a character enters the holding register, full or not, and its stamp beside it
abbrev pub holds : ReceiverHalf → ℕ → RxC → ReceiverHalf
holds r v stamp = record { state = r.state; format = r.format; holding = v; unread = 1; stamp = stamp; tally = r.tally }

-- an arrival that is so
abbrev pub arrives : (Arrival → Bool) → Option Arrival → Bool
arrives p None = false
arrives p (Some a) = p a

-- the value of an arrival, or what was before it
abbrev pub arrived_or : ℕ → Option Arrival → ℕ
arrived_or before None = before
arrived_or before (Some a) = a.value

-- what the sample brought, and whether it found the register unread
abbrev pub brought : ReceiverHalf → Option Arrival → Received
brought r None = record { half = r; heard = None; overrun = false }
brought r (Some a) = record { half = holds r a.value a.stamp; heard = Some a; overrun = on r.unread }

abbrev pub after_sample : ReceiverHalf → Format → Sampled → Received
after_sample r g o = brought (stepped r g o.next) o.heard

-- a tick while receive is on, which the tally has counted: what arrives with it is stamped so (P4)
abbrev pub hear : ReceiverHalf → Format → Bool → Received
hear r g x = after_sample r g (sample g r.state x r.tally)

-- what is heard at a tick that the tally has counted, told whether receive is on, the format and the level; one that is off looks at nothing
abbrev pub hearing : ReceiverHalf → Bool → Format → Bool → Received
hearing r live f x = cond live (hear r (character_format r f) x) (record { half = dropped r; heard = None; overrun = false })

-- the tick: the receive tally goes up by one at each, on or off (P4)
unfoldable pub receive : ReceiverHalf → Bool → Format → Bool → Received
receive r live f x = hearing (receiver_later 1 r) live f x

-- what a tick tells beside the half that it leaves
abbrev pub told : Received → HeardTick
told r = record { heard = r.heard; overrun = r.overrun }
