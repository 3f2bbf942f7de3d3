-- Joined ticks until a named unit holds an unread character, or until a limit is used up: request P12, "Wait with a limit".
-- Assumes nothing.
use Rattle.std.specs.Prelude.{ℕ, ◌+◌, ◌≤◌, ◌≡◌, Bool, true, cond, ltb}
use Rattle.line_rules.specs.declared.Format.{Format}
use Rattle.line_rules.specs.Sending.{on}
use Rattle.way_rules.specs.declared.Ends.{Ends}
use Rattle.way_rules.specs.declared.Way.{Way}
use Rattle.way_rules.specs.Until.{least_below, until_unread}
use Rattle.ins2651_ends.specs.OnALine as chip
use Rattle.delivery.specs.OneWay.{Logged}
use Rattle.delivery.specs.Promise.{L, D, Awaited}
use Rattle.delivery.specs.Joined.{Side, A, B, other}
use Rattle.joined_rules.specs.declared.Pair.{Pair}
use Rattle.line_rules.specs.declared.Unit.{Unit}
use Rattle.line_rules.specs.declared.Unit.TheVariants as unit
use Rattle.joined_rules.specs.Joining.{ticks, joined_ticks}
use Rattle.joined_rules.specs.Bench.{device_at}
use Rattle.joined_rules.specs.TwoWays.{ends_of, way_of, along_both}

-- what a wait answers: its refusal, 0 where it is done, the joined ticks that it spent, and the pair after them
pub record Waited : Type 0 where
  pub refusal : ℕ
  pub count : ℕ
  pub pair : Pair

-- the side of the line at which a unit stands
abbrev pub side_of : Unit → Side
side_of unit.A = A
side_of unit.B = B

-- it holds an unread character: status bit 1, as a read would show it. One that is out of range holds none
abbrev pub unread : Unit → Pair → Bool
unread u p = chip.unread (device_at (side_of u) p)

-- how many joined ticks bring one: the least number after which it holds one, or the limit
abbrev pub ticks_until : Pair → Unit → ℕ → ℕ
ticks_until p u limit = least_below limit (λ k. unread u (ticks k p))

-- nothing spent, with a refusal or 0
abbrev pub unspent : Pair → ℕ → Waited
unspent p refusal = record { refusal = refusal; count = 0; pair = p }

-- what is left of them, and their number
abbrev pub waited : Pair → Unit → ℕ → Waited
waited p u limit = record { refusal = 0; count = ticks_until p u limit; pair = ticks (ticks_until p u limit) p }

-- the call: 21 where the limit is above 65535, and then nothing is spent
unfoldable pub wait : Pair → Unit → ℕ → Waited
wait p u limit = cond (ltb 65535 limit) (unspent p 21) (waited p u limit)

-- == the same on a pair in range ==

abbrev pub joined_until : Pair → Unit → ℕ → ℕ
joined_until p u limit = least_below limit (λ k. on (device_at (side_of u) (joined_ticks k p)).receiver.unread)

abbrev pub waited_on : Pair → Unit → ℕ → Waited
waited_on p u limit = record { refusal = 0; count = joined_until p u limit; pair = joined_ticks (joined_until p u limit) p }

-- the way that comes to a unit begins at the other side: what its ticks go by, and what they move
abbrev pub sender_to : Unit → Side
sender_to u = other (side_of u)

abbrev pub ends_to : Unit → Pair → Ends
ends_to u p = ends_of (device_at (sender_to u) p) (device_at (side_of u) p)

abbrev pub way_to : Unit → Pair → Way
way_to u p = way_of (device_at (sender_to u) p) (device_at (side_of u) p)

-- by the two ways: that one is run until a character is unread, and the other as long
abbrev pub waited_along : Pair → Unit → ℕ → Waited
waited_along p u limit =
    let k : ℕ = until_unread (ends_to u p) true limit (way_to u p) in
    record { refusal = 0; count = k; pair = along_both k p }

-- == the promise ==

-- a wait for a unit stopped with a character, after L+D joined ticks at most; f is the sender's format
pub record StopsInTime (f : Format) (u : Unit) (r : Waited) : Type 0 where
  pub done : r.refusal ≡ 0
  pub in_time_lem : r.count ≤ L f + D f
  pub there : unread u r.pair ≡ true

-- with a character written for it still to come, and a limit of L+D or more that is not refused
abbrev pub Stops : Format → Unit → Logged Pair → Type 0
Stops f u w = Awaited w → (limit : ℕ) → L f + D f ≤ limit → limit ≤ 65535 → StopsInTime f u (wait w.bench u limit)
