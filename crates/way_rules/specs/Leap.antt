-- A receiver in step with a frame: the place of the frame and the character so far say where it is, so that whole bits can be passed at once.
-- Its looks take the bits of the frame's own character, and each is F ticks after the one before: document 01, "Receiving, by receive ticks";
-- requests P9 and P4.
-- Assumes nothing.
use Rattle.std.specs.Prelude.{ℕ, suc, ◌+◌, ◌*◌, ◌-◌, ◌^◌, ◌/◌, ◌%◌, ◌≤◌, ◌<◌, ◌≡◌, Bool, cond, ◌&&◌, leb, eqb}
use Rattle.line_rules.specs.declared.Format.{Format}
use Rattle.line_rules.specs.Sending.{on, half, parity_bits}
use Rattle.line_rules.specs.Receiving.{assembling}
use Rattle.link_rules.specs.Parts.{with_frame, sender_later, receiver_later}
use Rattle.link_rules.specs.Transmitting.{frame_at}
use Rattle.way_rules.specs.declared.Ends.{Ends}
use Rattle.way_rules.specs.declared.Way.{Way}
use Rattle.way_rules.specs.Parts.{with_state}
use Rattle.way_rules.specs.Along.{way_ticks}
use Rattle.way_rules.specs.Calm.{least, places_left, way_calm}

-- a way some ticks on
pub record Moved : Type 0 where
  pub way : Way
  pub ticks : ℕ

-- the number of the look at the stop: n + p + 1
abbrev pub last_look : Format → ℕ
last_look f = suc (f.length + parity_bits f)

-- the value of a character c before look number m: its lowest m - 1 bits, n at most
abbrev pub so_far : Format → ℕ → ℕ → ℕ
so_far f c m = c % 2 ^ least (m - 1) f.length

-- two formats in which frames look alike up to the stop
abbrev pub same_bits : Format → Format → Bool
same_bits f g = eqb f.factor g.factor && eqb f.length g.length && eqb f.parity g.parity && eqb f.even g.even

-- a frame and a character are under way
abbrev pub both_busy : Way → Bool
both_busy w = on w.sender.frame.place && eqb w.receiver.state.phase 2

-- the receiver is where the frame's place puts it, with the bits of the frame's character
unfoldable pub in_step : Way → Bool
in_step w =
    same_bits w.sender.frame.format w.receiver.format
    && eqb (w.sender.frame.place + w.receiver.state.countdown) (half w.receiver.format + w.receiver.format.factor * w.receiver.state.look)
    && eqb w.receiver.state.wrong 0
    && eqb w.receiver.state.value (so_far w.receiver.format w.sender.frame.character w.receiver.state.look)

-- the way k ticks on, in its frame and in both tallies, with its receiver c ticks before look number m
abbrev pub fly_at : Way → ℕ → ℕ → ℕ → Way
fly_at w k m c =
    record {
      sender = sender_later k (with_frame w.sender (frame_at w.sender.frame (w.sender.frame.place + k)));
      receiver = receiver_later k (with_state (assembling c m (so_far w.receiver.format w.sender.frame.character m) 0) w.receiver.format w.receiver);
      empty = w.empty;
      faults = w.faults;
    }

-- the ticks to the look that is q after the next
abbrev pub leap_ticks : Way → ℕ → ℕ
leap_ticks w q = w.receiver.state.countdown + w.receiver.format.factor * q

-- a look q after the next: one of the character's, in so many ticks
pub record Ahead (w : Way) (room q : ℕ) : Type 0 where
  pub some : 0 < w.receiver.format.factor
  pub looks : w.receiver.state.look + q ≤ last_look w.receiver.format
  pub ticks : leap_ticks w q ≤ room

-- how many looks are passed in so many ticks: those that they reach, the stop's at most
unfoldable pub looks_ahead : Way → ℕ → ℕ
looks_ahead w room =
    cond (on w.receiver.format.factor && leb w.receiver.state.countdown room)
    (least ((room - w.receiver.state.countdown) / w.receiver.format.factor) (last_look w.receiver.format - w.receiver.state.look))
    0

-- .. of a receiver in step, before the frame's last place
unfoldable pub leap_looks : Ends → Way → ℕ → ℕ
leap_looks e w room = cond (e.live && both_busy w && in_step w) (looks_ahead w (least (places_left w.sender.frame) room)) 0

-- the ticks that are done at once, of so many at most: to the last look that can be passed, or else those that only count
unfoldable pub at_once : Ends → Way → ℕ → ℕ
at_once e w room = cond (on (leap_looks e w room)) (leap_ticks w (leap_looks e w room)) (least (way_calm e w) room)

-- .. and the way after them
abbrev pub done_at_once : Ends → Way → ℕ → Moved
done_at_once e w room = record { way = way_ticks e (at_once e w room) w; ticks = at_once e w room }

-- == what the code's numbers have room for ==

-- a frame's character is a byte, and a look's number is small
pub record Narrow (w : Way) (q : ℕ) : Type 0 where
  pub byte : w.sender.frame.character < 256
  pub look : w.receiver.state.look + q ≤ 257

-- the place and the look that a leap comes to fit, and the receiver has a character under way with no wrong parity
pub record Leaps (w : Way) (q k : ℕ) : Type 0 where
  pub placed : w.sender.frame.place + k ≤ 65535
  pub looked : w.receiver.state.look + q ≤ 65535
  pub phase : w.receiver.state.phase ≡ 2
  pub wrong : w.receiver.state.wrong ≡ 0
