-- Ticks of a way that only count: a frame holds each level for F ticks, a receiver looks once in F, a guard runs down and a break holds its level,
-- so that most ticks move a place, a countdown or a guard by one, and the tallies, and nothing else; many of those can be done at once. Document 01,
-- "Sending, by transmit ticks" and "Receiving, by receive ticks"; requests P9 and P4.
-- Assumes nothing.
use Rattle.std.specs.Prelude.{ℕ, suc, ◌+◌, ◌-◌, ◌%◌, ◌≤◌, ◌≡◌, Bool, cond, not, ◌&&◌, ltb, leb, eqb}
use Rattle.line_rules.specs.declared.Format.{Format}
use Rattle.line_rules.specs.declared.Receiver.{Receiver}
use Rattle.line_rules.specs.Sending.{bit, on, frame_length}
use Rattle.link_rules.specs.declared.Frame.{Frame}
use Rattle.link_rules.specs.declared.SenderHalf.{SenderHalf}
use Rattle.link_rules.specs.declared.ReceiverHalf.{ReceiverHalf}
use Rattle.link_rules.specs.Parts.{with_frame, with_guard, sender_later, receiver_later}
use Rattle.link_rules.specs.Transmitting.{frame_at, transmit}
use Rattle.link_rules.specs.Within.{clear}
use Rattle.way_rules.specs.declared.Ends.{Ends}
use Rattle.way_rules.specs.declared.Way.{Way}
use Rattle.way_rules.specs.Parts.{with_state}
use Rattle.way_rules.specs.Along.{way_tick}

abbrev pub least : ℕ → ℕ → ℕ
least m n = cond (ltb m n) m n

-- a half that stays as it is does so for the longest run
abbrev pub endless : Bool → ℕ
endless t = cond t 65535 0

-- == the sender ==

-- a break is sent while no frame is under way
abbrev pub breaks : Ends → Bool
breaks e = e.ready && e.broken

-- the places of a frame after this one, in 16 bits: the tick of the last ends the frame, and does more than count
abbrev pub places_left : Frame → ℕ
places_left g = least (frame_length g.format) 65536 - suc g.place

-- how many ticks of the sender only count: within a frame those before its last; a break whose guard stands; a guard that runs down; and
-- for ever where nothing waits that may start
unfoldable pub sender_calm : Ends → SenderHalf → ℕ
sender_calm e s =
    cond (on s.frame.place) (places_left s.frame)
    (cond (breaks e) (endless (eqb s.guard e.send.factor))
    (cond (on s.guard) s.guard (endless (not (e.ready && on s.full)))))

-- the last S ticks of a frame are its stop; F is not 0 in a format of document 01
abbrev pub stopping : Frame → Bool
stopping g = on g.format.factor && leb (frame_length g.format) (g.place + g.format.stop)

-- the ticks of a bit from a place on
abbrev pub bit_left : Format → ℕ → ℕ
bit_left f i = f.factor - i % f.factor

-- for how many ticks a frame holds its level, as long as they only count: in its stop for all of those
abbrev pub frame_holds : Frame → ℕ
frame_holds g = cond (stopping g) (places_left g) (bit_left g.format g.place)

-- the level that it sends next ..
abbrev pub sender_level : Ends → SenderHalf → Bool
sender_level e s = (transmit s e.ready e.broken e.send).level

-- .. and for how many ticks that level stays, as long as they only count
unfoldable pub sender_holds : Ends → SenderHalf → ℕ
sender_holds e s = cond (on s.frame.place) (frame_holds s.frame) (cond (breaks e) 65535 (cond (on s.guard) s.guard 65535))

-- for how many ticks the line is at the level p: none where it sends the other
unfoldable pub sender_keeps : Ends → SenderHalf → ℕ → ℕ
sender_keeps e s p = cond (eqb p (bit (sender_level e s))) (sender_holds e s) 0

-- what k ticks that only count move in it, beside the tally
unfoldable pub sender_moved : Ends → ℕ → SenderHalf → SenderHalf
sender_moved e k s =
    cond (on s.frame.place) (with_frame s (frame_at s.frame ((s.frame.place + k) % 65536)))
    (cond (breaks e) s (with_guard s (s.guard - k)))

-- .. and what they leave of it: the tally counts every one, in a break and at rest too (P4)
unfoldable pub sender_skipped : Ends → ℕ → SenderHalf → SenderHalf
sender_skipped e k s = sender_later k (sender_moved e k s)

-- == the receiver ==

-- how many ticks of the receiver only count, told whether receive is on and, of one with no character under way, for how many ticks the line is at
-- the level of its phase: it waits (0) while the line is 0 and searches (1) while it is 1. With a character under way it is the countdown to the next
-- look. One that is off drops nothing
unfoldable pub receiver_calm : ReceiverHalf → Bool → ℕ → ℕ
receiver_calm r live keeps =
    cond live
    (cond (eqb r.state.phase 2) r.state.countdown (cond (clear r) keeps 0))
    (endless (eqb r.state.phase 0 && clear r))

abbrev pub lowered : Receiver → ℕ → Receiver
lowered s k = record { phase = s.phase; countdown = s.countdown - k; value = s.value; wrong = s.wrong; look = s.look }

-- what k ticks that only count leave of it: the tally counts them (P4); the countdown of one that is not under way is 0
abbrev pub receiver_skipped : ℕ → ReceiverHalf → ReceiverHalf
receiver_skipped k r = receiver_later k (with_state (lowered r.state k) r.format r)

-- == the way ==

-- its receiver has a look at the next tick, or drops its character where it is off: not calm
abbrev pub looks : Way → Bool
looks w = eqb w.receiver.state.phase 2 && eqb w.receiver.state.countdown 0

abbrev pub heard_calm : Ends → Way → ℕ
heard_calm e w = receiver_calm w.receiver e.live (sender_keeps e w.sender w.receiver.state.phase)

-- the same way with both tallies n ticks on (P4)
abbrev pub way_later : ℕ → Way → Way
way_later n w = record { sender = sender_later n w.sender; receiver = receiver_later n w.receiver; empty = w.empty; faults = w.faults }

-- how many ticks only count: those that do in both halves
unfoldable pub way_calm : Ends → Way → ℕ
way_calm e w = least (heard_calm e w) (sender_calm e w.sender)

-- what k of them leave
unfoldable pub way_skipped : Ends → ℕ → Way → Way
way_skipped e k w = record { sender = sender_skipped e k w.sender; receiver = receiver_skipped k w.receiver; empty = w.empty; faults = w.faults }

-- == a way that stands: its ticks count in the tallies, and nowhere else ==

-- at rest with nothing that may start, or in a break whose guard stands
abbrev pub sender_stands : SenderHalf → Bool → Bool → ℕ → Bool
sender_stands s ready broken factor =
    not (on s.frame.place) && cond (ready && broken) (eqb s.guard factor) (eqb s.guard 0 && not (ready && on s.full))

-- no character under way: off, or searching on a line at 1, or waiting on one at 0
abbrev pub receiver_stands : ReceiverHalf → Bool → Bool → Bool
receiver_stands r live level = clear r && eqb r.state.phase (bit (live && level))

unfoldable pub way_stands : Ends → Way → Bool
way_stands e w = sender_stands w.sender e.ready e.broken e.send.factor && receiver_stands w.receiver e.live (not (breaks e))

-- == what is said of it ==

-- a tick is calm exactly where it only counts
pub record Exactly (e : Ends) (w : Way) : Type 0 where
  pub counts : 1 ≤ way_calm e w → way_tick e w ≡ way_skipped e 1 w
  pub calm : way_tick e w ≡ way_skipped e 1 w → 1 ≤ way_calm e w
