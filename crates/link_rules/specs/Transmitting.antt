-- A transmit tick of the sending half: document 01, "Sending, by transmit ticks".
-- Assumes nothing.
use Rattle.std.specs.Prelude.{ℕ, ◌+◌, ◌-◌, ◌%◌, Bool, true, false, cond, ◌&&◌, ltb, eqb}
use Rattle.line_rules.specs.declared.Format.{Format}
use Rattle.line_rules.specs.Sending.{on, frame_length, level}
use Rattle.link_rules.specs.declared.Frame.{Frame}
use Rattle.link_rules.specs.declared.SenderHalf.{SenderHalf}
use Rattle.link_rules.specs.declared.SentTick.{SentTick}
use Rattle.link_rules.specs.Parts.{no_frame, with_frame, with_guard, unloaded, sender_later, started}

-- what a transmit tick leaves and sends; whether it was a frame's first; whether it ended a frame with nothing waiting
pub record Sent : Type 0 where
  pub half : SenderHalf
  pub level : Bool
  pub began : Bool
  pub drained : Bool

-- the place that follows in a frame of L ticks, in 16 bits; 0 after the last
abbrev pub next_place : Format → ℕ → ℕ
next_place f i = cond (ltb ((i + 1) % 65536) (frame_length f)) ((i + 1) % 65536) 0

abbrev pub frame_at : Frame → ℕ → Frame
frame_at g i = record { character = g.character; format = g.format; place = i }

-- the frame after the tick of its place
abbrev pub frame_next : Frame → Frame
frame_next g = cond (on (next_place g.format g.place)) (frame_at g (next_place g.format g.place)) no_frame

-- a tick of the frame g: the level at its place; the last one finds the holding register empty or not
abbrev pub frame_tick : SenderHalf → Frame → Bool → Sent
frame_tick s g began =
    record {
      half = with_frame s (frame_next g);
      level = level g.format g.character g.place;
      began = began;
      drained = eqb (next_place g.format g.place) 0 && eqb s.full 0;
    }

-- the waiting character begins its frame, in the format f, with this tick as its first: its start is the tally now (P4)
abbrev pub begin_tick : SenderHalf → Format → Sent
begin_tick s f = frame_tick (started (unloaded s)) (record { character = s.holding; format = f; place = 0 }) true

-- no frame is under way: a level, and the guard after it
abbrev pub idle_tick : SenderHalf → Bool → ℕ → Sent
idle_tick s x k = record { half = with_guard s k; level = x; began = false; drained = false }

-- break sends 0 and sets a guard of F ticks
abbrev pub break_tick : SenderHalf → Format → Sent
break_tick s f = idle_tick s false f.factor

-- 1 is sent, and a guard above 0 falls by one
abbrev pub mark_tick : SenderHalf → Sent
mark_tick s = idle_tick s true (s.guard - 1)

-- what is sent at a tick that the tally has counted, told whether a frame or a break may start, whether break is on, and the format:
-- the frame under way, break, guard, the full holding register, mark
abbrev pub sending : SenderHalf → Bool → Bool → Format → Sent
sending s ready broken f =
    cond (on s.frame.place) (frame_tick s s.frame false)
    (cond (ready && broken) (break_tick s f)
    (cond (on s.guard) (mark_tick s)
    (cond (ready && on s.full) (begin_tick s f)
    (mark_tick s))))

-- the tick: the transmit tally goes up by one at each, whatever it sends (P4)
unfoldable pub transmit : SenderHalf → Bool → Bool → Format → Sent
transmit s ready broken f = sending (sender_later 1 s) ready broken f

-- what a tick tells beside the half that it leaves
abbrev pub told : Sent → SentTick
told s = record { level = s.level; began = s.began; drained = s.drained }
