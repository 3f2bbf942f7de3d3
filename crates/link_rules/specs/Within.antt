-- Which numbers are a half of document 01: docs/RANGES.md has them field by field. What is not under way is 0.
-- Assumes nothing.
use Rattle.std.specs.Prelude.{ℕ, suc, ◌+◌, ◌-◌, ◌^◌, Bool, cond, ◌&&◌, ◌||◌, ltb, leb, eqb}
use Rattle.line_rules.specs.declared.Format.{Format}
use Rattle.line_rules.specs.declared.Receiver.{Receiver}
use Rattle.line_rules.specs.Sending.{on, half, parity_bits, frame_length}
use Rattle.line_rules.specs.Range.{in_range}
use Rattle.link_rules.specs.declared.Frame.{Frame}
use Rattle.link_rules.specs.declared.SenderHalf.{SenderHalf}
use Rattle.link_rules.specs.declared.ReceiverHalf.{ReceiverHalf}
use Rattle.link_rules.specs.Hearing.{under_way}

abbrev pub is_no_format : Format → Bool
is_no_format f = eqb f.factor 0 && eqb f.length 0 && eqb f.parity 0 && eqb f.even 0 && eqb f.stop 0

-- == the sender ==

-- an empty holding register is 0
abbrev pub holding_in_range : ℕ → ℕ → Bool
holding_in_range full c = eqb full 1 || (eqb full 0 && eqb c 0)

-- no guard stands while a frame is under way
abbrev pub busy_in_range : Frame → ℕ → Bool
busy_in_range g k = in_range g.format && ltb g.place (frame_length g.format) && eqb k 0

-- a guard is at most the largest factor
abbrev pub free_in_range : Frame → ℕ → Bool
free_in_range g k = eqb g.character 0 && is_no_format g.format && leb k 64

abbrev pub frame_in_range : Frame → ℕ → Bool
frame_in_range g k = cond (on g.place) (busy_in_range g k) (free_in_range g k)

unfoldable pub sender_in_range : SenderHalf → Bool
sender_in_range s = holding_in_range s.full s.holding && frame_in_range s.frame s.guard

-- == the receiver ==

-- the ticks before the next look: fewer than h before the look at the start, fewer than F before any other
abbrev pub countdown_in_range : Format → ℕ → ℕ → Bool
countdown_in_range f m c = ltb c (cond (eqb m 0) (half f) f.factor)

-- the value has the data bits that the looks so far have taken
abbrev pub value_in_range : Format → ℕ → ℕ → Bool
value_in_range f m v = ltb v (2 ^ (m - 1)) && ltb v (2 ^ f.length)

-- a parity can be wrong only after its look, and the stop's is the one that follows
abbrev pub wrong_in_range : Format → ℕ → ℕ → Bool
wrong_in_range f m w = cond (on f.parity && eqb m (f.length + 2)) (leb w 1) (eqb w 0)

-- a character is under way, and its next look is one of those it has
abbrev pub assembly_in_range : Format → Receiver → Bool
assembly_in_range f s =
    eqb s.phase 2
    && leb s.look (suc (f.length + parity_bits f))
    && countdown_in_range f s.look s.countdown
    && value_in_range f s.look s.value
    && wrong_in_range f s.look s.wrong

abbrev pub rest_in_range : Receiver → Bool
rest_in_range s = eqb s.countdown 0 && eqb s.value 0 && eqb s.wrong 0 && eqb s.look 0

-- no character is under way: all that belongs to one is 0
abbrev pub clear : ReceiverHalf → Bool
clear r = is_no_format r.format && rest_in_range r.state

abbrev pub state_in_range : Format → Receiver → Bool
state_in_range f s = cond (under_way s) (in_range f && assembly_in_range f s) (is_no_format f && rest_in_range s)

unfoldable pub receiver_in_range : ReceiverHalf → Bool
receiver_in_range r = leb r.unread 1 && state_in_range r.format r.state

-- == halves with nothing under way, where that is known ==

abbrev pub sender_rests_in_range : SenderHalf → Bool
sender_rests_in_range s = holding_in_range s.full s.holding && free_in_range s.frame s.guard

abbrev pub receiver_rests_in_range : ReceiverHalf → Bool
receiver_rests_in_range r = leb r.unread 1 && clear r
