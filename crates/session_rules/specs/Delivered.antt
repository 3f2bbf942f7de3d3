-- Demand 3 from a session's text: lines that set both units up, a joined tick, then lines of allowed steps. What the session prints for the
-- reads of address 0 made while bit 1 was 1 are the values written, cut, in order, each with its stamp (request P4); and a wait behind them stops in
-- time (request P12).
-- Assumes nothing.
use Rattle.std.specs.Prelude.{ℕ, ◌+◌, ◌≤◌, ◌≡◌, Bool, true, false, ◌&&◌, List, [], ◌∷◌, ◌++◌, map, reverse}
use Prim.Native.Char.{code}
use Rattle.line_rules.specs.declared.Format.{Format}
use Rattle.line_rules.specs.declared.RxC.{RxC}
use Rattle.line_rules.specs.Sending.{frame_length}
use Rattle.ins2651_rules.specs.Modes.{send_format}
use Rattle.ins2651_rules.specs.Line.{Held}
use Rattle.ins2651_ends.specs.OnALine.{unread}
use Rattle.delivery.specs.OneWay.{Deed, Ticks, Writes, Reads, Passes, Logged, no_log, puts}
use Rattle.delivery.specs.OneWay as one_way
use Rattle.delivery.specs.Promise.{L, D, InOrder, Finished, stamps_read, Awaited}
use Rattle.delivery.specs.Joined.{Side, A, B, other}
use Rattle.joined_rules.specs.declared.Pair.{Pair}
use Rattle.joined_rules.specs.Joining.{tick}
use Rattle.joined_rules.specs.Bench.{device_at, Step, Tick, all_moved, just_reset, deed_from, way_from}
use Rattle.joined_rules.specs.Demand3.{Settings, Quiet, Holds, first_tally, fresh, all_allowed, Open}
use Rattle.line_rules.specs.declared.Unit.{Unit}
use Rattle.joined_rules.specs.Waiting.{Waited, side_of, StopsInTime}
use Rattle.records.specs.declared.Record.TheVariants.{Wait}
use Rattle.records.specs.Printed.{Printed}
use Rattle.rows.specs.Text.{held_text, wait_text}
use Rattle.session_rules.specs.Calls.{line_reply, said_text}
use Rattle.session_rules.specs.Whole.{answers, line_texts}
use Rattle.session_rules.specs.Steps.{line_steps, all_steps, pair_after}

-- == the premises ==

-- both units begin as after reset. The steps of the lines are those of a set-up (no tick, no write of address 0, in any order), one joined tick,
-- and others. A line that is refused for itself is no step, nor is a wait that is refused; a line of joined ticks, or a wait, may begin with that one
pub record Parted (lines : List (List ℕ)) : Type 0 where
  pub set_up : List Step
  pub after : List Step
  pub steps : all_steps just_reset lines ≡ set_up ++ Tick ∷ after
  pub quiet : Quiet set_up

-- the two units after the one joined tick
abbrev pub start : {lines : List (List ℕ)} → Parted lines → Pair
start l = (tick (all_moved just_reset l.set_up)).pair

-- both ways: the set-up leaves each unit with its settings, and the others are steps that demand 3 allows
pub record Meets (a b : Settings) (lines : List (List ℕ)) : Type 0 where
  pub parted : Parted lines
  pub a_holds : Holds a (all_moved just_reset parted.set_up).a
  pub b_holds : Holds b (all_moved just_reset parted.set_up).b
  pub allowed : all_allowed a b (fresh just_reset parted.set_up) parted.after ≡ true

-- the format in which this side sends then
abbrev pub format_from : {lines : List (List ℕ)} → Side → Parted lines → Format
format_from s l = send_format (device_at s (all_moved just_reset l.set_up)).registers

-- one way: the set-up leaves the way from this side open, and the others are steps that are allowed on it
pub record MeetsFrom (s : Side) (lines : List (List ℕ)) : Type 0 where
  pub parted : Parted lines
  pub opened : Open s (all_moved just_reset parted.set_up)
  pub allowed : one_way.all_allowed (way_from s) (frame_length (format_from s parted)) (no_log (start parted)) parted.after ≡ true

-- == what is printed ==

-- the letter of the unit at a side
abbrev pub letter_at : Side → ℕ
letter_at A = code "A"
letter_at B = code "B"

abbrev pub is_read : Deed → Bool
is_read Ticks = false
is_read (Writes v) = false
is_read Reads = true
is_read Passes = false

-- a line of these steps reads address 0 at the side that hears this one, while bit 1 is 1 there
abbrev pub fetches : Side → Pair → List Step → Bool
fetches s p [] = false
fetches s p (x ∷ xs) = is_read (deed_from s p x) && unread (device_at (other s) p)

-- which lines do so, in turn
abbrev pub fetching : Side → Pair → List (List ℕ) → List Bool
fetching s p [] = []
fetching s p (l ∷ ls) = fetches s p (line_steps p l) ∷ fetching s (line_reply p l).pair ls

-- those that are marked
abbrev pub marked : {X : Type 0} → List Bool → List X → List X
marked [] xs = []
marked (b ∷ bs) [] = []
marked (true ∷ bs) (x ∷ xs) = x ∷ marked bs xs
marked (false ∷ bs) (x ∷ xs) = marked bs xs

-- the texts of such lines; those of all the lines, one after another, with the counts behind them, are the output (`whole`)
abbrev pub printed : Side → List (List ℕ) → List (List ℕ)
printed s lines = marked (fetching s just_reset lines) (line_texts 1 (answers just_reset lines))

-- == the promise ==

-- a character that was read, as a line of this unit
abbrev pub line : ℕ → Held → List ℕ
line unit h = held_text unit h.value h.stamp

-- `R`, unit, 0, a value and a stamp each: the values are a beginning of those that were written, cut, in order, and all of them where the run is
-- finished; the stamps are these
pub record Shows (f : Format) (finished : Type 0) (unit : ℕ) (texts : List (List ℕ)) (written : List ℕ) (stamps : List RxC) : Type 0 where
  pub characters : List Held
  pub shown : texts ≡ map (line unit) characters
  pub in_order : InOrder f finished (map (λ (h : Held). h.value) characters) written
  pub stamped : map (λ (h : Held). h.stamp) characters ≡ stamps

-- the run behind the lines, on the way from this side
abbrev pub end : {lines : List (List ℕ)} → Side → Parted lines → Logged Pair
end s l = one_way.runs (way_from s) (no_log (start l)) l.after

-- 1 plus the joined tick of the arrival, for each character that came and was read, the first one first (request P4)
abbrev pub stamps_at : {lines : List (List ℕ)} → Side → Parted lines → List RxC
stamps_at s l = reverse (stamps_read first_tally (unread (device_at (other s) (end s l).bench)) (end s l).log.came)

-- from the side s, which sends in the format f: the texts are of the other unit, and the values those that the lines write at s. The run is finished
-- where L+D joined ticks have passed since the last of these, and bit 1 of the other unit is 0
abbrev pub Delivers : {lines : List (List ℕ)} → Side → Format → Parted lines → Type 0
Delivers {lines} s f l =
    Shows f (Finished (way_from s) f (end s l)) (letter_at (other s)) (printed s lines)
    (puts (way_from s) just_reset (all_steps just_reset lines)) (stamps_at s l)

-- == a wait: request P12 ==

-- a line for this unit, which prints this text and leaves these two: it shows a wait's count, `B`, unit and count, and that wait stopped in time
pub record ShowsInTime (f : Format) (u : Unit) (text : List ℕ) (after : Pair) : Type 0 where
  pub waited : Waited
  pub shown : text ≡ wait_text (letter_at (side_of u)) waited.count
  pub left : after ≡ waited.pair
  pub stops : StopsInTime f u waited

-- a line behind these that is a wait for the unit, with a limit that is enough, where a character is still to come by the log
abbrev pub TextStops : Format → Unit → List (List ℕ) → Logged Pair → Type 0
TextStops f u lines w =
    Awaited w → (limit : ℕ) (line : List ℕ) → Printed (Wait u limit) line → L f + D f ≤ limit → limit ≤ 65535
    → (n : ℕ) → let r = line_reply (pair_after just_reset lines) line in ShowsInTime f u (said_text n r.said) r.pair
