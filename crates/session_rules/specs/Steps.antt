-- A session's lines as steps of the bench of two joined devices (`joined_rules`, specs/Bench.antt): so demand 3 reads on a session's text too. How many
-- joined ticks a wait is depends on the two devices that its line finds.
-- Assumes nothing.
use Rattle.std.specs.Prelude.{ℕ, cond, Option, Some, None, List, [], ◌∷◌, ◌++◌, replicate}
use Rattle.fields.specs.Parted.{fields_of}
use Rattle.ins2651_rules.specs.Runs as chip
use Rattle.joined_rules.specs.declared.Pair.{Pair}
use Rattle.joined_rules.specs.Bench.{Step, Tick, At}
use Rattle.joined_rules.specs.Waiting.{side_of, wait}
use Rattle.records.specs.declared.Record.{Record}
use Rattle.records.specs.declared.Record.TheVariants.{Write, Read, Pins, Reset, Ticks, Wait}
use Rattle.records.specs.Records.{record_of}
use Rattle.session_rules.specs.Calls.{line_reply}
use Rattle.session_rules.specs.Rows.{overlong}

-- a wait is the ticks that it spends, none where it is refused
abbrev pub record_steps : Pair → Option Record → List Step
record_steps p (Some (Write unit address v)) = At (side_of unit) (chip.Write address v) ∷ []
record_steps p (Some (Read unit address)) = At (side_of unit) (chip.Read address) ∷ []
record_steps p (Some (Pins unit dsr dcd cts)) = At (side_of unit) (chip.SetPins dsr dcd cts) ∷ []
record_steps p (Some (Reset unit)) = At (side_of unit) chip.Reset ∷ []
record_steps p (Some (Ticks count)) = replicate count Tick
record_steps p (Some (Wait unit limit)) = replicate (wait p unit limit).count Tick
record_steps p None = []

-- a line that is refused for itself is no step
abbrev pub line_steps : Pair → List ℕ → List Step
line_steps p line = cond (overlong line) [] (record_steps p (record_of (fields_of line)))

-- each line from the two devices that the lines before it leave
abbrev pub all_steps : Pair → List (List ℕ) → List Step
all_steps p [] = []
all_steps p (l ∷ ls) = line_steps p l ++ all_steps (line_reply p l).pair ls

-- the two devices after lines
abbrev pub pair_after : Pair → List (List ℕ) → Pair
pair_after p [] = p
pair_after p (l ∷ ls) = pair_after (line_reply p l).pair ls
