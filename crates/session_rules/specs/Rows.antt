-- The refusal table of document 01 at the session, with request P12's number: which one a line is given.
-- Assumes nothing.
use Rattle.std.specs.Prelude.{ℕ, suc, ◌≡◌, Bool, false, cond, not, ◌&&◌, Option, Some, None, is_none, List, [], ◌∷◌, eqb, ltb, length}
use Prim.Native.Char.{code}
use Rattle.fields.specs.Parted.{fields_of}
use Rattle.ins2651_rules.specs.Runs as chip
use Rattle.ins2651_rules.specs.Rows.{refusal}
use Rattle.joined_rules.specs.declared.Pair.{Pair}
use Rattle.records.specs.declared.Record.{Record}
use Rattle.records.specs.declared.Record.TheVariants.{Write, Read, Pins, Reset, Ticks, Wait}
use Rattle.records.specs.Records.{record_of}
use Rattle.session_rules.specs.Calls.{device_of, line_reply}

abbrev pub shapeless : Option Record → Bool
shapeless = is_none

-- a wait with a limit above 65535, and no other record
abbrev pub waits_too_long : Option Record → Bool
waits_too_long (Some (Write unit address v)) = false
waits_too_long (Some (Read unit address)) = false
waits_too_long (Some (Pins unit dsr dcd cts)) = false
waits_too_long (Some (Reset unit)) = false
waits_too_long (Some (Ticks count)) = false
waits_too_long (Some (Wait unit limit)) = ltb 65535 limit
waits_too_long None = false

-- the call's own number: the device's, or 21 for a wait that is too long; a reset and joined ticks are never refused
abbrev pub own_refusal : Pair → Option Record → ℕ
own_refusal p (Some (Write unit address v)) = refusal (device_of p unit) (chip.Write address v)
own_refusal p (Some (Read unit address)) = refusal (device_of p unit) (chip.Read address)
own_refusal p (Some (Pins unit dsr dcd cts)) = refusal (device_of p unit) (chip.SetPins dsr dcd cts)
own_refusal p (Some (Reset unit)) = 0
own_refusal p (Some (Ticks count)) = 0
own_refusal p (Some (Wait unit limit)) = cond (waits_too_long (Some (Wait unit limit))) 21 0
own_refusal p None = 0

abbrev pub overlong : List ℕ → Bool
overlong line = ltb 64 (length line)

-- 7 before 6, and 6 before the call's own
abbrev pub line_refusal : Pair → List ℕ → ℕ
line_refusal p line = cond (overlong line) 7 (cond (shapeless (record_of (fields_of line))) 6 (own_refusal p (record_of (fields_of line))))

-- 7 exactly over 64 bytes, 6 exactly for no shape within them, 21 exactly for a wait within them that is too long, else the call's own
pub record Exactly (n own : ℕ) (long none above : Bool) : Type 0 where
  pub seven : eqb n 7 ≡ long
  pub six : eqb n 6 ≡ (not long && none)
  pub twenty_one : eqb n 21 ≡ (not long && above)
  pub itself : long ≡ false → none ≡ false → n ≡ own

-- == counts over the lines ==

abbrev pub line_refusals : Pair → List (List ℕ) → List ℕ
line_refusals p [] = []
line_refusals p (l ∷ ls) = line_refusal p l ∷ line_refusals (line_reply p l).pair ls

-- how many are not 0
abbrev pub given : List ℕ → ℕ
given [] = 0
given (n ∷ ns) = cond (ltb 0 n) (suc (given ns)) (given ns)

-- how many newlines a text has
abbrev pub newlines : List ℕ → ℕ
newlines [] = 0
newlines (b ∷ bs) = cond (eqb b (code "\n")) (suc (newlines bs)) (newlines bs)

-- whether the last line lacks its newline, as 0 or 1; `before` says it of what came before
abbrev pub lacking : ℕ → List ℕ → ℕ
lacking before [] = before
lacking before (b ∷ bs) = lacking (cond (eqb b (code "\n")) 0 1) bs
