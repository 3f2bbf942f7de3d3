-- The whole output as a function of the whole input: document 01, "The session text".
-- Assumes nothing.
use Rattle.std.specs.Prelude.{ℕ, suc, cond, List, [], ◌∷◌, ◌++◌, ltb, length, take}
use Prim.Native.Char.{code}
use Rattle.fields.specs.Parted.{parts}
use Rattle.joined_rules.specs.declared.Pair.{Pair}
use Rattle.joined_rules.specs.Bench.{just_reset}
use Rattle.session_rules.specs.Calls.{Said, line_reply, number, said_text}
use Rattle.rows.specs.Text.{counts_text}

-- == lines ==

-- a part, unless it is empty
abbrev pub unless_empty : List ℕ → List (List ℕ)
unless_empty [] = []
unless_empty (b ∷ bs) = (b ∷ bs) ∷ []

-- the parts but for an empty last one
abbrev pub filled : List (List ℕ) → List (List ℕ)
filled [] = []
filled (p ∷ []) = unless_empty p
filled (p ∷ q ∷ qs) = p ∷ filled (q ∷ qs)

-- each line ends at a newline, and the last may lack its own
unfoldable pub lines_of : List ℕ → List (List ℕ)
lines_of input = filled (parts (code "\n") input)

-- at most 65,535 lines are taken, and the rest stays unread
unfoldable pub lines_taken : List ℕ → List (List ℕ)
lines_taken input = take 65535 (lines_of input)

-- == answers ==

-- what is said of each line, in turn
abbrev pub answers : Pair → List (List ℕ) → List Said
answers p [] = []
answers p (l ∷ ls) = (line_reply p l).said ∷ answers (line_reply p l).pair ls

-- how many lines are refused: given a number other than 0
abbrev pub refusals : List Said → ℕ
refusals [] = 0
refusals (s ∷ ss) = cond (ltb 0 (number s)) (suc (refusals ss)) (refusals ss)

-- == text ==

-- what is written of each line, the first of them with the number n ..
abbrev pub line_texts : ℕ → List Said → List (List ℕ)
line_texts n [] = []
line_texts n (s ∷ ss) = said_text n s ∷ line_texts (suc n) ss

-- .. one after another
abbrev pub join_texts : List (List ℕ) → List ℕ
join_texts [] = []
join_texts (t ∷ ts) = t ++ join_texts ts

abbrev pub texts : ℕ → List Said → List ℕ
texts n ss = join_texts (line_texts n ss)

-- line numbers are from 1; last come the lines taken and the refusals
abbrev pub whole : List (List ℕ) → List Said → List ℕ
whole lines said = texts 1 said ++ counts_text (length lines) (refusals said)

-- both devices begin as after reset
unfoldable pub answer_text : List ℕ → List ℕ
answer_text input = whole (lines_taken input) (answers just_reset (lines_taken input))
