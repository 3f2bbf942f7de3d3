-- What a run of board calls is to one channel: the calls of the chip that it makes there, and the board's answers to them.
-- Assumes nothing.
use Rattle.std.specs.Prelude.{ℕ, Bool, true, false, cond, List, [], ◌∷◌, ◌++◌, eqb}
use Rattle.ins2651_rules.specs.Runs as chip
use Rattle.board_rules.specs.Ports.{Deed, Refused, Shows, Sets, At, ResetsAll, Call, deed}
use Rattle.board_rules.specs.Runs.{Said, Cabinet, as_bits, said, next}

-- == at one call ==

-- it makes a call of the chip at channel k; a reset makes one at every channel
abbrev pub reaches : ℕ → Deed → Bool
reaches k (Refused n) = false
reaches k (Shows v) = false
reaches k (Sets b) = false
reaches k (At j c) = eqb j k
reaches k ResetsAll = true

-- .. and these are the calls: one or none
abbrev pub calls_by : ℕ → Deed → List chip.Call
calls_by k (Refused n) = []
calls_by k (Shows v) = []
calls_by k (Sets b) = []
calls_by k (At j c) = cond (eqb j k) (c ∷ []) []
calls_by k ResetsAll = chip.Reset ∷ []

-- how a board shows what a chip answers
abbrev pub shown : chip.Said → Said
shown s = record { refusal = s.refusal; value = as_bits s.values }

-- == along a run ==

abbrev pub calls_at : ℕ → Cabinet → List Call → List chip.Call
calls_at k w [] = []
calls_at k w (c ∷ cs) = calls_by k (deed w.board w.room c) ++ calls_at k (next w c) cs

-- the board's answers to the calls that make one of the chip at channel k
abbrev pub answers_at : ℕ → Cabinet → List Call → List Said
answers_at k w [] = []
answers_at k w (c ∷ cs) = cond (reaches k (deed w.board w.room c)) (said w.board w.room c ∷ []) [] ++ answers_at k (next w c) cs
