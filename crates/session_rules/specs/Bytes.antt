-- A session byte by byte: the session after a byte, and the text that the byte gives rise to. What is written of a whole input so is document 01's answer to it (proofs/Cutting.antt).
-- Assumes nothing.
use Rattle.std.specs.Prelude.{ℕ, suc, ◌+◌, ◌-◌, ◌%◌, Bool, cond, List, [], ◌∷◌, ◌++◌, eqb, ltb, length}
use Prim.Native.Char.{code}
use Rattle.fields.specs.Reading as reading
use Rattle.fields.specs.Reading.{empty, push}
use Rattle.joined_rules.specs.Bench.{just_reset}
use Rattle.session_rules.specs.declared.Session.{Session}
use Rattle.records.specs.Records.{held_record}
use Rattle.session_rules.specs.declared.Refusal.TheVariants.{Overlong}
use Rattle.session_rules.specs.Calls.{Reply, refused, obey_known, number, said_text}
use Rattle.rows.specs.Text.{counts_text}

-- both devices as after reset
abbrev pub fresh : Session
fresh = record { pair = just_reset; lines = 0; refusals = 0; length = 0; fields = empty }

-- == the line under way ==

-- 65 says over 64
abbrev pub longer : ℕ → ℕ
longer n = reading.counted n 65

unfoldable pub pushed : Session → ℕ → Session
pushed s b = record { pair = s.pair; lines = s.lines; refusals = s.refusals; length = longer s.length; fields = push s.fields b }

unfoldable pub held_reply : Session → Reply
held_reply s = cond (ltb 64 s.length) (refused s.pair Overlong) (obey_known s.pair (held_record s.fields))

-- == a line's end ==

-- a refused line counts; in 16 bits, which the lines never leave
abbrev pub counted : ℕ → ℕ → ℕ
counted n refusal = cond (ltb 0 refusal) ((n + 1) % 65536) n

abbrev pub next_line : Session → Reply → Session
next_line s r = record { pair = r.pair; lines = s.lines + 1; refusals = counted s.refusals (number r.said); length = 0; fields = empty }

unfoldable pub ended : Session → Session
ended s = next_line s (held_reply s)

-- == bytes ==

-- at most 65,535 lines are taken
abbrev pub goes_on : Session → Bool
goes_on s = ltb s.lines 65535

-- after the last of them nothing is looked at
unfoldable pub after : Session → ℕ → Session
after s b = cond (goes_on s) (cond (eqb b (code "\n")) (ended s) (pushed s b)) s

unfoldable pub said : Session → ℕ → List ℕ
said s b = cond (goes_on s) (cond (eqb b (code "\n")) (said_text (s.lines + 1) (held_reply s).said) []) []

abbrev pub after_all : Session → List ℕ → Session
after_all s [] = s
after_all s (b ∷ bs) = after_all (after s b) bs

abbrev pub said_all : Session → List ℕ → List ℕ
said_all s [] = []
said_all s (b ∷ bs) = said s b ++ said_all (after s b) bs

-- how many bytes of a piece are taken where the text has so much room: a byte is taken while 32 bytes are left
abbrev pub taken : Session → List ℕ → ℕ → ℕ
taken s [] room = 0
taken s (b ∷ bs) room = cond (ltb room 32) 0 (suc (taken (after s b) bs (room - length (said s b))))

-- at the end of the input: the last line, where it lacks its newline, and the counts
unfoldable pub last_said : Session → List ℕ
last_said s =
    cond (ltb 0 s.length) (said s (code "\n") ++ counts_text (after s (code "\n")).lines (after s (code "\n")).refusals) (counts_text s.lines s.refusals)
