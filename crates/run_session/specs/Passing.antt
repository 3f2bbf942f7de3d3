-- What the program reads and writes, where the bytes that its input has left and its output holds are known: std's `remaining` and
-- `contents`. What a system call moves stays outside: of it they know nothing.
-- Assumes nothing.
use Rattle.std.specs.Prelude.{ℕ, ◌≤◌, ◌<◌, ◌≡◌, true, false, List, length, Option, IfSome}
use Rattle.std.specs.Io.KnownBytes.{Appends, Consumes, IsAtEnd}
use Rattle.session_rules.specs.declared.Session.{Session}
use Rattle.session_rules.specs.Bytes.{goes_on, after_all, said_all}
use Rattle.session_rules.specs.Whole.{answer_text}
use Rattle.run_session.specs.declared.Next.{Next}
use Rattle.run_session.specs.Goes.{more}

-- some bytes left the input, `least` or more if more is wanted, and the output grew by what the session s says to them; no more is wanted only at the
-- input's end or where the last line is taken
pub record Passed (s : Session) (least : ℕ) (left₀ left held₀ held : Option (List ℕ)) (t : Session) (next : Next) : Type 0 where
  pub bytes : List ℕ
  pub session : t ≡ after_all s bytes
  pub taken : Consumes left₀ left bytes
  pub said : Appends held₀ held (said_all s bytes)
  pub many : more next ≡ true → least ≤ length bytes
  pub ended : more next ≡ false → goes_on t ≡ true → IsAtEnd left

-- the output grew by document 01's answer to all that the input had left, unless that was more bytes than the program counts reads
abbrev pub AnswersAll : Option (List ℕ) → Option (List ℕ) → Option (List ℕ) → Type 0
AnswersAll left held₀ held = IfSome left (λ text. length text < 18446744073709551615 → Appends held₀ held (answer_text text))
