-- How the session goes on in the program, where no read and no write failed. What a system call moves is not stated.
-- Assumes nothing.
use Rattle.std.specs.Prelude.{ℕ, ◌≤◌, ◌<◌, ◌≡◌, Bool, true, false, cond, ◌&&◌, List, [], ◌∷◌, ltb, length, take, Result, Ok, Err}
use Prim.Native.Char.{code}
use Rattle.session_rules.specs.declared.Session.{Session}
use Rattle.session_rules.specs.Bytes.{goes_on, after, after_all, last_said}
use Rattle.run_session.specs.declared.Next.{Next}
use Rattle.run_session.specs.declared.Next.TheVariants.{More, Ended, RestUnread}
use Rattle.run_session.specs.declared.Failed.{Failed}

-- whether more of the input is wanted
abbrev pub more : Next → Bool
more More = true
more Ended = false
more RestUnread = false

-- whether some of it stays unread
abbrev pub rest : Next → Bool
rest More = false
rest Ended = false
rest RestUnread = true

-- one call of `feed`: so much of the piece is taken, some where there is any, and the session goes on by what was taken
pub record TookSome (s : Session) (piece : List ℕ) (t : Session) (used : ℕ) : Type 0 where
  pub within : used ≤ length piece
  pub some : 0 < length piece → 0 < used
  pub session : t ≡ after_all s (take used piece)

-- the session s has taken these bytes, each once and in order; more is wanted unless the last line is taken, and no rest is told
pub record TookAll (s : Session) (bytes : List ℕ) (t : Session) (next : Next) : Type 0 where
  pub session : t ≡ after_all s bytes
  pub more : more next ≡ goes_on t
  pub rest : rest next ≡ false

-- some of the bytes come after the last line that is taken: document 01, "the rest stays unread"
abbrev pub stays_unread : Session → List ℕ → Bool
stays_unread s [] = false
stays_unread s (b ∷ bs) = cond (goes_on s) (stays_unread (after s b) bs) true

-- a piece of the input: no more is wanted after no bytes, which are the input's end
pub record Answered (s : Session) (bytes : List ℕ) (t : Session) (next : Next) : Type 0 where
  pub session : t ≡ after_all s bytes
  pub more : more next ≡ (ltb 0 (length bytes) && goes_on t)
  pub rest : rest next ≡ stays_unread s bytes

-- the session s has taken some bytes, which system calls moved; a rest is told only where the last line is taken
pub record Fed (s t : Session) (next : Next) : Type 0 where
  pub bytes : List ℕ
  pub session : t ≡ after_all s bytes
  pub rest : rest next ≡ true → goes_on t ≡ false

-- the last that is said: the last line and the counts, and after a failure nothing
abbrev pub last_of : Result Next Failed → Session → List ℕ
last_of (Ok next) s = last_said s
last_of (Err failed) s = []

-- at the end of the input a last line that lacks its newline is ended
abbrev pub closed : Session → Session
closed s = cond (ltb 0 s.length) (after s (code "\n")) s

-- how many lines were refused: what `N` says (`counts_last` of proofs/Parts.antt)
abbrev pub refused_of : Session → ℕ
refused_of s = (closed s).refusals
