-- A host that hands the input over piece by piece: each call of `feed` is offered some of what is left, and room for the text; it may take less.
-- Assumes nothing.
use Rattle.std.specs.Prelude.{ℕ, Bool, true, false, not, ◌||◌, List, [], ◌∷◌, ◌++◌, take, drop}
use Rattle.session_rules.specs.declared.Session.{Session}
use Rattle.session_rules.specs.Bytes.{fresh, goes_on, after_all, said_all, taken}

-- between two calls: the session, the input that is not taken yet, and what is written so far
pub record Host : Type 0 where
  pub session : Session
  pub left : List ℕ
  pub written : List ℕ

abbrev pub begun : List ℕ → Host
begun input = record { session = fresh; left = input; written = [] }

-- how many bytes of what is left are offered, and how many bytes of room
pub record Offer : Type 0 where
  pub size : ℕ
  pub room : ℕ

abbrev pub bytes_taken : Host → Offer → ℕ
bytes_taken h o = taken h.session (take o.size h.left) o.room

-- a call of `feed`, by its contract; what was not taken is offered again
abbrev pub offer : Host → Offer → Host
offer h o =
    record {
      session = after_all h.session (take (bytes_taken h o) (take o.size h.left));
      left = drop (bytes_taken h o) h.left;
      written = h.written ++ said_all h.session (take (bytes_taken h o) (take o.size h.left));
    }

abbrev pub offers : Host → List Offer → Host
offers h [] = h
offers h (o ∷ os) = offers (offer h o) os

-- nothing is left, or the last line that is taken is taken
abbrev pub is_empty : List ℕ → Bool
is_empty [] = true
is_empty (b ∷ bs) = false

abbrev pub over : Host → Bool
over h = is_empty h.left || not (goes_on h.session)
