-- A run or a wait that is refused, as a value of its own in the place of document 01's number, "Refusal numbers".
-- Assumes nothing.
use Rattle.std.specs.Prelude.{ℕ, cond, eqb, Result, Ok, Err}
use Rattle.joined_rules.specs.declared.TooLong.{TooLong}
use Rattle.joined_rules.specs.declared.TooLong.TheVariants.{Run, Wait}

-- requests P9 and P12
abbrev pub number : TooLong → ℕ
number Run = 16
number Wait = 21

-- what is answered where the number is 0: the value; or else why it is refused
abbrev pub told : {A : Type 0} → ℕ → A → Result A TooLong
told n x = cond (eqb n 0) (Ok x) (Err (cond (eqb n (number Run)) Run Wait))

-- the number again, 0 where there is a value
abbrev pub numbered : {A : Type 0} → Result A TooLong → ℕ
numbered (Ok x) = 0
numbered (Err t) = number t
