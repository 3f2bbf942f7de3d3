-- What a call tells of its number: the value where nothing is refused, and else the row with that number.
-- Assumes nothing.
use Prim.Native.Nat.{ℕ, zero, suc, ◌≤◌}
use native.Mathlib.Omega.{arith}
use mathlib.Core.Path.{◌≡◌, refl}
use mathlib.Core.Bool.{Bool, true, false, cond}
use lib.Dec.{eqb}
use borrow.Author.Tests.{eqb-true, eqb-false}
use Rattle.std.specs.Prelude.{Ok, Err}
use Rattle.ins2651_rules.specs.declared.Refusal.{Refusal}
use Rattle.ins2651_rules.specs.declared.Refusal.TheVariants.{NoSuchAddress, NoSuchLevel, NoStopLength, Synchronous, NotNormalOperation}
use Rattle.ins2651_rules.specs.declared.Device.{Device}
use Rattle.ins2651_rules.specs.Refusals.{number, row, told}
use Rattle.ins2651_rules.specs.RegisterReads.{read}
use Rattle.ins2651_rules.specs.RegisterWrites.{write}
use Rattle.ins2651_rules.specs.Pinning.{set_pins}
use Rattle.ins2651_rules.specs.Ticks.{receive}
use Rattle.ins2651_rules.specs.Runs.{Call, Read, Write, SetPins, Receive, said}
use Rattle.ins2651_rules.proofs.Refused.{given_exactly, answers_refusal}

-- each row is that of its number ..
pub row_number : (r : Refusal) → row (number r) ≡ r
row_number NoSuchAddress = refl
row_number NoSuchLevel = refl
row_number NoStopLength = refl
row_number Synchronous = refl
row_number NotNormalOperation = refl

-- .. and each of the table's numbers is that of its row
pub number_row : (n : ℕ) → 1 ≤ n → n ≤ 5 → number (row n) ≡ n
number_row zero l h = absurd (omega arith)
number_row (suc zero) l h = refl
number_row (suc (suc zero)) l h = refl
number_row (suc (suc (suc zero))) l h = refl
number_row (suc (suc (suc (suc zero)))) l h = refl
number_row (suc (suc (suc (suc (suc zero))))) l h = refl
number_row (suc (suc (suc (suc (suc (suc n)))))) l h = absurd (omega arith)

module _ {A : Type 0} (n : ℕ) (x : A) where
  -- what is done has the number 0 ..
  pub told_ok : (y : A) → told n x ≡ Ok y → n ≡ 0
  told_ok y = go (eqb n 0) refl
    where
      go : (t : Bool) → eqb n 0 ≡ t → cond t (Ok x) (Err (row n)) ≡ Ok y → n ≡ 0
      go true h e = eqb-true n 0 h
      go false h e = cc

  -- .. and what is refused the number of its row, which is the number that the call is given
  pub told_err : (r : Refusal) → n ≤ 5 → told n x ≡ Err r → number r ≡ n
  told_err r l = go (eqb n 0) refl
    where
      go : (t : Bool) → eqb n 0 ≡ t → cond t (Ok x) (Err (row n)) ≡ Err r → number r ≡ n
      go true h e = cc
      go false h e =
          let k : row n ≡ r = cc in
          let some = eqb-false n 0 h in
          rw (← k) (number_row n (omega arith) l)

-- == of each call: the number that its refusal has is the number that it is given ==

given_at_most_5 : (d : Device) (c : Call) → (said d c).refusal ≤ 5
given_at_most_5 d c = omega (arith, answers_refusal d c, (given_exactly d c).most)

module _ (d : Device) where
  pub read_err : (address : ℕ) (r : Refusal) → told (read d address).refusal (read d address).value ≡ Err r → number r ≡ (read d address).refusal
  read_err address r = told_err _ _ r (given_at_most_5 d (Read address))

  pub write_err : (address v : ℕ) (r : Refusal) → told (write d address v).refusal (tt {0}) ≡ Err r → number r ≡ (write d address v).refusal
  write_err address v r = told_err _ _ r (given_at_most_5 d (Write address v))

  pub pins_err : (dsr dcd cts : ℕ) (r : Refusal) → told (set_pins d dsr dcd cts).refusal (tt {0}) ≡ Err r → number r ≡ (set_pins d dsr dcd cts).refusal
  pins_err dsr dcd cts r = told_err _ _ r (given_at_most_5 d (SetPins dsr dcd cts))

  pub receive_err : (x : ℕ) (r : Refusal) → told (receive d x).refusal (tt {0}) ≡ Err r → number r ≡ (receive d x).refusal
  receive_err x r = told_err _ _ r (given_at_most_5 d (Receive x))
