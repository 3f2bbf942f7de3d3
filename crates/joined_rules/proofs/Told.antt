-- A run and a wait as `joined` answers them: a value, or that they are too long, exactly where document 01's number is not 0; and which number that was.
-- Assumes nothing.
use Prim.Native.Nat.{ℕ}
use mathlib.Core.Path.{◌≡◌, refl, ap, sym, ◌∙◌}
use mathlib.Core.Bool.{Bool, true, false, cond}
use native.Mathlib.Omega.{arith}
use lib.Dec.{ltb}
use borrow.Author.Tests.{ltb-true, ltb-false}
use Rattle.std.specs.Prelude.{Ok, Err}
use Rattle.line_rules.specs.declared.Unit.{Unit}
use Rattle.joined_rules.specs.declared.Pair.{Pair}
use Rattle.joined_rules.specs.declared.TooLong.{TooLong}
use Rattle.joined_rules.specs.declared.TooLong.TheVariants.{Run, Wait}
use Rattle.joined_rules.specs.Refused.{number, told, numbered}
use Rattle.joined_rules.specs.Joining.{Ran, run}
use Rattle.joined_rules.specs.Waiting.{Waited, wait}
use Rattle.joined_rules.proofs.RunsRefused.{run_refused, run_done}
use Rattle.joined_rules.proofs.Waits.{wait_refused, wait_done, wait_number}

-- either number is one of the call that is refused with it
told_so : {A : Type 0} (t : TooLong) (b : Bool) (x : A) → told (cond b (number t) 0) x ≡ cond b (Err t) (Ok x)
told_so Run true x = refl
told_so Run false x = refl
told_so Wait true x = refl
told_so Wait false x = refl

number_so : {A : Type 0} (t : TooLong) (b : Bool) (x : A) → numbered (told (cond b (number t) 0) x) ≡ cond b (number t) 0
number_so Run true x = refl
number_so Run false x = refl
number_so Wait true x = refl
number_so Wait false x = refl

module _ {A : Type 0} (x : A) (p : Pair) where
  pub run_told : (n : ℕ) → told (run p n).refusal x ≡ cond (ltb 65535 n) (Err Run) (Ok x)
  unfolding run
  run_told n = told_so Run (ltb 65535 n) x

  pub wait_told : (u : Unit) (limit : ℕ) → told (wait p u limit).refusal x ≡ cond (ltb 65535 limit) (Err Wait) (Ok x)
  wait_told u limit = ap (λ (n : ℕ). told n x) (wait_number p u limit) ∙ told_so Wait (ltb 65535 limit) x

  -- no number is lost
  pub run_numbered : (n : ℕ) → numbered (told (run p n).refusal x) ≡ (run p n).refusal
  unfolding run
  run_numbered n = number_so Run (ltb 65535 n) x

  pub wait_numbered : (u : Unit) (limit : ℕ) → numbered (told (wait p u limit).refusal x) ≡ (wait p u limit).refusal
  wait_numbered u limit =
      let e = wait_number p u limit in
      ap (λ (n : ℕ). numbered (told n x)) e ∙ number_so Wait (ltb 65535 limit) x ∙ sym e

  -- where one is told to be too long, nothing is spent and the pair is as it was
  above : (t : TooLong) → number t ≡ 0 → ⊥
  above Run h = omega (arith, h)
  above Wait h = omega (arith, h)

  pub run_err : (n : ℕ) (t : TooLong) → told (run p n).refusal x ≡ Err t → run p n ≡ record { refusal = number t; pair = p }
  run_err n t h = go (ltb 65535 n) refl
    where
      is : number t ≡ (run p n).refusal
      is = sym (ap numbered h) ∙ run_numbered n

      go : (b : Bool) → ltb 65535 n ≡ b → run p n ≡ record { refusal = number t; pair = p }
      go true e =
          let r = run_refused p n (ltb-true 65535 n e) in
          r ∙ ap (λ (k : ℕ). record { refusal = k; pair = p }) (sym (is ∙ ap (λ (o : Ran). o.refusal) r))
      go false e = absurd (above t (is ∙ ap (λ (o : Ran). o.refusal) (run_done p n (ltb-false 65535 n e))))

  pub wait_err : (u : Unit) (limit : ℕ) (t : TooLong) → told (wait p u limit).refusal x ≡ Err t → wait p u limit ≡ record { refusal = number t; count = 0; pair = p }
  wait_err u limit t h = go (ltb 65535 limit) refl
    where
      is : number t ≡ (wait p u limit).refusal
      is = sym (ap numbered h) ∙ wait_numbered u limit

      go : (b : Bool) → ltb 65535 limit ≡ b → wait p u limit ≡ record { refusal = number t; count = 0; pair = p }
      go true e =
          let r = wait_refused p u limit (ltb-true 65535 limit e) in
          r ∙ ap (λ (k : ℕ). record { refusal = k; count = 0; pair = p }) (sym (is ∙ ap (λ (o : Waited). o.refusal) r))
      go false e = absurd (above t (is ∙ ap (λ (o : Waited). o.refusal) (wait_done p u limit (ltb-false 65535 limit e))))
