-- The two kinds of call, on a struct T and n numbers of the width w: a by-value call replies an answer and a value, a lent call answers it, in the width
-- `wide`, and leaves that value behind its reference. What both are as contracts, and what a lent call is as code.
-- Assumes nothing.
use mathlib.Core.Path.{◌≡◌}
use Prim.Native.Nat.{ℕ, suc}
use mathlib.Core.List.{[], ◌∷◌, List}
use seplogic.Ra.Ura.{Ura}
use mir.Syntax.{Width, Callee as Name, local, value_local, Fn, ty_int, deref, field, place, Opd as Operand, copy, rv_opd, Body as Code, seq, assign, call, return}
use base.Logic.{ent, emp, snd∗, ex_e}
use types.Logic.{Logic, sem}
use contract.Monad.{fact}
use types.Kit.{‵, ◌$◌, ◌∵◌, !, qed, move, join, frame, done, use0}
use denote.RattleType.{RattleType, owns}
use denote.Plain.{UInt}
use denote.Builtin.{RefMutOf}
use denote.Exit.{yes}
use denote.Signature.{plain, types_at}
use denote.Steps.{nothing}
use denote.Triple.Statement.{Contract}
use denote.Triple.Entry.{Args, Vals}
use denote.Triple.Spec.{triple_of}
use denote.Triple.Walked.{Stays, stay_ref}
use denote.Triple.Clauses.{Ended, Clauses, ensured, closing, lasts}
use Rattle.lending.proofs.Lendable.{Lendable, Value, row_of, mir_of, vals, reference, Replying, reply_row, reply_mir}
use Rattle.lending.proofs.Numbers.{Numbers, Fit, slots, kept_numbers, numbers, stay_numbers, denots, spelled, own_numbers, number_locals, past, copies}

-- == a call by value, whose result is of the type U ==

module _ (T : Lendable) (w : Width) where
  abbrev pub taking : RattleType → ℕ → Ended
  taking U n =
      record {
        signature = record { lifetimes = 0; outlives = []; params = plain (λ _. row_of T) ∷ slots w 0 n; result = plain (λ _. U) };
        kept = (yes, kept_numbers w 0 n);
      }

  module _ {M : Type 1} {𝓤 : Ura M} (𝓛 : Logic 𝓤) (U : RattleType) (n : ℕ) (F : Value T → Numbers n → U.Denot) where
    -- it gives what F says
    abbrev pub Takes : Clauses 𝓤 (taking U n)
    Takes κs a = record { ghost = Unit {0}; requires = λ _. emp 𝓤; ensures = λ _ r _. fact 𝓤 (r ≡ F a.0 (numbers w 0 n κs a.1)) }

    abbrev pub Taking : Contract 𝓤
    Taking = triple_of 𝓛 (taking U n).signature (closing 𝓛 (taking U n) Takes)

  -- what it is given, and its machine values
  abbrev pub Passed : RattleType → ℕ → Type 0
  Passed U n = Args (taking U n).signature tt

  abbrev pub Values : RattleType → ℕ → Type 0
  Values U n = Vals (taking U n).signature tt

  module _ {M : Type 1} {𝓤 : Ura M} (𝓛 : Logic 𝓤) (U : RattleType) (n : ℕ) (F : Value T → Numbers n → U.Denot) where
    abbrev pub taken : Passed U n → Values U n → (Taking 𝓛 U n F).Ghost
    taken x vs = ((tt, tt, tt, x, vs), tt)

    -- what it gives
    pub gave : (x : Passed U n) (r : U.Denot) → ent 𝓤 (ensured 𝓛 (taking U n) (Takes 𝓛 U n F) tt x tt r) (fact 𝓤 (r ≡ F x.0 (numbers w 0 n tt x.1)))
    gave x r = ex_e 𝓤 _ (λ ws. snd∗ 𝓤 (sem 𝓛 (lasts (taking U n) tt x ws)) (fact 𝓤 (r ≡ F x.0 (numbers w 0 n tt x.1))))

    pub given_over : (h : Value T) (xs : Numbers n) → Fit w n xs
        → ent 𝓤 (sem 𝓛 ((row_of T).own_val h (vals T h))) ((Taking 𝓛 U n F).pre (taken (h, denots w 0 n tt xs) (vals T h, spelled w 0 n tt xs)))
    given_over h xs fits =
        qed 𝓛 (‵ ((row_of T).own_val h (vals T h)) ∷ []) ∵ use0 𝓛 (‵ (owns (types_at (slots w 0 n) tt) (denots w 0 n tt xs) (spelled w 0 n tt xs))) (own_numbers w 𝓛 0 n tt xs fits) $
        move ! (1 ∷ 0 ∷ []) $ join ! $ nothing ! $ join ! $ frame ! $ done !

-- == a lent call ==

-- what it answers, and the value that it leaves behind the reference
pub record Promise (T : Lendable) (n : ℕ) : Type 0 where
  pub answers : Value T → Numbers n → ℕ
  pub leaves : Value T → Numbers n → Value T

module _ (T : Lendable) (w wide : Width) where
  abbrev pub lent : ℕ → Ended
  lent n =
      record {
        signature = record {
          lifetimes = 1;
          outlives = [];
          params = RefMutOf (0 ∷ []) tt (plain (λ _. row_of T)) (λ _. tt) ∷ slots w 1 n;
          result = plain (λ _. UInt wide);
        };
        kept = (yes, kept_numbers w 1 n);
      }

  -- the numbers are let go, the struct is still lent at its last value
  abbrev pub stayed : (n : ℕ) → Stays (lent n).signature.params (lent n).kept
  stayed n = (stay_ref (0 ∷ []) tt (plain (λ _. row_of T)), stay_numbers w 1 n)

  module _ {M : Type 1} (𝓤 : Ura M) (n : ℕ) (P : Promise T n) where
    abbrev pub Lent : Clauses 𝓤 (lent n)
    Lent κs a =
        record {
          ghost = Unit {0};
          requires = λ _. emp 𝓤;
          ensures = λ _ r e. fact 𝓤 ((r ≡ P.answers a.0.now (numbers w 1 n κs a.1)) × (e.0.now ≡ P.leaves a.0.now (numbers w 1 n κs a.1)));
        }

-- == a lent call over one by value: the contract of the second, and the code of the first ==

module _ (T : Lendable) (R : Replying T) where
  -- what the by-value call replies
  abbrev pub Replies : ℕ → Type 0
  Replies n = Value T → Numbers n → R.Reply

  -- F keeps the promise P
  pub record Keeps (n : ℕ) (F : Replies n) (P : Promise T n) : Type 0 where
    pub answer : (d : Value T) (xs : Numbers n) → R.answer (F d xs) ≡ P.answers d xs
    pub left : (d : Value T) (xs : Numbers n) → R.value (F d xs) ≡ P.leaves d xs

  module _ (w : Width) {M : Type 1} {𝓤 : Ura M} (𝓛 : Logic 𝓤) (n : ℕ) (F : Replies n) where
    abbrev pub ByValue : Clauses 𝓤 (taking T w (reply_row T R) n)
    ByValue = Takes T w 𝓛 (reply_row T R) n F

    abbrev pub Callee : Contract 𝓤
    Callee = Taking T w 𝓛 (reply_row T R) n F

  -- the locals are the answer, the reference, the numbers, the copy, the reply and the value of the reply, which is stored
  abbrev pub lending : ℕ → Name → ℕ → ℕ → List Operand → Code → Code
  lending copied g replied stored args rest =
      seq (assign (place copied []) (rv_opd (copy (place 1 (deref (mir_of T) ∷ [])))))
      (seq (call g (copy (place copied []) ∷ args) (place replied []))
      (seq (assign (place stored []) (rv_opd (copy (place replied (field 1 ∷ [])))))
      (seq (assign (place 1 (deref (mir_of T) ∷ [])) (rv_opd (copy (place stored []))))
      (seq (assign (place 0 []) (rv_opd (copy (place replied (field 0 ∷ [])))))
      rest))))

  abbrev pub function : Width → ℕ → Name → Fn
  function w n g =
      record {
        lifetimes = 1;
        outlives = [];
        ty_params = [];
        givens = 0;
        params = suc n;
        locals = local (ty_int R.wide) value_local ∷ local (reference T) value_local
            ∷ number_locals w n (local (mir_of T) value_local ∷ local (reply_mir T R) value_local ∷ local (mir_of T) value_local ∷ []);
        body = lending (suc (suc (past n 0))) g (suc (suc (past n 1))) (suc (suc (past n 2))) (copies 2 n) return;
      }
