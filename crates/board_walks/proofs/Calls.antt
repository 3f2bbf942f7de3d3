-- The kinds of call, by their number of bytes: a plan decides by value from the board, the count of channels and the bytes; a summary makes one number of
-- the board, eight numbers and the bytes; a call on a lent board and room answers, and leaves both. What each is as a contract, and what a call is as code.
-- Assumes nothing.
use mathlib.Core.Path.{◌≡◌}
use Prim.Native.Nat.{ℕ, zero, suc, ◌<◌, ◌^◌}
use mathlib.Core.List.{[], ◌∷◌, List}
use seplogic.Ra.Ura.{Ura}
use mir.Syntax.{Width, Callee as Name, Local, local, value_local, Fn, Ty, ty_int, ty_bool, ty_ref, named, mut, w64, deref, field, place, copy, rv_opd, Body as Code, skip, seq, assign, cond, call}
use mir.Val.{Val}
use base.Logic.{ent, emp, snd∗, ex_e}
use types.Logic.{Logic, sem}
use contract.Monad.{fact}
use denote.RattleType.{Denots}
use denote.Laws.{Is}
use denote.Memory.{mem, pointee}
use denote.Plain.{UInt}
use denote.Builtin.{u16, usize, RefMutOf, SliceRefMutOf}
use denote.Exit.{yes}
use denote.Slice.{slice_ty}
use denote.Signature.{Slot, plain, types_at}
use denote.Struct.Laws as LL
use denote.Triple.Statement.{Contract}
use denote.Triple.Entry.{Args, Vals}
use denote.Triple.Spec.{triple_of}
use denote.Triple.End.{Kepts}
use denote.Triple.Walked.{Stays, stay_ref, stay_slice}
use denote.Triple.Clauses.{Ended, Clauses, ensured, closing, lasts}
use Rattle.ins2651_rules.specs.declared.Device.{Device}
use Rattle.ins2651_rules.specs.contracts.Device as D
use Rattle.board_rules.specs.declared.Board.{Board}
use Rattle.board_rules.specs.contracts.Board as B
use Rattle.board_rules.proofs.Board.TheLaws as B'
use Rattle.board_walks.specs.declared.Plan.{Plan}
use Rattle.board_walks.specs.contracts.Plan as P
use Rattle.board_walks.proofs.Plan.TheLaws as P'
use Rattle.host.proofs.Calls.{Bytes, bytes, kept_bytes, numbers, stay_bytes, byte_locals, past, copies}

-- == machine values ==

abbrev pub board_vals : Board → List Val
board_vals = LL.vals B.the_type B'.the_laws

abbrev pub board_val : Board → Val
board_val = LL.val B.the_type B'.the_laws

abbrev pub plan_val : Plan → Val
plan_val = LL.val P.the_type P'.the_laws

-- the bytes of a device: the one place that says where its size comes from
abbrev pub size : ℕ
size = (mem D.the_row).size

-- a reference to a board, and a slice of devices, as the code names them
abbrev pub board_ref : Ty
board_ref = ty_ref (named 0) mut (pointee (B.the_row).written)

abbrev pub room_ref : Ty
room_ref = slice_ty (ty_ref (named 1) mut (pointee (D.the_row).written))

-- of a plan that is owned: its numbers fit, and its board is one
pub record Parts (r : Plan) : Type 0 where
  pub answer : r.answer < 2 ^ 16
  pub channel : r.channel < 2 ^ 64
  pub board : Is B.the_row r.board (board_vals r.board)

pub parts : (r : Plan) (vs : List Val) → Is P.the_row r vs → Parts r
parts r vs is = let all = LL.owed P.the_type P'.the_laws r vs is in record { answer = all.0.1; channel = all.1.0.1; board = all.1.1.0 }

-- == plans ==

abbrev pub Plans : ℕ → Type 0
Plans n = Board → ℕ → Bytes n → Plan

abbrev pub planning : ℕ → Ended
planning n =
    record {
      signature = record { lifetimes = 0; outlives = []; params = plain (λ _. B.the_row) ∷ plain (λ _. usize) ∷ bytes 0 n; result = plain (λ _. P.the_row) };
      kept = (yes, (yes, kept_bytes 0 n));
    }

module _ {M : Type 1} {𝓤 : Ura M} (𝓛 : Logic 𝓤) (n : ℕ) (S : Plans n) where
  abbrev pub PlanClauses : Clauses 𝓤 (planning n)
  PlanClauses κs a = record { ghost = Unit {0}; requires = λ _. emp 𝓤; ensures = λ _ r _. fact 𝓤 (r ≡ S a.0 a.1.0 (numbers 0 n κs a.1.1)) }

  abbrev pub Planning : Contract 𝓤
  Planning = triple_of 𝓛 (planning n).signature (closing 𝓛 (planning n) PlanClauses)

  abbrev pub plan_of : Args (planning n).signature tt → Vals (planning n).signature tt → Planning.Ghost
  plan_of x vs = ((tt, tt, tt, x, vs), tt)

  pub decided : (x : Args (planning n).signature tt) (r : Plan) → ent 𝓤 (ensured 𝓛 (planning n) PlanClauses tt x tt r) (fact 𝓤 (r ≡ S x.0 x.1.0 (numbers 0 n tt x.1.1)))
  decided x r = ex_e 𝓤 _ (λ ws. snd∗ 𝓤 (sem 𝓛 (lasts (planning n) tt x ws)) (fact 𝓤 (r ≡ S x.0 x.1.0 (numbers 0 n tt x.1.1))))

-- == summaries ==

-- m numbers of 16 bits, and then n bytes
abbrev pub words : ℕ → ℕ → List (Slot 0)
words zero n = bytes 0 n
words (suc m) n = plain (λ _. u16) ∷ words m n

abbrev pub kept_words : (m n : ℕ) → Kepts (words m n)
kept_words zero n = kept_bytes 0 n
kept_words (suc m) n = (yes, kept_words m n)

abbrev pub words_of : (m n : ℕ) → Denots (types_at (words m n) tt) → Bytes m
words_of zero n a = tt
words_of (suc m) n a = (a.0, words_of m n a.1)

abbrev pub bytes_of : (m n : ℕ) → Denots (types_at (words m n) tt) → Bytes n
bytes_of zero n a = numbers 0 n tt a
bytes_of (suc m) n a = bytes_of m n a.1

abbrev pub Summaries : ℕ → ℕ → Type 0
Summaries m n = Board → Bytes m → Bytes n → ℕ

abbrev pub summing : Width → ℕ → ℕ → Ended
summing w m n =
    record {
      signature = record { lifetimes = 0; outlives = []; params = plain (λ _. B.the_row) ∷ words m n; result = plain (λ _. UInt w) };
      kept = (yes, kept_words m n);
    }

module _ {M : Type 1} {𝓤 : Ura M} (𝓛 : Logic 𝓤) (w : Width) (m n : ℕ) (F : Summaries m n) where
  abbrev pub SumClauses : Clauses 𝓤 (summing w m n)
  SumClauses κs a = record { ghost = Unit {0}; requires = λ _. emp 𝓤; ensures = λ _ r _. fact 𝓤 (r ≡ F a.0 (words_of m n a.1) (bytes_of m n a.1)) }

  abbrev pub Summing : Contract 𝓤
  Summing = triple_of 𝓛 (summing w m n).signature (closing 𝓛 (summing w m n) SumClauses)

  abbrev pub sum_of : Args (summing w m n).signature tt → Vals (summing w m n).signature tt → Summing.Ghost
  sum_of x vs = ((tt, tt, tt, x, vs), tt)

  pub summed : (x : Args (summing w m n).signature tt) (r : ℕ) → ent 𝓤 (ensured 𝓛 (summing w m n) SumClauses tt x tt r) (fact 𝓤 (r ≡ F x.0 (words_of m n x.1) (bytes_of m n x.1)))
  summed x r = ex_e 𝓤 _ (λ ws. snd∗ 𝓤 (sem 𝓛 (lasts (summing w m n) tt x ws)) (fact 𝓤 (r ≡ F x.0 (words_of m n x.1) (bytes_of m n x.1))))

-- == a call on a lent board and a lent room ==

abbrev pub on_board : Width → ℕ → Ended
on_board w n =
    record {
      signature = record {
        lifetimes = 2;
        outlives = [];
        params = RefMutOf (0 ∷ []) tt (plain (λ _. B.the_row)) (λ _. tt) ∷ SliceRefMutOf (1 ∷ []) tt (plain (λ _. D.the_row)) (λ _. tt) ∷ bytes 2 n;
        result = plain (λ _. UInt w);
      };
      kept = (yes, (yes, kept_bytes 2 n));
    }

abbrev pub stayed : (w : Width) (n : ℕ) → Stays (on_board w n).signature.params (on_board w n).kept
stayed w n = (stay_ref (0 ∷ []) tt (plain (λ _. B.the_row)), (stay_slice (1 ∷ []) tt (plain (λ _. D.the_row)), stay_bytes 2 n))

-- what it answers, and the board and the room that it leaves
pub record Promise (n : ℕ) : Type 0 where
  pub answers : Board → List Device → Bytes n → ℕ
  pub board : Board → List Device → Bytes n → Board
  pub room : Board → List Device → Bytes n → List Device

-- r, d' and zs are what P says
abbrev pub Says : (n : ℕ) → Promise n → Board → List Device → Bytes n → ℕ → Board → List Device → Type 0
Says n P d ys xs r d' zs = (r ≡ P.answers d ys xs) × ((d' ≡ P.board d ys xs) × (zs ≡ P.room d ys xs))

module _ {M : Type 1} (𝓤 : Ura M) (w : Width) (n : ℕ) (P : Promise n) where
  abbrev pub OnBoard : Clauses 𝓤 (on_board w n)
  OnBoard κs a =
      record { ghost = Unit {0}; requires = λ _. emp 𝓤; ensures = λ _ r e. fact 𝓤 (Says n P a.0.now a.1.0.now (numbers 2 n κs a.1.1) r e.0.now e.1.0.now) }

-- == the code ==

-- local j of those behind n bytes
abbrev pub at : ℕ → ℕ → ℕ
at n j = suc (suc (suc (past n j)))

abbrev pub valued : List Ty → List Local
valued [] = []
valued (τ ∷ τs) = local τ value_local ∷ valued τs

-- the plan is made, its board stored, and where it ends there `early` runs; else the rest. Behind the bytes stand the plan, the board's copy, the count
-- of channels, the plan's board, a test, and then the locals of the rest
abbrev pub function : Width → ℕ → Name → Code → List Ty → Code → Fn
function w n f early τs rest =
    record {
      lifetimes = 2;
      outlives = [];
      ty_params = [];
      givens = 0;
      params = suc (suc n);
      locals = local (ty_int w) value_local ∷ local board_ref value_local ∷ local room_ref value_local
          ∷ byte_locals n (local P'.mir value_local ∷ local B'.mir value_local ∷ local (ty_int w64) value_local ∷ local B'.mir value_local ∷ local ty_bool value_local ∷ valued τs);
      body =
          seq (assign (place (at n 1) []) (rv_opd (copy (place 1 (deref B'.mir ∷ [])))))
          (seq (assign (place (at n 2) []) (rv_opd (copy (place 2 (field 1 ∷ [])))))
          (seq (call f (copy (place (at n 1) []) ∷ copy (place (at n 2) []) ∷ copies 3 n) (place (at n 0) []))
          (seq (assign (place (at n 3) []) (rv_opd (copy (place (at n 0) (field 2 ∷ [])))))
          (seq (assign (place 1 (deref B'.mir ∷ [])) (rv_opd (copy (place (at n 3) []))))
          (seq (assign (place (at n 4) []) (rv_opd (copy (place (at n 0) (field 3 ∷ [])))))
          (seq (cond (copy (place (at n 4) [])) early skip)
          rest))))));
    }
