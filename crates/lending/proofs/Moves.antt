-- The steps of a walk over a lent struct that is not lent on: it is copied out (`keeps`), a copy is put back over it (`restores`), and a call by value is
-- asked about a copy and the numbers (`asks`). All that is known of such a call is its contract.
-- Assumes nothing.
use mathlib.Core.Path.{◌≡◌, refl, sym, ap, subst, ◌∙◌}
use Prim.Native.Nat.{ℕ, zero}
use mathlib.Core.List.{[], ◌∷◌, List}
use seplogic.Ra.Ura.{Ura}
use base.Fraction.{full_share}
use lib.Dec.{T as Yes}
use mir.Syntax.{Width, Callee as Name, Ty, ty_int, ty_bool, deref, place, copy, rv_opd, Body as Code, seq, assign, call}
use mir.Val.{Val, vint, vbool, vptr, has_ty, WT}
use base.Logic.{id⊢}
use base.Fml.{GName, Lft, Share, ftrue, flft, fat, froom}
use prog.Wp.{Env, Calls, Loops}
use types.Logic.{Logic}
use contract.Monad.{fact}
use types.Kit.{Item, Post, Go, Seq, runs, ‵, raw, ◌⊛◌, some, later, ◌$◌, !, move, drop, use1, split, pick, rewrite, fsplit3, fjoin3, feq_i, await}
use types.Run.{Opds, look, look_raw, init, store_raw, stop, hop, load, of_opd, and_then, assigns, land}
use sound.WpLaws.{FmC}
use denote.RattleType.{RattleType, flat}
use denote.Laws.{Is, shows}
use denote.Plain.{UInt}
use denote.Builtin.{bool}
use denote.Signature.{types_at}
use denote.Steps.{only, opens, closes, owned, peeks, facts, heard}
use denote.Struct.Steps.{spelt}
use denote.Struct.Laws as LL
use denote.Triple.Statement.{Triple}
use denote.Triple.Call.{calls_at}
use denote.Triple.Clauses.{ensured}
use Rattle.lending.proofs.Lendable.{Lendable, Value, row_of, mir_of, vals, val, reference, held}
use Rattle.lending.proofs.Numbers.{Numbers, Fit, typed_number, slots, numbers, denots, spelled, numbers_are, spelled_are, copies, At, carried, AllStand, cells, read_numbers}
use Rattle.lending.proofs.Calls.{taking, Takes, Taking, taken, gave, given_over}

-- the value is one: its machine values are as its type says
abbrev pub Sound : (T : Lendable) → Value T → Type 0
Sound T h = Is (row_of T) h (vals T h)

-- a type whose values are one machine value each
pub record Single (U : RattleType) (τ : Ty) : Type 1 where
  pub spell : U.Denot → Val
  pub told : (r : U.Denot) (v : Val) → Is U r (v ∷ []) → v ≡ spell r
  pub typed : (r : U.Denot) (v : Val) → Is U r (v ∷ []) → Yes (has_ty τ v) × WT v

abbrev pub a_number : (w : Width) → Single (UInt w) (ty_int w)
a_number w = record {
  spell = vint w;
  told = λ r v is. ap only is.0;
  typed = λ r v is. subst (λ (y : Val). Yes (has_ty (ty_int w) y) × WT y) (sym (ap only is.0)) (typed_number w r is.1);
}

abbrev pub a_bool : Single bool ty_bool
a_bool = record {
  spell = vbool;
  told = λ r v is. ap only is;
  typed = λ r v is. subst (λ (y : Val). Yes (has_ty ty_bool y) × WT y) (sym (ap only is)) (tt, tt);
}

module _ (T : Lendable) {M : Type 1} {𝓤 : Ura M} (𝓛 : Logic 𝓤) (κ : Lft) (q : Share) (b o : ℕ) (γ : GName) (h : Value T) (l c : ℕ) where
  -- the reference's value, the token and the reference
  open 𝓛 use {H}

  abbrev at_hand : Value T → List (Item 𝓤) → List (Item 𝓤)
  at_hand d Γ = ‵ (held T b o κ γ d) ∷ ‵ (flft κ q) ∷ ‵ (fat full_share (reference T) l zero (vptr b o)) ∷ Γ

  pub keeps : {E : Env 𝓤 H} {C : Calls 𝓤 H} {Λ : Loops 𝓤 H} {p : Post 𝓤 H} {Γ : List (Item 𝓤)} {i : ℕ} {rest : Code} → At 𝓛 E 1 (reference T) l → At 𝓛 E i (mir_of T) c
      → (Sound T h → Seq (Go {0}) 𝓛 (at_hand h (‵ (fat full_share (mir_of T) c zero (val T h)) ∷ Γ)) (runs C Λ E rest p))
      → Seq (Go {0}) 𝓛 (at_hand h (‵ (froom (mir_of T) c zero) ∷ Γ)) (runs C Λ E (seq (assign (place i []) (rv_opd (copy (place 1 (deref (mir_of T) ∷ []))))) rest) p)
  keeps at-lender at_copy k =
      fsplit3 ! $ drop ! $
      opens ! tt (row_of T) {h = h} b o (λ us. spelt ! (row_of T) (Is (row_of T)) (shows 𝓛 (row_of T)) (vals T) (LL.tells T.type T.laws) full_share h us b o $
      move ! (1 ∷ []) $ peeks ! (row_of T) (Is (row_of T)) (shows 𝓛 (row_of T)) h (vals T h) (λ was.
      -- [what the value owns; its cell; the open borrow; obs; auth; the reference; room for the copy; …]
      assigns ! (of_opd ! (load ! (at-lender _ _ _ (hop ! (look ! 5 refl) (stop !))) (look_raw ! 1 refl))) (at_copy _ _ _ (stop !)) (init ! 6 refl ((LL.lawful T.type T.laws 𝓛).typed h _ was).0) $
      move ! (1 ∷ 0 ∷ []) $ closes ! tt (row_of T) h (vals T h) b o $ feq_i ! (List Val) (vptr b o ∷ []) (vptr b o ∷ []) refl $ fjoin3 ! $ k was))

  pub restores : {E : Env 𝓤 H} {C : Calls 𝓤 H} {Λ : Loops 𝓤 H} {p : Post 𝓤 H} {Γ : List (Item 𝓤)} {i : ℕ} {rest : Code} (d : Value T) → Sound T d → At 𝓛 E 1 (reference T) l → At 𝓛 E i (mir_of T) c
      → Seq (Go {0}) 𝓛 (at_hand d (‵ (fat full_share (mir_of T) c zero (val T d)) ∷ Γ)) (runs C Λ E rest p)
      → Seq (Go {0}) 𝓛 (at_hand h (‵ (fat full_share (mir_of T) c zero (val T d)) ∷ Γ)) (runs C Λ E (seq (assign (place 1 (deref (mir_of T) ∷ [])) (rv_opd (copy (place i [])))) rest) p)
  restores d was at-lender at_copy k =
      fsplit3 ! $ drop ! $
      opens ! tt (row_of T) {h = h} b o (λ us. spelt ! (row_of T) (Is (row_of T)) (shows 𝓛 (row_of T)) (vals T) (LL.tells T.type T.laws) full_share h us b o $
      -- [the value's cell; what it owns; the open borrow; obs; auth; the reference; the copy; …]
      assigns ! (of_opd ! (load ! (at_copy _ _ _ (stop !)) (look ! 6 refl))) (at-lender _ _ _ (hop ! (look ! 5 refl) (stop !))) (store_raw ! 0 refl ((LL.lawful T.type T.laws 𝓛).typed d _ was).0) $
      move ! (1 ∷ []) $ drop ! $ owned ! (row_of T) (Is (row_of T)) (LL.makes T.type T.plain 𝓛) d (vals T d) was $
      move ! (1 ∷ 0 ∷ []) $ closes ! tt (row_of T) d (vals T d) b o $ feq_i ! (List Val) (vptr b o ∷ []) (vptr b o ∷ []) refl $ fjoin3 ! $ k)

module _ (T : Lendable) (w : Width) {M : Type 1} {𝓤 : Ura M} (𝓛 : Logic 𝓤) (U : RattleType) (τ : Ty) (one : Single U τ) (n : ℕ) (F : Value T → Numbers n → U.Denot) (h : Value T) (xs : Numbers n) (c m : ℕ) (ks : Numbers n) where
  open 𝓛 use {H}

  abbrev asked : (Taking T w 𝓛 U n F).Ghost
  asked = taken T w 𝓛 U n F (h, denots w 0 n tt xs) (vals T h, spelled w 0 n tt xs)

  abbrev at_call : List (Item 𝓤) → List (Item 𝓤)
  at_call Γ = raw ((Taking T w 𝓛 U n F).pre asked) ∷ ‵ (fat full_share (mir_of T) c zero (val T h)) ∷ ‵ (froom τ m zero) ∷ cells w n ks xs ∷ Γ

  reads : (E : Env 𝓤 H) (i : ℕ) → At 𝓛 E i (mir_of T) c → AllStand w E 2 n ks → (Γ : List (Item 𝓤)) → Opds (Go {0}) 𝓛 (at_call Γ) E (copy (place i []) ∷ copies 2 n) (val T h ∷ flat (types_at (slots w 0 n) tt) (spelled w 0 n tt xs))
  reads E i at_copy stand Γ =
      subst (λ (us : List Val). Opds (Go {0}) 𝓛 (at_call Γ) E (copy (place i []) ∷ copies 2 n) (val T h ∷ us)) (sym (spelled_are w 0 n tt xs))
      (and_then ! (load ! (at_copy _ _ _ (stop !)) (look ! 1 refl))
      (carried 𝓛 (λ G s. move ! (3 ∷ []) $ s) (λ G s. move ! (1 ∷ 2 ∷ 3 ∷ 0 ∷ []) $ s) (read_numbers w 𝓛 n ks xs _ E 2 stand)))

  pub asks : {E : Env 𝓤 H} {C : Calls 𝓤 H} {Λ : Loops 𝓤 H} {p : Post 𝓤 H} {Γ : List (Item 𝓤)} {g : Name} {i j : ℕ} {rest : Code}
      → At 𝓛 E i (mir_of T) c → At 𝓛 E j τ m → AllStand w E 2 n ks → FmC 𝓤 H 𝓛.laws C → Triple 𝓤 (C g) (Taking T w 𝓛 U n F) → Sound T h → Fit w n xs
      → ((v : Val) → Is U (F h xs) (v ∷ []) → Seq (Go {0}) 𝓛 (‵ (fat full_share (mir_of T) c zero (val T h)) ∷ ‵ (fat full_share τ m zero (one.spell (F h xs))) ∷ cells w n ks xs ∷ Γ) (runs C Λ E rest p))
      → Seq (Go {0}) 𝓛 (‵ (fat full_share (mir_of T) c zero (val T h)) ∷ ‵ (froom τ m zero) ∷ cells w n ks xs ∷ Γ) (runs C Λ E (seq (call g (copy (place i []) ∷ copies 2 n) (place j [])) rest) p)
  asks {E} {C} {Λ} {p} {Γ} {g} {i} {j} at_copy at-reply stand fm known was fits k =
      owned ! (row_of T) (Is (row_of T)) (LL.makes T.type T.plain 𝓛) h (vals T h) was $ use1 𝓛 (raw ((Taking T w 𝓛 U n F).pre asked)) (given_over T w 𝓛 U n F h xs fits) $
      calls_at ! fm (Taking T w 𝓛 U n F) known asked (reads E i at_copy stand Γ) (λ v.
      use1 𝓛 (later (some (λ (r : U.Denot). (‵ ftrue ⊛ ‵ (U.own_val r (v ∷ []))) ⊛ raw (ensured 𝓛 (taking T w U n) (Takes T w 𝓛 U n F) tt (h, denots w 0 n tt xs) tt r)))) (id⊢ 𝓤 _) $ await ! tt $ pick ! (λ r.
      split ! $ move ! (1 ∷ []) $ use1 𝓛 (raw (fact 𝓤 (r ≡ F h (numbers w 0 n tt (denots w 0 n tt xs))))) (gave T w 𝓛 U n F (h, denots w 0 n tt xs) r) $ heard ! (r ≡ F h (numbers w 0 n tt (denots w 0 n tt xs))) (λ e. split ! $ drop ! $
      facts ! U (Is U) (shows 𝓛 U) r (v ∷ []) (λ is.
      land ! (at-reply _ _ _ (stop !)) (init ! 1 refl (one.typed r v is)) $
      rewrite ! 1 (λ (u : Val). ‵ (fat full_share τ m 0 u)) (one.told r v is ∙ ap one.spell (e ∙ ap (F h) (numbers_are w 0 n tt xs))) refl $
      k v (subst (λ (z : U.Denot). Is U z (v ∷ [])) (e ∙ ap (F h) (numbers_are w 0 n tt xs)) is)))))
