-- A lent call that does one of two lent calls, by a test by value of the value and the numbers (`meets_deciding`): the one where it holds, the other where
-- it fails. All that is known of the three is their contracts.
-- Assumes nothing.
use mathlib.Core.Path.{◌≡◌, refl}
use mathlib.Core.Bool.{Bool, true, false}
use mathlib.Core.List.{[], ◌∷◌}
use Prim.Native.Nat.{ℕ, suc}
use seplogic.Ra.Ura.{Ura}
use mir.Syntax.{Width, Callee as Name, Fn, ty_int, ty_bool, deref, place, copy, rv_opd, local, value_local, seq, assign, cond, skip, call, return}
use mir.Val.{vint, vptr}
use base.Fml.{flft}
use prog.Wp.{Env, WpFn, Tables}
use types.Logic.{Logic}
use types.Kit.{‵, ◌$◌, ◌∵◌, !, qed, by, move, keep}
use types.Run.{look, init, forget, stop, load, of_opd, assigns, returns, returns_within, enter, alloc1, alloc0, params1, pass1, free1, free0}
use sound.WpLaws.{fm_of}
use denote.Builtin.{bool}
use denote.Triple.Statement.{Triple}
use denote.Triple.Spec.{Meets}
use denote.Triple.Clauses.{closing}
use Rattle.lending.proofs.Lendable.{Lendable, Value, mir_of, reference, held}
use Rattle.lending.proofs.Numbers.{Numbers, values, Locals, past, copies, stands, number_locals, env, AllStand, further, all_stand, behind, alloc_numbers, pass_numbers, free_numbers}
use Rattle.lending.proofs.Calls.{Taking, Promise, lent, Lent}
use Rattle.lending.proofs.Entry.{Walk, meets_by}
use Rattle.lending.proofs.Moves.{a_bool, keeps, asks}
use Rattle.lending.proofs.Again.{reborrow, calling_again, Lending, again}
use Rattle.lending.proofs.Early.{early, holds, fails}

-- the locals are the answer, the reference, the numbers, the copy, the test twice, and a reference for each call
abbrev pub deciding : Lendable → (w wide : Width) → ℕ → Name → Name → Name → Fn
deciding T w wide n test f g =
    record {
      lifetimes = 1;
      outlives = [];
      ty_params = [];
      givens = 0;
      params = suc n;
      locals = local (ty_int wide) value_local ∷ local (reference T) value_local
          ∷ number_locals w n (local (mir_of T) value_local ∷ local ty_bool value_local ∷ local ty_bool value_local ∷ local (reborrow T) value_local ∷ local (reborrow T) value_local ∷ []);
      body =
          seq (assign (place (suc (suc (past n 0))) []) (rv_opd (copy (place 1 (deref (mir_of T) ∷ [])))))
          (seq (call test (copy (place (suc (suc (past n 0))) []) ∷ copies 2 n) (place (suc (suc (past n 1))) []))
          (seq (assign (place (suc (suc (past n 2))) []) (rv_opd (copy (place (suc (suc (past n 1))) []))))
          (seq (cond (copy (place (suc (suc (past n 2))) [])) (calling_again T (suc (suc (past n 3))) f n 0 return) skip)
          (calling_again T (suc (suc (past n 4))) g n 0 return))));
    }

-- Q is P where the test holds, and R where it fails
pub record Decides (T : Lendable) (n : ℕ) (N : Value T → Numbers n → Bool) (P R Q : Promise T n) : Type 0 where
  pub is : (d : Value T) (xs : Numbers n) → N d xs ≡ true → (P.answers d xs ≡ Q.answers d xs) × (P.leaves d xs ≡ Q.leaves d xs)
  pub not : (d : Value T) (xs : Numbers n) → N d xs ≡ false → (R.answers d xs ≡ Q.answers d xs) × (R.leaves d xs ≡ Q.leaves d xs)

module _ (T : Lendable) (w wide : Width) {M : Type 1} {𝓤 : Ura M} (𝓛 : Logic 𝓤) (n : ℕ) (N : Value T → Numbers n → Bool) (P R Q : Promise T n) (decides : Decides T n N P R Q) (𝓣 : Tables 𝓤 𝓛.H)
    (e f g : Name) (tests : Triple 𝓤 (𝓣.C e) (Taking T w 𝓛 bool n N)) (one : Triple 𝓤 (𝓣.C f) (Lending T w wide 𝓛 n P)) (other : Triple 𝓤 (𝓣.C g) (Lending T w wide 𝓛 n R)) where
  open 𝓛 use {H}

  abbrev others : (c y z t u : ℕ) → Locals
  others c y z t u = (mir_of T, c) ∷ (ty_bool, y) ∷ (ty_bool, z) ∷ (reborrow T, t) ∷ (reborrow T, u) ∷ []

  walk : Walk T w wide 𝓛 n Q 𝓣 (deciding T w wide n e f g)
  walk κ q b o γ h xs fits K ends =
      qed 𝓛 (‵ (held T b o κ γ h) ∷ ‵ (flft κ q) ∷ []) ∵ enter ! 𝓣.C 𝓣.Λ (deciding T w wide n e f g) (vptr b o ∷ values w n xs) _ $
      alloc1 ! (λ a. alloc1 ! (λ l. alloc_numbers w 𝓛 n (λ ks. alloc1 ! (λ c. alloc1 ! (λ y. alloc1 ! (λ z. alloc1 ! (λ t. alloc1 ! (λ u. alloc0 ! $ params1 ! $
      pass1 ! (init ! 11 refl (tt, tt)) $ move ! (10 ∷ []) $ pass_numbers w 𝓛 n ks xs (others c y z t u) fits (
      let E : Env 𝓤 H = (ty_int wide, a) ∷ (reference T, l) ∷ env w n ks (others c y z t u) in
      let stand : AllStand w E 2 n ks = further w n ks (ty_int wide, a) ((reference T, l) ∷ env w n ks (others c y z t u)) 1 (further w n ks (reference T, l) (env w n ks (others c y z t u)) 0 (all_stand w n ks (others c y z t u))) in
      let at_a = stands 𝓛 E 0 (ty_int wide) a refl in
      let at-l = stands 𝓛 E 1 (reference T) l refl in
      let at_c = stands 𝓛 E (suc (suc (past n 0))) (mir_of T) c (behind w n ks _ 0 (mir_of T) c refl) in
      let at_y = stands 𝓛 E (suc (suc (past n 1))) ty_bool y (behind w n ks _ 1 ty_bool y refl) in
      let at-z = stands 𝓛 E (suc (suc (past n 2))) ty_bool z (behind w n ks _ 2 ty_bool z refl) in
      move ! (15 ∷ 16 ∷ 11 ∷ 9 ∷ []) $ keeps T 𝓛 κ q b o γ h l c at-l at_c (λ was.
      move ! (3 ∷ 11 ∷ 4 ∷ []) $ asks T w 𝓛 bool ty_bool a_bool n N h xs c y ks at_c at_y stand (fm_of 𝓤 H 𝓛.laws 𝓣) tests was fits (λ _ _.
      -- [the copy; the test; the numbers; the value; the token; the reference; the second one for a call; its end; the first; its end; the test again; …]
      assigns ! (of_opd ! (load ! (at_y _ _ _ (stop !)) (look ! 1 refl))) (at-z _ _ _ (stop !)) (init ! 10 refl (tt, tt)) $
      early ! (load ! (at-z _ _ _ (stop !)) (look ! 10 refl))
      (λ test. move ! (3 ∷ 4 ∷ 5 ∷ 8 ∷ 15 ∷ 2 ∷ []) $ again T w wide 𝓛 κ q b o γ n P h xs l t a ks at-l (stands 𝓛 E (suc (suc (past n 3))) (reborrow T) t (behind w n ks _ 3 (reborrow T) t refl))
      at_a stand (fm_of 𝓤 H 𝓛.laws 𝓣) one fits (λ fit.
      returns_within ! K {r = vint wide (P.answers h xs)} refl (look ! 4 refl) $ forget ! 4 refl $ forget ! 2 refl $ forget ! 6 refl $ forget ! 7 refl $ forget ! 11 refl $
      move ! (4 ∷ 16 ∷ []) $ free1 ! $ move ! (2 ∷ 14 ∷ []) $ free1 ! $ move ! (3 ∷ []) $ free_numbers w 𝓛 n ks xs (
      move ! (3 ∷ 11 ∷ []) $ free1 ! $ move ! (3 ∷ 9 ∷ []) $ free1 ! $ move ! (6 ∷ 7 ∷ []) $ free1 ! $ move ! (2 ∷ 5 ∷ []) $ free1 ! $ move ! (2 ∷ 3 ∷ []) $ free1 ! $ free0 ! $ keep ! (0 ∷ 1 ∷ []) $
      by ! (ends (P.answers h xs) (P.leaves h xs) (decides.is h xs (holds _ test)).0 (decides.is h xs (holds _ test)).1 fit))))
      (λ test. move ! (3 ∷ 4 ∷ 5 ∷ 6 ∷ 15 ∷ 2 ∷ []) $ again T w wide 𝓛 κ q b o γ n R h xs l u a ks at-l (stands 𝓛 E (suc (suc (past n 4))) (reborrow T) u (behind w n ks _ 4 (reborrow T) u refl))
      at_a stand (fm_of 𝓤 H 𝓛.laws 𝓣) other fits (λ fit.
      returns ! {r = vint wide (R.answers h xs)} (look ! 4 refl) $ forget ! 4 refl $ forget ! 2 refl $ forget ! 6 refl $ forget ! 7 refl $ forget ! 11 refl $
      move ! (4 ∷ 16 ∷ []) $ free1 ! $ move ! (2 ∷ 14 ∷ []) $ free1 ! $ move ! (3 ∷ []) $ free_numbers w 𝓛 n ks xs (
      move ! (3 ∷ 11 ∷ []) $ free1 ! $ move ! (3 ∷ 9 ∷ []) $ free1 ! $ move ! (6 ∷ 7 ∷ []) $ free1 ! $ move ! (4 ∷ 5 ∷ []) $ free1 ! $ move ! (2 ∷ 3 ∷ []) $ free1 ! $ free0 ! $ keep ! (0 ∷ 1 ∷ []) $
      by ! (ends (R.answers h xs) (R.leaves h xs) (decides.not h xs (fails _ test)).0 (decides.not h xs (fails _ test)).1 fit)))))))))))))))

  pub meets_deciding : Meets 𝓛 (lent T w wide n).signature (WpFn 𝓤 H 𝓣.C 𝓣.Λ (deciding T w wide n e f g)) (closing 𝓛 (lent T w wide n) (Lent T w wide 𝓤 n Q))
  meets_deciding = meets_by T w wide 𝓛 n Q 𝓣 (deciding T w wide n e f g) walk
