-- A lent call that does one of two lent calls, by its first byte (`meets_either`): the one where that is the number v, the other where it is not. All that
-- is known of the two is their contracts.
-- Assumes nothing.
use mathlib.Core.Path.{refl}
use mathlib.Core.List.{[], ◌∷◌}
use Prim.Native.Nat.{ℕ, suc, ◌^◌}
use seplogic.Ra.Ura.{Ura}
use lib.Dec.{T, ltb, eqb}
use mir.Syntax.{Callee as Name, Fn, ty_int, ty_bool, w8, w16, place, copy, int, op2, eq, local, value_local, seq, assign, cond, skip, return}
use mir.Val.{vint, vptr}
use base.Fml.{flft}
use prog.Wp.{Env, WpFn, Tables}
use types.Logic.{Logic}
use types.Kit.{‵, ◌$◌, ◌∵◌, !, qed, by, move, keep, split, join}
use types.Run.{look, init, forget, stop, load, lit, bin, assigns, returns, returns_within, enter, alloc1, alloc0, params1, pass1, free1, free0}
use sound.WpLaws.{fm_of}
use denote.Triple.Statement.{Triple}
use denote.Triple.Spec.{Meets}
use denote.Triple.Clauses.{closing}
use Rattle.lending.proofs.Early.{early, holds, fails}
use Rattle.lending.proofs.Again.{again}
use Rattle.host.proofs.Calls.{lent_device, reference, lent, Promise, Lent, byte_locals, past, held}
use Rattle.host.proofs.Lent.{Walk, meets_by}
use Rattle.host.proofs.Again.{reborrow, calling_again, Lending}
use Rattle.host.proofs.Decides.{Decides}
use Rattle.host.proofs.Bytes.{values, Locals, env, AllStand, further, all_stand, behind, stands, alloc_bytes, pass_bytes, free_bytes}

-- the locals are the answer, the reference, the bytes, the test, and a reference for each call
abbrev pub either_of : ℕ → ℕ → Name → Name → Fn
either_of n v f g =
    record {
      lifetimes = 1;
      outlives = [];
      ty_params = [];
      givens = 0;
      params = suc (suc n);
      locals = local (ty_int w16) value_local ∷ local reference value_local
          ∷ byte_locals (suc n) (local ty_bool value_local ∷ local reborrow value_local ∷ local reborrow value_local ∷ []);
      body =
          seq (assign (place (suc (suc (past (suc n) 0))) []) (op2 eq (copy (place 2 [])) (int w8 v)))
          (seq (cond (copy (place (suc (suc (past (suc n) 0))) [])) (calling_again (suc (suc (past (suc n) 1))) f (suc n) 0 return) skip)
          (calling_again (suc (suc (past (suc n) 2))) g (suc n) 0 return));
    }

-- Q is P where the first byte is v, and R where it is not
abbrev pub Divides : (n v : ℕ) → Promise (suc n) → Promise (suc n) → Promise (suc n) → Type 0
Divides n v = Decides (suc n) (λ d xs. eqb xs.0 v)

module _ {M : Type 1} {𝓤 : Ura M} (𝓛 : Logic 𝓤) (n v : ℕ) (small : T (ltb v (2 ^ 8))) (P R Q : Promise (suc n)) (divides : Divides n v P R Q) (𝓣 : Tables 𝓤 𝓛.H)
    (f g : Name) (one : Triple 𝓤 (𝓣.C f) (Lending 𝓛 (suc n) P)) (other : Triple 𝓤 (𝓣.C g) (Lending 𝓛 (suc n) R)) where
  open 𝓛 use {H}

  -- the locals behind the bytes
  abbrev others : (y t u : ℕ) → Locals
  others y t u = (ty_bool, y) ∷ (reborrow, t) ∷ (reborrow, u) ∷ []

  walk : Walk 𝓛 (suc n) Q 𝓣 (either_of n v f g)
  walk κ q b o γ h xs fits K ends =
      qed 𝓛 (‵ (held b o κ γ h) ∷ ‵ (flft κ q) ∷ []) ∵ enter ! 𝓣.C 𝓣.Λ (either_of n v f g) (vptr b o ∷ values (suc n) xs) _ $
      alloc1 ! (λ a. alloc1 ! (λ l. alloc_bytes 𝓛 (suc n) (λ ks. alloc1 ! (λ y. alloc1 ! (λ t. alloc1 ! (λ u. alloc0 ! $ params1 ! $
      pass1 ! (init ! 7 refl (tt, tt)) $ move ! (6 ∷ []) $ pass_bytes 𝓛 (suc n) ks xs (others y t u) fits (
      let E : Env 𝓤 H = (ty_int w16, a) ∷ (reference, l) ∷ env (suc n) ks (others y t u) in
      let stand : AllStand E 2 (suc n) ks = further (suc n) ks (ty_int w16, a) ((reference, l) ∷ env (suc n) ks (others y t u)) 1 (further (suc n) ks (reference, l) (env (suc n) ks (others y t u)) 0 (all_stand (suc n) ks (others y t u))) in
      let at-l = stands 𝓛 E 1 reference l refl in
      let at_a = stands 𝓛 E 0 (ty_int w16) a refl in
      let at_y = stands 𝓛 E (suc (suc (past (suc n) 0))) ty_bool y (behind (suc n) ks _ 0 ty_bool y refl) in
      split ! $ split ! $
      assigns ! (bin ! (load ! (stands 𝓛 E 2 (ty_int w8) ks.0 refl _ _ _ (stop !)) (look ! 0 refl)) (lit ! small) tt) (at_y _ _ _ (stop !)) (init ! 7 refl (tt, tt)) $
      join ! $ join ! $
      early ! (load ! (at_y _ _ _ (stop !)) (look ! 5 refl))
      (λ test. move ! (11 ∷ 12 ∷ 7 ∷ 3 ∷ 9 ∷ 0 ∷ []) $ again lent_device w8 w16 𝓛 κ q b o γ (suc n) P h xs l t a ks at-l (stands 𝓛 E (suc (suc (past (suc n) 1))) reborrow t (behind (suc n) ks _ 1 reborrow t refl))
      at_a stand (fm_of 𝓤 H 𝓛.laws 𝓣) one fits (λ fit.
      returns_within ! K {r = vint w16 (P.answers h xs)} refl (look ! 4 refl) $ forget ! 4 refl $ forget ! 2 refl $ forget ! 9 refl $
      move ! (4 ∷ 12 ∷ []) $ free1 ! $ move ! (2 ∷ 10 ∷ []) $ free1 ! $ move ! (3 ∷ []) $ free_bytes 𝓛 (suc n) ks xs (move ! (6 ∷ 7 ∷ []) $ free1 ! $ move ! (2 ∷ 5 ∷ []) $ free1 ! $ move ! (2 ∷ 3 ∷ []) $ free1 ! $ free0 ! $ keep ! (0 ∷ 1 ∷ []) $
      by ! (ends (P.answers h xs) (P.leaves h xs) (divides.is h xs (holds _ test)).0 (divides.is h xs (holds _ test)).1 fit))))
      (λ test. move ! (11 ∷ 12 ∷ 7 ∷ 1 ∷ 9 ∷ 0 ∷ []) $ again lent_device w8 w16 𝓛 κ q b o γ (suc n) R h xs l u a ks at-l (stands 𝓛 E (suc (suc (past (suc n) 2))) reborrow u (behind (suc n) ks _ 2 reborrow u refl))
      at_a stand (fm_of 𝓤 H 𝓛.laws 𝓣) other fits (λ fit.
      returns ! {r = vint w16 (R.answers h xs)} (look ! 4 refl) $ forget ! 4 refl $ forget ! 2 refl $ forget ! 9 refl $
      move ! (4 ∷ 12 ∷ []) $ free1 ! $ move ! (2 ∷ 10 ∷ []) $ free1 ! $ move ! (3 ∷ []) $ free_bytes 𝓛 (suc n) ks xs (move ! (6 ∷ 7 ∷ []) $ free1 ! $ move ! (4 ∷ 5 ∷ []) $ free1 ! $ move ! (2 ∷ 3 ∷ []) $ free1 ! $ free0 ! $ keep ! (0 ∷ 1 ∷ []) $
      by ! (ends (R.answers h xs) (R.leaves h xs) (divides.not h xs (fails _ test)).0 (divides.not h xs (fails _ test)).1 fit)))))))))))

  pub meets_either : Meets 𝓛 (lent (suc n)).signature (WpFn 𝓤 H 𝓣.C 𝓣.Λ (either_of n v f g)) (closing 𝓛 (lent (suc n)) (Lent 𝓤 (suc n) Q))
  meets_either = meets_by 𝓛 (suc n) Q 𝓣 (either_of n v f g) walk
