-- A lent call that may be refused, with any number of bytes (`meets_refusable`): the device is made sound in place and what is refused is asked of it by
-- value; the act is done in place where nothing is, and else the device is put back as it was given. All that is known of the three callees is their
-- contracts.
-- Assumes nothing.
use mathlib.Core.Path.{◌≡◌, refl}
use mathlib.Core.Bool.{true, false}
use mathlib.Core.List.{[], ◌∷◌}
use Prim.Native.Nat.{ℕ, suc}
use seplogic.Ra.Ura.{Ura}
use lib.Dec.{eqb}
use mir.Syntax.{w8, Callee as Name, Fn, ty_int, ty_bool, w16, deref, place, copy, int, rv_opd, op2, eq, local, value_local, seq, assign, cond, skip, call, return}
use mir.Val.{vint, vptr}
use base.Fml.{flft}
use prog.Wp.{Env, WpFn, Tables}
use types.Logic.{Logic}
use types.Kit.{‵, ◌$◌, ◌∵◌, !, qed, by, move, keep}
use types.Run.{look, init, forget, stop, load, lit, bin, of_opd, assigns, returns, returns_within, enter, alloc1, alloc0, params1, pass1, free1, free0}
use sound.WpLaws.{fm_of}
use denote.Builtin.{u16}
use denote.Steps.{nothing}
use denote.Triple.Statement.{Triple}
use denote.Triple.Spec.{Meets}
use denote.Triple.Clauses.{closing}
use Rattle.lending.proofs.Early.{early, holds, fails}
use Rattle.lending.proofs.Moves.{a_number, keeps, restores, asks}
use Rattle.lending.proofs.Again.{again}
use Rattle.ins2651_rules.specs.declared.Device.{Device}
use Rattle.ins2651_rules.proofs.Device.TheLaws as D'
use Rattle.host.proofs.Calls.{lent_device, reference, Bytes, Taking, lent, Promise, Lent, byte_locals, copies, past, held}
use Rattle.host.proofs.Lent.{Walk, meets_by}
use Rattle.host.proofs.Again.{reborrow, calling_again, Lending}
use Rattle.host.proofs.Bytes.{values, Locals, env, AllStand, further, all_stand, behind, stands, alloc_bytes, pass_bytes, free_bytes}

-- the locals are the answer, the reference, the bytes, the device given, the sound one, what is refused, the first answer, a reference, the test and a reference
abbrev pub refusable : ℕ → Name → Name → Name → Fn
refusable n sound refuses act =
    record {
      lifetimes = 1;
      outlives = [];
      ty_params = [];
      givens = 0;
      params = suc n;
      locals = local (ty_int w16) value_local ∷ local reference value_local
          ∷ byte_locals n (local D'.mir value_local ∷ local D'.mir value_local ∷ local (ty_int w16) value_local ∷ local (ty_int w16) value_local
          ∷ local reborrow value_local ∷ local ty_bool value_local ∷ local reborrow value_local ∷ []);
      body =
          seq (assign (place (suc (suc (past n 0))) []) (rv_opd (copy (place 1 (deref D'.mir ∷ [])))))
          (calling_again (suc (suc (past n 4))) sound 0 (suc (suc (past n 3)))
          (seq (assign (place (suc (suc (past n 1))) []) (rv_opd (copy (place 1 (deref D'.mir ∷ [])))))
          (seq (call refuses (copy (place (suc (suc (past n 1))) []) ∷ copies 2 n) (place (suc (suc (past n 2))) []))
          (seq (assign (place (suc (suc (past n 5))) []) (op2 eq (copy (place (suc (suc (past n 2))) [])) (int w16 0)))
          (seq (cond (copy (place (suc (suc (past n 5))) [])) (calling_again (suc (suc (past n 6))) act n 0 return) skip)
          (seq (assign (place 1 (deref D'.mir ∷ [])) (rv_opd (copy (place (suc (suc (past n 0))) []))))
          (seq (assign (place 0 []) (rv_opd (copy (place (suc (suc (past n 2))) []))))
          return)))))));
    }

-- Q is what P says of the sound device where N refuses nothing of it, and else what N says and the device as it was
pub record Chooses (n : ℕ) (S : Promise 0) (N : Device → Bytes n → ℕ) (P Q : Promise n) : Type 0 where
  pub acts : (d : Device) (xs : Bytes n) → eqb (N (S.leaves d tt) xs) 0 ≡ true → (P.answers (S.leaves d tt) xs ≡ Q.answers d xs) × (P.leaves (S.leaves d tt) xs ≡ Q.leaves d xs)
  pub stays : (d : Device) (xs : Bytes n) → eqb (N (S.leaves d tt) xs) 0 ≡ false → (N (S.leaves d tt) xs ≡ Q.answers d xs) × (d ≡ Q.leaves d xs)

module _ {M : Type 1} {𝓤 : Ura M} (𝓛 : Logic 𝓤) (n : ℕ) (S : Promise 0) (N : Device → Bytes n → ℕ) (P Q : Promise n) (chooses : Chooses n S N P Q) (𝓣 : Tables 𝓤 𝓛.H)
    (f g k : Name) (sounds : Triple 𝓤 (𝓣.C f) (Lending 𝓛 0 S)) (refuses : Triple 𝓤 (𝓣.C g) (Taking 𝓤 𝓛 u16 n N)) (acts : Triple 𝓤 (𝓣.C k) (Lending 𝓛 n P)) where
  open 𝓛 use {H}

  abbrev others : (c s m e t y u : ℕ) → Locals
  others c s m e t y u = (D'.mir, c) ∷ (D'.mir, s) ∷ (ty_int w16, m) ∷ (ty_int w16, e) ∷ (reborrow, t) ∷ (ty_bool, y) ∷ (reborrow, u) ∷ []

  walk : Walk 𝓛 n Q 𝓣 (refusable n f g k)
  walk κ q b o γ h xs fits K ends =
      qed 𝓛 (‵ (held b o κ γ h) ∷ ‵ (flft κ q) ∷ []) ∵ enter ! 𝓣.C 𝓣.Λ (refusable n f g k) (vptr b o ∷ values n xs) _ $
      alloc1 ! (λ a. alloc1 ! (λ l. alloc_bytes 𝓛 n (λ ks. alloc1 ! (λ c. alloc1 ! (λ s. alloc1 ! (λ m. alloc1 ! (λ e. alloc1 ! (λ t. alloc1 ! (λ y. alloc1 ! (λ u. alloc0 ! $ params1 ! $
      pass1 ! (init ! 15 refl (tt, tt)) $ move ! (14 ∷ []) $ pass_bytes 𝓛 n ks xs (others c s m e t y u) fits (
      let E : Env 𝓤 H = (ty_int w16, a) ∷ (reference, l) ∷ env n ks (others c s m e t y u) in
      let stand : AllStand E 2 n ks = further n ks (ty_int w16, a) ((reference, l) ∷ env n ks (others c s m e t y u)) 1 (further n ks (reference, l) (env n ks (others c s m e t y u)) 0 (all_stand n ks (others c s m e t y u))) in
      let at-l = stands 𝓛 E 1 reference l refl in
      let at_c = stands 𝓛 E (suc (suc (past n 0))) D'.mir c (behind n ks _ 0 D'.mir c refl) in
      let at-s = stands 𝓛 E (suc (suc (past n 1))) D'.mir s (behind n ks _ 1 D'.mir s refl) in
      let at-m = stands 𝓛 E (suc (suc (past n 2))) (ty_int w16) m (behind n ks _ 2 (ty_int w16) m refl) in
      let at_y = stands 𝓛 E (suc (suc (past n 5))) ty_bool y (behind n ks _ 5 ty_bool y refl) in
      move ! (19 ∷ 20 ∷ 15 ∷ 13 ∷ []) $ keeps lent_device 𝓛 κ q b o γ h l c at-l at_c (λ was.
      nothing ! $ move ! (1 ∷ 2 ∷ 3 ∷ 10 ∷ 12 ∷ 0 ∷ []) $ again lent_device w8 w16 𝓛 κ q b o γ 0 S h tt l t e tt at-l (stands 𝓛 E (suc (suc (past n 4))) reborrow t (behind n ks _ 4 reborrow t refl))
      (stands 𝓛 E (suc (suc (past n 3))) (ty_int w16) e (behind n ks _ 3 (ty_int w16) e refl)) tt (fm_of 𝓤 H 𝓛.laws 𝓣) sounds tt (λ _.
      move ! (0 ∷ 1 ∷ 2 ∷ 16 ∷ []) $ keeps lent_device 𝓛 κ q b o γ (S.leaves h tt) l s at-l at-s (λ is.
      move ! (3 ∷ 15 ∷ 8 ∷ []) $ asks lent_device w8 𝓛 u16 (ty_int w16) (a_number w16) n N (S.leaves h tt) xs s m ks at-s at-m stand (fm_of 𝓤 H 𝓛.laws 𝓣) refuses is fits (λ v fit.
      -- [the sound device; what is refused; the bytes; the device; the token; the reference; …]
      assigns ! (bin ! (load ! (at-m _ _ _ (stop !)) (look ! 1 refl)) (lit ! tt) tt) (at_y _ _ _ (stop !)) (init ! 12 refl (tt, tt)) $
      early ! (load ! (at_y _ _ _ (stop !)) (look ! 12 refl))
      (λ test. move ! (3 ∷ 4 ∷ 5 ∷ 10 ∷ 20 ∷ 2 ∷ []) $ again lent_device w8 w16 𝓛 κ q b o γ n P (S.leaves h tt) xs l u a ks at-l (stands 𝓛 E (suc (suc (past n 6))) reborrow u (behind n ks _ 6 reborrow u refl))
      (stands 𝓛 E 0 (ty_int w16) a refl) stand (fm_of 𝓤 H 𝓛.laws 𝓣) acts fits (λ fit'.
      returns_within ! K {r = vint w16 (P.answers (S.leaves h tt) xs)} refl (look ! 4 refl) $ forget ! 4 refl $ forget ! 2 refl $ forget ! 11 refl $ forget ! 6 refl $ forget ! 7 refl $ forget ! 9 refl $ forget ! 13 refl $
      move ! (4 ∷ 21 ∷ []) $ free1 ! $ move ! (2 ∷ 19 ∷ []) $ free1 ! $ move ! (3 ∷ []) $ free_bytes 𝓛 n ks xs (
      move ! (8 ∷ 16 ∷ []) $ free1 ! $ move ! (3 ∷ 14 ∷ []) $ free1 ! $ move ! (3 ∷ 12 ∷ []) $ free1 ! $ move ! (4 ∷ 10 ∷ []) $ free1 ! $ move ! (3 ∷ 8 ∷ []) $ free1 ! $ move ! (5 ∷ 6 ∷ []) $ free1 ! $ move ! (2 ∷ 4 ∷ []) $ free1 ! $ free0 ! $ keep ! (0 ∷ 1 ∷ []) $
      by ! (ends (P.answers (S.leaves h tt) xs) (P.leaves (S.leaves h tt) xs) (chooses.acts h xs (holds _ test)).0 (chooses.acts h xs (holds _ test)).1 fit'))))
      (λ test. move ! (3 ∷ 4 ∷ 5 ∷ 9 ∷ []) $ restores lent_device 𝓛 κ q b o γ (S.leaves h tt) l c h was at-l at_c (
      assigns ! (of_opd ! (load ! (at-m _ _ _ (stop !)) (look ! 5 refl))) (stands 𝓛 E 0 (ty_int w16) a refl _ _ _ (stop !)) (init ! 20 refl (tt, record { fits = fit.1 })) $
      returns ! {r = vint w16 (N (S.leaves h tt) xs)} (look ! 20 refl) $ forget ! 20 refl $ forget ! 2 refl $ forget ! 3 refl $ forget ! 4 refl $ forget ! 5 refl $ forget ! 8 refl $ forget ! 12 refl $
      move ! (20 ∷ 21 ∷ []) $ free1 ! $ move ! (2 ∷ 19 ∷ []) $ free1 ! $ move ! (5 ∷ []) $ free_bytes 𝓛 n ks xs (
      move ! (2 ∷ 16 ∷ []) $ free1 ! $ move ! (2 ∷ 14 ∷ []) $ free1 ! $ move ! (2 ∷ 12 ∷ []) $ free1 ! $ move ! (3 ∷ 10 ∷ []) $ free1 ! $ move ! (2 ∷ 8 ∷ []) $ free1 ! $ move ! (5 ∷ 6 ∷ []) $ free1 ! $ move ! (3 ∷ 4 ∷ []) $ free1 ! $ free0 ! $ keep ! (0 ∷ 1 ∷ []) $
      by ! (ends (N (S.leaves h tt) xs) h (chooses.stays h xs (fails _ test)).0 (chooses.stays h xs (fails _ test)).1 fit.1)))))))))))))))))))

  pub meets_refusable : Meets 𝓛 (lent n).signature (WpFn 𝓤 H 𝓣.C 𝓣.Λ (refusable n f g k)) (closing 𝓛 (lent n) (Lent 𝓤 n Q))
  meets_refusable = meets_by 𝓛 n Q 𝓣 (refusable n f g k) walk
