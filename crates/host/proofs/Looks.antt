-- A lent call that only looks, with an answer of any width (`meets_looks`): the device is made sound in place; where it was so, a call by value answers of
-- it, and else the device is put back as it was given and the answer is v. All that is known of the two callees is their contracts.
-- Assumes nothing.
use mathlib.Core.Path.{◌≡◌, refl}
use mathlib.Core.Bool.{true, false}
use mathlib.Core.List.{[], ◌∷◌}
use Prim.Native.Nat.{ℕ, ◌<◌, ◌^◌}
use seplogic.Ra.Ura.{Ura}
use lib.Dec.{T, ltb, eqb}
use mir.Syntax.{Width, w8, Callee as Name, Fn, ty_int, ty_bool, w16, deref, place, copy, int, rv_opd, op2, eq, local, value_local, seq, assign, cond, skip, call, return}
use mir.Val.{vint, vptr, bits}
use base.Fml.{flft}
use prog.Wp.{Env, WpFn, Tables}
use types.Logic.{Logic}
use types.Kit.{‵, ◌$◌, ◌∵◌, !, qed, by, move, keep}
use types.Run.{look, init, forget, stop, load, lit, bin, of_opd, assigns, returns, returns_within, enter, alloc1, alloc0, params1, pass1, pass0, free1, free0}
use sound.WpLaws.{fm_of}
use denote.Plain.{UInt}
use denote.Steps.{nothing}
use denote.Triple.Statement.{Triple}
use denote.Triple.Spec.{Meets}
use denote.Triple.Clauses.{closing}
use Rattle.lending.proofs.Numbers.{typed_number}
use Rattle.lending.proofs.Calls.{lent, Lent}
use Rattle.lending.proofs.Entry.{Walk, meets_by}
use Rattle.lending.proofs.Early.{early, holds, fails}
use Rattle.lending.proofs.Moves.{a_number, keeps, restores, asks}
use Rattle.lending.proofs.Again.{again}
use Rattle.ins2651_rules.specs.declared.Device.{Device}
use Rattle.ins2651_rules.proofs.Device.TheLaws as D'
use Rattle.host.proofs.Calls.{lent_device, reference, Bytes, Taking, Promise, held}
use Rattle.host.proofs.Again.{reborrow, calling_again, Lending}
use Rattle.host.proofs.Bytes.{stands}

-- the locals are the answer, the reference, the device given, the first call's answer, the device shown, a reference for the first call, and the test
abbrev pub looking : Width → ℕ → Name → Name → Fn
looking wide v sound shows =
    record {
      lifetimes = 1;
      outlives = [];
      ty_params = [];
      givens = 0;
      params = 1;
      locals = local (ty_int wide) value_local ∷ local reference value_local ∷ local D'.mir value_local ∷ local (ty_int w16) value_local ∷ local D'.mir value_local
          ∷ local reborrow value_local ∷ local ty_bool value_local ∷ [];
      body =
          seq (assign (place 2 []) (rv_opd (copy (place 1 (deref D'.mir ∷ [])))))
          (calling_again 5 sound 0 3
          (seq (assign (place 6 []) (op2 eq (copy (place 3 [])) (int w16 1)))
          (seq (cond (copy (place 6 [])) (seq (assign (place 4 []) (rv_opd (copy (place 1 (deref D'.mir ∷ []))))) (seq (call shows (copy (place 4 []) ∷ []) (place 0 [])) return)) skip)
          (seq (assign (place 1 (deref D'.mir ∷ [])) (rv_opd (copy (place 2 []))))
          (seq (assign (place 0 []) (rv_opd (int wide v)))
          return)))));
    }

-- Q is what S leaves, and what N says of that, where S answers 1, and else v and the device as it was
pub record Looks (v : ℕ) (S : Promise 0) (N : Device → Bytes 0 → ℕ) (Q : Promise 0) : Type 0 where
  pub sound : (d : Device) → eqb (S.answers d tt) 1 ≡ true → (N (S.leaves d tt) tt ≡ Q.answers d tt) × (S.leaves d tt ≡ Q.leaves d tt)
  pub unsound : (d : Device) → eqb (S.answers d tt) 1 ≡ false → (v ≡ Q.answers d tt) × (d ≡ Q.leaves d tt)

module _ {M : Type 1} {𝓤 : Ura M} (𝓛 : Logic 𝓤) (wide : Width) (v : ℕ) (small : T (ltb v (2 ^ bits wide))) (less : v < 2 ^ bits wide) (S : Promise 0) (N : Device → Bytes 0 → ℕ) (Q : Promise 0) (looks : Looks v S N Q)
    (𝓣 : Tables 𝓤 𝓛.H) (f g : Name) (sounds : Triple 𝓤 (𝓣.C f) (Lending 𝓛 0 S)) (shows : Triple 𝓤 (𝓣.C g) (Taking 𝓤 𝓛 (UInt wide) 0 N)) where
  open 𝓛 use {H}

  walk : Walk lent_device w8 wide 𝓛 0 Q 𝓣 (looking wide v f g)
  walk κ q b o γ h xs fits K ends =
      qed 𝓛 (‵ (held b o κ γ h) ∷ ‵ (flft κ q) ∷ []) ∵ enter ! 𝓣.C 𝓣.Λ (looking wide v f g) (vptr b o ∷ []) _ $
      alloc1 ! (λ a. alloc1 ! (λ l. alloc1 ! (λ c. alloc1 ! (λ m. alloc1 ! (λ s. alloc1 ! (λ t. alloc1 ! (λ y. alloc0 ! $ params1 ! $
      pass1 ! (init ! 10 refl (tt, tt)) $ pass0 ! $
      let E : Env 𝓤 H = (ty_int wide, a) ∷ (reference, l) ∷ (D'.mir, c) ∷ (ty_int w16, m) ∷ (D'.mir, s) ∷ (reborrow, t) ∷ (ty_bool, y) ∷ [] in
      let at_a = stands 𝓛 E 0 (ty_int wide) a refl in
      let at-l = stands 𝓛 E 1 reference l refl in
      let at_c = stands 𝓛 E 2 D'.mir c refl in
      let at-m = stands 𝓛 E 3 (ty_int w16) m refl in
      let at-s = stands 𝓛 E 4 D'.mir s refl in
      let at_y = stands 𝓛 E 6 ty_bool y refl in
      move ! (14 ∷ 15 ∷ 10 ∷ 8 ∷ []) $ keeps lent_device 𝓛 κ q b o γ h l c at-l at_c (λ was.
      nothing ! $ move ! (1 ∷ 2 ∷ 3 ∷ 7 ∷ 11 ∷ 0 ∷ []) $ again lent_device w8 w16 𝓛 κ q b o γ 0 S h tt l t m tt at-l (stands 𝓛 E 5 reborrow t refl) at-m tt (fm_of 𝓤 H 𝓛.laws 𝓣) sounds tt (λ _.
      -- [the device; the token; the reference; its room; the first answer; nothing; the device given; …]
      assigns ! (bin ! (load ! (at-m _ _ _ (stop !)) (look ! 4 refl)) (lit ! tt) tt) (at_y _ _ _ (stop !)) (init ! 7 refl (tt, tt)) $
      early ! (load ! (at_y _ _ _ (stop !)) (look ! 7 refl))
      (λ test. move ! (0 ∷ 1 ∷ 2 ∷ 10 ∷ []) $ keeps lent_device 𝓛 κ q b o γ (S.leaves h tt) l s at-l at-s (λ is.
      move ! (3 ∷ 15 ∷ 6 ∷ []) $ asks lent_device w8 𝓛 (UInt wide) (ty_int wide) (a_number wide) 0 N (S.leaves h tt) tt s a tt at-s at_a tt (fm_of 𝓤 H 𝓛.laws 𝓣) shows is tt (λ _ fit.
      -- [the device shown; the answer; nothing; the device; the token; the reference; …]
      returns_within ! K {r = vint wide (N (S.leaves h tt) tt)} refl (look ! 1 refl) $ forget ! 1 refl $ forget ! 0 refl $ forget ! 5 refl $ forget ! 7 refl $ forget ! 8 refl $ forget ! 9 refl $
      move ! (1 ∷ 16 ∷ []) $ free1 ! $ move ! (4 ∷ 14 ∷ []) $ free1 ! $ move ! (6 ∷ 12 ∷ []) $ free1 ! $ move ! (5 ∷ 10 ∷ []) $ free1 ! $ move ! (0 ∷ 8 ∷ []) $ free1 ! $ move ! (3 ∷ 6 ∷ []) $ free1 ! $ move ! (3 ∷ 4 ∷ []) $ free1 ! $ free0 ! $ keep ! (1 ∷ 2 ∷ []) $
      by ! (ends (N (S.leaves h tt) tt) (S.leaves h tt) (looks.sound h (holds _ test)).0 (looks.sound h (holds _ test)).1 fit.1))))
      (λ test. move ! (0 ∷ 1 ∷ 2 ∷ 6 ∷ []) $ restores lent_device 𝓛 κ q b o γ (S.leaves h tt) l c h was at-l at_c (
      assigns ! (of_opd ! (lit ! small)) (at_a _ _ _ (stop !)) (init ! 15 refl (typed_number wide v less)) $
      returns ! {r = vint wide v} (look ! 15 refl) $ forget ! 15 refl $ forget ! 2 refl $ forget ! 3 refl $ forget ! 5 refl $ forget ! 7 refl $
      move ! (15 ∷ 16 ∷ []) $ free1 ! $ move ! (2 ∷ 14 ∷ []) $ free1 ! $ move ! (2 ∷ 12 ∷ []) $ free1 ! $ move ! (3 ∷ 10 ∷ []) $ free1 ! $ move ! (7 ∷ 8 ∷ []) $ free1 ! $ move ! (2 ∷ 6 ∷ []) $ free1 ! $ move ! (3 ∷ 4 ∷ []) $ free1 ! $ free0 ! $ keep ! (0 ∷ 1 ∷ []) $
      by ! (ends v h (looks.unsound h (fails _ test)).0 (looks.unsound h (fails _ test)).1 less))))))))))))

  pub meets_looks : Meets 𝓛 (lent lent_device w8 wide 0).signature (WpFn 𝓤 H 𝓣.C 𝓣.Λ (looking wide v f g)) (closing 𝓛 (lent lent_device w8 wide 0) (Lent lent_device w8 wide 𝓤 0 Q))
  meets_looks = meets_by lent_device w8 wide 𝓛 0 Q 𝓣 (looking wide v f g) walk
