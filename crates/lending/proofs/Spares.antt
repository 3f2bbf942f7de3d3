-- A lent call that is spared where a test by value holds: nothing is stored then, and the answer is a constant (`meets_sparing`) or that of another call by
-- value (`meets_telling`). One walk serves both: how the answer is put is its parameter. All that is known of the calls is their contracts.
-- Assumes nothing.
use mathlib.Core.Path.{◌≡◌, refl}
use mathlib.Core.Bool.{Bool, true, false}
use mathlib.Core.List.{[], ◌∷◌, List}
use Prim.Native.Nat.{ℕ, zero, suc, ◌<◌, ◌^◌}
use seplogic.Ra.Ura.{Ura}
use base.Fraction.{full_share}
use lib.Dec.{T as Yes, ltb}
use mir.Syntax.{Width, Callee as Name, Fn, ty_int, ty_bool, deref, place, copy, int, rv_opd, local, value_local, Body as Code, seq, assign, cond, skip, call, return}
use mir.Val.{vint, vptr, bits}
use base.Fml.{flft, fat, froom}
use prog.Wp.{Env, WpFn, Tables}
use types.Logic.{Logic}
use types.Kit.{Item, Post, Go, Seq, runs, ‵, ◌$◌, ◌∵◌, !, qed, by, move, keep}
use types.Run.{look, init, forget, stop, load, lit, of_opd, assigns, returns, returns_within, enter, alloc1, alloc0, params1, pass1, free1, free0}
use sound.WpLaws.{fm_of}
use denote.Plain.{UInt}
use denote.Builtin.{bool}
use denote.Triple.Statement.{Triple}
use denote.Triple.Spec.{Meets}
use denote.Triple.Clauses.{closing}
use Rattle.lending.proofs.Lendable.{Lendable, Value, mir_of, val, reference, held}
use Rattle.lending.proofs.Numbers.{Numbers, Fit, typed_number, values, Locals, past, copies, At, stands, number_locals, env, AllStand, further, all_stand, behind, cells, alloc_numbers, pass_numbers, free_numbers}
use Rattle.lending.proofs.Calls.{Taking, Promise, lent, Lent}
use Rattle.lending.proofs.Entry.{Walk, meets_by}
use Rattle.lending.proofs.Moves.{Sound, a_number, a_bool, keeps, asks}
use Rattle.lending.proofs.Again.{reborrow, calling_again, Lending, again}
use Rattle.lending.proofs.Early.{early, holds, fails}

-- the locals are the answer, the reference, the numbers, the copy, the test twice, and a reference; `puts` is the code of the answer where the test holds
abbrev pub spared_by : Lendable → (w wide : Width) → ℕ → (Code → Code) → Name → Name → Fn
spared_by T w wide n puts test act =
    record {
      lifetimes = 1;
      outlives = [];
      ty_params = [];
      givens = 0;
      params = suc n;
      locals = local (ty_int wide) value_local ∷ local (reference T) value_local
          ∷ number_locals w n (local (mir_of T) value_local ∷ local ty_bool value_local ∷ local ty_bool value_local ∷ local (reborrow T) value_local ∷ []);
      body =
          seq (assign (place (suc (suc (past n 0))) []) (rv_opd (copy (place 1 (deref (mir_of T) ∷ [])))))
          (seq (call test (copy (place (suc (suc (past n 0))) []) ∷ copies 2 n) (place (suc (suc (past n 1))) []))
          (seq (assign (place (suc (suc (past n 2))) []) (rv_opd (copy (place (suc (suc (past n 1))) []))))
          (seq (cond (copy (place (suc (suc (past n 2))) [])) (puts return) skip)
          (calling_again T (suc (suc (past n 3))) act n 0 return))));
    }

-- the answer is the constant v
abbrev pub saying : Width → ℕ → Code → Code
saying wide v rest = seq (assign (place 0 []) (rv_opd (int wide v))) rest

-- .. or what the call g by value answers of the copy and the numbers
abbrev pub asking : ℕ → Name → Code → Code
asking n g rest = seq (call g (copy (place (suc (suc (past n 0))) []) ∷ copies 2 n) (place 0 [])) rest

abbrev pub sparing : Lendable → (w wide : Width) → ℕ → ℕ → Name → Name → Fn
sparing T w wide n v test act = spared_by T w wide n (saying wide v) test act

abbrev pub telling : Lendable → (w wide : Width) → ℕ → Name → Name → Name → Fn
telling T w wide n told test act = spared_by T w wide n (asking n told) test act

-- Q is what S says and the value as it is where the test holds, and what P says where it does not
pub record Spares (T : Lendable) (n : ℕ) (S : Value T → Numbers n → ℕ) (N : Value T → Numbers n → Bool) (P Q : Promise T n) : Type 0 where
  pub still : (d : Value T) (xs : Numbers n) → N d xs ≡ true → (S d xs ≡ Q.answers d xs) × (d ≡ Q.leaves d xs)
  pub acts : (d : Value T) (xs : Numbers n) → N d xs ≡ false → (P.answers d xs ≡ Q.answers d xs) × (P.leaves d xs ≡ Q.leaves d xs)

module _ (T : Lendable) (w wide : Width) {M : Type 1} {𝓤 : Ura M} (𝓛 : Logic 𝓤) (n : ℕ) (S : Value T → Numbers n → ℕ) (𝓣 : Tables 𝓤 𝓛.H) where
  -- the code puts the answer that S says, from the copy and the numbers
  open 𝓛 use {H}

  abbrev Puts : (Code → Code) → Type 2
  Puts puts = (E : Env 𝓤 H) (p : Post 𝓤 H) (Γ : List (Item 𝓤)) (rest : Code) (h : Value T) (xs : Numbers n) (c a : ℕ) (ks : Numbers n)
      → At 𝓛 E (suc (suc (past n 0))) (mir_of T) c → At 𝓛 E 0 (ty_int wide) a → AllStand w E 2 n ks → Sound T h → Fit w n xs
      → (S h xs < 2 ^ bits wide
      → Seq (Go {0}) 𝓛 (‵ (fat full_share (mir_of T) c zero (val T h)) ∷ ‵ (fat full_share (ty_int wide) a zero (vint wide (S h xs))) ∷ cells w n ks xs ∷ Γ) (runs 𝓣.C 𝓣.Λ E rest p))
      → Seq (Go {0}) 𝓛 (‵ (fat full_share (mir_of T) c zero (val T h)) ∷ ‵ (froom (ty_int wide) a zero) ∷ cells w n ks xs ∷ Γ) (runs 𝓣.C 𝓣.Λ E (puts rest) p)

  module _ (N : Value T → Numbers n → Bool) (P Q : Promise T n) (spares : Spares T n S N P Q) (puts : Code → Code) (answers : Puts puts)
      (f g : Name) (tests : Triple 𝓤 (𝓣.C f) (Taking T w 𝓛 bool n N)) (acts : Triple 𝓤 (𝓣.C g) (Lending T w wide 𝓛 n P)) where
    abbrev others : (c y z t : ℕ) → Locals
    others c y z t = (mir_of T, c) ∷ (ty_bool, y) ∷ (ty_bool, z) ∷ (reborrow T, t) ∷ []

    walk : Walk T w wide 𝓛 n Q 𝓣 (spared_by T w wide n puts f g)
    walk κ q b o γ h xs fits K ends =
        qed 𝓛 (‵ (held T b o κ γ h) ∷ ‵ (flft κ q) ∷ []) ∵ enter ! 𝓣.C 𝓣.Λ (spared_by T w wide n puts f g) (vptr b o ∷ values w n xs) _ $
        alloc1 ! (λ a. alloc1 ! (λ l. alloc_numbers w 𝓛 n (λ ks. alloc1 ! (λ c. alloc1 ! (λ y. alloc1 ! (λ z. alloc1 ! (λ t. alloc0 ! $ params1 ! $
        pass1 ! (init ! 9 refl (tt, tt)) $ move ! (8 ∷ []) $ pass_numbers w 𝓛 n ks xs (others c y z t) fits (
        let E : Env 𝓤 H = (ty_int wide, a) ∷ (reference T, l) ∷ env w n ks (others c y z t) in
        let stand : AllStand w E 2 n ks = further w n ks (ty_int wide, a) ((reference T, l) ∷ env w n ks (others c y z t)) 1 (further w n ks (reference T, l) (env w n ks (others c y z t)) 0 (all_stand w n ks (others c y z t))) in
        let at_a = stands 𝓛 E 0 (ty_int wide) a refl in
        let at-l = stands 𝓛 E 1 (reference T) l refl in
        let at_c = stands 𝓛 E (suc (suc (past n 0))) (mir_of T) c (behind w n ks _ 0 (mir_of T) c refl) in
        let at_y = stands 𝓛 E (suc (suc (past n 1))) ty_bool y (behind w n ks _ 1 ty_bool y refl) in
        let at-z = stands 𝓛 E (suc (suc (past n 2))) ty_bool z (behind w n ks _ 2 ty_bool z refl) in
        move ! (13 ∷ 14 ∷ 9 ∷ 7 ∷ []) $ keeps T 𝓛 κ q b o γ h l c at-l at_c (λ was.
        move ! (3 ∷ 9 ∷ 4 ∷ []) $ asks T w 𝓛 bool ty_bool a_bool n N h xs c y ks at_c at_y stand (fm_of 𝓤 H 𝓛.laws 𝓣) tests was fits (λ _ _.
        assigns ! (of_opd ! (load ! (at_y _ _ _ (stop !)) (look ! 1 refl))) (at-z _ _ _ (stop !)) (init ! 8 refl (tt, tt)) $
        early ! (load ! (at-z _ _ _ (stop !)) (look ! 8 refl))
        (λ test. move ! (0 ∷ 13 ∷ 2 ∷ []) $ answers E _ _ return h xs c a ks at_c at_a stand was fits (λ less.
        returns_within ! K {r = vint wide (S h xs)} refl (look ! 1 refl) $ forget ! 1 refl $ forget ! 6 refl $ forget ! 0 refl $ forget ! 3 refl $ forget ! 9 refl $
        move ! (1 ∷ 14 ∷ []) $ free1 ! $ move ! (5 ∷ 12 ∷ []) $ free1 ! $ move ! (1 ∷ []) $ free_numbers w 𝓛 n ks xs (move ! (0 ∷ 9 ∷ []) $ free1 ! $ move ! (0 ∷ 7 ∷ []) $ free1 ! $ move ! (4 ∷ 5 ∷ []) $ free1 ! $ move ! (2 ∷ 3 ∷ []) $ free1 ! $ free0 ! $ keep ! (0 ∷ 1 ∷ []) $
        by ! (ends (S h xs) h (spares.still h xs (holds _ test)).0 (spares.still h xs (holds _ test)).1 less))))
        (λ test. move ! (3 ∷ 4 ∷ 5 ∷ 6 ∷ 13 ∷ 2 ∷ []) $ again T w wide 𝓛 κ q b o γ n P h xs l t a ks at-l (stands 𝓛 E (suc (suc (past n 3))) (reborrow T) t (behind w n ks _ 3 (reborrow T) t refl))
        at_a stand (fm_of 𝓤 H 𝓛.laws 𝓣) acts fits (λ fit.
        returns ! {r = vint wide (P.answers h xs)} (look ! 4 refl) $ forget ! 4 refl $ forget ! 2 refl $ forget ! 6 refl $ forget ! 7 refl $ forget ! 9 refl $
        move ! (4 ∷ 14 ∷ []) $ free1 ! $ move ! (2 ∷ 12 ∷ []) $ free1 ! $ move ! (3 ∷ []) $ free_numbers w 𝓛 n ks xs (move ! (3 ∷ 9 ∷ []) $ free1 ! $ move ! (3 ∷ 7 ∷ []) $ free1 ! $ move ! (4 ∷ 5 ∷ []) $ free1 ! $ move ! (2 ∷ 3 ∷ []) $ free1 ! $ free0 ! $ keep ! (0 ∷ 1 ∷ []) $
        by ! (ends (P.answers h xs) (P.leaves h xs) (spares.acts h xs (fails _ test)).0 (spares.acts h xs (fails _ test)).1 fit))))))))))))))

    meets_spared : Meets 𝓛 (lent T w wide n).signature (WpFn 𝓤 H 𝓣.C 𝓣.Λ (spared_by T w wide n puts f g)) (closing 𝓛 (lent T w wide n) (Lent T w wide 𝓤 n Q))
    meets_spared = meets_by T w wide 𝓛 n Q 𝓣 (spared_by T w wide n puts f g) walk

module _ (T : Lendable) (w wide : Width) {M : Type 1} {𝓤 : Ura M} (𝓛 : Logic 𝓤) (n : ℕ) where
  open 𝓛 use {H}

  says : (v : ℕ) → Yes (ltb v (2 ^ bits wide)) → v < 2 ^ bits wide → (𝓣 : Tables 𝓤 H) → Puts T w wide 𝓛 n (λ d xs. v) 𝓣 (saying wide v)
  says v small less 𝓣 E p Γ rest h xs c a ks at_c at_a stand was fits k = assigns ! (of_opd ! (lit ! small)) (at_a _ _ _ (stop !)) (init ! 1 refl (typed_number wide v less)) $ k less

  tells : (S : Value T → Numbers n → ℕ) (𝓣 : Tables 𝓤 H) (e : Name) → Triple 𝓤 (𝓣.C e) (Taking T w 𝓛 (UInt wide) n S) → Puts T w wide 𝓛 n S 𝓣 (asking n e)
  tells S 𝓣 e told E p Γ rest h xs c a ks at_c at_a stand was fits k =
      asks T w 𝓛 (UInt wide) (ty_int wide) (a_number wide) n S h xs c a ks at_c at_a stand (fm_of 𝓤 H 𝓛.laws 𝓣) told was fits (λ v is. k is.1)

  pub meets_sparing : (v : ℕ) → Yes (ltb v (2 ^ bits wide)) → v < 2 ^ bits wide → (N : Value T → Numbers n → Bool) (P Q : Promise T n) → Spares T n (λ d xs. v) N P Q → (𝓣 : Tables 𝓤 H) (f g : Name)
      → Triple 𝓤 (𝓣.C f) (Taking T w 𝓛 bool n N) → Triple 𝓤 (𝓣.C g) (Lending T w wide 𝓛 n P)
      → Meets 𝓛 (lent T w wide n).signature (WpFn 𝓤 H 𝓣.C 𝓣.Λ (sparing T w wide n v f g)) (closing 𝓛 (lent T w wide n) (Lent T w wide 𝓤 n Q))
  meets_sparing v small less N P Q spares 𝓣 f g tests acts =
      meets_spared T w wide 𝓛 n (λ d xs. v) 𝓣 N P Q spares (saying wide v) (says v small less 𝓣) f g tests acts

  pub meets_telling : (S : Value T → Numbers n → ℕ) (N : Value T → Numbers n → Bool) (P Q : Promise T n) → Spares T n S N P Q → (𝓣 : Tables 𝓤 H) (e f g : Name)
      → Triple 𝓤 (𝓣.C e) (Taking T w 𝓛 (UInt wide) n S) → Triple 𝓤 (𝓣.C f) (Taking T w 𝓛 bool n N) → Triple 𝓤 (𝓣.C g) (Lending T w wide 𝓛 n P)
      → Meets 𝓛 (lent T w wide n).signature (WpFn 𝓤 H 𝓣.C 𝓣.Λ (telling T w wide n e f g)) (closing 𝓛 (lent T w wide n) (Lent T w wide 𝓤 n Q))
  meets_telling S N P Q spares 𝓣 e f g told tests acts =
      meets_spared T w wide 𝓛 n S 𝓣 N P Q spares (asking n e) (tells S 𝓣 e told) f g tests acts
