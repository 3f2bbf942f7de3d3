-- A lent call, by a walk of its code from entry to return, meets its contract (`meets_by`): what stands around the walk.
-- Assumes nothing.
use mathlib.Core.Path.{◌≡◌, refl, subst}
use Prim.Native.Nat.{ℕ, ◌<◌, ◌^◌}
use mathlib.Core.List.{[], ◌∷◌, List}
use seplogic.Ra.Ura.{Ura}
use mir.Syntax.{Width, Fn, named}
use mir.Val.{Val, vint, vptr, bits}
use base.Logic.{SProp, ent, sep, emp, via, fst∗}
use base.Fml.{GName, Lft, Share, ftrue, flft}
use prog.Wp.{WpFn, Tables}
use types.Logic.{Logic, sem}
use contract.Lifetimes.{Lfts, Shares}
use types.Kit.{‵, ◌⊛◌, ◌$◌, ◌∵◌, !, qed, move, keep, split, join, fsplit, fjoin, suffices, frame, done, use0}
use sound.WpLaws.{WpFn-mono}
use denote.RattleType.{Denots, Valss, flat, owns}
use denote.Laws.{Is, Are, Ises, Spells, valss}
use denote.Plain.{UInt, uint_Makes}
use denote.Ref.{mut_vals, mut_Tells}
use denote.Signature.{plain, types_at}
use denote.Steps.{owned, nothing}
use denote.Triple.Entry.{Args, Vals, on_entry}
use denote.Triple.Spec.{Meets}
use denote.Triple.Walked.{says, walk_of, Goes-ref, ends_at, walked, walk_Meets, has_of}
use denote.Triple.Clauses.{closing}
use Rattle.lending.proofs.Lendable.{Lendable, Value, row_of, lent_value, held}
use Rattle.lending.proofs.Numbers.{Numbers, Fit, values, slots, kept_numbers, numbers, stay_numbers, spell_numbers, tell_numbers, passed_are, fit_all, last_numbers, fits_numbers, go_numbers, has_numbers}
use Rattle.lending.proofs.Calls.{lent, stayed, Promise, Lent}

-- what is had of the reference, and a share of its lifetime
abbrev pub Has : (T : Lendable) {M : Type 1} {𝓤 : Ura M} (𝓛 : Logic 𝓤) → Lft → Share → ℕ → ℕ → GName → Value T → SProp 𝓤
Has T {𝓤 = 𝓤} 𝓛 κ q b o γ d = sep 𝓤 (sem 𝓛 (held T b o κ γ d)) (𝓛.A.lft κ q)

module _ (T : Lendable) (w wide : Width) {M : Type 1} {𝓤 : Ura M} (𝓛 : Logic 𝓤) where
  -- a walk of the code fn from entry to return, at any value and numbers: it answers and leaves what P says
  open 𝓛 use {H}

  abbrev pub Walk : (n : ℕ) → Promise T n → Tables 𝓤 H → Fn → Type 2
  Walk n P 𝓣 fn = (κ : Lft) (q : Share) (b o : ℕ) (γ : GName) (h : Value T) (xs : Numbers n) → Fit w n xs → (Q : Val → SProp 𝓤)
      → ((r : ℕ) (d : Value T) → r ≡ P.answers h xs → d ≡ P.leaves h xs → r < 2 ^ bits wide → ent 𝓤 (Has T 𝓛 κ q b o γ d) (Q (vint wide r)))
      → ent 𝓤 (Has T 𝓛 κ q b o γ h) (WpFn 𝓤 H 𝓣.C 𝓣.Λ fn (vptr b o ∷ values w n xs) Q)

  module _ (n : ℕ) (P : Promise T n) where
    module _ (κ : Lft) (q : Share) (b o : ℕ) (γ : GName) (h : Value T) (xs : Denots (types_at (slots w 1 n) (κ, tt))) (vs : Valss (types_at (slots w 1 n) (κ, tt))) where
      -- what the numbers own is let go, and their ranges are known
      enters : ent 𝓤 (on_entry 𝓛 (lent T w wide n).signature (κ, tt) (q, tt) (lent_value T b o γ h, xs) (vptr b o ∷ [], vs)) (Has T 𝓛 κ q b o γ h)
      enters =
          qed 𝓛 ((‵ (flft κ q) ⊛ ‵ ftrue) ∷ ‵ (owns (types_at (lent T w wide n).signature.params (κ, tt)) (lent_value T b o γ h, xs) (vptr b o ∷ [], vs)) ∷ []) ∵
          split ! $ move ! (2 ∷ []) $ fsplit ! $ keep ! (0 ∷ 2 ∷ []) $ done !

      ends : (r : ℕ) (d : Value T) → r ≡ P.answers h (numbers w 1 n (κ, tt) xs) → d ≡ P.leaves h (numbers w 1 n (κ, tt) xs) → r < 2 ^ bits wide
          → ent 𝓤 (Has T 𝓛 κ q b o γ d) ((walk_of 𝓛 (lent T w wide n) (stayed T w wide n) (Lent T w wide 𝓤 n P)).post (((κ, tt), (q, tt), tt, (lent_value T b o γ h, xs), (vptr b o ∷ [], vs)), tt) (vint wide r))
      ends r d answered left fits =
          qed 𝓛 (‵ (held T b o κ γ d) ∷ ‵ (flft κ q) ∷ []) ∵
          suffices ! _ (ends_at 𝓛 (lent T w wide n) (stayed T w wide n) (Lent T w wide 𝓤 n P) (((κ, tt), (q, tt), tt, (lent_value T b o γ h, xs), (vptr b o ∷ [], vs)), tt) (vint wide r) r
          (d, last_numbers w 1 n (κ, tt) xs) (tt, fits_numbers w 1 n (κ, tt) xs (last_numbers w 1 n (κ, tt) xs))) $
          says ! (answered, left) $ nothing ! $ move ! (2 ∷ 0 ∷ []) $ join ! $ frame ! $
          use0 𝓛 (‵ (has_of (κ, tt) (slots w 1 n) (kept_numbers w 1 n) (stay_numbers w 1 n) xs (last_numbers w 1 n (κ, tt) xs) vs)) (has_numbers w 𝓛 1 n (κ, tt) xs (last_numbers w 1 n (κ, tt) xs) vs) $
          move ! (1 ∷ 0 ∷ []) $ fjoin ! $ owned ! (UInt wide) (Is (UInt wide)) (uint_Makes 𝓛 wide) r _ (refl, fits) $ move ! (1 ∷ 0 ∷ []) $ done !

    abbrev spells : (κs : Lfts 1) → Spells (types_at (lent T w wide n).signature.params κs)
    spells κs = (mut_vals, spell_numbers w 1 n κs)

    abbrev said : (κs : Lfts 1) → Args (lent T w wide n).signature κs → Vals (lent T w wide n).signature κs
    said κs a = valss (types_at (lent T w wide n).signature.params κs) (spells κs) a

    module _ (𝓣 : Tables 𝓤 H) (fn : Fn) (walk : Walk n P 𝓣 fn) where
      walks : (κs : Lfts 1) (qs : Shares 1) (a : Args (lent T w wide n).signature κs) → Are (types_at (lent T w wide n).signature.params κs) (Ises (types_at (lent T w wide n).signature.params κs)) a (said κs a)
          → ent 𝓤 (on_entry 𝓛 (lent T w wide n).signature κs qs a (said κs a))
          (WpFn 𝓤 H 𝓣.C 𝓣.Λ fn (flat (types_at (lent T w wide n).signature.params κs) (said κs a)) ((walk_of 𝓛 (lent T w wide n) (stayed T w wide n) (Lent T w wide 𝓤 n P)).post ((κs, qs, tt, a, said κs a), tt)))
      walks κs qs a are =
          via 𝓤 _ (enters κs.0 qs.0 a.0.ref_ptr.0 a.0.ref_ptr.1 a.0.ghost_name a.0.now a.1 (said κs a).1)
          (subst (λ (vs : List Val). ent 𝓤 (Has T 𝓛 κs.0 qs.0 a.0.ref_ptr.0 a.0.ref_ptr.1 a.0.ghost_name a.0.now)
          (WpFn 𝓤 H 𝓣.C 𝓣.Λ fn (vptr a.0.ref_ptr.0 a.0.ref_ptr.1 ∷ vs) ((walk_of 𝓛 (lent T w wide n) (stayed T w wide n) (Lent T w wide 𝓤 n P)).post ((κs, qs, tt, a, said κs a), tt)))) (passed_are w 1 n κs a.1)
          (walk κs.0 qs.0 a.0.ref_ptr.0 a.0.ref_ptr.1 a.0.ghost_name a.0.now (numbers w 1 n κs a.1) (fit_all w 1 n κs a.1 (said κs a).1 are.1) _
          (ends κs.0 qs.0 a.0.ref_ptr.0 a.0.ref_ptr.1 a.0.ghost_name a.0.now a.1 (said κs a).1)))

      pub meets_by : Meets 𝓛 (lent T w wide n).signature (WpFn 𝓤 H 𝓣.C 𝓣.Λ fn) (closing 𝓛 (lent T w wide n) (Lent T w wide 𝓤 n P))
      meets_by =
          walk_Meets 𝓛 (lent T w wide n) (stayed T w wide n) (Goes-ref 𝓛 1 0 tt (plain (λ _. row_of T)), go_numbers w 𝓛 1 n) (Lent T w wide 𝓤 n P)
          (WpFn 𝓤 H 𝓣.C 𝓣.Λ fn) (WpFn-mono 𝓤 H 𝓛.laws 𝓣 fn)
          (walked 𝓛 (lent T w wide n) (stayed T w wide n) (Lent T w wide 𝓤 n P) (WpFn 𝓤 H 𝓣.C 𝓣.Λ fn) spells (λ κs. (mut_Tells (named 0) κs.0 (row_of T), tell_numbers w 1 n κs))
          (λ κs qs bounds a _ are. via 𝓤 _ (fst∗ 𝓤 _ (emp 𝓤)) (walks κs qs a are)))
