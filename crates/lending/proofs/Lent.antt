-- A lent call over any by-value call meets its contract (`meets`): `walk` is what stands around `lends`, from entry to return.
-- Assumes nothing.
use mathlib.Core.Path.{◌≡◌, refl, ap, sym, subst, ◌∙◌}
use Prim.Native.Nat.{ℕ, suc, ◌<◌, ◌^◌}
use mathlib.Core.List.{[], ◌∷◌, List}
use seplogic.Ra.Ura.{Ura}
use mir.Syntax.{Width, Callee as Name, ty_int, place, copy}
use mir.Val.{Val, vint, vptr, bits}
use base.Logic.{SProp, ent}
use base.Fml.{GName, Lft, Share, flft}
use prog.Wp.{Env, Calls, Loops, WpFn, Tables}
use types.Logic.{Logic}
use types.Kit.{Item, Go, ‵, ◌$◌, ◌∵◌, !, qed, by, move, drop, fsplit3, fjoin3, feq_i}
use types.Run.{Opds, look, init, forget, stop, load, and_then, returns, enter, alloc1, alloc0, params1, pass1, free1, free0}
use sound.WpLaws.{FmC, fm_of}
use denote.RattleType.{flat}
use denote.Signature.{types_at}
use denote.Triple.Statement.{Triple}
use denote.Triple.Spec.{Meets}
use denote.Triple.Clauses.{closing}
use Rattle.lending.proofs.Lendable.{Lendable, Value, mir_of, vals, val, reference, held, Replying, reply_row, reply_mir}
use Rattle.lending.proofs.Numbers.{Numbers, Fit, values, slots, denots, spelled, numbers_are, spelled_are, Locals, past, copies, stands, carried, env, further, all_stand, behind, cells, alloc_numbers, pass_numbers, free_numbers, read_numbers}
use Rattle.lending.proofs.Calls.{given_over, Promise, lent, Lent, Replies, Keeps, Callee, function}
use Rattle.lending.proofs.Entry.{Has, meets_by}
use Rattle.lending.proofs.Lends.{Frame, at_call, lends}

-- == the walk ==

module _ (T : Lendable) (R : Replying T) (w : Width) {M : Type 1} {𝓤 : Ura M} (𝓛 : Logic 𝓤) (n : ℕ) (F : Replies T R n) (κ : Lft) (q : Share) (b o : ℕ) (γ : GName) where
  open 𝓛 use {H}

  module _ (h : Value T) (xs : Numbers n) (a l c r t : ℕ) (ks : Numbers n) where
    -- the locals behind the numbers
    abbrev kept : Locals
    kept = (mir_of T, c) ∷ (reply_mir T R, r) ∷ (mir_of T, t) ∷ []

    abbrev locals : Env 𝓤 H
    locals = (ty_int R.wide, a) ∷ (reference T, l) ∷ env w n ks kept

    at : Frame T R 𝓛 locals (suc (suc (past n 0))) (suc (suc (past n 1))) (suc (suc (past n 2))) a l c r t
    at =
        record {
          answer = stands 𝓛 locals 0 (ty_int R.wide) a refl;
          lender = stands 𝓛 locals 1 (reference T) l refl;
          copy = stands 𝓛 locals (suc (suc (past n 0))) (mir_of T) c (behind w n ks _ 0 (mir_of T) c refl);
          reply = stands 𝓛 locals (suc (suc (past n 1))) (reply_mir T R) r (behind w n ks _ 1 (reply_mir T R) r refl);
          value = stands 𝓛 locals (suc (suc (past n 2))) (mir_of T) t (behind w n ks _ 2 (mir_of T) t refl);
        }

    -- the copy, and then the numbers
    reads : (P : SProp 𝓤) (Γ : List (Item 𝓤)) → Opds (Go {0}) 𝓛 (at_call T R 𝓛 κ q b o γ h a l c r t P (cells w n ks xs ∷ Γ)) locals (copy (place (suc (suc (past n 0))) []) ∷ copies 2 n) (val T h ∷ flat (types_at (slots w 0 n) tt) (spelled w 0 n tt xs))
    reads P Γ =
        subst (λ (us : List Val). Opds (Go {0}) 𝓛 (at_call T R 𝓛 κ q b o γ h a l c r t P (cells w n ks xs ∷ Γ)) locals (copy (place (suc (suc (past n 0))) []) ∷ copies 2 n) (val T h ∷ us)) (sym (spelled_are w 0 n tt xs))
        (and_then ! (load ! (at.copy _ _ _ (stop !)) (look ! 6 refl))
        (carried 𝓛 (λ G s. move ! (10 ∷ []) $ s) (λ G s. move ! (1 ∷ 2 ∷ 3 ∷ 4 ∷ 5 ∷ 6 ∷ 7 ∷ 8 ∷ 9 ∷ 10 ∷ 0 ∷ []) $ s)
        (read_numbers w 𝓛 n ks xs _ locals 2 (further w n ks (ty_int R.wide, a) ((reference T, l) ∷ env w n ks kept) 1 (further w n ks (reference T, l) (env w n ks kept) 0 (all_stand w n ks kept))))))

  module _ (C : Calls 𝓤 H) (Λ : Loops 𝓤 H) (fm : FmC 𝓤 H 𝓛.laws C) (g : Name) (known : Triple 𝓤 (C g) (Callee T R w 𝓛 n F)) (h : Value T) (xs : Numbers n) (fits : Fit w n xs) (Q : Val → SProp 𝓤) where
    walk : ((z : R.Reply) → z ≡ F h xs → R.answer z < 2 ^ bits R.wide → ent 𝓤 (Has T 𝓛 κ q b o γ (R.value z)) (Q (vint R.wide (R.answer z)))) → ent 𝓤 (Has T 𝓛 κ q b o γ h) (WpFn 𝓤 H C Λ (function T R w n g) (vptr b o ∷ values w n xs) Q)
    walk ends =
        qed 𝓛 (‵ (held T b o κ γ h) ∷ ‵ (flft κ q) ∷ []) ∵ fsplit3 ! $ drop ! $
        enter ! C Λ (function T R w n g) (vptr b o ∷ values w n xs) _ $
        alloc1 ! (λ a. alloc1 ! (λ l. alloc_numbers w 𝓛 n (λ ks. alloc1 ! (λ c. alloc1 ! (λ r. alloc1 ! (λ t. alloc0 ! $ params1 ! $
        -- [the value; its end; the reply; its end; the copy; its end; the numbers; the reference; its end; the answer; its end; obs; the borrow; the token]
        pass1 ! (init ! 7 refl (tt, tt)) $ move ! (6 ∷ []) $ pass_numbers w 𝓛 n ks xs ((mir_of T, c) ∷ (reply_mir T R, r) ∷ (mir_of T, t) ∷ []) fits (
        move ! (11 ∷ 12 ∷ 13 ∷ 3 ∷ 5 ∷ 7 ∷ 9 ∷ 1 ∷ []) $
        -- [obs; the borrow; the token; the reply; the copy; the reference; the answer; the value; the numbers; the ends of the value, the reply, the copy, the reference and the answer]
        lends T R 𝓛 κ q b o γ h a l c r t w n F (h, denots w 0 n tt xs) (vals T h, spelled w 0 n tt xs) (at h xs a l c r t ks) fm known (given_over T w 𝓛 (reply_row T R) n F h xs fits) (reads h xs a l c r t ks _ _) (λ z e fit.
        returns ! (look ! 6 refl) $ forget ! 6 refl $ move ! (6 ∷ 13 ∷ []) $ free1 ! $ move ! (5 ∷ 11 ∷ []) $ free1 ! $ move ! (6 ∷ []) $ free_numbers w 𝓛 n ks xs (
        move ! (4 ∷ 8 ∷ []) $ free1 ! $ move ! (3 ∷ 6 ∷ []) $ free1 ! $ move ! (3 ∷ 4 ∷ []) $ free1 ! $ free0 ! $
        feq_i ! (List Val) (vptr b o ∷ []) (vptr b o ∷ []) refl $ fjoin3 ! $ by ! (ends z (e ∙ ap (F h) (numbers_are w 0 n tt xs)) fit))))))))))

-- a lent call over a by-value call whose replies keep its promise meets its contract
module _ (T : Lendable) (R : Replying T) (w : Width) {M : Type 1} {𝓤 : Ura M} (𝓛 : Logic 𝓤) (n : ℕ) (F : Replies T R n) (P : Promise T n) (kept : Keeps T R n F P) (𝓣 : Tables 𝓤 𝓛.H) (g : Name) (known : Triple 𝓤 (𝓣.C g) (Callee T R w 𝓛 n F)) where
  open 𝓛 use {H}

  pub meets : Meets 𝓛 (lent T w R.wide n).signature (WpFn 𝓤 H 𝓣.C 𝓣.Λ (function T R w n g)) (closing 𝓛 (lent T w R.wide n) (Lent T w R.wide 𝓤 n P))
  meets =
      meets_by T w R.wide 𝓛 n P 𝓣 (function T R w n g) (λ κ q b o γ h xs fits Q ends.
      walk T R w 𝓛 n F κ q b o γ 𝓣.C 𝓣.Λ (fm_of 𝓤 H 𝓛.laws 𝓣) g known h xs fits Q (λ z e fit.
      ends (R.answer z) (R.value z) (ap R.answer e ∙ kept.answer h xs) (ap R.value e ∙ kept.left h xs) fit))
