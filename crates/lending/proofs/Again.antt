-- A lent call of a reference that was made for it (`on_loan`): it answers, and says what it left. So a lent struct is lent again to a lent call, for a
-- lifetime that is made for the call, and comes back at what that call left: the step of a walk over `&mut *d` and the call (`again`). All that is known of
-- the callee is its contract.
-- Assumes nothing.
use mathlib.Core.Path.{◌≡◌, refl, sym, ap, subst, ◌∙◌}
use Prim.Native.Nat.{ℕ, zero, ◌<◌, ◌^◌}
use mathlib.Core.List.{[], ◌∷◌, List}
use seplogic.Ra.Ura.{Ura}
use base.Fraction.{full_share}
use mir.Syntax.{Width, Callee as Name, Ty, ty_int, ty_ref, named, erased, mut, deref, place, copy, Body as Code, seq, assign, addr_of, call}
use mir.Val.{Val, vint, vptr, bits}
use base.Logic.{SProp, ent, sep, guard, guard_i, id⊢, via, fst∗, snd∗, ex_e}
use base.Stored.{Gv}
use base.Fml.{GName, Lft, Share, ftrue, flft, fres, fbor, fat, froom}
use prog.Wp.{Env, Calls, Loops}
use types.Logic.{Logic, sem}
use contract.Monad.{fact, fact_use}
use types.Kit.{Item, Post, Go, Seq, runs, ‵, raw, given, ◌⊛◌, some, later, ◌$◌, ◌∵◌, !, qed, move, drop, use0, use1, use2, use3, split, join, pick, learn, rewrite, frame, await, done}
use types.Tokens.{lft_new, lft_end}
use types.Run.{Opds, look, init, forget, stop, hop, load, addr, and_then, assigns, land}
use types.SemTy.{Body}
use sound.WpLaws.{FmC}
use denote.RattleType.{flat, owns}
use denote.Laws.{Is, shows}
use denote.Memory.{mem, pointee}
use denote.Plain.{UInt}
use denote.Signature.{types_at}
use denote.Lend.{LentAgain, lends_again, comes_back}
use denote.Steps.{nothing, facts}
use denote.Triple.Statement.{Contract, Triple}
use denote.Triple.Entry.{Args}
use denote.Triple.Call.{calls_at}
use denote.Triple.Spec.{triple_of}
use denote.Triple.End.{lasts_of}
use denote.Triple.Clauses.{ensured, closing, lasts}
use Rattle.lending.proofs.Lendable.{Lendable, Value, row_of, mir_of, reference, lent_value, held}
use Rattle.lending.proofs.Numbers.{Numbers, Fit, slots, kept_numbers, numbers, denots, spelled, numbers_are, spelled_are, own_numbers, copies, At, carried, AllStand, cells, read_numbers}
use Rattle.lending.proofs.Calls.{Promise, lent, Lent}
use Rattle.lending.proofs.Moves.{a_number}

-- the reference that is made for a call
abbrev pub reborrow : Lendable → Ty
reborrow T = ty_ref erased mut (pointee (row_of T).written)

-- `&mut *d` into local t, and the call of g on it and the numbers, into local r
abbrev pub calling_again : Lendable → ℕ → Name → ℕ → ℕ → Code → Code
calling_again T t g n r rest = seq (assign (place t []) (addr_of (place 1 (deref (mir_of T) ∷ [])))) (seq (call g (copy (place t []) ∷ copies 2 n) (place r [])) rest)

-- a lent call's contract, as its callers have it
abbrev pub Lending : (T : Lendable) (w wide : Width) {M : Type 1} {𝓤 : Ura M} (𝓛 : Logic 𝓤) (n : ℕ) → Promise T n → Contract 𝓤
Lending T w wide {𝓤 = 𝓤} 𝓛 n P = triple_of 𝓛 (lent T w wide n).signature (closing 𝓛 (lent T w wide n) (Lent T w wide 𝓤 n P))

abbrev coded : (T : Lendable) → Value T → Gv
coded T = (row_of T).coded.code

module _ (T : Lendable) (w wide : Width) {M : Type 1} {𝓤 : Ura M} (𝓛 : Logic 𝓤) (b o n : ℕ) (P : Promise T n) (h : Value T) (xs : Numbers n) where
  open 𝓛 use {H, A}

  abbrev passing : (α : ℕ) (δ : GName) → Args (lent T w wide n).signature (α ∷ [], tt)
  passing α δ = (lent_value T b o δ h, denots w 1 n (α ∷ [], tt) xs)

  abbrev to : ℕ → GName → (Lending T w wide 𝓛 n P).Ghost
  to α δ = (((α ∷ [], tt), (full_share, tt), tt, passing α δ, (vptr b o ∷ [], spelled w 1 n (α ∷ [], tt) xs)), tt)

  goes : (α : ℕ) (δ : GName) → Fit w n xs → ent 𝓤 (sep 𝓤 (A.lft (α ∷ []) full_share) (sem 𝓛 (held T b o (α ∷ []) δ h))) ((Lending T w wide 𝓛 n P).pre (to α δ))
  goes α δ fits =
      qed 𝓛 (‵ (flft (α ∷ []) full_share) ∷ ‵ (held T b o (α ∷ []) δ h) ∷ []) ∵
      use0 𝓛 (‵ (owns (types_at (slots w 1 n) (α ∷ [], tt)) (denots w 1 n (α ∷ [], tt) xs) (spelled w 1 n (α ∷ [], tt) xs))) (own_numbers w 𝓛 1 n (α ∷ [], tt) xs fits) $
      move ! (2 ∷ 0 ∷ []) $ join ! $ nothing ! $ move ! (2 ∷ 0 ∷ []) $ join ! $ join ! $ frame ! $ done !

  abbrev ys : ℕ → Numbers n
  ys α = numbers w 1 n (α ∷ [], tt) (denots w 1 n (α ∷ [], tt) xs)

  -- the borrow that it hands back with what it left
  abbrev lies : ℕ → GName → SProp 𝓤
  lies α δ = sem 𝓛 (fbor (α ∷ []) (Body (mem (row_of T)) b o δ))

  -- of its answer and of what it left
  told : (α : ℕ) (δ : GName) (r : ℕ) → ent 𝓤 (ensured 𝓛 (lent T w wide n) (Lent T w wide 𝓤 n P) (α ∷ [], tt) (passing α δ) tt r)
      (guard 𝓤 (r ≡ P.answers h (ys α)) (A.res δ (coded T (P.leaves h (ys α)))))
  told α δ r = ex_e 𝓤 _ (λ ws.
      let L : SProp 𝓤 = sem 𝓛 (lasts (lent T w wide n) (α ∷ [], tt) (passing α δ) ws) in
      let E : SProp 𝓤 = fact 𝓤 ((r ≡ P.answers h (ys α)) × (ws.0 ≡ P.leaves h (ys α))) in
      fact_use 𝓤 ((r ≡ P.answers h (ys α)) × (ws.0 ≡ P.leaves h (ys α))) (snd∗ 𝓤 L E) (λ e.
      subst (λ (d : Value T). ent 𝓤 (sep 𝓤 L E) (guard 𝓤 (r ≡ P.answers h (ys α)) (A.res δ (coded T d)))) e.1
      (via 𝓤 L (fst∗ 𝓤 L E) (via 𝓤 (sep 𝓤 (A.res δ (coded T ws.0)) (lies α δ)) (fst∗ 𝓤 (sep 𝓤 (A.res δ (coded T ws.0)) (lies α δ)) (sem 𝓛 (lasts_of (α ∷ [], tt) (slots w 1 n) (kept_numbers w 1 n) (passing α δ).1 ws.1)))
      (via 𝓤 (A.res δ (coded T ws.0)) (fst∗ 𝓤 (A.res δ (coded T ws.0)) (lies α δ)) (guard_i 𝓤 (r ≡ P.answers h (ys α)) (A.res δ (coded T ws.0)) e.0))))))

  -- the call itself, of a reference that was made for it, in block t; the reply goes to block d, and the numbers stand from local `args` on
  module _ (t d : ℕ) (ks : Numbers n) (args α : ℕ) (δ : GName) where
    abbrev at_call : List (Item 𝓤) → List (Item 𝓤)
    at_call Γ = raw ((Lending T w wide 𝓛 n P).pre (to α δ)) ∷ ‵ (fat full_share (reborrow T) t zero (vptr b o)) ∷ ‵ (froom (ty_int wide) d zero) ∷ cells w n ks xs ∷ Γ

    reads : (E : Env 𝓤 H) (i : ℕ) → At 𝓛 E i (reborrow T) t → AllStand w E args n ks → (Γ : List (Item 𝓤))
        → Opds (Go {0}) 𝓛 (at_call Γ) E (copy (place i []) ∷ copies args n) (vptr b o ∷ flat (types_at (slots w 1 n) (α ∷ [], tt)) (spelled w 1 n (α ∷ [], tt) xs))
    reads E i at-loan stand Γ =
        subst (λ (us : List Val). Opds (Go {0}) 𝓛 (at_call Γ) E (copy (place i []) ∷ copies args n) (vptr b o ∷ us)) (sym (spelled_are w 1 n (α ∷ [], tt) xs))
        (and_then ! (load ! (at-loan _ _ _ (stop !)) (look ! 1 refl))
        (carried 𝓛 (λ G s. move ! (3 ∷ []) $ s) (λ G s. move ! (1 ∷ 2 ∷ 3 ∷ 0 ∷ []) $ s) (read_numbers w 𝓛 n ks xs _ E args stand)))

    pub on_loan : {E : Env 𝓤 H} {C : Calls 𝓤 H} {Λ : Loops 𝓤 H} {p : Post 𝓤 H} {Γ : List (Item 𝓤)} {g : Name} {i j : ℕ} {rest : Code}
        → At 𝓛 E i (reborrow T) t → At 𝓛 E j (ty_int wide) d → AllStand w E args n ks → FmC 𝓤 H 𝓛.laws C → Triple 𝓤 (C g) (Lending T w wide 𝓛 n P) → Fit w n xs
        → (P.answers h xs < 2 ^ bits wide
        → Seq (Go {0}) 𝓛 (‵ (flft (α ∷ []) full_share) ∷ ‵ (fres δ (coded T (P.leaves h xs))) ∷ ‵ (fat full_share (reborrow T) t zero (vptr b o))
        ∷ ‵ (fat full_share (ty_int wide) d zero (vint wide (P.answers h xs))) ∷ cells w n ks xs ∷ Γ) (runs C Λ E rest p))
        → Seq (Go {0}) 𝓛 (‵ (flft (α ∷ []) full_share) ∷ ‵ (held T b o (α ∷ []) δ h) ∷ ‵ (fat full_share (reborrow T) t zero (vptr b o)) ∷ ‵ (froom (ty_int wide) d zero) ∷ cells w n ks xs ∷ Γ)
        (runs C Λ E (seq (call g (copy (place i []) ∷ copies args n) (place j [])) rest) p)
    on_loan {E} {C} {Λ} {p} {Γ} {g} {i} {j} at-loan at-reply stand fm known fits k =
        use2 𝓛 (raw ((Lending T w wide 𝓛 n P).pre (to α δ))) (goes α δ fits) $
        -- [what the callee asks; the reference; room for the reply; the numbers; …]
        calls_at ! fm (Lending T w wide 𝓛 n P) known (to α δ)
        (reads E i at-loan stand Γ) (λ v.
        use1 𝓛 (later (some (λ (r : ℕ). ((‵ (flft (α ∷ []) full_share) ⊛ ‵ ftrue) ⊛ ‵ ((UInt wide).own_val r (v ∷ []))) ⊛ raw (ensured 𝓛 (lent T w wide n) (Lent T w wide 𝓤 n P) (α ∷ [], tt) (passing α δ) tt r)))) (id⊢ 𝓤 _) $ await ! tt $ pick ! (λ r.
        split ! $ move ! (1 ∷ []) $ use1 𝓛 (given (r ≡ P.answers h (ys α)) (‵ (fres δ (coded T (P.leaves h (ys α)))))) (told α δ r) $ learn ! (λ e.
        rewrite ! 0 (λ (zs : Numbers n). ‵ (fres δ (coded T (P.leaves h zs)))) (numbers_are w 1 n (α ∷ [], tt) xs) refl $
        move ! (1 ∷ []) $ split ! $ move ! (1 ∷ []) $ facts ! (UInt wide) (Is (UInt wide)) (shows 𝓛 (UInt wide)) r (v ∷ []) (λ is. split ! $ move ! (1 ∷ []) $ drop ! $
        -- [the new lifetime; its last value; the reference; room for the reply; the numbers; …]
        land ! (at-reply _ _ _ (stop !)) (init ! 3 refl ((a_number wide).typed r v is)) $
        rewrite ! 3 (λ (u : Val). ‵ (fat full_share (ty_int wide) d 0 u)) ((a_number wide).told r v is ∙ ap (vint wide) (e ∙ ap (P.answers h) (numbers_are w 1 n (α ∷ [], tt) xs))) refl $
        k (subst (λ (m : ℕ). m < 2 ^ bits wide) (e ∙ ap (P.answers h) (numbers_are w 1 n (α ∷ [], tt) xs)) is.1)))))

module _ (T : Lendable) (w wide : Width) {M : Type 1} {𝓤 : Ura M} (𝓛 : Logic 𝓤) (κ : Lft) (q : Share) (b o : ℕ) (γ : GName) (n : ℕ) (P : Promise T n) (h : Value T) (xs : Numbers n) where
  open 𝓛 use {H}

  module _ (l t d : ℕ) (ks : Numbers n) where
    abbrev before : List (Item 𝓤) → List (Item 𝓤)
    before Γ = ‵ (held T b o κ γ h) ∷ ‵ (flft κ q) ∷ ‵ (fat full_share (reference T) l zero (vptr b o)) ∷ ‵ (froom (reborrow T) t zero) ∷ ‵ (froom (ty_int wide) d zero) ∷ cells w n ks xs ∷ Γ

    abbrev after : List (Item 𝓤) → List (Item 𝓤)
    after Γ =
        ‵ (held T b o κ γ (P.leaves h xs)) ∷ ‵ (flft κ q) ∷ ‵ (fat full_share (reference T) l zero (vptr b o)) ∷ ‵ (froom (reborrow T) t zero)
        ∷ ‵ (fat full_share (ty_int wide) d zero (vint wide (P.answers h xs))) ∷ cells w n ks xs ∷ Γ

    pub again : {E : Env 𝓤 H} {C : Calls 𝓤 H} {Λ : Loops 𝓤 H} {p : Post 𝓤 H} {Γ : List (Item 𝓤)} {g : Name} {i j : ℕ} {rest : Code}
        → At 𝓛 E 1 (reference T) l → At 𝓛 E i (reborrow T) t → At 𝓛 E j (ty_int wide) d → AllStand w E 2 n ks → FmC 𝓤 H 𝓛.laws C → Triple 𝓤 (C g) (Lending T w wide 𝓛 n P) → Fit w n xs
        → (P.answers h xs < 2 ^ bits wide → Seq (Go {0}) 𝓛 (after Γ) (runs C Λ E rest p)) → Seq (Go {0}) 𝓛 (before Γ) (runs C Λ E (calling_again T i g n j rest) p)
    again at-lender at_again at-reply stand fm known fits k =
        assigns ! (addr ! (at-lender _ _ _ (hop ! (look ! 2 refl) (stop !)))) (at_again _ _ _ (stop !)) (init ! 3 refl (tt, tt)) $
        lft_new ! tt (λ α. move ! (1 ∷ 2 ∷ []) $
        use2 𝓛 (later (some (λ (δ : GName). ‵ (held T b o (α ∷ []) δ h) ⊛ ‵ (LentAgain (row_of T) κ (α ∷ []) q γ b o δ h)))) (lends_again 𝓛 (row_of T) (named 0) κ (α ∷ []) q γ b o (named 0) h) $ await ! tt $ pick ! (λ δ. split ! $
        -- [the value lent; what is kept; the new lifetime; the reference; the new one; room for the reply; the numbers; …]
        move ! (2 ∷ 0 ∷ 4 ∷ 5 ∷ 6 ∷ []) $ on_loan T w wide 𝓛 b o n P h xs t d ks 2 α δ at_again at-reply stand fm known fits (λ fit.
        lft_end ! tt $ move ! (0 ∷ 5 ∷ 1 ∷ []) $
        use3 𝓛 (later (‵ (held T b o κ γ (P.leaves h xs)) ⊛ ‵ (flft κ q))) (comes_back 𝓛 (row_of T) (named 0) κ (α ∷ []) q γ b o δ h (P.leaves h xs)) $ await ! tt $ split ! $
        -- [the value; the token; the new reference; the reply; the numbers; the reference; …]
        forget ! 2 refl $ move ! (0 ∷ 1 ∷ 5 ∷ []) $ k fit)))
