-- The walk of a lent call from the opened borrow to the closed one, over any by-value call: the value is copied out, the call is made on the copy and the
-- numbers, the value that it replied is stored over the lent one, and the answer is kept. All that is known of the callee is its contract.
-- Assumes nothing.
use mathlib.Core.Path.{◌≡◌, refl, ap}
use Prim.Native.Nat.{ℕ, zero, ◌<◌, ◌^◌}
use mathlib.Core.List.{[], ◌∷◌, List}
use seplogic.Ra.Ura.{Ura}
use base.Fraction.{full_share}
use mir.Syntax.{Width, Callee as Name, ty_int, place, Opd as Operand, copy, Body as Code}
use mir.Val.{Val, vint, vptr, bits}
use base.Logic.{SProp, ent, id⊢}
use base.Fml.{GName, Lft, Share, ftrue, flft, fobs, fbor, fat, froom, fauth, fobor}
use prog.Wp.{Env, Calls, Loops}
use types.Logic.{Logic, sem}
use contract.Monad.{fact}
use types.Kit.{Item, Post, Go, Seq, runs, ‵, raw, ◌⊛◌, some, later, ◌$◌, !, move, drop, use1, split, pick, rewrite, await}
use types.Run.{Opds, look, look_raw, init, store_raw, forget, stop, hop, fld, load, of_opd, assigns, land}
use types.Part.{whole, sub, look_in}
use types.SemTy.{Body}
use sound.WpLaws.{FmC}
use denote.Laws.{Is, shows}
use denote.Memory.{mem, cell_at}
use denote.Steps.{opens, closes, owned, peeks, heard, only}
use denote.Struct.Steps.{spelt}
use denote.Struct.Laws as LL
use denote.Triple.Statement.{Triple}
use denote.Triple.Call.{calls_at}
use denote.Triple.Clauses.{ensured}
use Rattle.lending.proofs.Lendable.{Lendable, Value, row_of, mir_of, vals, val, reference, Replying, reply_type, reply_laws, reply_row, reply_mir, parts}
use Rattle.lending.proofs.Numbers.{typed_number, numbers, At}
use Rattle.lending.proofs.Calls.{Replies, taking, taken, gave, Passed, Values, ByValue, Callee, lending}

module _ (T : Lendable) (R : Replying T) {M : Type 1} {𝓤 : Ura M} (𝓛 : Logic 𝓤) where
  -- the locals that every lent call has: the answer, the reference, the copy, the reply and the value of the reply
  open 𝓛 use {H}

  pub record Frame (E : Env 𝓤 H) (copied replied stored a l c r t : ℕ) : Type 2 where
    pub answer : At 𝓛 E 0 (ty_int R.wide) a
    pub lender : At 𝓛 E 1 (reference T) l
    pub copy : At 𝓛 E copied (mir_of T) c
    pub reply : At 𝓛 E replied (reply_mir T R) r
    pub value : At 𝓛 E stored (mir_of T) t

  module _ (κ : Lft) (q : Share) (b o : ℕ) (γ : GName) (h : Value T) (a l c r t : ℕ) where
    -- before: the borrow, and room for what the call makes
    abbrev before : List (Item 𝓤) → List (Item 𝓤)
    before Γ =
        ‵ (fobs γ ((row_of T).coded.code h)) ∷ ‵ (fbor κ (Body (mem (row_of T)) b o γ)) ∷ ‵ (flft κ q)
        ∷ ‵ (froom (reply_mir T R) r zero) ∷ ‵ (froom (mir_of T) c zero) ∷ ‵ (fat full_share (reference T) l zero (vptr b o)) ∷ ‵ (froom (ty_int R.wide) a zero) ∷ ‵ (froom (mir_of T) t zero) ∷ Γ

    -- at the call: the borrow is open, the copy is made, and P is what the callee asks
    abbrev pub at_call : SProp 𝓤 → List (Item 𝓤) → List (Item 𝓤)
    at_call P Γ =
        raw P ∷ ‵ (cell_at full_share (row_of T).mir (vals T h) b o) ∷ ‵ (fobor κ q (Body (mem (row_of T)) b o γ))
        ∷ ‵ (fobs γ ((row_of T).coded.code h)) ∷ ‵ (fauth γ ((row_of T).coded.code h))
        ∷ ‵ (froom (reply_mir T R) r zero) ∷ ‵ (fat full_share (mir_of T) c zero (val T h)) ∷ ‵ (fat full_share (reference T) l zero (vptr b o)) ∷ ‵ (froom (ty_int R.wide) a zero) ∷ ‵ (froom (mir_of T) t zero) ∷ Γ

    -- after: the borrow at the value replied, and the answer
    abbrev after : R.Reply → List (Item 𝓤) → List (Item 𝓤)
    after z Γ =
        ‵ (fobs γ ((row_of T).coded.code (R.value z))) ∷ ‵ (fbor κ (Body (mem (row_of T)) b o γ)) ∷ ‵ (flft κ q)
        ∷ ‵ (froom (reply_mir T R) r zero) ∷ ‵ (froom (mir_of T) c zero) ∷ ‵ (froom (reference T) l zero) ∷ ‵ (fat full_share (ty_int R.wide) a zero (vint R.wide (R.answer z))) ∷ ‵ (froom (mir_of T) t zero) ∷ Γ

    module _ (w : Width) (n : ℕ) (F : Replies T R n) (x : Passed T w (reply_row T R) n) (vs : Values T w (reply_row T R) n) where
      abbrev asked : (Callee T R w 𝓛 n F).Ghost
      asked = taken T w 𝓛 (reply_row T R) n F x vs

      abbrev Told : R.Reply → Type 0
      Told z = z ≡ F x.0 (numbers w 0 n tt x.1)

      pub lends : {E : Env 𝓤 H} {C : Calls 𝓤 H} {Λ : Loops 𝓤 H} {p : Post 𝓤 H} {Γ : List (Item 𝓤)} {g : Name} {copied replied stored : ℕ} {args : List Operand} {rest : Code}
          → Frame E copied replied stored a l c r t → FmC 𝓤 H 𝓛.laws C → Triple 𝓤 (C g) (Callee T R w 𝓛 n F)
          → ent 𝓤 (sem 𝓛 ((row_of T).own_val h (vals T h))) ((Callee T R w 𝓛 n F).pre asked)
          → Opds (Go {0}) 𝓛 (at_call ((Callee T R w 𝓛 n F).pre asked) Γ) E (copy (place copied []) ∷ args) ((Callee T R w 𝓛 n F).args asked)
          → ((z : R.Reply) → Told z → R.answer z < 2 ^ bits R.wide → Seq (Go {0}) 𝓛 (after z Γ) (runs C Λ E rest p))
          → Seq (Go {0}) 𝓛 (before Γ) (runs C Λ E (lending T R copied g replied stored args rest) p)
      lends at fm known goes reads k =
          opens ! tt (row_of T) {h = h} b o (λ us. spelt ! (row_of T) (Is (row_of T)) (shows 𝓛 (row_of T)) (vals T) (LL.tells T.type T.laws) full_share h us b o $
          move ! (1 ∷ []) $ peeks ! (row_of T) (Is (row_of T)) (shows 𝓛 (row_of T)) h (vals T h) (λ was.
          -- [what the value owns; its cell; the open borrow; obs; auth; room for the reply; room for the copy; the reference; room for the answer; …]
          assigns ! (of_opd ! (load ! (at.lender _ _ _ (hop ! (look ! 7 refl) (stop !))) (look_raw ! 1 refl))) (at.copy _ _ _ (stop !)) (init ! 6 refl ((LL.lawful T.type T.laws 𝓛).typed h _ was).0) $
          use1 𝓛 (raw ((Callee T R w 𝓛 n F).pre asked)) goes $
          calls_at ! fm (Callee T R w 𝓛 n F) known asked reads (λ v.
          use1 𝓛 (later (some (λ (z : R.Reply). (‵ ftrue ⊛ ‵ ((reply_row T R).own_val z (v ∷ []))) ⊛ raw (ensured 𝓛 (taking T w (reply_row T R) n) (ByValue T R w 𝓛 n F) tt x tt z)))) (id⊢ 𝓤 _) $ await ! tt $ pick ! (λ z.
          split ! $ move ! (1 ∷ []) $ use1 𝓛 (raw (fact 𝓤 (Told z))) (gave T w 𝓛 (reply_row T R) n F x z) $ heard ! (Told z) (λ e. split ! $ drop ! $
          peeks ! (reply_row T R) (Is (reply_row T R)) (shows 𝓛 (reply_row T R)) z (v ∷ []) (λ is.
          land ! (at.reply _ _ _ (stop !)) (init ! 5 refl ((LL.lawful (reply_type T R) (reply_laws T R) 𝓛).typed z _ is).0) $
          rewrite ! 5 (λ (u : Val). ‵ (fat full_share (reply_mir T R) r 0 u)) (ap only (LL.tells (reply_type T R) (reply_laws T R) z (v ∷ []) is)) refl $
          assigns ! (of_opd ! (load ! (at.reply _ _ _ (fld ! refl (stop !))) (look_in ! 5 (sub ! 1 refl (whole !))))) (at.value _ _ _ (stop !)) (init ! 9 refl ((LL.lawful T.type T.laws 𝓛).typed (R.value z) _ (parts T R z (v ∷ []) is).1).0) $
          assigns ! (of_opd ! (load ! (at.value _ _ _ (stop !)) (look ! 9 refl))) (at.lender _ _ _ (hop ! (look ! 7 refl) (stop !))) (store_raw ! 1 refl ((LL.lawful T.type T.laws 𝓛).typed (R.value z) _ (parts T R z (v ∷ []) is).1).0) $
          assigns ! (of_opd ! (load ! (at.reply _ _ _ (fld ! refl (stop !))) (look_in ! 5 (sub ! 0 refl (whole !))))) (at.answer _ _ _ (stop !)) (init ! 8 refl (typed_number R.wide (R.answer z) (parts T R z (v ∷ []) is).0)) $
          drop ! $ owned ! (row_of T) (Is (row_of T)) (LL.makes T.type T.plain 𝓛) (R.value z) (vals T (R.value z)) (parts T R z (v ∷ []) is).1 $
          move ! (1 ∷ 0 ∷ []) $ closes ! tt (row_of T) (R.value z) (vals T (R.value z)) b o $
          forget ! 3 refl $ forget ! 4 refl $ forget ! 5 refl $ forget ! 7 refl $ k z e (parts T R z (v ∷ []) is).0))))))
