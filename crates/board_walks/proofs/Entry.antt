-- A call on a lent board and a lent room, with any number of bytes, by a walk of its code from entry to return, meets its contract (`meets_by`): what stands
-- around the walk.
-- Assumes nothing.
use mathlib.Core.Path.{◌≡◌, refl, ap, sym, subst}
use Prim.Native.Nat.{ℕ, ◌<◌, ◌^◌}
use mathlib.Core.List.{[], ◌∷◌, List}
use lib.ListN.{length}
use seplogic.Ra.Ura.{Ura}
use mir.Syntax.{Width, w8, Fn, named}
use mir.Val.{Val, vint, vptr, bits}
use base.Logic.{SProp, ent, emp, via, fst∗}
use base.Fml.{GName, Lft, Share, ftrue, flft, fobs, fbor}
use prog.Wp.{WpFn, Tables}
use types.Logic.{Logic}
use contract.Lifetimes.{Lfts, Shares}
use types.Kit.{Item, ‵, ◌⊛◌, ⋆, ◌$◌, ◌∵◌, !, qed, move, keep, drop, use0, split, join, fsplit, fsplit3, fjoin, fjoin3, feq_i, suffices, frame, done}
use types.SemTy.{Body}
use sound.WpLaws.{WpFn-mono}
use denote.RattleType.{Denots, Valss, flat, owns}
use denote.Shadow.{pure_i}
use denote.Laws.{Is, Are, Ises, Spells, valss}
use denote.Memory.{mem}
use denote.Plain.{UInt, uint_Makes}
use denote.Ref.{MutBor, mut_vals, mut_Tells}
use denote.Slice.{slice_val, heres, Room, mut_slice_vals, mut_slice_Tells, mut_slice_at, coded_holeys}
use denote.Lend.{Held}
use denote.Signature.{plain, types_at}
use denote.Steps.{owned, nothing}
use denote.Triple.Entry.{Args, Vals, on_entry}
use denote.Triple.Spec.{Meets}
use denote.Triple.Walked.{says, walk_of, Goes-ref, Goes-slice, ends_at, walked, walk_Meets, has_of}
use denote.Triple.Clauses.{closing}
use Rattle.ins2651_rules.specs.declared.Device.{Device}
use Rattle.ins2651_rules.specs.contracts.Device as D
use Rattle.board_rules.specs.declared.Board.{Board}
use Rattle.board_rules.specs.contracts.Board as B
use Rattle.lending.proofs.Numbers.{spell_numbers, tell_numbers, passed_are, fit_all, last_numbers, fits_numbers, go_numbers, has_numbers}
use Rattle.host.proofs.Calls.{Bytes, bytes, kept_bytes, numbers, stay_bytes}
use Rattle.host.proofs.Bytes.{Fit, values}
use Rattle.board_walks.proofs.Calls.{on_board, stayed, Promise, Says, OnBoard}

-- where a board and a room are lent: lifetimes, shares, places and names
pub record Loan : Type 0 where
  pub κo : Lft
  pub κ : Lft
  pub qo : Share
  pub q : Share
  pub bo : ℕ
  pub oo : ℕ
  pub γo : GName
  pub b : ℕ
  pub o : ℕ
  pub γ : GName

module _ {M : Type 1} {𝓤 : Ura M} where
  -- what is had of the lent board at d ..
  abbrev pub lent_board : Loan → Board → List (Item 𝓤) → List (Item 𝓤)
  lent_board L d Γ = ‵ (fobs L.γo ((B.the_row).coded.code d)) ∷ ‵ (fbor L.κo (Body (mem B.the_row) L.bo L.oo L.γo)) ∷ ‵ (flft L.κo L.qo) ∷ Γ

  -- .. and of the lent room at zs
  abbrev pub lent_room : Loan → List Device → List (Item 𝓤) → List (Item 𝓤)
  lent_room L zs Γ = ‵ (fobs L.γ ((coded_holeys D.the_row).code (heres D.the_row zs))) ∷ ‵ (fbor L.κ (Held D.the_row (length zs) L.b L.o L.γ)) ∷ ‵ (flft L.κ L.q) ∷ Γ

  abbrev pub lent : Loan → Board → List Device → List (Item 𝓤)
  lent L d zs = lent_board L d (lent_room L zs [])

module _ {M : Type 1} {𝓤 : Ura M} (𝓛 : Logic 𝓤) where
  -- a walk of the code fn from entry to return, at any board, room and bytes: it answers and leaves what P says
  open 𝓛 use {H}

  abbrev pub Walk : (w : Width) (n : ℕ) → Promise n → Tables 𝓤 H → Fn → Type 2
  Walk w n P 𝓣 fn = (L : Loan) (d : Board) (ys : List Device) (xs : Bytes n) → Room D.the_row (length ys) → Fit n xs → (Q : Val → SProp 𝓤)
      → ((r : ℕ) (d' : Board) (zs : List Device) → length zs ≡ length ys → Says n P d ys xs r d' zs → r < 2 ^ bits w → ent 𝓤 (⋆ 𝓛 (lent L d' zs)) (Q (vint w r)))
      → ent 𝓤 (⋆ 𝓛 (lent L d ys)) (WpFn 𝓤 H 𝓣.C 𝓣.Λ fn (vptr L.bo L.oo ∷ slice_val (L.b, L.o) (length ys) ∷ values n xs) Q)

  module _ (w : Width) (n : ℕ) (P : Promise n) where
    module _ (L : Loan) (d : Board) (ys : List Device) (room : Room D.the_row (length ys)) (xs : Denots (types_at (bytes 2 n) (L.κo, (L.κ, tt)))) (vs : Valss (types_at (bytes 2 n) (L.κo, (L.κ, tt)))) where
      abbrev κs : Lfts 2
      κs = (L.κo, (L.κ, tt))

      abbrev qs : Shares 2
      qs = (L.qo, (L.q, tt))

      abbrev the_board : MutBor Board
      the_board = record { ref_ptr = (L.bo, L.oo); ghost_name = L.γo; now = d }

      abbrev room_at : List Device → MutBor (List Device)
      room_at zs = record { ref_ptr = (L.b, L.o); ghost_name = L.γ; now = zs }

      abbrev passed : Args (on_board w n).signature κs
      passed = (the_board, (room_at ys, xs))

      abbrev passed_vals : Vals (on_board w n).signature κs
      passed_vals = (vptr L.bo L.oo ∷ [], (slice_val (L.b, L.o) (length ys) ∷ [], vs))

      enters : ent 𝓤 (on_entry 𝓛 (on_board w n).signature κs qs passed passed_vals) (⋆ 𝓛 (lent L d ys))
      enters =
          qed 𝓛 ((‵ (flft L.κo L.qo) ⊛ ‵ (flft L.κ L.q) ⊛ ‵ ftrue) ∷ ‵ (owns (types_at (on_board w n).signature.params κs) passed passed_vals) ∷ []) ∵
          split ! $ move ! (1 ∷ []) $ split ! $
          -- [the room's token; true; the board's token; what the parameters own]
          move ! (3 ∷ []) $ fsplit ! $ fsplit3 ! $ drop ! $ move ! (2 ∷ []) $ fsplit ! $ fsplit ! $ move ! (1 ∷ []) $ fsplit ! $
          move ! (4 ∷ 5 ∷ 8 ∷ 0 ∷ 1 ∷ 6 ∷ []) $ keep ! (0 ∷ 1 ∷ 2 ∷ 3 ∷ 4 ∷ 5 ∷ []) $ done !

      ends : (r : ℕ) (d' : Board) (zs : List Device) → length zs ≡ length ys → Says n P d ys (numbers 2 n κs xs) r d' zs → r < 2 ^ bits w
          → ent 𝓤 (⋆ 𝓛 (lent L d' zs)) ((walk_of 𝓛 (on_board w n) (stayed w n) (OnBoard 𝓤 w n P)).post ((κs, qs, tt, passed, passed_vals), tt) (vint w r))
      ends r d' zs len said fits =
          qed 𝓛 (lent L d' zs) ∵
          suffices ! _ (ends_at 𝓛 (on_board w n) (stayed w n) (OnBoard 𝓤 w n P) ((κs, qs, tt, passed, passed_vals), tt) (vint w r) r
          (d', (zs, last_numbers w8 2 n κs xs)) (tt, (len, fits_numbers w8 2 n κs xs (last_numbers w8 2 n κs xs)))) $
          says ! said $ nothing ! $ move ! (6 ∷ 0 ∷ []) $ join ! $ move ! (3 ∷ 0 ∷ []) $ join ! $ frame ! $
          -- [obs; the borrow; obs of the slice; its borrow]: with the facts on the machine values they are what the parameters own
          feq_i ! (List Val) (vptr L.bo L.oo ∷ []) (vptr L.bo L.oo ∷ []) refl $ fjoin3 ! $ move ! (1 ∷ 2 ∷ []) $
          fjoin ! $ pure_i ! (mut_slice_at D.the_row (room_at zs) (slice_val (L.b, L.o) (length ys) ∷ [])) (tt, (tt, tt)) (ap (λ (m : ℕ). slice_val (L.b, L.o) m ∷ []) (sym len), subst (Room D.the_row) (sym len) room) $ fjoin ! $
          use0 𝓛 (‵ (has_of κs (bytes 2 n) (kept_bytes 2 n) (stay_bytes 2 n) xs (last_numbers w8 2 n κs xs) vs)) (has_numbers w8 𝓛 2 n κs xs (last_numbers w8 2 n κs xs) vs) $
          move ! (1 ∷ 0 ∷ []) $ fjoin ! $ move ! (1 ∷ 0 ∷ []) $ fjoin ! $ owned ! (UInt w) (Is (UInt w)) (uint_Makes 𝓛 w) r _ (refl, fits) $ move ! (1 ∷ 0 ∷ []) $ done !

    abbrev spells : (κs : Lfts 2) → Spells (types_at (on_board w n).signature.params κs)
    spells κs = (mut_vals, (mut_slice_vals, spell_numbers w8 2 n κs))

    abbrev spelt_out : (κs : Lfts 2) → Args (on_board w n).signature κs → Vals (on_board w n).signature κs
    spelt_out κs a = valss (types_at (on_board w n).signature.params κs) (spells κs) a

    abbrev loan_of : (κs : Lfts 2) (qs : Shares 2) → Args (on_board w n).signature κs → Loan
    loan_of κs qs a = record { κo = κs.0; κ = κs.1.0; qo = qs.0; q = qs.1.0; bo = a.0.ref_ptr.0; oo = a.0.ref_ptr.1; γo = a.0.ghost_name; b = a.1.0.ref_ptr.0; o = a.1.0.ref_ptr.1; γ = a.1.0.ghost_name }

    module _ (𝓣 : Tables 𝓤 H) (fn : Fn) (walk : Walk w n P 𝓣 fn) where
      walks : (κs : Lfts 2) (qs : Shares 2) (a : Args (on_board w n).signature κs)
          → Are (types_at (on_board w n).signature.params κs) (Ises (types_at (on_board w n).signature.params κs)) a (spelt_out κs a)
          → ent 𝓤 (on_entry 𝓛 (on_board w n).signature κs qs a (spelt_out κs a))
          (WpFn 𝓤 H 𝓣.C 𝓣.Λ fn (flat (types_at (on_board w n).signature.params κs) (spelt_out κs a))
          ((walk_of 𝓛 (on_board w n) (stayed w n) (OnBoard 𝓤 w n P)).post ((κs, qs, tt, a, spelt_out κs a), tt)))
      walks κs qs a are =
          let L : Loan = loan_of κs qs a in
          let room : Room D.the_row (length a.1.0.now) = are.1.0.0.1 in
          via 𝓤 _ (enters L a.0.now a.1.0.now room a.1.1 (spelt_out κs a).1.1)
          (subst (λ (vs : List Val). ent 𝓤 (⋆ 𝓛 (lent L a.0.now a.1.0.now))
          (WpFn 𝓤 H 𝓣.C 𝓣.Λ fn (vptr L.bo L.oo ∷ slice_val (L.b, L.o) (length a.1.0.now) ∷ vs) ((walk_of 𝓛 (on_board w n) (stayed w n) (OnBoard 𝓤 w n P)).post ((κs, qs, tt, a, spelt_out κs a), tt))))
          (passed_are w8 2 n κs a.1.1)
          (walk L a.0.now a.1.0.now (numbers 2 n κs a.1.1) room (fit_all w8 2 n κs a.1.1 (spelt_out κs a).1.1 are.1.1) _
          (ends L a.0.now a.1.0.now room a.1.1 (spelt_out κs a).1.1)))

      pub meets_by : Meets 𝓛 (on_board w n).signature (WpFn 𝓤 H 𝓣.C 𝓣.Λ fn) (closing 𝓛 (on_board w n) (OnBoard 𝓤 w n P))
      meets_by =
          walk_Meets 𝓛 (on_board w n) (stayed w n) (Goes-ref 𝓛 2 0 tt (plain (λ _. B.the_row)), (Goes-slice 𝓛 2 1 tt (plain (λ _. D.the_row)), go_numbers w8 𝓛 2 n)) (OnBoard 𝓤 w n P)
          (WpFn 𝓤 H 𝓣.C 𝓣.Λ fn) (WpFn-mono 𝓤 H 𝓛.laws 𝓣 fn)
          (walked 𝓛 (on_board w n) (stayed w n) (OnBoard 𝓤 w n P) (WpFn 𝓤 H 𝓣.C 𝓣.Λ fn) spells
          (λ κs. (mut_Tells (named 0) κs.0 B.the_row, (mut_slice_Tells (named 1) κs.1.0 D.the_row, tell_numbers w8 2 n κs)))
          (λ κs qs bounds a _ are. via 𝓤 _ (fst∗ 𝓤 _ (emp 𝓤)) (walks κs qs a are)))
