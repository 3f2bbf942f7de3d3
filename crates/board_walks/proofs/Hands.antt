-- A channel of a lent room is lent to a lent call of the chip, for a lifetime that is made for the call, and comes back at what that call left; the others
-- stay: the step of a walk over `&mut room[c]` and the call (`hands`). All that is known of the callee is its contract.
-- Assumes nothing.
use mathlib.Core.Path.{refl, sym}
use Prim.Native.Nat.{ℕ, zero, ◌<◌, ◌^◌, ◌*◌}
use mathlib.Core.List.{[], ◌∷◌, List}
use native.Mathlib.Omega.{arith}
use native.Mathlib.Nat.{mul-le-mul_right, le_of_lt}
use lib.ListN.{length, set, length-set}
use seplogic.Ra.Ura.{Ura}
use base.Fraction.{full_share}
use mir.Syntax.{Callee as Name, ty_int, ty_ptr, named, w8, w16, w64, offset, deref, field, place, Opd as Operand, copy, op2, Body as Code, seq, assign, addr_of, call}
use mir.Val.{Val, vint, vptr}
use base.Fml.{GName, fsep, fat, froom, flent}
use prog.Wp.{Env, Calls, Loops}
use types.Logic.{Logic}
use types.Kit.{Item, Post, Go, Seq, runs, ‵, ◌⊛◌, some, later, ◌$◌, !, move, use1, use3, split, pick, rewrite, fsplit, fjoin, fpick, fpack, await}
use types.Tokens.{lft_new, lft_end}
use types.Run.{Opd, look, init, forget, stop, hop, fld, load, bin, addr, assigns}
use types.Part.{whole, sub, look_in}
use types.SemTy.{Body}
use sound.WpLaws.{FmC}
use denote.Laws.{Is, shows}
use denote.Memory.{mem, cell_at, part_of}
use denote.Slice.{slice_val}
use denote.Index as I
use denote.Index.{place_is, elem_out, elem_put, opens_slice, closes_slice}
use denote.Lend.{lends_ref, ref_back}
use denote.Struct.Laws as LL
use denote.Triple.Statement.{Triple}
use Rattle.ins2651_rules.specs.declared.Device.{Device}
use Rattle.ins2651_rules.specs.Shape.{reset_device}
use Rattle.ins2651_rules.specs.contracts.Device as D
use Rattle.ins2651_rules.proofs.Device.TheLaws as D'
use Rattle.board_rules.specs.Runs.{device_at}
use Rattle.lending.proofs.Again.{on_loan}
use Rattle.host.proofs.Calls.{lent_device, vals, Bytes, copies, held}
use Rattle.host.proofs.Calls as host
use Rattle.host.proofs.Bytes.{At, Fit, cells, AllStand}
use Rattle.host.proofs.Again.{reborrow, Lending}
use Rattle.board_walks.proofs.Calls.{size, room_ref}
use Rattle.board_walks.proofs.Entry.{Loan, lent_room}

-- `&mut room[c]` into local e, by way of the pointer p to what lies `off` bytes on, and the call of g on it and n bytes, into local y
abbrev pub handing : (p : ℕ) → Operand → (e : ℕ) → Name → (args n y : ℕ) → Code → Code
handing p off e g args n y rest =
    seq (assign (place p []) (op2 offset (copy (place 2 (field 0 ∷ []))) off))
    (seq (assign (place e []) (addr_of (place p (deref D'.mir ∷ []))))
    (seq (call g (copy (place e []) ∷ copies args n) (place y []))
    rest))

-- where channel c lies is a number that fits, by the room's own bound
pub product : (c n s : ℕ) → c < n → n * s < 2 ^ 63 → c * s < 2 ^ 64
product c n s l m = omega (arith, mul-le-mul_right s (le_of_lt l), m)

module _ {M : Type 1} {𝓤 : Ura M} (𝓛 : Logic 𝓤) (L : Loan) (n : ℕ) (P : host.Promise n) (ys : List Device) (c len : ℕ) (xs : Bytes n) (lr lp le ly : ℕ) (ks : Bytes n) where
  open 𝓛 use {H}

  abbrev h : Device
  h = device_at ys c

  abbrev h' : Device
  h' = P.leaves h xs

  abbrev lies_at : ℕ
  lies_at = I.place size L.o c

  abbrev before : List (Item 𝓤) → List (Item 𝓤)
  before Γ =
      lent_room L ys (‵ (froom ty_ptr lp zero) ∷ ‵ (froom reborrow le zero) ∷ ‵ (froom (ty_int w16) ly zero)
      ∷ ‵ (fat full_share room_ref lr zero (slice_val (L.b, L.o) len)) ∷ cells n ks xs ∷ Γ)

  abbrev after : List (Item 𝓤) → List (Item 𝓤)
  after Γ =
      lent_room L (set ys c h') (‵ (froom ty_ptr lp zero) ∷ ‵ (froom reborrow le zero) ∷ ‵ (fat full_share (ty_int w16) ly zero (vint w16 (P.answers h xs)))
      ∷ ‵ (fat full_share room_ref lr zero (slice_val (L.b, L.o) len)) ∷ cells n ks xs ∷ Γ)

  pub hands : {E : Env 𝓤 H} {C : Calls 𝓤 H} {Λ : Loops 𝓤 H} {p : Post 𝓤 H} {Γ : List (Item 𝓤)} {g : Name} {ip ie iy : ℕ} {off : Operand} {rest : Code} (args : ℕ)
      → At 𝓛 E 2 room_ref lr → At 𝓛 E ip ty_ptr lp → At 𝓛 E ie reborrow le → At 𝓛 E iy (ty_int w16) ly → AllStand E args n ks
      → FmC 𝓤 H 𝓛.laws C → Triple 𝓤 (C g) (Lending 𝓛 n P) → Fit n xs → c < length ys → Opd (Go {0}) 𝓛 (before Γ) E off (vint w64 (c * size))
      → (P.answers h xs < 2 ^ 16 → Seq (Go {0}) 𝓛 (after Γ) (runs C Λ E rest p)) → Seq (Go {0}) 𝓛 (before Γ) (runs C Λ E (handing ip off ie g args n iy rest) p)
  unfolding part_of
  hands args at_room at_pointer at-loan at-reply stand fm known fits l off k =
      assigns ! (bin ! (load ! (at_room _ _ _ (fld ! refl (stop !))) (look_in ! 6 (sub ! 0 refl (whole !)))) off tt) (at_pointer _ _ _ (stop !)) (init ! 3 refl (tt, tt)) $
      rewrite ! 3 (λ (m : ℕ). ‵ (fat full_share ty_ptr lp 0 (vptr L.b m))) (sym (place_is size L.o c)) refl $
      assigns ! (addr ! (at_pointer _ _ _ (hop ! (look ! 3 refl) (stop !)))) (at-loan _ _ _ (stop !)) (init ! 4 refl (tt, tt)) $
      opens_slice ! tt D.the_row ys L.b L.o $ elem_out ! D.the_row (Is D.the_row) (shows 𝓛 D.the_row) vals (LL.tells D.the_type D'.the_laws) full_share ys c reset_device L.b L.o l (λ was.
      -- [the element; what it owns; the others; the open borrow; obs; auth; the pointer; the loan; the reply; the room; the bytes; …]
      fjoin ! $ fpack ! (List Val) (λ us. fsep (cell_at full_share (D.the_row).mir us L.b lies_at) ((D.the_row).own_val h us)) (vals h) $
      lft_new ! tt (λ α. move ! (1 ∷ []) $
      use1 𝓛 (later (some (λ (δ : GName). ‵ (held L.b lies_at (α ∷ []) δ h) ⊛ ‵ (flent (α ∷ []) (Body (mem D.the_row) L.b lies_at δ))))) (lends_ref 𝓛 D.the_row (named 0) (α ∷ []) h L.b lies_at) $ await ! tt $ pick ! (λ δ. split ! $
      -- [the element lent; what is kept of it; the new lifetime; the others; the open borrow; obs; auth; the pointer; the loan; the reply; the room; the bytes; …]
      move ! (2 ∷ 0 ∷ 8 ∷ 9 ∷ 11 ∷ []) $ on_loan lent_device w8 w16 𝓛 L.b lies_at n P h xs le ly ks args α δ at-loan at-reply stand fm known fits (λ fit.
      lft_end ! tt $ move ! (0 ∷ 5 ∷ 1 ∷ []) $
      use3 𝓛 (later (‵ ((mem D.the_row).own_at h' L.b lies_at))) (ref_back 𝓛 D.the_row (α ∷ []) δ h' L.b lies_at) $ await ! tt $ fpick ! (λ us. fsplit ! $
      -- [the element; what it owns; the loan; the reply; the bytes; the others; the open borrow; obs; auth; the pointer; the room; …]
      move ! (0 ∷ 1 ∷ 5 ∷ []) $ elem_put ! D.the_row full_share ys c h' us L.b L.o l $
      move ! (0 ∷ 4 ∷ 5 ∷ 6 ∷ []) $ closes_slice ! tt D.the_row ys (set ys c h') (length-set ys c h') L.b L.o $
      forget ! 3 refl $ forget ! 6 refl $ move ! (0 ∷ 1 ∷ 2 ∷ 6 ∷ 3 ∷ 4 ∷ 7 ∷ 5 ∷ []) $ k fit)))))
