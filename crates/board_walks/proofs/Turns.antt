-- The turn of the channel that a plan names: its number is copied, where it lies is computed, and it is lent to a lent call of the chip with the call's bytes, or with all but the
-- first of them (`straight`, `raised`).
-- Assumes nothing.
use mathlib.Core.Path.{refl}
use Prim.Native.Nat.{ℕ, zero, suc, ◌<◌, ◌^◌, ◌*◌}
use mathlib.Core.Bool.{Bool}
use mathlib.Core.List.{[], ◌∷◌, List}
use native.Mathlib.Omega.{arith}
use lib.ListN.{length, set}
use seplogic.Ra.Ura.{Ura}
use base.Fraction.{full_share}
use mir.Syntax.{Callee as Name, Ty, ty_int, ty_ptr, w8, w16, w64, unsigned, mul, field, place, copy, int, rv_opd, op2, Body as Code, seq, assign, return}
use mir.Val.{vint}
use base.Fml.{ftrue, fat, froom, fdies}
use prog.Wp.{Env, Calls, Loops}
use types.Logic.{Logic}
use types.Kit.{Item, Post, Go, Seq, Goal, runs, ‵, ◌⊛◌, ◌$◌, !, move, drop, split, join}
use types.Run.{look, init, forget, stop, fld, load, lit, bin, of_opd, assigns}
use types.Part.{whole, sub, look_in}
use sound.WpLaws.{FmC}
use denote.Slice.{slice_val, Room}
use denote.Steps.{nothing}
use denote.Triple.Statement.{Triple}
use Rattle.ins2651_rules.specs.declared.Device.{Device}
use Rattle.ins2651_rules.specs.contracts.Device as D
use Rattle.board_rules.specs.declared.Board.{Board}
use Rattle.board_rules.specs.Runs.{device_at}
use Rattle.board_walks.specs.declared.Plan.{Plan}
use Rattle.board_walks.proofs.Plan.TheLaws as P'
use Rattle.host.proofs.Calls.{Bytes, past}
use Rattle.host.proofs.Calls as host
use Rattle.host.proofs.Bytes.{At, Fit, Locals, AllStand, cells}
use Rattle.host.proofs.Again.{reborrow, Lending}
use Rattle.board_walks.proofs.Calls.{size, plan_val, room_ref, at}
use Rattle.board_walks.proofs.Entry.{Loan, lent_room}
use Rattle.board_walks.proofs.Slots.{slots}
use Rattle.board_walks.proofs.Hands.{handing, product, hands}
use Rattle.board_walks.proofs.Begins.{Places, locals, others_stand, given_stand, behind_at, at_room, at_answer, at_plan, at_count, having, no_answer, the_answer}

-- == all bytes but the first ones ==

abbrev pub lasts : (l k : ℕ) → Bytes (past l k) → Bytes k
lasts zero k xs = xs
lasts (suc l) k xs = lasts l k xs.1

-- the local of the first of them
abbrev pub ahead : ℕ → ℕ → ℕ
ahead zero i = i
ahead (suc l) i = ahead l (suc i)

lasts_stand : (l k : ℕ) (ks : Bytes (past l k)) (E : Locals) (i : ℕ) → AllStand E i (past l k) ks → AllStand E (ahead l i) k (lasts l k ks)
lasts_stand zero k ks E i p = p
lasts_stand (suc l) k ks E i p = lasts_stand l k ks.1 E (suc i) p.1

pub lasts_fit : (l k : ℕ) (xs : Bytes (past l k)) → Fit (past l k) xs → Fit k (lasts l k xs)
lasts_fit zero k xs fits = fits
lasts_fit (suc l) k xs fits = lasts_fit l k xs.1 fits.1

module _ {M : Type 1} {𝓤 : Ura M} where
  abbrev firsts : (l k : ℕ) → Bytes (past l k) → Bytes (past l k) → Item 𝓤
  firsts zero k ks xs = ‵ ftrue
  firsts (suc l) k ks xs = (‵ (fat full_share (ty_int w8) ks.0 zero (vint w8 xs.0)) ⊛ ‵ (fdies (ty_int w8) ks.0)) ⊛ firsts l k ks.1 xs.1

module _ {M : Type 1} {𝓤 : Ura M} (𝓛 : Logic 𝓤) where
  open 𝓛 use {H}

  parted : (l k : ℕ) (ks xs : Bytes (past l k)) {Γ : List (Item 𝓤)} {G : Goal 𝓤 H} → Seq (Go {0}) 𝓛 (cells k (lasts l k ks) (lasts l k xs) ∷ firsts l k ks xs ∷ Γ) G → Seq (Go {0}) 𝓛 (cells (past l k) ks xs ∷ Γ) G
  parted zero k ks xs s = nothing ! $ move ! (1 ∷ 0 ∷ []) $ s
  parted (suc l) k ks xs s = split ! $ move ! (1 ∷ []) $ parted l k ks.1 xs.1 (move ! (2 ∷ 1 ∷ []) $ join ! $ move ! (1 ∷ 0 ∷ []) $ s)

  unparted : (l k : ℕ) (ks xs : Bytes (past l k)) {Γ : List (Item 𝓤)} {G : Goal 𝓤 H} → Seq (Go {0}) 𝓛 (cells (past l k) ks xs ∷ Γ) G → Seq (Go {0}) 𝓛 (cells k (lasts l k ks) (lasts l k xs) ∷ firsts l k ks xs ∷ Γ) G
  unparted zero k ks xs s = move ! (1 ∷ []) $ drop ! $ s
  unparted (suc l) k ks xs s = move ! (1 ∷ []) $ split ! $ move ! (2 ∷ 1 ∷ 0 ∷ []) $ unparted l k ks.1 xs.1 (move ! (1 ∷ 0 ∷ []) $ join ! $ s)

-- == the turn ==

-- a channel's number fits, as their count does
number_fits : (c n : ℕ) → c < n → n < 2 ^ 64 → c < 2 ^ 64
number_fits c n l m = omega (arith, l, m)

-- with the channel's number in local ic, where it lies in it, the pointer in ip, the reference in ie and the answer in iy
abbrev pub turning : (l k ic it ip ie iy : ℕ) → Name → Code → Code
turning l k ic it ip ie iy g rest =
    seq (assign (place ic []) (rv_opd (copy (place (at (past l k) 0) (field 1 ∷ [])))))
    (seq (assign (place it []) (op2 (mul unsigned) (copy (place ic [])) (int w64 size)))
    (handing ip (copy (place it [])) ie g (ahead l 3) k iy rest))

-- the chip's answer is the call's, with where it lies in the count's local ..
abbrev pub straight_on : ℕ → ℕ → Name → Code
straight_on l k g = turning l k (at (past l k) 5) (at (past l k) 2) (at (past l k) 6) (at (past l k) 7) 0 g return

-- .. or, in a branch, in one of its own
abbrev pub branched_on : ℕ → ℕ → Name → Code
branched_on l k g = turning l k (at (past l k) 5) (at (past l k) 6) (at (past l k) 7) (at (past l k) 8) 0 g return

-- the chip's answer times 256 is the call's
abbrev pub raised_on : ℕ → ℕ → Name → Code
raised_on l k g =
    turning l k (at (past l k) 6) (at (past l k) 2) (at (past l k) 7) (at (past l k) 8) (at (past l k) 5) g
    (seq (assign (place 0 []) (op2 (mul unsigned) (copy (place (at (past l k) 5) [])) (int w16 256)))
    return)

module _ {M : Type 1} {𝓤 : Ura M} (𝓛 : Logic 𝓤) (L : Loan) (l k : ℕ) (τs : List Ty) (p : Places (past l k) τs) (P : host.Promise k) (s : Plan) (ys : List Device) (xs : Bytes (past l k)) where
  open 𝓛 use {H}

  abbrev n : ℕ
  n = past l k

  abbrev E : Env 𝓤 H
  E = locals w16 n τs p

  abbrev h : Device
  h = device_at ys s.channel

  -- what the chip answers, and the room after it
  abbrev told : ℕ
  told = P.answers h (lasts l k xs)

  abbrev turned : List Device
  turned = set ys s.channel (P.leaves h (lasts l k xs))

  abbrev around : List Device → (lc lp le : ℕ) → Item 𝓤 → Item 𝓤 → List (Item 𝓤) → List (Item 𝓤)
  around zs lc lp le lies reply Γ =
      lent_room L zs (‵ (froom ty_ptr lp zero) ∷ ‵ (froom reborrow le zero) ∷ reply ∷ ‵ (fat full_share room_ref p.room zero (slice_val (L.b, L.o) (length ys)))
      ∷ cells n p.given xs ∷ ‵ (fat full_share P'.mir p.plan zero (plan_val s)) ∷ lies ∷ ‵ (froom (ty_int w64) lc zero) ∷ Γ)

  turns : {C : Calls 𝓤 H} {Λ : Loops 𝓤 H} {q : Post 𝓤 H} {Γ : List (Item 𝓤)} {g : Name} {ic it ip ie iy : ℕ} {rest : Code} (lc lt lp le ly : ℕ)
      → At 𝓛 E ic (ty_int w64) lc → At 𝓛 E it (ty_int w64) lt → At 𝓛 E ip ty_ptr lp → At 𝓛 E ie reborrow le → At 𝓛 E iy (ty_int w16) ly → FmC 𝓤 H 𝓛.laws C → Triple 𝓤 (C g) (Lending 𝓛 k P)
      → Fit n xs → Room D.the_row (length ys) → s.channel < length ys
      → (told < 2 ^ 16 → Seq (Go {0}) 𝓛 (around turned lc lp le (‵ (fat full_share (ty_int w64) lt zero (vint w64 (s.channel * size)))) (‵ (fat full_share (ty_int w16) ly zero (vint w16 told))) Γ) (runs C Λ E rest q))
      → Seq (Go {0}) 𝓛 (around ys lc lp le (‵ (froom (ty_int w64) lt zero)) (‵ (froom (ty_int w16) ly zero)) Γ) (runs C Λ E (turning l k ic it ip ie iy g rest) q)
  turns lc lt lp le ly at_number at_lies at_pointer at-loan at-reply fm known fits room inside cont =
      let small = product s.channel (length ys) size inside room.1 in
      assigns ! (of_opd ! (load ! (at_plan 𝓛 w16 n τs p _ _ _ (fld ! refl (stop !))) (look_in ! 8 (sub ! 1 refl (whole !))))) (at_number _ _ _ (stop !)) (init ! 10 refl (tt, record { fits = number_fits s.channel (length ys) inside room.0 })) $
      assigns ! (bin ! (load ! (at_number _ _ _ (stop !)) (look ! 10 refl)) (lit ! tt) (record { fits = small })) (at_lies _ _ _ (stop !)) (init ! 9 refl (tt, record { fits = small })) $
      move ! (7 ∷ []) $ parted 𝓛 l k p.given xs (
      -- [the bytes; the first ones; the room, thrice; the pointer; the reference; the reply; the room's local; the plan; where it lies; its number; …]
      move ! (2 ∷ 3 ∷ 4 ∷ 5 ∷ 6 ∷ 7 ∷ 8 ∷ 0 ∷ 1 ∷ []) $
      hands 𝓛 L k P ys s.channel (length ys) (lasts l k xs) p.room lp le ly (lasts l k p.given) (ahead l 3) (at_room 𝓛 w16 n τs p) at_pointer at-loan at-reply
      (lasts_stand l k p.given E 3 (given_stand w16 n τs p)) fm known (lasts_fit l k xs fits) inside (load ! (at_lies _ _ _ (stop !)) (look ! 10 refl)) (λ fit.
      move ! (7 ∷ 8 ∷ []) $ unparted 𝓛 l k p.given xs (move ! (1 ∷ 2 ∷ 3 ∷ 4 ∷ 5 ∷ 6 ∷ 7 ∷ 0 ∷ []) $ forget ! 10 refl $ cont fit)))

-- the locals of a turn; of one in a branch, with others; of one whose answer is raised
abbrev pub three : List Ty
three = ty_int w64 ∷ ty_ptr ∷ reborrow ∷ []

abbrev pub branch : List Ty → List Ty
branch σs = ty_int w64 ∷ ty_int w64 ∷ ty_ptr ∷ reborrow ∷ σs

abbrev pub four : List Ty
four = ty_int w16 ∷ ty_int w64 ∷ ty_ptr ∷ reborrow ∷ []

-- what is had before and after the turn
module _ {M : Type 1} {𝓤 : Ura M} (𝓛 : Logic 𝓤) (L : Loan) (l k : ℕ) (P : host.Promise k) (d d' : Board) (s : Plan) (ys : List Device) (xs : Bytes (past l k)) (t : Bool) where
  open 𝓛 use {H}

  abbrev m : ℕ
  m = past l k

  abbrev chip_answer : ℕ
  chip_answer = P.answers (device_at ys s.channel) (lasts l k xs)

  abbrev room_after : List Device
  room_after = set ys s.channel (P.leaves (device_at ys s.channel) (lasts l k xs))

  module _ (τs : List Ty) (p : Places m τs) where
    abbrev before : Item 𝓤 → List (Item 𝓤)
    before others = having L w16 m τs p d xs s (length ys) d' ys (no_answer L w16 m τs p d xs s (length ys)) (length ys) t others

    abbrev after : ℕ → ℕ → Item 𝓤 → List (Item 𝓤)
    after r c others = having L w16 m τs p d xs s (length ys) d' room_after (the_answer L w16 m τs p d xs s (length ys) r) c t others

  pub straight : (p : Places m three) {C : Calls 𝓤 H} {Λ : Loops 𝓤 H} {q : Post 𝓤 H} {g : Name}
      → FmC 𝓤 H 𝓛.laws C → Triple 𝓤 (C g) (Lending 𝓛 k P) → Fit m xs → Room D.the_row (length ys) → s.channel < length ys
      → (chip_answer < 2 ^ 16 → Seq (Go {0}) 𝓛 (after three p chip_answer (s.channel * size) (slots three p.others)) (runs C Λ (locals w16 m three p) return q))
      → Seq (Go {0}) 𝓛 (before three p (slots three p.others)) (runs C Λ (locals w16 m three p) (straight_on l k g) q)
  straight p fm known fits room inside cont =
      let stand = others_stand w16 m three p in
      forget ! 12 refl $ move ! (15 ∷ []) $ split ! $ split ! $ move ! (2 ∷ []) $ split ! $ split ! $ move ! (2 ∷ []) $ split ! $ split ! $
      -- [the reference; its end; nothing; the pointer; its end; the number; its end; the board, thrice; the room, thrice; the answer; the board's local; the room's; the bytes; the plan; the copy; the count; the plan's board; the test; …]
      move ! (10 ∷ 11 ∷ 12 ∷ 3 ∷ 0 ∷ 13 ∷ 15 ∷ 16 ∷ 17 ∷ 19 ∷ 5 ∷ []) $
      turns 𝓛 L l k three p P s ys xs p.others.0 p.count p.others.1.0 p.others.1.1.0 p.answer (behind_at 𝓛 w16 m three p 5 (ty_int w64) p.others.0 stand.0) (at_count 𝓛 w16 m three p)
      (behind_at 𝓛 w16 m three p 6 ty_ptr p.others.1.0 stand.1.0) (behind_at 𝓛 w16 m three p 7 reborrow p.others.1.1.0 stand.1.1.0) (at_answer 𝓛 w16 m three p) fm known fits room inside (λ fit.
      move ! (4 ∷ 11 ∷ []) $ join ! $ move ! (0 ∷ 11 ∷ []) $ join ! $ move ! (4 ∷ 11 ∷ []) $ join ! $ join ! $ move ! (9 ∷ 10 ∷ []) $ join ! $ join ! $
      move ! (9 ∷ 10 ∷ 11 ∷ 1 ∷ 2 ∷ 3 ∷ 4 ∷ 12 ∷ 5 ∷ 6 ∷ 7 ∷ 13 ∷ 8 ∷ 14 ∷ 15 ∷ 0 ∷ []) $ cont fit)

  -- in a branch, with where the channel lies in a local of its own, and other locals behind
  pub branched : (σs : List Ty) (p : Places m (branch σs)) {C : Calls 𝓤 H} {Λ : Loops 𝓤 H} {q : Post 𝓤 H} {g : Name}
      → FmC 𝓤 H 𝓛.laws C → Triple 𝓤 (C g) (Lending 𝓛 k P) → Fit m xs → Room D.the_row (length ys) → s.channel < length ys
      → (chip_answer < 2 ^ 16 → Seq (Go {0}) 𝓛 (after (branch σs) p chip_answer (length ys) (slots (branch σs) p.others)) (runs C Λ (locals w16 m (branch σs) p) return q))
      → Seq (Go {0}) 𝓛 (before (branch σs) p (slots (branch σs) p.others)) (runs C Λ (locals w16 m (branch σs) p) (branched_on l k g) q)
  branched σs p fm known fits room inside cont =
      let stand = others_stand w16 m (branch σs) p in
      move ! (15 ∷ []) $ split ! $ split ! $ move ! (2 ∷ []) $ split ! $ split ! $ move ! (2 ∷ []) $ split ! $ split ! $ move ! (2 ∷ []) $ split ! $ split ! $
      -- [the reference; its end; the others; the pointer; its end; where it lies; its end; the number; its end; the board, thrice; the room, thrice; the answer; the board's local; the room's; the bytes; the plan; the copy; the count; the plan's board; the test; …]
      move ! (12 ∷ 13 ∷ 14 ∷ 3 ∷ 0 ∷ 15 ∷ 17 ∷ 18 ∷ 19 ∷ 5 ∷ 7 ∷ []) $
      turns 𝓛 L l k (branch σs) p P s ys xs p.others.0 p.others.1.0 p.others.1.1.0 p.others.1.1.1.0 p.answer
      (behind_at 𝓛 w16 m (branch σs) p 5 (ty_int w64) p.others.0 stand.0) (behind_at 𝓛 w16 m (branch σs) p 6 (ty_int w64) p.others.1.0 stand.1.0)
      (behind_at 𝓛 w16 m (branch σs) p 7 ty_ptr p.others.1.1.0 stand.1.1.0) (behind_at 𝓛 w16 m (branch σs) p 8 reborrow p.others.1.1.1.0 stand.1.1.1.0) (at_answer 𝓛 w16 m (branch σs) p) fm known fits room inside (λ fit.
      forget ! 9 refl $ move ! (4 ∷ 11 ∷ []) $ join ! $ move ! (0 ∷ 11 ∷ []) $ join ! $ move ! (4 ∷ 11 ∷ []) $ join ! $ join ! $ move ! (8 ∷ 10 ∷ []) $ join ! $ join ! $ move ! (8 ∷ 9 ∷ []) $ join ! $ join ! $
      move ! (8 ∷ 9 ∷ 10 ∷ 1 ∷ 2 ∷ 3 ∷ 4 ∷ 11 ∷ 5 ∷ 6 ∷ 7 ∷ 12 ∷ 13 ∷ 14 ∷ 15 ∷ 0 ∷ []) $ cont fit)

  pub raised : (p : Places m four) {C : Calls 𝓤 H} {Λ : Loops 𝓤 H} {q : Post 𝓤 H} {g : Name}
      → FmC 𝓤 H 𝓛.laws C → Triple 𝓤 (C g) (Lending 𝓛 k P) → Fit m xs → Room D.the_row (length ys) → s.channel < length ys → chip_answer * 256 < 2 ^ 16
      → Seq (Go {0}) 𝓛 (after four p (chip_answer * 256) (s.channel * size) (slots four p.others)) (runs C Λ (locals w16 m four p) return q)
      → Seq (Go {0}) 𝓛 (before four p (slots four p.others)) (runs C Λ (locals w16 m four p) (raised_on l k g) q)
  raised p fm known fits room inside small cont =
      let stand = others_stand w16 m four p in
      forget ! 12 refl $ move ! (15 ∷ []) $ split ! $ split ! $ move ! (2 ∷ []) $ split ! $ split ! $ move ! (2 ∷ []) $ split ! $ split ! $ move ! (2 ∷ []) $ split ! $ split ! $
      -- [the reference; its end; nothing; the pointer; its end; the number; its end; the reply; its end; the board, thrice; the room, thrice; the answer; the board's local; the room's; the bytes; the plan; the copy; the count; the plan's board; the test; …]
      move ! (12 ∷ 13 ∷ 14 ∷ 3 ∷ 0 ∷ 7 ∷ 17 ∷ 18 ∷ 19 ∷ 21 ∷ 5 ∷ []) $
      turns 𝓛 L l k four p P s ys xs p.others.1.0 p.count p.others.1.1.0 p.others.1.1.1.0 p.others.0 (behind_at 𝓛 w16 m four p 6 (ty_int w64) p.others.1.0 stand.1.0) (at_count 𝓛 w16 m four p)
      (behind_at 𝓛 w16 m four p 7 ty_ptr p.others.1.1.0 stand.1.1.0) (behind_at 𝓛 w16 m four p 8 reborrow p.others.1.1.1.0 stand.1.1.1.0)
      (behind_at 𝓛 w16 m four p 5 (ty_int w16) p.others.0 stand.0) fm known fits room inside (λ fit.
      assigns ! (bin ! (load ! (behind_at 𝓛 w16 m four p 5 (ty_int w16) p.others.0 stand.0 _ _ _ (stop !)) (look ! 5 refl)) (lit ! tt) (record { fits = small })) (at_answer 𝓛 w16 m four p _ _ _ (stop !)) (init ! 19 refl (tt, record { fits = small })) $
      forget ! 5 refl $ move ! (4 ∷ 11 ∷ []) $ join ! $ move ! (0 ∷ 11 ∷ []) $ join ! $ move ! (4 ∷ 11 ∷ []) $ join ! $ join ! $ move ! (9 ∷ 10 ∷ []) $ join ! $ join ! $ move ! (4 ∷ 9 ∷ []) $ join ! $ join ! $
      move ! (8 ∷ 9 ∷ 10 ∷ 1 ∷ 2 ∷ 3 ∷ 11 ∷ 12 ∷ 4 ∷ 5 ∷ 6 ∷ 13 ∷ 7 ∷ 14 ∷ 15 ∷ 0 ∷ []) $ cont)
