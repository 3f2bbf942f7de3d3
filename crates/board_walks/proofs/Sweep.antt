-- Every channel of a lent room in turn is lent to one lent call of the chip without bytes, and the answers are kept (`sweeps`).
-- Assumes nothing.
use mathlib.Core.Path.{◌≡◌, refl, sym, subst, ◌∙◌}
use Prim.Native.Nat.{ℕ, zero, suc, ◌<◌, ◌≤◌, ◌^◌, ◌+◌, ◌*◌}
use mathlib.Core.List.{[], ◌∷◌, List}
use native.Mathlib.Omega.{arith}
use lib.Dec.{T, ltb}
use lib.ListN.{length, set, length-set}
use borrow.Author.Tests.{lt-ltb}
use seplogic.Ra.Ura.{Ura}
use base.Fraction.{full_share}
use mir.Syntax.{Callee as Name, Ty, Width, ty_int, ty_ptr, w16, w64, int, Body as Code}
use mir.Val.{vint}
use base.Fml.{fat, froom, fdies}
use prog.Wp.{Env, Calls, Loops}
use types.Logic.{Logic}
use types.Kit.{Item, Post, Go, Seq, Goal, runs, ‵, ◌⊛◌, ◌$◌, !, move, drop, split, join}
use types.Run.{forget, lit}
use sound.WpLaws.{FmC}
use denote.Slice.{slice_val}
use denote.Steps.{nothing}
use denote.Triple.Statement.{Triple}
use Rattle.ins2651_rules.specs.declared.Device.{Device}
use Rattle.board_rules.specs.Runs.{device_at}
use Rattle.host.proofs.Calls.{Bytes}
use Rattle.host.proofs.Calls as host
use Rattle.host.proofs.Bytes.{Locals, env, behind, stands}
use Rattle.host.proofs.Again.{reborrow, Lending}
use Rattle.board_walks.proofs.Calls.{size, board_ref, room_ref, at}
use Rattle.board_walks.proofs.Entry.{Loan, lent_room}
use Rattle.board_walks.proofs.Slots.{Blocks, SlotsStand, slots}
use Rattle.board_walks.proofs.Hands.{handing, product, hands}

-- the locals of a call: the answer, the board, the room, n bytes, and those behind them
abbrev pub framed : Width → (a lo lr n : ℕ) → Bytes n → Locals → Locals
framed w a lo lr n ks F = (ty_int w, a) ∷ (board_ref, lo) ∷ (room_ref, lr) ∷ env n ks F

-- for each of m channels an answer, a pointer and a reference; then others
abbrev pub threes : ℕ → List Ty → List Ty
threes zero τs = τs
threes (suc m) τs = ty_int w16 ∷ ty_ptr ∷ reborrow ∷ threes m τs

-- g on the m channels from c on; their locals stand from place j on behind n bytes
abbrev pub sweeping : (n : ℕ) → Name → (j c m : ℕ) → Code → Code
sweeping n g j c zero rest = rest
sweeping n g j c (suc m) rest = handing (at n (suc j)) (int w64 (c * size)) (at n (suc (suc j))) g 0 0 (at n j) (sweeping n g (suc (suc (suc j))) (suc c) m rest)

-- the room after it, and the answers
module _ (P : host.Promise 0) where
  abbrev pub swept : (m c : ℕ) → List Device → List Device
  swept zero c ys = ys
  swept (suc m) c ys = swept m (suc c) (set ys c (P.leaves (device_at ys c) tt))

  abbrev pub told : (m c : ℕ) → List Device → Bytes m
  told zero c ys = tt
  told (suc m) c ys = (P.answers (device_at ys c) tt, told m (suc c) (set ys c (P.leaves (device_at ys c) tt)))

  pub swept_length : (m c : ℕ) (ys : List Device) → length (swept m c ys) ≡ length ys
  swept_length zero c ys = refl
  swept_length (suc m) c ys = swept_length m (suc c) (set ys c (P.leaves (device_at ys c) tt)) ∙ length-set ys c (P.leaves (device_at ys c) tt)

-- numbers of 16 bits
abbrev pub Small : (m : ℕ) → Bytes m → Type 0
Small zero vs = Unit {0}
Small (suc m) vs = (vs.0 < 2 ^ 16) × Small m vs.1

module _ {M : Type 1} {𝓤 : Ura M} where
  -- the locals with their answers
  abbrev pub answered : (m : ℕ) (τs : List Ty) → Blocks (threes m τs) → Bytes m → Item 𝓤
  answered zero τs bs vs = slots τs bs
  answered (suc m) τs bs vs =
      (‵ (fat full_share (ty_int w16) bs.0 zero (vint w16 vs.0)) ⊛ ‵ (fdies (ty_int w16) bs.0))
      ⊛ ((‵ (froom ty_ptr bs.1.0 zero) ⊛ ‵ (fdies ty_ptr bs.1.0))
      ⊛ ((‵ (froom reborrow bs.1.1.0 zero) ⊛ ‵ (fdies reborrow bs.1.1.0))
      ⊛ answered m τs bs.1.1.1 vs.1))

module _ {M : Type 1} {𝓤 : Ura M} (𝓛 : Logic 𝓤) where
  -- the answers are forgotten
  open 𝓛 use {H}

  pub unanswered : (m : ℕ) (τs : List Ty) (bs : Blocks (threes m τs)) (vs : Bytes m) {Γ : List (Item 𝓤)} {g : Goal 𝓤 H} → Seq (Go {0}) 𝓛 (slots (threes m τs) bs ∷ Γ) g → Seq (Go {0}) 𝓛 (answered m τs bs vs ∷ Γ) g
  unanswered zero τs bs vs s = s
  unanswered (suc m) τs bs vs s =
      -- [the answer; its end; the pointer; the reference; the others; …]
      split ! $ split ! $ forget ! 0 refl $ move ! (2 ∷ []) $ split ! $ move ! (1 ∷ []) $ split ! $ move ! (1 ∷ []) $
      unanswered m τs bs.1.1.1 vs.1 (move ! (1 ∷ 0 ∷ []) $ join ! $ move ! (1 ∷ 0 ∷ []) $ join ! $ move ! (1 ∷ 2 ∷ []) $ join ! $ join ! $ s)

  module _ (L : Loan) (P : host.Promise 0) (w : Width) (a lo lr n : ℕ) (ks : Bytes n) (F : Locals) (N len : ℕ) (bounded : N * size < 2 ^ 63) where
    abbrev E : Env 𝓤 H
    E = framed w a lo lr n ks F

    abbrev with_room : Item 𝓤
    with_room = ‵ (fat full_share room_ref lr zero (slice_val (L.b, L.o) len))

    within : (c m k : ℕ) → k ≡ N → c + suc m ≤ N → c < k
    within c m k e l = omega (arith, e, l)

    next : (c m : ℕ) → c + suc m ≤ N → suc c + m ≤ N
    next c m l = omega (arith, l)

    fits : (c m : ℕ) → c + suc m ≤ N → T (ltb (c * size) (2 ^ 64))
    fits c m l = subst T (sym (lt-ltb _ _ (product c N size (within c m N refl l) bounded))) tt

    pub sweeps : (m c j : ℕ) (τs : List Ty) (bs : Blocks (threes m τs)) (ys : List Device) {C : Calls 𝓤 H} {Λ : Loops 𝓤 H} {p : Post 𝓤 H} {Γ : List (Item 𝓤)} {g : Name} {rest : Code}
        → SlotsStand F j (threes m τs) bs → FmC 𝓤 H 𝓛.laws C → Triple 𝓤 (C g) (Lending 𝓛 0 P) → length ys ≡ N → c + m ≤ N
        → (Small m (told P m c ys) → Seq (Go {0}) 𝓛 (lent_room L (swept P m c ys) (with_room ∷ answered m τs bs (told P m c ys) ∷ Γ)) (runs C Λ E rest p))
        → Seq (Go {0}) 𝓛 (lent_room L ys (with_room ∷ slots (threes m τs) bs ∷ Γ)) (runs C Λ E (sweeping n g j c m rest) p)
    sweeps zero c j τs bs ys stand fm known e l k = k tt
    sweeps (suc m) c j τs bs ys stand fm known e l k =
        let y = bs.0 in
        let q = bs.1.0 in
        let r = bs.1.1.0 in
        let d = P.leaves (device_at ys c) tt in
        move ! (4 ∷ []) $ split ! $ split ! $ move ! (2 ∷ []) $ split ! $ split ! $ move ! (2 ∷ []) $ split ! $ split ! $ nothing ! $
        -- [nothing; the reference; its end; the others; the pointer; its end; the answer; its end; the room, thrice; its local; …]
        move ! (8 ∷ 9 ∷ 10 ∷ 4 ∷ 1 ∷ 6 ∷ 11 ∷ 0 ∷ []) $
        hands 𝓛 L 0 P ys c len tt lr q r y tt 0 (stands 𝓛 E 2 room_ref lr refl) (stands 𝓛 E (at n (suc j)) ty_ptr q (behind n ks F (suc j) ty_ptr q stand.1.0))
        (stands 𝓛 E (at n (suc (suc j))) reborrow r (behind n ks F (suc (suc j)) reborrow r stand.1.1.0)) (stands 𝓛 E (at n j) (ty_int w16) y (behind n ks F j (ty_int w16) y stand.0))
        tt fm known tt (within c m (length ys) e l) (lit ! (fits c m l)) (λ small.
        -- [the room, thrice; the pointer; the reference; the answer; the room's local; nothing; the reference's end; the others; the pointer's end; the answer's end; …]
        move ! (7 ∷ []) $ drop ! $ move ! (0 ∷ 1 ∷ 2 ∷ 6 ∷ 8 ∷ []) $
        sweeps m (suc c) (suc (suc (suc j))) τs bs.1.1.1 (set ys c d) stand.1.1.1 fm known (length-set ys c d ∙ e) (next c m l) (λ others.
        -- [the room, thrice; its local; the others; the pointer; the reference; the answer; the ends of the reference, the pointer and the answer; …]
        move ! (6 ∷ 8 ∷ []) $ join ! $ move ! (0 ∷ 5 ∷ []) $ join ! $ move ! (5 ∷ 7 ∷ []) $ join ! $ join ! $ move ! (5 ∷ 6 ∷ []) $ join ! $ join ! $
        move ! (1 ∷ 2 ∷ 3 ∷ 4 ∷ 0 ∷ []) $ k (small, others)))
