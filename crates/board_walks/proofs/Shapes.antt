-- The shapes of a call on a lent board and room, each over any plan, any call of the chip and any summary, with any number of bytes: it is about one
-- channel and answers as the chip does (`meets_straight`) or 256 times that (`meets_raised`); it is about all channels, with an answer of 16 bits (`meets_whole`)
-- or of 32 (`meets_wide`); or about one or all (`meets_either`). What each promises is what its plan, the chip's call and the summary come to. All that is known of those is their contracts.
-- Assumes nothing.
use mathlib.Core.Path.{◌≡◌, refl, ◌∙◌}
use Prim.Native.Nat.{ℕ, suc, ◌<◌, ◌≤◌, ◌^◌, ◌*◌}
use mathlib.Core.Bool.{Bool, true, false, not}
use mathlib.Core.List.{[], ◌∷◌, List}
use native.Mathlib.Omega.{arith}
use lib.Dec.{T}
use lib.ListN.{length, set, length-set}
use seplogic.Ra.Ura.{Ura}
use mir.Syntax.{Width, Callee as Name, Fn, Ty, w16, w32, field, place, copy, rv_opd, Body as Code, skip, seq, assign, cond, call, return}
use mir.Val.{Val, vint, bits}
use base.Logic.{SProp, ent}
use prog.Wp.{Calls, Loops, WpFn, Tables}
use types.Logic.{Logic}
use types.Kit.{Item, Post, Go, Seq, runs, ⋆, ◌$◌, !, move, split, join}
use types.Run.{look, init, store, forget, stop, fld, load, of_opd, assigns, returns, returns_within}
use types.Part.{whole, sub, look_in}
use sound.WpLaws.{FmC, fm_of}
use denote.Slice.{Room}
use denote.Struct.Laws as LL
use denote.Triple.Statement.{Triple}
use denote.Triple.Spec.{Meets}
use denote.Triple.Clauses.{closing}
use Rattle.ins2651_rules.specs.declared.Device.{Device}
use Rattle.ins2651_rules.specs.contracts.Device as D
use Rattle.board_rules.specs.declared.Board.{Board}
use Rattle.board_rules.specs.contracts.Board as B
use Rattle.board_rules.proofs.Board.TheLaws as B'
use Rattle.board_rules.specs.Runs.{device_at}
use Rattle.board_walks.specs.declared.Plan.{Plan}
use Rattle.lending.proofs.Early.{early, holds, fails}
use Rattle.host.proofs.Calls.{Bytes, past, copies}
use Rattle.host.proofs.Calls as host
use Rattle.host.proofs.Bytes.{Fit}
use Rattle.host.proofs.Again.{Lending}
use Rattle.board_walks.proofs.Calls.{size, Parts, Plans, Planning, Summaries, Summing, on_board, Promise, Says, OnBoard, at, function}
use Rattle.board_walks.proofs.Entry.{Loan, lent, Walk, meets_by}
use Rattle.board_walks.proofs.Slots.{Blocks, SlotsStand, slots}
use Rattle.board_walks.proofs.Sweep.{threes, sweeping, swept, told, swept_length, sweeps, unanswered}
use Rattle.board_walks.proofs.Begins.{Places, behind_bytes, locals, others_stand, behind_at, at_answer, at_plan, at_test, core, no_answer, the_answer, lets_go, planned, early_returning, begins}
use Rattle.board_walks.proofs.Raises.{Raising, answering_wide, StopsWide, stops_wide}
use Rattle.board_walks.proofs.Sums.{every_third, sums}
use Rattle.board_walks.proofs.Turns.{lasts, three, branch, four, straight_on, branched_on, raised_on, straight, branched, raised}

-- == where a plan ends ==

-- its answer is the call's
abbrev pub answering : ℕ → Code
answering n = seq (assign (place 0 []) (rv_opd (copy (place (at n 0) (field 0 ∷ []))))) return

-- what the plan says is what is promised
abbrev pub Stops : (n : ℕ) → Plans n → Promise n → Type 0
Stops n S Q = (d : Board) (ys : List Device) (xs : Bytes n) → (S d (length ys) xs).ends ≡ true → Says n Q d ys xs (S d (length ys) xs).answer (S d (length ys) xs).board ys

-- == all channels in turn ==

-- the plan's board in local j of those behind the bytes, and the channels' locals behind it
abbrev pub whole_room : (n : ℕ) → Name → Name → (j m : ℕ) → Code
whole_room n g h j m =
    seq (assign (place (at n j) []) (rv_opd (copy (place (at n 0) (field 2 ∷ [])))))
    (sweeping n g (suc j) 0 m (seq (call h (copy (place (at n j) []) ∷ every_third n (suc j) m (copies 3 n)) (place 0 [])) return))

abbrev pub board_and_threes : ℕ → List Ty
board_and_threes m = B'.mir ∷ threes m []

module _ {M : Type 1} {𝓤 : Ura M} (𝓛 : Logic 𝓤) (L : Loan) (w : Width) (n : ℕ) (P : host.Promise 0) (m : ℕ) (F : Summaries m n) (d d' : Board) (s : Plan) (ys : List Device) (xs : Bytes n) where
  open 𝓛 use {H}

  abbrev answers : Bytes m
  answers = told P m 0 ys

  abbrev sum : ℕ
  sum = F s.board answers xs

  pub all_in_turn : (σs : List Ty) (p : Places n σs) (j c : ℕ) (t : Bool) (bs : Blocks (board_and_threes m)) {C : Calls 𝓤 H} {Λ : Loops 𝓤 H} {q : Post 𝓤 H} {Γ : List (Item 𝓤)} {g h : Name}
      → SlotsStand (behind_bytes w n σs p) j (board_and_threes m) bs → FmC 𝓤 H 𝓛.laws C → Triple 𝓤 (C g) (Lending 𝓛 0 P) → Triple 𝓤 (C h) (Summing 𝓛 w m n F)
      → Parts s → Fit n xs → Room D.the_row (length ys) → m ≤ length ys
      → (sum < 2 ^ bits w
      → Seq (Go {0}) 𝓛 (slots (board_and_threes m) bs ∷ core L w n σs p d xs s (length ys) d' (swept P m 0 ys) (the_answer L w n σs p d xs s (length ys) sum) c t Γ) (runs C Λ (locals w n σs p) return q))
      → Seq (Go {0}) 𝓛 (slots (board_and_threes m) bs ∷ core L w n σs p d xs s (length ys) d' ys (no_answer L w n σs p d xs s (length ys)) c t Γ) (runs C Λ (locals w n σs p) (whole_room n g h j m) q)
  all_in_turn σs p j c t bs stand fm known sums-up of fits room enough cont =
      split ! $ split ! $
      -- [the plan's board; its end; the channels' locals; the board, thrice; the room, thrice; the answer; the board's local; the room's; the bytes; the plan; the copy; the count; the board stored; the test; …]
      assigns ! (of_opd ! (load ! (at_plan 𝓛 w n σs p _ _ _ (fld ! refl (stop !))) (look_in ! 13 (sub ! 2 refl (whole !))))) (behind_at 𝓛 w n σs p j B'.mir bs.0 stand.0 _ _ _ (stop !))
      (init ! 0 refl ((LL.lawful B.the_type B'.the_laws 𝓛).typed s.board _ of.board).0) $
      move ! (6 ∷ 7 ∷ 8 ∷ 11 ∷ 2 ∷ []) $
      sweeps 𝓛 L P w p.answer p.board p.room n p.given (behind_bytes w n σs p) (length ys) (length ys) room.1 m 0 (suc j) [] bs.1 ys stand.1 fm known refl (omega (arith, enough)) (λ small.
      move ! (4 ∷ 5 ∷ 12 ∷ 10 ∷ []) $
      sums 𝓛 w n σs p xs m (suc j) [] bs.1 answers F s j bs.0 stand.0 stand.1 fm sums-up of small fits (λ fit.
      unanswered 𝓛 m [] bs.1 answers (forget ! 1 refl $ move ! (1 ∷ 8 ∷ []) $ join ! $ join ! $
      move ! (0 ∷ 7 ∷ 8 ∷ 9 ∷ 3 ∷ 4 ∷ 5 ∷ 2 ∷ 10 ∷ 6 ∷ 1 ∷ 11 ∷ 12 ∷ 13 ∷ 14 ∷ 15 ∷ []) $ cont fit)))

-- == the shapes ==

-- one channel, and the chip's answer times u
pub record Single (l k u : ℕ) (S : Plans (past l k)) (P : host.Promise k) (Q : Promise (past l k)) (chosen : Plan → Bool) : Type 0 where
  pub inside : (d : Board) (ys : List Device) (xs : Bytes (past l k)) → (S d (length ys) xs).ends ≡ false → chosen (S d (length ys) xs) ≡ true → (S d (length ys) xs).channel < length ys
  pub says : (d : Board) (ys : List Device) (xs : Bytes (past l k)) → (S d (length ys) xs).ends ≡ false → chosen (S d (length ys) xs) ≡ true
      → let s = S d (length ys) xs in let h = device_at ys s.channel in
      Says (past l k) Q d ys xs (P.answers h (lasts l k xs) * u) s.board (set ys s.channel (P.leaves h (lasts l k xs)))

-- all channels, and their summary
pub record Whole (n m : ℕ) (S : Plans n) (P : host.Promise 0) (F : Summaries m n) (Q : Promise n) (chosen : Plan → Bool) : Type 0 where
  pub enough : (d : Board) (ys : List Device) (xs : Bytes n) → (S d (length ys) xs).ends ≡ false → chosen (S d (length ys) xs) ≡ true → m ≤ length ys
  pub says : (d : Board) (ys : List Device) (xs : Bytes n) → (S d (length ys) xs).ends ≡ false → chosen (S d (length ys) xs) ≡ true
      → Says n Q d ys xs (F (S d (length ys) xs).board (told P m 0 ys) xs) (S d (length ys) xs).board (swept P m 0 ys)

times_one : (n : ℕ) (Q : Promise n) {d : Board} {ys : List Device} {xs : Bytes n} {d' : Board} {zs : List Device} (r : ℕ) → Says n Q d ys xs (r * 1) d' zs → Says n Q d ys xs r d' zs
times_one n Q r said = (once r ∙ said.0, said.1)
  where
    once : (r : ℕ) → r ≡ r * 1
    once r = omega arith

abbrev pub always : Plan → Bool
always s = true

module _ {M : Type 1} {𝓤 : Ura M} (𝓛 : Logic 𝓤) (n : ℕ) (S : Plans n) (Q : Promise n) (stops : Stops n S Q) (𝓣 : Tables 𝓤 𝓛.H) (f : Name)
    (plans : Triple 𝓤 (𝓣.C f) (Planning 𝓛 n S)) where
  -- the branch that ends with the plan's answer
  stops_short : (τs : List Ty) (rest : Code) (L : Loan) (d : Board) (ys : List Device) (xs : Bytes n) (room : Room D.the_row (length ys)) (fits : Fit n xs) (K : Val → SProp 𝓤)
      → ((r : ℕ) (d' : Board) (zs : List Device) → length zs ≡ length ys → Says n Q d ys xs r d' zs → r < 2 ^ 16 → ent 𝓤 (⋆ 𝓛 (lent L d' zs)) (K (vint w16 r)))
      → (p : Places n τs) → Parts (S d (length ys) xs) → T (S d (length ys) xs).ends
      → Seq (Go {0}) 𝓛 (planned 𝓛 w16 n S 𝓣 f plans τs (answering n) rest L d ys xs room fits K p)
      (runs 𝓣.C 𝓣.Λ (locals w16 n τs p) (answering n) (early_returning 𝓛 w16 n S 𝓣 f plans τs (answering n) rest L d ys xs room fits K p))
  stops_short τs rest L d ys xs room fits K ends p of over =
      assigns ! (of_opd ! (load ! (at_plan 𝓛 w16 n τs p _ _ _ (fld ! refl (stop !))) (look_in ! 10 (sub ! 0 refl (whole !))))) (at_answer 𝓛 w16 n τs p _ _ _ (stop !)) (init ! 6 refl (tt, record { fits = of.answer })) $
      returns_within ! K {r = vint w16 (S d (length ys) xs).answer} refl (look ! 6 refl) $
      lets_go 𝓛 L w16 n τs d xs (S d (length ys) xs) (length ys) p (S d (length ys) xs).board ys (S d (length ys) xs).answer (length ys) (S d (length ys) xs).ends
      (ends (S d (length ys) xs).answer (S d (length ys) xs).board ys refl (stops d ys xs (holds _ over)) of.answer)

-- about one channel
module _ {M : Type 1} {𝓤 : Ura M} (𝓛 : Logic 𝓤) (l k : ℕ) (S : Plans (past l k)) (P : host.Promise k) (Q : Promise (past l k)) (stops : Stops (past l k) S Q) (𝓣 : Tables 𝓤 𝓛.H)
    (f g : Name) (plans : Triple 𝓤 (𝓣.C f) (Planning 𝓛 (past l k) S)) (acts : Triple 𝓤 (𝓣.C g) (Lending 𝓛 k P)) where
  open 𝓛 use {H}

  abbrev n : ℕ
  n = past l k

  abbrev straight_fn : Fn
  straight_fn = function w16 n f (answering n) three (straight_on l k g)

  abbrev raised_fn : Fn
  raised_fn = function w16 n f (answering n) four (raised_on l k g)

  walk_straight : Single l k 1 S P Q always → Walk 𝓛 w16 n Q 𝓣 straight_fn
  walk_straight single L d ys xs room fits K ends =
      let s : Plan = S d (length ys) xs in
      begins 𝓛 w16 n S 𝓣 f plans three (answering n) (straight_on l k g) L d ys xs room fits K (stops_short 𝓛 n S Q stops 𝓣 f plans three (straight_on l k g) L d ys xs room fits K ends)
      (λ p of on. straight 𝓛 L l k P d s.board s ys xs s.ends p (fm_of 𝓤 H 𝓛.laws 𝓣) acts fits room (single.inside d ys xs (fails _ on) refl) (λ fit.
      returns ! {r = vint w16 (P.answers (device_at ys s.channel) (lasts l k xs))} (look ! 6 refl) $
      lets_go 𝓛 L w16 n three d xs s (length ys) p s.board (set ys s.channel (P.leaves (device_at ys s.channel) (lasts l k xs))) (P.answers (device_at ys s.channel) (lasts l k xs)) (s.channel * size) s.ends
      (ends _ _ _ (length-set ys s.channel _) (times_one n Q (P.answers (device_at ys s.channel) (lasts l k xs)) (single.says d ys xs (fails _ on) refl)) fit)))

  walk_raised : Single l k 256 S P Q always → ((d : Device) (xs : Bytes k) → P.answers d xs < 256) → Walk 𝓛 w16 n Q 𝓣 raised_fn
  walk_raised single small L d ys xs room fits K ends =
      let s : Plan = S d (length ys) xs in
      let r : ℕ = P.answers (device_at ys s.channel) (lasts l k xs) in
      let fit : r * 256 < 2 ^ 16 = omega (arith, small (device_at ys s.channel) (lasts l k xs)) in
      begins 𝓛 w16 n S 𝓣 f plans four (answering n) (raised_on l k g) L d ys xs room fits K (stops_short 𝓛 n S Q stops 𝓣 f plans four (raised_on l k g) L d ys xs room fits K ends)
      (λ p of on. raised 𝓛 L l k P d s.board s ys xs s.ends p (fm_of 𝓤 H 𝓛.laws 𝓣) acts fits room (single.inside d ys xs (fails _ on) refl) fit (
      returns ! {r = vint w16 (r * 256)} (look ! 6 refl) $
      lets_go 𝓛 L w16 n four d xs s (length ys) p s.board (set ys s.channel (P.leaves (device_at ys s.channel) (lasts l k xs))) (r * 256) (s.channel * size) s.ends
      (ends _ _ _ (length-set ys s.channel _) (single.says d ys xs (fails _ on) refl) fit)))

  pub meets_straight : Single l k 1 S P Q always → Meets 𝓛 (on_board w16 n).signature (WpFn 𝓤 H 𝓣.C 𝓣.Λ straight_fn) (closing 𝓛 (on_board w16 n) (OnBoard 𝓤 w16 n Q))
  meets_straight single = meets_by 𝓛 w16 n Q 𝓣 straight_fn (walk_straight single)

  pub meets_raised : Single l k 256 S P Q always → ((d : Device) (xs : Bytes k) → P.answers d xs < 256)
      → Meets 𝓛 (on_board w16 n).signature (WpFn 𝓤 H 𝓣.C 𝓣.Λ raised_fn) (closing 𝓛 (on_board w16 n) (OnBoard 𝓤 w16 n Q))
  meets_raised single small = meets_by 𝓛 w16 n Q 𝓣 raised_fn (walk_raised single small)

-- about all channels: the early branch is given, since an answer of 32 bits ends otherwise
module _ {M : Type 1} {𝓤 : Ura M} (𝓛 : Logic 𝓤) (w : Width) (n m : ℕ) (S : Plans n) (P : host.Promise 0) (F : Summaries m n) (Q : Promise n) (sweep : Whole n m S P F Q always) (𝓣 : Tables 𝓤 𝓛.H)
    (f g h : Name) (plans : Triple 𝓤 (𝓣.C f) (Planning 𝓛 n S)) (acts : Triple 𝓤 (𝓣.C g) (Lending 𝓛 0 P)) (sums-up : Triple 𝓤 (𝓣.C h) (Summing 𝓛 w m n F)) (stop-code : Code) where
  open 𝓛 use {H}

  abbrev whole_fn : Fn
  whole_fn = function w n f stop-code (board_and_threes m) (whole_room n g h 5 m)

  abbrev Stopping : Type 2
  Stopping = (L : Loan) (d : Board) (ys : List Device) (xs : Bytes n) (room : Room D.the_row (length ys)) (fits : Fit n xs) (K : Val → SProp 𝓤)
      → ((r : ℕ) (d' : Board) (zs : List Device) → length zs ≡ length ys → Says n Q d ys xs r d' zs → r < 2 ^ bits w → ent 𝓤 (⋆ 𝓛 (lent L d' zs)) (K (vint w r)))
      → (p : Places n (board_and_threes m)) → Parts (S d (length ys) xs) → T (S d (length ys) xs).ends
      → Seq (Go {0}) 𝓛 (planned 𝓛 w n S 𝓣 f plans (board_and_threes m) stop-code (whole_room n g h 5 m) L d ys xs room fits K p)
      (runs 𝓣.C 𝓣.Λ (locals w n (board_and_threes m) p) stop-code (early_returning 𝓛 w n S 𝓣 f plans (board_and_threes m) stop-code (whole_room n g h 5 m) L d ys xs room fits K p))

  walk_whole : Stopping → Walk 𝓛 w n Q 𝓣 whole_fn
  walk_whole stopping L d ys xs room fits K ends =
      let s : Plan = S d (length ys) xs in
      begins 𝓛 w n S 𝓣 f plans (board_and_threes m) stop-code (whole_room n g h 5 m) L d ys xs room fits K (stopping L d ys xs room fits K ends)
      (λ p of on. move ! (15 ∷ []) $
      all_in_turn 𝓛 L w n P m F d s.board s ys xs (board_and_threes m) p 5 (length ys) s.ends p.others (others_stand w n (board_and_threes m) p) (fm_of 𝓤 H 𝓛.laws 𝓣) acts sums-up of fits room (sweep.enough d ys xs (fails _ on) refl) (λ fit.
      move ! (1 ∷ 2 ∷ 3 ∷ 4 ∷ 5 ∷ 6 ∷ 7 ∷ 8 ∷ 9 ∷ 10 ∷ 11 ∷ 12 ∷ 13 ∷ 14 ∷ 15 ∷ 0 ∷ []) $
      returns ! {r = vint w (F s.board (told P m 0 ys) xs)} (look ! 6 refl) $
      lets_go 𝓛 L w n (board_and_threes m) d xs s (length ys) p s.board (swept P m 0 ys) (F s.board (told P m 0 ys) xs) (length ys) s.ends
      (ends _ _ _ (swept_length P m 0 ys) (sweep.says d ys xs (fails _ on) refl) fit)))

  pub meets_whole_by : Stopping → Meets 𝓛 (on_board w n).signature (WpFn 𝓤 H 𝓣.C 𝓣.Λ whole_fn) (closing 𝓛 (on_board w n) (OnBoard 𝓤 w n Q))
  meets_whole_by stopping = meets_by 𝓛 w n Q 𝓣 whole_fn (walk_whole stopping)

-- with an answer of 16 bits
pub meets_whole : {M : Type 1} {𝓤 : Ura M} (𝓛 : Logic 𝓤) (n m : ℕ) (S : Plans n) (P : host.Promise 0) (F : Summaries m n) (Q : Promise n) → Stops n S Q → Whole n m S P F Q always → (𝓣 : Tables 𝓤 𝓛.H)
    (f g h : Name) → Triple 𝓤 (𝓣.C f) (Planning 𝓛 n S) → Triple 𝓤 (𝓣.C g) (Lending 𝓛 0 P) → Triple 𝓤 (𝓣.C h) (Summing 𝓛 w16 m n F)
    → Meets 𝓛 (on_board w16 n).signature (WpFn 𝓤 𝓛.H 𝓣.C 𝓣.Λ (function w16 n f (answering n) (board_and_threes m) (whole_room n g h 5 m))) (closing 𝓛 (on_board w16 n) (OnBoard 𝓤 w16 n Q))
meets_whole 𝓛 n m S P F Q stops sweep 𝓣 f g h plans acts sums-up =
    meets_whole_by 𝓛 w16 n m S P F Q sweep 𝓣 f g h plans acts sums-up (answering n) (stops_short 𝓛 n S Q stops 𝓣 f plans (board_and_threes m) (whole_room n g h 5 m))

-- about one channel where the plan is single, else about all
module _ {M : Type 1} {𝓤 : Ura M} (𝓛 : Logic 𝓤) (k m : ℕ) (S : Plans k) (P : host.Promise k) (R : host.Promise 0) (F : Summaries m k) (Q : Promise k) (stops : Stops k S Q)
    (single : Single 0 k 1 S P Q (λ s. s.single)) (sweep : Whole k m S R F Q (λ s. not s.single)) (𝓣 : Tables 𝓤 𝓛.H)
    (f g e h : Name) (plans : Triple 𝓤 (𝓣.C f) (Planning 𝓛 k S)) (acts : Triple 𝓤 (𝓣.C g) (Lending 𝓛 k P)) (looks : Triple 𝓤 (𝓣.C e) (Lending 𝓛 0 R)) (sums-up : Triple 𝓤 (𝓣.C h) (Summing 𝓛 w16 m k F)) where
  open 𝓛 use {H}

  abbrev all_locals : List Ty
  all_locals = branch (board_and_threes m)

  abbrev either_on : Code
  either_on =
      seq (assign (place (at k 4) []) (rv_opd (copy (place (at k 0) (field 4 ∷ [])))))
      (seq (cond (copy (place (at k 4) [])) (branched_on 0 k g) skip)
      (whole_room k e h 9 m))

  abbrev either_fn : Fn
  either_fn = function w16 k f (answering k) all_locals either_on

  walk_either : Walk 𝓛 w16 k Q 𝓣 either_fn
  walk_either L d ys xs room fits K ends =
      let s : Plan = S d (length ys) xs in
      begins 𝓛 w16 k S 𝓣 f plans all_locals (answering k) either_on L d ys xs room fits K (stops_short 𝓛 k S Q stops 𝓣 f plans all_locals either_on L d ys xs room fits K ends)
      (λ p of on.
      assigns ! (of_opd ! (load ! (at_plan 𝓛 w16 k all_locals p _ _ _ (fld ! refl (stop !))) (look_in ! 10 (sub ! 4 refl (whole !))))) (at_test 𝓛 w16 k all_locals p _ _ _ (stop !)) (store ! 14 refl (tt, tt)) $
      early ! (load ! (at_test 𝓛 w16 k all_locals p _ _ _ (stop !)) (look ! 14 refl))
      (λ one. branched 𝓛 L 0 k P d s.board s ys xs s.single (board_and_threes m) p (fm_of 𝓤 H 𝓛.laws 𝓣) acts fits room (single.inside d ys xs (fails _ on) (holds _ one)) (λ fit.
      returns_within ! K {r = vint w16 (P.answers (device_at ys s.channel) xs)} refl (look ! 6 refl) $
      lets_go 𝓛 L w16 k all_locals d xs s (length ys) p s.board (set ys s.channel (P.leaves (device_at ys s.channel) xs)) (P.answers (device_at ys s.channel) xs) (length ys) s.single
      (ends _ _ _ (length-set ys s.channel _) (times_one k Q (P.answers (device_at ys s.channel) xs) (single.says d ys xs (fails _ on) (holds _ one))) fit)))
      (λ all. move ! (15 ∷ []) $ split ! $ move ! (1 ∷ []) $ split ! $ move ! (1 ∷ []) $ split ! $ move ! (1 ∷ []) $ split ! $
      -- [the reference; the locals; the pointer; where it lies; the number; the board, thrice; ..; the test; …]
      move ! (1 ∷ 5 ∷ 6 ∷ 7 ∷ 8 ∷ 9 ∷ 10 ∷ 11 ∷ 12 ∷ 13 ∷ 14 ∷ 15 ∷ 16 ∷ 17 ∷ 18 ∷ 19 ∷ 0 ∷ 2 ∷ 3 ∷ 4 ∷ []) $
      all_in_turn 𝓛 L w16 k R m F d s.board s ys xs all_locals p 9 (length ys) s.single p.others.1.1.1.1 (others_stand w16 k all_locals p).1.1.1.1 (fm_of 𝓤 H 𝓛.laws 𝓣) looks sums-up of fits room
      (sweep.enough d ys xs (fails _ on) (holds _ all)) (λ fit.
      -- [the locals; the board, thrice; ..; the test; the reference; the pointer; where it lies; the number; …]
      move ! (16 ∷ 0 ∷ []) $ join ! $ move ! (16 ∷ 0 ∷ []) $ join ! $ move ! (16 ∷ 0 ∷ []) $ join ! $ move ! (16 ∷ 0 ∷ []) $ join ! $
      move ! (1 ∷ 2 ∷ 3 ∷ 4 ∷ 5 ∷ 6 ∷ 7 ∷ 8 ∷ 9 ∷ 10 ∷ 11 ∷ 12 ∷ 13 ∷ 14 ∷ 15 ∷ 0 ∷ []) $
      returns ! {r = vint w16 (F s.board (told R m 0 ys) xs)} (look ! 6 refl) $
      lets_go 𝓛 L w16 k all_locals d xs s (length ys) p s.board (swept R m 0 ys) (F s.board (told R m 0 ys) xs) (length ys) s.single
      (ends _ _ _ (swept_length R m 0 ys) (sweep.says d ys xs (fails _ on) (holds _ all)) fit))))

  pub meets_either : Meets 𝓛 (on_board w16 k).signature (WpFn 𝓤 H 𝓣.C 𝓣.Λ either_fn) (closing 𝓛 (on_board w16 k) (OnBoard 𝓤 w16 k Q))
  meets_either = meets_by 𝓛 w16 k Q 𝓣 either_fn walk_either

-- about all channels, with an answer of 32 bits
pub meets_wide : {M : Type 1} {𝓤 : Ura M} (𝓛 : Logic 𝓤) (n m : ℕ) (S : Plans n) (P : host.Promise 0) (F : Summaries m n) (G : ℕ → ℕ) (Q : Promise n) → StopsWide n S G Q → Whole n m S P F Q always
    → (𝓣 : Tables 𝓤 𝓛.H) (f g h e : Name) → Triple 𝓤 (𝓣.C f) (Planning 𝓛 n S) → Triple 𝓤 (𝓣.C g) (Lending 𝓛 0 P) → Triple 𝓤 (𝓣.C h) (Summing 𝓛 w32 m n F) → Triple 𝓤 (𝓣.C e) (Raising 𝓛 G)
    → Meets 𝓛 (on_board w32 n).signature (WpFn 𝓤 𝓛.H 𝓣.C 𝓣.Λ (function w32 n f (answering_wide n e) (board_and_threes m) (whole_room n g h 5 m))) (closing 𝓛 (on_board w32 n) (OnBoard 𝓤 w32 n Q))
meets_wide 𝓛 n m S P F G Q stops sweep 𝓣 f g h e plans acts sums-up raises =
    meets_whole_by 𝓛 w32 n m S P F Q sweep 𝓣 f g h plans acts sums-up (answering_wide n e) (stops_wide 𝓛 n S G Q stops 𝓣 f e plans raises (board_and_threes m) (whole_room n g h 5 m))
