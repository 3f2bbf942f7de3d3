-- How every call on a lent board and room begins and ends (`begins`, `lets_go`): the board is copied out, the plan is made from it, the count of channels and
-- the bytes, and the planned board is stored; at a return all locals are let go. What a call does between, and what it answers, is given to it.
-- Assumes nothing.
use mathlib.Core.Path.{◌≡◌, refl, ap, sym, subst, ◌∙◌}
use Prim.Native.Nat.{ℕ, zero}
use mathlib.Core.Bool.{Bool, not}
use mathlib.Core.List.{[], ◌∷◌, List}
use lib.Dec.{T}
use lib.ListN.{length}
use seplogic.Ra.Ura.{Ura}
use base.Fraction.{full_share}
use mir.Syntax.{Width, Callee as Name, Ty, ty_int, ty_bool, w64, Body as Code}
use mir.Val.{Val, vint, vbool, vptr}
use base.Logic.{SProp, ent, id⊢}
use base.Fml.{ftrue, fat, froom, fdies}
use prog.Wp.{Env, WpFn, Tables, after_seq, Wp}
use types.Logic.{Logic, sem}
use contract.Monad.{fact}
use types.Kit.{Item, Post, Go, Seq, runs, prop, frees, at_ret, any_q, post, ‵, raw, ◌⊛◌, ⋆, some, later, ◌$◌, ◌∵◌, !, qed, by, move, keep, drop, use0, use1, split, join, pick, frame, rewrite, await, done}
use types.Run.{Opds, look, look_raw, init, store_raw, forget, stop, hop, fld, load, and_then, of_opd, assigns, land, enter, alloc1, params1, pass1, free1}
use types.Part.{whole, sub, look_in}
use sound.WpLaws.{fm_of}
use denote.RattleType.{flat, owns}
use denote.Laws.{Is, shows}
use denote.Plain.{uint_Makes}
use denote.Builtin.{usize}
use denote.Slice.{slice_val, Room}
use denote.Signature.{types_at}
use denote.Steps.{opens, closes, owned, peeks, heard, nothing, only}
use denote.Struct.Steps.{spelt}
use denote.Struct.Laws as LL
use denote.Triple.Statement.{Triple}
use denote.Triple.Call.{calls_at}
use denote.Triple.Clauses.{ensured}
use Rattle.ins2651_rules.specs.declared.Device.{Device}
use Rattle.ins2651_rules.specs.contracts.Device as D
use Rattle.board_rules.specs.declared.Board.{Board}
use Rattle.board_rules.specs.contracts.Board as B
use Rattle.board_rules.proofs.Board.TheLaws as B'
use Rattle.board_walks.specs.declared.Plan.{Plan}
use Rattle.board_walks.specs.contracts.Plan as P
use Rattle.board_walks.proofs.Plan.TheLaws as P'
use Rattle.lending.proofs.Early.{early}
use Rattle.host.proofs.Calls.{Bytes, bytes, numbers, copies}
use Rattle.host.proofs.Bytes.{At, Fit, values, denots, spelled, numbers_are, spelled_are, own_bytes, env, Locals, AllStand, further, all_stand, behind, stands, cells, Stands, alloc_bytes, pass_bytes, free_bytes, carried, read_bytes}
use Rattle.board_walks.proofs.Calls.{board_vals, board_val, plan_val, board_ref, room_ref, Parts, parts, Plans, planning, PlanClauses, Planning, plan_of, decided, at, function}
use Rattle.board_walks.proofs.Entry.{Loan, lent_board, lent_room, lent}
use Rattle.board_walks.proofs.Slots.{Blocks, placed, SlotsStand, slots_further, slots_stand, slots, alloc_slots, free_slots}
use Rattle.board_walks.proofs.Sweep.{framed}

-- bytes as arguments of a call by value
pub read_given : {M : Type 1} {𝓤 : Ura M} (𝓛 : Logic 𝓤) (n : ℕ) (ks xs : Bytes n) (Γ : List (Item 𝓤)) (E : Env 𝓤 𝓛.H) (i : ℕ) → AllStand E i n ks
    → Opds (Go {0}) 𝓛 (cells n ks xs ∷ Γ) E (copies i n) (flat (types_at (bytes 0 n) tt) (spelled 0 n tt xs))
read_given 𝓛 n ks xs Γ E i stand = subst (λ (us : List Val). Opds (Go {0}) 𝓛 (cells n ks xs ∷ Γ) E (copies i n) us) (sym (spelled_are 0 n tt xs)) (read_bytes 𝓛 n ks xs Γ E i stand)

-- the blocks of a call's locals: the answer, the board, the room, the bytes, the plan, the board's copy, the count, the plan's board, the test, and the others
pub record Places (n : ℕ) (τs : List Ty) : Type 0 where
  pub answer : ℕ
  pub board : ℕ
  pub room : ℕ
  pub given : Bytes n
  pub plan : ℕ
  pub image : ℕ
  pub count : ℕ
  pub stored : ℕ
  pub test : ℕ
  pub others : Blocks τs

module _ (w : Width) (n : ℕ) (τs : List Ty) (p : Places n τs) where
  abbrev pub behind_bytes : Locals
  behind_bytes = (P'.mir, p.plan) ∷ (B'.mir, p.image) ∷ (ty_int w64, p.count) ∷ (B'.mir, p.stored) ∷ (ty_bool, p.test) ∷ placed τs p.others

  abbrev pub locals : Locals
  locals = framed w p.answer p.board p.room n p.given behind_bytes

  pub others_stand : SlotsStand behind_bytes 5 τs p.others
  others_stand =
      slots_further τs p.others (P'.mir, p.plan) ((B'.mir, p.image) ∷ (ty_int w64, p.count) ∷ (B'.mir, p.stored) ∷ (ty_bool, p.test) ∷ placed τs p.others) 4
      (slots_further τs p.others (B'.mir, p.image) ((ty_int w64, p.count) ∷ (B'.mir, p.stored) ∷ (ty_bool, p.test) ∷ placed τs p.others) 3
      (slots_further τs p.others (ty_int w64, p.count) ((B'.mir, p.stored) ∷ (ty_bool, p.test) ∷ placed τs p.others) 2
      (slots_further τs p.others (B'.mir, p.stored) ((ty_bool, p.test) ∷ placed τs p.others) 1
      (slots_further τs p.others (ty_bool, p.test) (placed τs p.others) 0 (slots_stand τs p.others)))))

  pub given_stand : AllStand locals 3 n p.given
  given_stand =
      further n p.given (ty_int w, p.answer) ((board_ref, p.board) ∷ (room_ref, p.room) ∷ env n p.given behind_bytes) 2
      (further n p.given (board_ref, p.board) ((room_ref, p.room) ∷ env n p.given behind_bytes) 1
      (further n p.given (room_ref, p.room) (env n p.given behind_bytes) 0 (all_stand n p.given behind_bytes)))

module _ {M : Type 1} {𝓤 : Ura M} (𝓛 : Logic 𝓤) (w : Width) (n : ℕ) (τs : List Ty) (p : Places n τs) where
  -- the local at a place behind the bytes
  pub behind_at : (j : ℕ) (τ : Ty) (l : ℕ) → Stands (behind_bytes w n τs p) j τ l → At 𝓛 (locals w n τs p) (at n j) τ l
  behind_at j τ l s = stands 𝓛 (locals w n τs p) (at n j) τ l (behind n p.given (behind_bytes w n τs p) j τ l s)

  pub at_room : At 𝓛 (locals w n τs p) 2 room_ref p.room
  at_room = stands 𝓛 (locals w n τs p) 2 room_ref p.room refl

  pub at_answer : At 𝓛 (locals w n τs p) 0 (ty_int w) p.answer
  at_answer = stands 𝓛 (locals w n τs p) 0 (ty_int w) p.answer refl

  pub at_plan : At 𝓛 (locals w n τs p) (at n 0) P'.mir p.plan
  at_plan = behind_at 0 P'.mir p.plan refl

  pub at_count : At 𝓛 (locals w n τs p) (at n 2) (ty_int w64) p.count
  at_count = behind_at 2 (ty_int w64) p.count refl

  pub at_stored : At 𝓛 (locals w n τs p) (at n 3) B'.mir p.stored
  at_stored = behind_at 3 B'.mir p.stored refl

  pub at_test : At 𝓛 (locals w n τs p) (at n 4) ty_bool p.test
  at_test = behind_at 4 ty_bool p.test refl

module _ {M : Type 1} {𝓤 : Ura M} (L : Loan) (w : Width) (n : ℕ) (τs : List Ty) (p : Places n τs) (d : Board) (xs : Bytes n) (s : Plan) (len : ℕ) where
  -- the ends of the locals
  abbrev pub ending : List (Item 𝓤)
  ending =
      ‵ (fdies (ty_int w) p.answer) ∷ ‵ (fdies board_ref p.board) ∷ ‵ (fdies room_ref p.room) ∷ ‵ (fdies P'.mir p.plan) ∷ ‵ (fdies B'.mir p.image)
      ∷ ‵ (fdies (ty_int w64) p.count) ∷ ‵ (fdies B'.mir p.stored) ∷ ‵ (fdies ty_bool p.test) ∷ []

  -- what is had while a call runs: the board at d' and the room at zs, the answer's local, the plan s that was made of the board d, the count's and the
  -- test's locals at c and t, and the plan's board between them ..
  abbrev pub core : Board → List Device → Item 𝓤 → ℕ → Bool → List (Item 𝓤) → List (Item 𝓤)
  core d' zs answer c t Γ =
      lent_board L d' (lent_room L zs (answer ∷ ‵ (fat full_share board_ref p.board zero (vptr L.bo L.oo)) ∷ ‵ (fat full_share room_ref p.room zero (slice_val (L.b, L.o) len))
      ∷ cells n p.given xs ∷ ‵ (fat full_share P'.mir p.plan zero (plan_val s)) ∷ ‵ (fat full_share B'.mir p.image zero (board_val d)) ∷ ‵ (fat full_share (ty_int w64) p.count zero (vint w64 c))
      ∷ ‵ (fat full_share B'.mir p.stored zero (board_val s.board)) ∷ ‵ (fat full_share ty_bool p.test zero (vbool t)) ∷ Γ))

  -- .. and the others, and the ends
  abbrev pub having : Board → List Device → Item 𝓤 → ℕ → Bool → Item 𝓤 → List (Item 𝓤)
  having d' zs answer c t others = core d' zs answer c t (others ∷ ending)

  -- the answer's local before it is known, and after
  abbrev pub no_answer : Item 𝓤
  no_answer = ‵ (froom (ty_int w) p.answer zero)

  abbrev pub the_answer : ℕ → Item 𝓤
  the_answer r = ‵ (fat full_share (ty_int w) p.answer zero (vint w r))

module _ {M : Type 1} {𝓤 : Ura M} (𝓛 : Logic 𝓤) (L : Loan) (w : Width) (n : ℕ) (τs : List Ty) (d : Board) (xs : Bytes n) (s : Plan) (len : ℕ) where
  -- at a return all locals are let go
  pub lets_go : (p : Places n τs) (d' : Board) (zs : List Device) (r c : ℕ) (t : Bool) {Z : SProp 𝓤} → ent 𝓤 (⋆ 𝓛 (lent L d' zs)) Z
      → Seq (Go {0}) 𝓛 (having L w n τs p d xs s len d' zs (the_answer L w n τs p d xs s len r) c t (slots τs p.others)) (frees (locals w n τs p) (prop Z))
  lets_go p d' zs r c t end =
      forget ! 6 refl $ forget ! 7 refl $ forget ! 8 refl $ forget ! 10 refl $ forget ! 11 refl $ forget ! 12 refl $ forget ! 13 refl $ forget ! 14 refl $
      move ! (6 ∷ 16 ∷ []) $ free1 ! $ move ! (6 ∷ 15 ∷ []) $ free1 ! $ move ! (6 ∷ 14 ∷ []) $ free1 ! $ move ! (6 ∷ []) $ free_bytes 𝓛 n p.given xs (
      move ! (6 ∷ 12 ∷ []) $ free1 ! $ move ! (6 ∷ 11 ∷ []) $ free1 ! $ move ! (6 ∷ 10 ∷ []) $ free1 ! $ move ! (6 ∷ 9 ∷ []) $ free1 ! $ move ! (6 ∷ 8 ∷ []) $ free1 ! $ move ! (6 ∷ []) $
      free_slots 𝓛 τs p.others (keep ! (0 ∷ 1 ∷ 2 ∷ 3 ∷ 4 ∷ 5 ∷ []) $ by ! end))

module _ {M : Type 1} {𝓤 : Ura M} (𝓛 : Logic 𝓤) (w : Width) (n : ℕ) (S : Plans n) (𝓣 : Tables 𝓤 𝓛.H) (f : Name) (plans : Triple 𝓤 (𝓣.C f) (Planning 𝓛 n S))
    (τs : List Ty) (stop-code rest : Code) (L : Loan) (d : Board) (ys : List Device) (xs : Bytes n) (room : Room D.the_row (length ys)) (fits : Fit n xs) (Q : Val → SProp 𝓤) where
  open 𝓛 use {H}

  abbrev s : Plan
  s = S d (length ys) xs

  abbrev to_plan : (Planning 𝓛 n S).Ghost
  to_plan = plan_of 𝓛 n S (d, (length ys, denots 0 n tt xs)) (board_vals d, (vint w64 (length ys) ∷ [], spelled 0 n tt xs))

  goes_plan : ent 𝓤 (sem 𝓛 ((B.the_row).own_val d (board_vals d))) ((Planning 𝓛 n S).pre to_plan)
  goes_plan =
      qed 𝓛 (‵ ((B.the_row).own_val d (board_vals d)) ∷ []) ∵ use0 𝓛 (‵ (owns (types_at (bytes 0 n) tt) (denots 0 n tt xs) (spelled 0 n tt xs))) (own_bytes 𝓛 0 n tt xs fits) $
      owned ! usize (Is usize) (uint_Makes 𝓛 w64) (length ys) (vint w64 (length ys) ∷ []) (refl, room.0) $ join ! $ move ! (1 ∷ 0 ∷ []) $ join ! $ nothing ! $ join ! $ frame ! $ done !

  -- what is had once the plan is made and its board is stored
  abbrev pub planned : Places n τs → List (Item 𝓤)
  planned p = having L w n τs p d xs s (length ys) s.board ys (no_answer L w n τs p d xs s (length ys)) (length ys) s.ends (slots τs p.others)

  abbrev pub returning : Places n τs → Post 𝓤 H
  returning p = at_ret (locals w n τs p) Q

  -- the way to a return from the branch that ends early
  abbrev pub early_returning : Places n τs → Post 𝓤 H
  early_returning p = any_q (after_seq 𝓤 H (Wp 𝓤 H 𝓣.C 𝓣.Λ (locals w n τs p) rest (post 𝓤 H (returning p))) (post 𝓤 H (returning p)))

  pub begins : ((p : Places n τs) → Parts s → T s.ends → Seq (Go {0}) 𝓛 (planned p) (runs 𝓣.C 𝓣.Λ (locals w n τs p) stop-code (early_returning p)))
      → ((p : Places n τs) → Parts s → T (not s.ends) → Seq (Go {0}) 𝓛 (planned p) (runs 𝓣.C 𝓣.Λ (locals w n τs p) rest (returning p)))
      → ent 𝓤 (⋆ 𝓛 (lent L d ys)) (WpFn 𝓤 H 𝓣.C 𝓣.Λ (function w n f stop-code τs rest) (vptr L.bo L.oo ∷ slice_val (L.b, L.o) (length ys) ∷ values n xs) Q)
  begins stops goes_on =
      qed 𝓛 (lent L d ys) ∵ enter ! 𝓣.C 𝓣.Λ (function w n f stop-code τs rest) (vptr L.bo L.oo ∷ slice_val (L.b, L.o) (length ys) ∷ values n xs) _ $
      alloc1 ! (λ a. alloc1 ! (λ lo. alloc1 ! (λ lr. alloc_bytes 𝓛 n (λ ks. alloc1 ! (λ ls. alloc1 ! (λ li. alloc1 ! (λ lc. alloc1 ! (λ lb. alloc1 ! (λ lt. alloc_slots 𝓛 τs (λ bs. params1 ! $
      let p : Places n τs = record { answer = a; board = lo; room = lr; given = ks; plan = ls; image = li; count = lc; stored = lb; test = lt; others = bs } in
      let E : Locals = locals w n τs p in
      pass1 ! (init ! 14 refl (tt, tt)) $ pass1 ! (init ! 12 refl (tt, (tt, (record { fits = room.0 }, tt)))) $ move ! (11 ∷ []) $ pass_bytes 𝓛 n ks xs (behind_bytes w n τs p) fits (
      move ! (18 ∷ 19 ∷ 20 ∷ 21 ∷ 22 ∷ 23 ∷ 16 ∷ 14 ∷ 12 ∷ 0 ∷ 10 ∷ 8 ∷ 6 ∷ 4 ∷ 2 ∷ 1 ∷ 17 ∷ 15 ∷ 13 ∷ 11 ∷ 9 ∷ 7 ∷ 5 ∷ 3 ∷ []) $
      opens ! tt B.the_row {h = d} L.bo L.oo (λ us. spelt ! B.the_row (Is B.the_row) (shows 𝓛 B.the_row) board_vals (LL.tells B.the_type B'.the_laws) full_share d us L.bo L.oo $
      move ! (1 ∷ []) $ peeks ! B.the_row (Is B.the_row) (shows 𝓛 B.the_row) d (board_vals d) (λ is.
      -- [what the board owns; its cell; the open borrow; obs; auth; the room, thrice; the answer; the board's local; the room's; the bytes; the plan; the copy; the count; the plan's board; the test; …]
      assigns ! (of_opd ! (load ! (stands 𝓛 E 1 board_ref lo refl _ _ _ (hop ! (look ! 9 refl) (stop !))) (look_raw ! 1 refl))) (behind_at 𝓛 w n τs p 1 B'.mir li refl _ _ _ (stop !)) (init ! 13 refl ((LL.lawful B.the_type B'.the_laws 𝓛).typed d _ is).0) $
      assigns ! (of_opd ! (load ! (at_room 𝓛 w n τs p _ _ _ (fld ! refl (stop !))) (look_in ! 10 (sub ! 1 refl (whole !))))) (at_count 𝓛 w n τs p _ _ _ (stop !)) (init ! 14 refl (tt, record { fits = room.0 })) $
      use1 𝓛 (raw ((Planning 𝓛 n S).pre to_plan)) goes_plan $
      calls_at ! (fm_of 𝓤 H 𝓛.laws 𝓣) (Planning 𝓛 n S) plans to_plan
      (and_then ! (load ! (behind_at 𝓛 w n τs p 1 B'.mir li refl _ _ _ (stop !)) (look ! 13 refl)) (and_then ! (load ! (at_count 𝓛 w n τs p _ _ _ (stop !)) (look ! 14 refl))
      (carried 𝓛 (λ G k. move ! (11 ∷ []) $ k) (λ G k. move ! (1 ∷ 2 ∷ 3 ∷ 4 ∷ 5 ∷ 6 ∷ 7 ∷ 8 ∷ 9 ∷ 10 ∷ 11 ∷ 0 ∷ []) $ k) (read_given 𝓛 n ks xs _ E 3 (given_stand w n τs p))))) (λ v.
      use1 𝓛 (later (some (λ (r : Plan). (‵ ftrue ⊛ ‵ ((P.the_row).own_val r (v ∷ []))) ⊛ raw (ensured 𝓛 (planning n) (PlanClauses 𝓛 n S) tt (d, (length ys, denots 0 n tt xs)) tt r)))) (id⊢ 𝓤 _) $ await ! tt $ pick ! (λ r.
      split ! $ move ! (1 ∷ []) $ use1 𝓛 (raw (fact 𝓤 (r ≡ S d (length ys) (numbers 0 n tt (denots 0 n tt xs))))) (decided 𝓛 n S (d, (length ys, denots 0 n tt xs)) r) $ heard ! (r ≡ S d (length ys) (numbers 0 n tt (denots 0 n tt xs))) (λ e. split ! $ drop ! $
      rewrite ! 0 (λ (u : Plan). ‵ ((P.the_row).own_val u (v ∷ []))) (e ∙ ap (S d (length ys)) (numbers_are 0 n tt xs)) refl $
      peeks ! P.the_row (Is P.the_row) (shows 𝓛 P.the_row) s (v ∷ []) (λ so. let of = parts s (v ∷ []) so in drop ! $
      -- [the board's cell; the open borrow; obs; auth; the room, thrice; the answer; the board's local; the room's; the bytes; the plan; …]
      land ! (at_plan 𝓛 w n τs p _ _ _ (stop !)) (init ! 11 refl ((LL.lawful P.the_type P'.the_laws 𝓛).typed s _ so).0) $
      rewrite ! 11 (λ (u : Val). ‵ (fat full_share P'.mir ls 0 u)) (ap only (LL.tells P.the_type P'.the_laws s (v ∷ []) so)) refl $
      assigns ! (of_opd ! (load ! (at_plan 𝓛 w n τs p _ _ _ (fld ! refl (stop !))) (look_in ! 11 (sub ! 2 refl (whole !))))) (at_stored 𝓛 w n τs p _ _ _ (stop !))
      (init ! 14 refl ((LL.lawful B.the_type B'.the_laws 𝓛).typed s.board _ of.board).0) $
      assigns ! (of_opd ! (load ! (at_stored 𝓛 w n τs p _ _ _ (stop !)) (look ! 14 refl))) (stands 𝓛 E 1 board_ref lo refl _ _ _ (hop ! (look ! 8 refl) (stop !)))
      (store_raw ! 0 refl ((LL.lawful B.the_type B'.the_laws 𝓛).typed s.board _ of.board).0) $
      owned ! B.the_row (Is B.the_row) (LL.makes B.the_type B'.the_plain 𝓛) s.board (board_vals s.board) of.board $
      move ! (1 ∷ 0 ∷ []) $ closes ! tt B.the_row s.board (board_vals s.board) L.bo L.oo $
      assigns ! (of_opd ! (load ! (at_plan 𝓛 w n τs p _ _ _ (fld ! refl (stop !))) (look_in ! 10 (sub ! 3 refl (whole !))))) (at_test 𝓛 w n τs p _ _ _ (stop !)) (init ! 14 refl (tt, tt)) $
      early ! (load ! (at_test 𝓛 w n τs p _ _ _ (stop !)) (look ! 14 refl)) (λ over. stops p of over) (λ open-still. goes_on p of open-still))))))))))))))))))
