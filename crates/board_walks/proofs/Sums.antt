-- A summary of the plan's board, the answers of m channels and the bytes is called by value, and its number is kept (`sums`). All that is known of it is its
-- contract.
-- Assumes nothing.
use mathlib.Core.Path.{◌≡◌, refl, ap, sym, subst, ◌∙◌}
use Prim.Native.Nat.{ℕ, zero, suc, ◌<◌, ◌^◌}
use mathlib.Core.List.{[], ◌∷◌, List}
use lib.Dec.{T}
use seplogic.Ra.Ura.{Ura}
use base.Fraction.{full_share}
use mir.Syntax.{Width, Callee as Name, Ty, ty_int, ty_ptr, w16, place, Opd as Operand, copy, Body as Code, seq, call}
use mir.Val.{Val, vint, has_ty, WT, bits}
use mir.ValLaws.{eq_w_refl}
use base.Logic.{ent, emp, id⊢}
use base.Fml.{ftrue, fat, froom, fdies}
use prog.Wp.{Calls, Loops}
use types.Logic.{Logic, sem}
use contract.Monad.{fact}
use types.Kit.{Item, Post, Go, Seq, Goal, runs, ‵, raw, ◌⊛◌, some, later, ◌$◌, ◌∵◌, !, qed, move, drop, use0, use1, split, join, pick, fjoin, frame, rewrite, await, done}
use types.Run.{Opds, look, init, stop, load, and_then, land}
use sound.WpLaws.{FmC}
use denote.RattleType.{Denots, Valss, flat, owns}
use denote.Laws.{Is, shows}
use denote.Plain.{UInt, uint_Makes}
use denote.Builtin.{u16}
use denote.Signature.{types_at}
use denote.Steps.{owned, facts, heard, nothing, only}
use denote.Struct.Laws as LL
use denote.Triple.Statement.{Triple}
use denote.Triple.Call.{calls_at}
use denote.Triple.Clauses.{ensured}
use Rattle.board_rules.specs.contracts.Board as B
use Rattle.board_rules.proofs.Board.TheLaws as B'
use Rattle.board_walks.specs.declared.Plan.{Plan}
use Rattle.host.proofs.Calls.{Bytes, bytes, copies}
use Rattle.host.proofs.Bytes.{Fit, denots, spelled, numbers_are, own_bytes, cells, behind, Stands, stands, carried}
use Rattle.host.proofs.Again.{reborrow}
use Rattle.board_walks.proofs.Calls.{board_vals, board_val, Parts, words, words_of, bytes_of, Summaries, summing, SumClauses, Summing, sum_of, summed, at}
use Rattle.board_walks.proofs.Slots.{Blocks, SlotsStand}
use Rattle.board_walks.proofs.Sweep.{threes, Small, answered}
use Rattle.board_walks.proofs.Begins.{Places, behind_bytes, locals, given_stand, behind_at, at_answer, read_given}

-- == as arguments ==

abbrev pub passed : (m n : ℕ) → Bytes m → Bytes n → Denots (types_at (words m n) tt)
passed zero n vs xs = denots 0 n tt xs
passed (suc m) n vs xs = (vs.0, passed m n vs.1 xs)

abbrev pub passed_vals : (m n : ℕ) → Bytes m → Bytes n → Valss (types_at (words m n) tt)
passed_vals zero n vs xs = spelled 0 n tt xs
passed_vals (suc m) n vs xs = (vint w16 vs.0 ∷ [], passed_vals m n vs.1 xs)

words_are : (m n : ℕ) (vs : Bytes m) (xs : Bytes n) → words_of m n (passed m n vs xs) ≡ vs
words_are zero n vs xs = refl
words_are (suc m) n vs xs = ap (λ (us : Bytes m). (vs.0, us)) (words_are m n vs.1 xs)

bytes_are : (m n : ℕ) (vs : Bytes m) (xs : Bytes n) → bytes_of m n (passed m n vs xs) ≡ xs
bytes_are zero n vs xs = numbers_are 0 n tt xs
bytes_are (suc m) n vs xs = bytes_are m n vs.1 xs

own_words : {M : Type 1} {𝓤 : Ura M} (𝓛 : Logic 𝓤) (m n : ℕ) (vs : Bytes m) (xs : Bytes n) → Small m vs → Fit n xs
    → ent 𝓤 (emp 𝓤) (sem 𝓛 (owns (types_at (words m n) tt) (passed m n vs xs) (passed_vals m n vs xs)))
own_words 𝓛 zero n vs xs small fits = own_bytes 𝓛 0 n tt xs fits
own_words 𝓛 (suc m) n vs xs small fits =
    qed 𝓛 [] ∵ use0 𝓛 (‵ (owns (types_at (words m n) tt) (passed m n vs.1 xs) (passed_vals m n vs.1 xs))) (own_words 𝓛 m n vs.1 xs small.1 fits) $
    owned ! u16 (Is u16) (uint_Makes 𝓛 w16) vs.0 (vint w16 vs.0 ∷ []) (refl, small.0) $ fjoin ! $ done !

-- == where they are read ==

-- the answers' locals, which stand three apart from place j on behind n bytes; then others
abbrev pub every_third : (n j m : ℕ) → List Operand → List Operand
every_third n j zero ops = ops
every_third n j (suc m) ops = copy (place (at n j) []) ∷ every_third n (suc (suc (suc j))) m ops

module _ {M : Type 1} {𝓤 : Ura M} (𝓛 : Logic 𝓤) where
  -- the first answer, its end, and the rest of it, out of the others and back
  open 𝓛 use {H}

  module _ (m : ℕ) (τs : List Ty) (bs : Blocks (threes (suc m) τs)) (vs : Bytes (suc m)) where
    abbrev first_out : List (Item 𝓤) → List (Item 𝓤)
    first_out Γ =
        answered m τs bs.1.1.1 vs.1 ∷ ‵ (fat full_share (ty_int w16) bs.0 zero (vint w16 vs.0)) ∷ ‵ (fdies (ty_int w16) bs.0)
        ∷ (‵ (froom reborrow bs.1.1.0 zero) ⊛ ‵ (fdies reborrow bs.1.1.0)) ∷ (‵ (froom ty_ptr bs.1.0 zero) ⊛ ‵ (fdies ty_ptr bs.1.0)) ∷ Γ

    apart : {Γ : List (Item 𝓤)} {G : Goal 𝓤 H} → Seq (Go {0}) 𝓛 (first_out Γ) G → Seq (Go {0}) 𝓛 (answered (suc m) τs bs vs ∷ Γ) G
    apart k = split ! $ split ! $ move ! (2 ∷ []) $ split ! $ move ! (1 ∷ []) $ split ! $ move ! (1 ∷ 3 ∷ 4 ∷ 0 ∷ 2 ∷ []) $ k

    together : {Γ : List (Item 𝓤)} {G : Goal 𝓤 H} → Seq (Go {0}) 𝓛 (answered (suc m) τs bs vs ∷ Γ) G → Seq (Go {0}) 𝓛 (first_out Γ) G
    together k = move ! (3 ∷ 0 ∷ []) $ join ! $ move ! (3 ∷ 0 ∷ []) $ join ! $ move ! (1 ∷ 2 ∷ []) $ join ! $ join ! $ k

  read_words : (w : Width) (n : ℕ) (σs : List Ty) (p : Places n σs) (xs : Bytes n) (m j : ℕ) (τs : List Ty) (bs : Blocks (threes m τs)) (vs : Bytes m) (Γ : List (Item 𝓤)) {ops : List Operand}
      → SlotsStand (behind_bytes w n σs p) j (threes m τs) bs
      → Opds (Go {0}) 𝓛 (answered m τs bs vs ∷ Γ) (locals w n σs p) ops (flat (types_at (bytes 0 n) tt) (spelled 0 n tt xs))
      → Opds (Go {0}) 𝓛 (answered m τs bs vs ∷ Γ) (locals w n σs p) (every_third n j m ops) (flat (types_at (words m n) tt) (passed_vals m n vs xs))
  read_words w n σs p xs zero j τs bs vs Γ stand os = os
  read_words w n σs p xs (suc m) j τs bs vs Γ stand os =
      carried 𝓛 (λ G k. apart m τs bs vs k) (λ G k. together m τs bs vs k)
      (and_then ! (load ! (stands 𝓛 (locals w n σs p) (at n j) (ty_int w16) bs.0 (behind n p.given (behind_bytes w n σs p) j (ty_int w16) bs.0 stand.0) _ _ _ (stop !)) (look ! 1 refl))
      (read_words w n σs p xs m (suc (suc (suc j))) τs bs.1.1.1 vs.1 _ stand.1.1.1
      (carried 𝓛 (λ G k. together m τs bs vs k) (λ G k. apart m τs bs vs k) os)))

  -- == the call ==

  module _ (w : Width) (n : ℕ) (σs : List Ty) (p : Places n σs) (xs : Bytes n) (m j : ℕ) (τs : List Ty) (bs : Blocks (threes m τs)) (vs : Bytes m) (F : Summaries m n) (s : Plan) where
    abbrev to_sum : (Summing 𝓛 w m n F).Ghost
    to_sum = sum_of 𝓛 w m n F (s.board, passed m n vs xs) (board_vals s.board, passed_vals m n vs xs)

    goes_sum : Small m vs → Fit n xs → ent 𝓤 (sem 𝓛 ((B.the_row).own_val s.board (board_vals s.board))) ((Summing 𝓛 w m n F).pre to_sum)
    goes_sum small fits =
        qed 𝓛 (‵ ((B.the_row).own_val s.board (board_vals s.board)) ∷ []) ∵ use0 𝓛 (‵ (owns (types_at (words m n) tt) (passed m n vs xs) (passed_vals m n vs xs))) (own_words 𝓛 m n vs xs small fits) $
        move ! (1 ∷ 0 ∷ []) $ join ! $ nothing ! $ join ! $ frame ! $ done !

    abbrev sum : ℕ
    sum = F s.board vs xs

    -- the plan's board stands in block lb, at place i behind the bytes
    abbrev with_sum : ℕ → Item 𝓤 → List (Item 𝓤) → List (Item 𝓤)
    with_sum lb answer Γ = answered m τs bs vs ∷ ‵ (fat full_share B'.mir lb zero (board_val s.board)) ∷ cells n p.given xs ∷ answer ∷ Γ

    pub sums : (i lb : ℕ) {C : Calls 𝓤 H} {Λ : Loops 𝓤 H} {q : Post 𝓤 H} {Γ : List (Item 𝓤)} {g : Name} {rest : Code}
        → Stands (behind_bytes w n σs p) i B'.mir lb → SlotsStand (behind_bytes w n σs p) j (threes m τs) bs → FmC 𝓤 H 𝓛.laws C → Triple 𝓤 (C g) (Summing 𝓛 w m n F) → Parts s → Small m vs → Fit n xs
        → (sum < 2 ^ bits w → Seq (Go {0}) 𝓛 (with_sum lb (‵ (fat full_share (ty_int w) p.answer zero (vint w sum))) Γ) (runs C Λ (locals w n σs p) rest q))
        → Seq (Go {0}) 𝓛 (with_sum lb (‵ (froom (ty_int w) p.answer zero)) Γ)
        (runs C Λ (locals w n σs p) (seq (call g (copy (place (at n i) []) ∷ every_third n j m (copies 3 n)) (place 0 [])) rest) q)
    sums i lb at-board stand fm known of small fits k =
        owned ! B.the_row (Is B.the_row) (LL.makes B.the_type B'.the_plain 𝓛) s.board (board_vals s.board) of.board $ use1 𝓛 (raw ((Summing 𝓛 w m n F).pre to_sum)) (goes_sum small fits) $
        -- [what the summary asks; the answers; the plan's board; the bytes; the answer; …]
        calls_at ! fm (Summing 𝓛 w m n F) known to_sum
        (and_then ! (load ! (behind_at 𝓛 w n σs p i B'.mir lb at-board _ _ _ (stop !)) (look ! 2 refl))
        (carried 𝓛 (λ G t. move ! (1 ∷ []) $ t) (λ G t. move ! (1 ∷ 0 ∷ []) $ t)
        (read_words w n σs p xs m j τs bs vs _ stand
        (carried 𝓛 (λ G t. move ! (3 ∷ []) $ t) (λ G t. move ! (1 ∷ 2 ∷ 3 ∷ 0 ∷ []) $ t) (read_given 𝓛 n p.given xs _ (locals w n σs p) 3 (given_stand w n σs p)))))) (λ v.
        use1 𝓛 (later (some (λ (r : ℕ). (‵ ftrue ⊛ ‵ ((UInt w).own_val r (v ∷ []))) ⊛ raw (ensured 𝓛 (summing w m n) (SumClauses 𝓛 w m n F) tt (s.board, passed m n vs xs) tt r)))) (id⊢ 𝓤 _) $ await ! tt $ pick ! (λ r.
        split ! $ move ! (1 ∷ []) $ use1 𝓛 (raw (fact 𝓤 (r ≡ F s.board (words_of m n (passed m n vs xs)) (bytes_of m n (passed m n vs xs))))) (summed 𝓛 w m n F (s.board, passed m n vs xs) r) $
        heard ! (r ≡ F s.board (words_of m n (passed m n vs xs)) (bytes_of m n (passed m n vs xs))) (λ e. split ! $ drop ! $
        let is_sum : r ≡ sum = e ∙ ap (λ (us : Bytes m). F s.board us (bytes_of m n (passed m n vs xs))) (words_are m n vs xs) ∙ ap (F s.board vs) (bytes_are m n vs xs) in
        facts ! (UInt w) (Is (UInt w)) (shows 𝓛 (UInt w)) r (v ∷ []) (λ is.
        land ! (at_answer 𝓛 w n σs p _ _ _ (stop !)) (init ! 3 refl (subst (λ (y : Val). T (has_ty (ty_int w) y) × WT y) (sym (ap only is.0)) (eq_w_refl w, record { fits = is.1 }))) $
        rewrite ! 3 (λ (u : Val). ‵ (fat full_share (ty_int w) p.answer 0 u)) (ap only is.0 ∙ ap (vint w) is_sum) refl $
        k (subst (λ (z : ℕ). z < 2 ^ bits w) is_sum is.1)))))
