-- A plan that ends a call of 32 bits: its answer is made one of 32 bits by value (`stops_wide`). All that is known of that function is its contract.
-- Assumes nothing.
use mathlib.Core.Path.{◌≡◌, refl, ap, sym, subst, ◌∙◌}
use Prim.Native.Nat.{ℕ, ◌<◌, ◌^◌}
use mathlib.Core.Bool.{true}
use mathlib.Core.List.{[], ◌∷◌, List}
use lib.Dec.{T}
use lib.ListN.{length}
use seplogic.Ra.Ura.{Ura}
use base.Fraction.{full_share}
use mir.Syntax.{Callee as Name, Ty, ty_int, w16, w32, field, place, copy, Body as Code, seq, call, return}
use mir.Val.{Val, vint, has_ty, WT}
use base.Logic.{SProp, ent, emp, id⊢, snd∗, ex_e}
use base.Fml.{ftrue, fat}
use prog.Wp.{Tables}
use types.Logic.{Logic, sem}
use contract.Monad.{fact}
use types.Kit.{Go, Seq, runs, ‵, raw, ◌⊛◌, ⋆, some, later, ◌$◌, ◌∵◌, !, qed, move, drop, use1, split, join, pick, frame, rewrite, await, done}
use types.Run.{look, init, stop, fld, load, and_then, no_more, land, returns_within}
use types.Part.{whole, sub, look_in}
use sound.WpLaws.{fm_of}
use denote.Laws.{Is, shows}
use denote.Plain.{uint_Makes}
use denote.Builtin.{u16, u32}
use denote.Exit.{yes}
use denote.Slice.{Room}
use denote.Signature.{plain}
use denote.Steps.{owned, facts, heard, nothing, only}
use denote.Triple.Statement.{Contract, Triple}
use denote.Triple.Spec.{triple_of}
use denote.Triple.Call.{calls_at}
use denote.Triple.Clauses.{Ended, Clauses, ensured, closing, lasts}
use Rattle.ins2651_rules.specs.declared.Device.{Device}
use Rattle.ins2651_rules.specs.contracts.Device as D
use Rattle.board_rules.specs.declared.Board.{Board}
use Rattle.lending.proofs.Early.{holds}
use Rattle.host.proofs.Calls.{Bytes}
use Rattle.host.proofs.Bytes.{Fit}
use Rattle.board_walks.proofs.Calls.{Parts, Plans, Planning, Promise, Says, at}
use Rattle.board_walks.proofs.Entry.{Loan, lent}
use Rattle.board_walks.proofs.Begins.{Places, locals, at_answer, at_plan, lets_go, planned, early_returning}

-- a number of 16 bits made one of 32
abbrev pub raising : Ended
raising = record { signature = record { lifetimes = 0; outlives = []; params = plain (λ _. u16) ∷ []; result = plain (λ _. u32) }; kept = (yes, tt) }

module _ {M : Type 1} {𝓤 : Ura M} (𝓛 : Logic 𝓤) (F : ℕ → ℕ) where
  abbrev pub RaiseClauses : Clauses 𝓤 raising
  RaiseClauses κs a = record { ghost = Unit {0}; requires = λ _. emp 𝓤; ensures = λ _ r _. fact 𝓤 (r ≡ F a.0) }

  abbrev pub Raising : Contract 𝓤
  Raising = triple_of 𝓛 raising.signature (closing 𝓛 raising RaiseClauses)

  raised_is : (x r : ℕ) → ent 𝓤 (ensured 𝓛 raising RaiseClauses tt (x, tt) tt r) (fact 𝓤 (r ≡ F x))
  raised_is x r = ex_e 𝓤 _ (λ ws. snd∗ 𝓤 (sem 𝓛 (lasts raising tt (x, tt) ws)) (fact 𝓤 (r ≡ F x)))

abbrev pub answering_wide : ℕ → Name → Code
answering_wide n e = seq (call e (copy (place (at n 0) (field 0 ∷ [])) ∷ []) (place 0 [])) return

-- what the plan says, made wide, is what is promised
abbrev pub StopsWide : (n : ℕ) → Plans n → (ℕ → ℕ) → Promise n → Type 0
StopsWide n S F Q = (d : Board) (ys : List Device) (xs : Bytes n) → (S d (length ys) xs).ends ≡ true → Says n Q d ys xs (F (S d (length ys) xs).answer) (S d (length ys) xs).board ys

module _ {M : Type 1} {𝓤 : Ura M} (𝓛 : Logic 𝓤) (n : ℕ) (S : Plans n) (F : ℕ → ℕ) (Q : Promise n) (stops : StopsWide n S F Q) (𝓣 : Tables 𝓤 𝓛.H) (f e : Name)
    (plans : Triple 𝓤 (𝓣.C f) (Planning 𝓛 n S)) (raises : Triple 𝓤 (𝓣.C e) (Raising 𝓛 F)) (τs : List Ty) (rest : Code)
    (L : Loan) (d : Board) (ys : List Device) (xs : Bytes n) (room : Room D.the_row (length ys)) (fits : Fit n xs) (K : Val → SProp 𝓤)
    (ends : (r : ℕ) (d' : Board) (zs : List Device) → length zs ≡ length ys → Says n Q d ys xs r d' zs → r < 2 ^ 32 → ent 𝓤 (⋆ 𝓛 (lent L d' zs)) (K (vint w32 r))) where
  open 𝓛 use {H}

  abbrev x : ℕ
  x = (S d (length ys) xs).answer

  abbrev to_raise : (Raising 𝓛 F).Ghost
  to_raise = ((tt, tt, tt, (x, tt), (vint w16 x ∷ [], tt)), tt)

  goes : ent 𝓤 (sem 𝓛 (u16.own_val x (vint w16 x ∷ []))) ((Raising 𝓛 F).pre to_raise)
  goes = qed 𝓛 (‵ (u16.own_val x (vint w16 x ∷ [])) ∷ []) ∵ nothing ! $ move ! (1 ∷ 0 ∷ []) $ join ! $ nothing ! $ join ! $ frame ! $ done !

  pub stops_wide : (p : Places n τs) → Parts (S d (length ys) xs) → T (S d (length ys) xs).ends
      → Seq (Go {0}) 𝓛 (planned 𝓛 w32 n S 𝓣 f plans τs (answering_wide n e) rest L d ys xs room fits K p)
      (runs 𝓣.C 𝓣.Λ (locals w32 n τs p) (answering_wide n e) (early_returning 𝓛 w32 n S 𝓣 f plans τs (answering_wide n e) rest L d ys xs room fits K p))
  stops_wide p of over =
      owned ! u16 (Is u16) (uint_Makes 𝓛 w16) x (vint w16 x ∷ []) (refl, of.answer) $ use1 𝓛 (raw ((Raising 𝓛 F).pre to_raise)) goes $
      calls_at ! (fm_of 𝓤 H 𝓛.laws 𝓣) (Raising 𝓛 F) raises to_raise (and_then ! (load ! (at_plan 𝓛 w32 n τs p _ _ _ (fld ! refl (stop !))) (look_in ! 11 (sub ! 0 refl (whole !)))) (no_more !)) (λ v.
      use1 𝓛 (later (some (λ (r : ℕ). (‵ ftrue ⊛ ‵ (u32.own_val r (v ∷ []))) ⊛ raw (ensured 𝓛 raising (RaiseClauses 𝓛 F) tt (x, tt) tt r)))) (id⊢ 𝓤 _) $ await ! tt $ pick ! (λ r.
      split ! $ move ! (1 ∷ []) $ use1 𝓛 (raw (fact 𝓤 (r ≡ F x))) (raised_is 𝓛 F x r) $ heard ! (r ≡ F x) (λ e₀. split ! $ drop ! $
      facts ! u32 (Is u32) (shows 𝓛 u32) r (v ∷ []) (λ is.
      land ! (at_answer 𝓛 w32 n τs p _ _ _ (stop !)) (init ! 6 refl (subst (λ (y : Val). T (has_ty (ty_int w32) y) × WT y) (sym (ap only is.0)) (tt, record { fits = is.1 }))) $
      rewrite ! 6 (λ (u : Val). ‵ (fat full_share (ty_int w32) p.answer 0 u)) (ap only is.0 ∙ ap (vint w32) e₀) refl $
      returns_within ! K {r = vint w32 (F x)} refl (look ! 6 refl) $
      lets_go 𝓛 L w32 n τs d xs (S d (length ys) xs) (length ys) p (S d (length ys) xs).board ys (F x) (length ys) (S d (length ys) xs).ends
      (ends (F x) (S d (length ys) xs).board ys refl (stops d ys xs (holds _ over)) (subst (λ (z : ℕ). z < 2 ^ 32) e₀ is.1))))))
