-- The locals behind a call's bytes and plan, however many and of whatever types: where they stand, and what is had of them before they are used, which is one
-- entry of a walk's context.
-- Assumes nothing.
use mathlib.Core.Path.{refl}
use Prim.Native.Nat.{ℕ, zero, suc}
use mathlib.Core.List.{[], ◌∷◌, List}
use seplogic.Ra.Ura.{Ura}
use mir.Syntax.{Ty}
use base.Fml.{ftrue, froom, fdies}
use prog.Wp.{Env}
use types.Logic.{Logic}
use types.Kit.{Item, Go, Seq, Goal, ‵, ◌⊛◌, ◌$◌, !, move, drop, split, join, allocs, frees}
use types.Run.{alloc1, alloc0, free1, free0}
use denote.Steps.{nothing}
use Rattle.host.proofs.Bytes.{Locals, Stands}
use Rattle.board_walks.proofs.Calls.{valued}

-- their blocks
abbrev pub Blocks : List Ty → Type 0
Blocks [] = Unit {0}
Blocks (τ ∷ τs) = ℕ × Blocks τs

abbrev pub placed : (τs : List Ty) → Blocks τs → Locals
placed [] bs = []
placed (τ ∷ τs) bs = (τ, bs.0) ∷ placed τs bs.1

-- they stand in F from place j on
abbrev pub SlotsStand : Locals → ℕ → (τs : List Ty) → Blocks τs → Type 0
SlotsStand F j [] bs = Unit {0}
SlotsStand F j (τ ∷ τs) bs = Stands F j τ bs.0 × SlotsStand F (suc j) τs bs.1

pub slots_further : (τs : List Ty) (bs : Blocks τs) (e : Ty × ℕ) (F : Locals) (j : ℕ) → SlotsStand F j τs bs → SlotsStand (e ∷ F) (suc j) τs bs
slots_further [] bs e F j p = tt
slots_further (τ ∷ τs) bs e F j p = (p.0, slots_further τs bs.1 e F (suc j) p.1)

pub slots_stand : (τs : List Ty) (bs : Blocks τs) → SlotsStand (placed τs bs) 0 τs bs
slots_stand [] bs = tt
slots_stand (τ ∷ τs) bs = (refl, slots_further τs bs.1 (τ, bs.0) (placed τs bs.1) 0 (slots_stand τs bs.1))

module _ {M : Type 1} {𝓤 : Ura M} where
  abbrev pub slots : (τs : List Ty) → Blocks τs → Item 𝓤
  slots [] bs = ‵ ftrue
  slots (τ ∷ τs) bs = (‵ (froom τ bs.0 zero) ⊛ ‵ (fdies τ bs.0)) ⊛ slots τs bs.1

module _ {M : Type 1} {𝓤 : Ura M} (𝓛 : Logic 𝓤) where
  open 𝓛 use {H}

  pub alloc_slots : (τs : List Ty) {Γ : List (Item 𝓤)} {Kt : Env 𝓤 H → Goal 𝓤 H} → ((bs : Blocks τs) → Seq (Go {0}) 𝓛 (slots τs bs ∷ Γ) (Kt (placed τs bs))) → Seq (Go {0}) 𝓛 Γ (allocs (valued τs) Kt)
  alloc_slots [] f = alloc0 ! $ nothing ! $ f tt
  alloc_slots (τ ∷ τs) f = alloc1 ! (λ k. join ! $ alloc_slots τs (λ bs. move ! (1 ∷ 0 ∷ []) $ join ! $ f (k, bs)))

  pub free_slots : (τs : List Ty) (bs : Blocks τs) {Γ : List (Item 𝓤)} {g : Goal 𝓤 H} → Seq (Go {0}) 𝓛 Γ g → Seq (Go {0}) 𝓛 (slots τs bs ∷ Γ) (frees (placed τs bs) g)
  free_slots [] bs s = drop ! $ free0 ! $ s
  free_slots (τ ∷ τs) bs s = split ! $ split ! $ free1 ! $ free_slots τs bs.1 s
