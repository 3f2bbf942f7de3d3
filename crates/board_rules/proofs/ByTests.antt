-- The number that a board gives by a call's own tests, where these are the rows'.
-- Assumes nothing.
use Prim.Native.Nat.{ℕ}
use mathlib.Core.Path.{◌≡◌, refl, ap, ap₂, ◌∙◌}
use mathlib.Core.Bool.{Bool, true, false, cond, not}
use mathlib.Core.List.{List}
use lib.Dec.{eqb}
use lib.ListN.{length}
use Rattle.ins2651_rules.specs.declared.Device.{Device}
use Rattle.board_rules.specs.Ports.{Deed, refusal, unless}
use Rattle.board_rules.specs.Runs.{said_by}
use Rattle.board_rules.specs.Rows.{no_room}

-- by a call's own tests, where they are the rows'
pub by_tests : (room : List Device) (a r z s : Bool) (e : Deed) (n : ℕ) → a ≡ r → (a ≡ false → z ≡ s) → (a ≡ false → (said_by room e).refusal ≡ n)
    → (said_by room (unless (refusal (length room) a z) e)).refusal ≡ cond (no_room room) 10 (cond r 8 (cond s 9 n))
by_tests room a r z s e n p q h = go (eqb (length room) 8) a z p q h
  where
    go : (t a z : Bool) → a ≡ r → (a ≡ false → z ≡ s) → (a ≡ false → (said_by room e).refusal ≡ n)
        → (said_by room (unless (cond t (cond a 8 (cond z 9 0)) 10) e)).refusal ≡ cond (not t) 10 (cond r 8 (cond s 9 n))
    go false a z p q h = refl
    go true true z p q h = ap (λ (x : Bool). cond x 8 (cond s 9 n)) p
    go true false true p q h = ap₂ (λ (x y : Bool). cond x 8 (cond y 9 n)) p (q refl)
    go true false false p q h = h refl ∙ ap₂ (λ (x y : Bool). cond x 8 (cond y 9 n)) p (q refl)
