-- A call at one of the two channels of a line is one at that side alone.
-- Assumes nothing.
use Prim.Native.Nat.{ℕ}
use mathlib.Core.Path.{◌≡◌, refl, sym, ap₂, ◌∙◌}
use mathlib.Core.Bool.{Bool, true, false, cond, ◌&&◌}
use mathlib.Core.List.{[], ◌∷◌}
use lib.Dec.{eqb}
use borrow.Author.Tests.{eqb-true, eqb-false, eq-eqb, ne_eqb}
use Rattle.line_rules.proofs.Choice.{all}
use Rattle.ins2651_rules.specs.Runs as chip
use Rattle.delivery.specs.Joined.{Side, A, B}
use Rattle.joined_rules.specs.Bench.{way_from, Bench}
use Rattle.joined_rules.specs.Bench as bench
use Rattle.board_rules.specs.Ports.{At}
use Rattle.board_rules.specs.Channels.{calls_by}
use Rattle.board_rules.specs.Lines.{Boards, Which, One, Two, same, Spot, Spots, spot_at, is_at, Joined, made_at, call_steps}

-- == a call at one of the two channels ==

pub same_itself : (k : Which) → same k k ≡ true
same_itself One = refl
same_itself Two = refl

same_back : (j k : Which) → same j k ≡ same k j
same_back One One = refl
same_back One Two = refl
same_back Two One = refl
same_back Two Two = refl

eqb_back : (m n : ℕ) → eqb m n ≡ eqb n m
eqb_back m n = go (eqb m n) refl
  where
    go : (b : Bool) → eqb m n ≡ b → eqb m n ≡ eqb n m
    go true e = e ∙ sym (eq-eqb n m (sym (eqb-true m n e)))
    go false e = e ∙ sym (ne_eqb n m (λ z. eqb-false m n e (sym z)))

-- each is at its own spot, and not at the other's
own_spot : (p : Spot) → is_at p.which p.channel p ≡ true
own_spot p = all (same_itself p.which) (eq-eqb p.channel p.channel refl)

made_at_lem : (p : Spot) (k : Which) (n : ℕ) (c : chip.Call) → made_at p k (At n c) ≡ cond (is_at k n p) (c ∷ []) []
made_at_lem p k n c = go (same k p.which)
  where
    go : (b : Bool) → cond b (calls_by p.channel (At n c)) [] ≡ cond (b && eqb n p.channel) (c ∷ []) []
    go true = refl
    go false = refl

module _ (l : Spots) (w : Boards) (j : Joined l w) where
  pub side_steps : (s : Side) (c : chip.Call) → call_steps l (spot_at s l).which (At (spot_at s l).channel c) ≡ bench.At s c ∷ []
  side_steps A c = rw (made_at_lem l.a l.a.which l.a.channel c, made_at_lem l.b l.a.which l.a.channel c, own_spot l.a, j.apart)
  side_steps B c =
      let z : is_at l.b.which l.b.channel l.a ≡ false =
      ap₂ ◌&&◌ (same_back l.b.which l.a.which) (eqb_back l.b.channel l.a.channel) ∙ j.apart in
      rw (made_at_lem l.a l.b.which l.b.channel c, made_at_lem l.b l.b.which l.b.channel c, own_spot l.b, z)
