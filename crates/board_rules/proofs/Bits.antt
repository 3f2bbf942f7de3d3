-- The bits of a status, as numbers and as the definitions ask for them.
-- Assumes nothing.
use Rattle.std.proofs.Common.{◌≡◌, ℕ, zero, suc, ◌<◌, ◌/◌, ◌%◌, refl, arith}
use Rattle.ins2651_rules.specs.Modes.{has}
use Rattle.ins2651_rules.specs.Status.{weigh}

-- the bit of weight m of a status, as it is shown
pub shown_bit : (m v : ℕ) → v / m % 2 ≡ weigh (has m v) 1
shown_bit m v = go (v / m % 2) refl (below_two (v / m))
  where
    below_two : (x : ℕ) → x % 2 < 2
    below_two x = omega arith

    go : (r : ℕ) → v / m % 2 ≡ r → r < 2 → r ≡ weigh (has m v) 1
    go zero e l = rw e refl
    go (suc zero) e l = rw e refl
    go (suc (suc r)) e l = absurd (omega (arith, l))
