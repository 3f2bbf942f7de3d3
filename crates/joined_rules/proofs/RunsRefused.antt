-- The run of n joined ticks: request P9. 16 is given exactly when n is above 65535, and then the pair is as it was; else the run is n single ticks, of
-- which none leaves the pair as given, in range or not, and any other number takes a device that is out of range as just reset, and the other as it is.
-- Assumes nothing.
use Prim.Native.Nat.{ℕ, ◌≤◌, ◌<◌}
use native.Mathlib.Omega.{arith}
use mathlib.Core.Path.{◌≡◌, refl, ap, sym, ◌∙◌}
use mathlib.Core.Bool.{Bool, true, false}
use lib.Dec.{ltb}
use borrow.Author.Tests.{lt-ltb, le-ltb, ltb-true, ltb-false}
use Rattle.joined_rules.specs.declared.Pair.{Pair}
use Rattle.joined_rules.specs.Joining.{Ran, run, ticks, settled_pair, joined_ticks}
use Rattle.joined_rules.specs.TwoWays.{along_both}
use Rattle.joined_rules.proofs.Runs.{settled_both, settled_pair_lem, settled_ticks}
use Rattle.joined_rules.proofs.TwoWays.{along_settled}

pub run_refused : (p : Pair) (n : ℕ) → 65535 < n → run p n ≡ record { refusal = 16; pair = p }
unfolding run
run_refused p n h = rw (lt-ltb 65535 n h)

pub run_done : (p : Pair) (n : ℕ) → n ≤ 65535 → run p n ≡ record { refusal = 0; pair = ticks n p }
unfolding run
run_done p n h = rw (le-ltb 65535 n h)

-- 16 exactly then, and no other number
pub refused_above : (p : Pair) (n : ℕ) → ((run p n).refusal ≡ 0 → ⊥) → (65535 < n) × ((run p n).refusal ≡ 16)
refused_above p n h = go (ltb 65535 n) refl
  where
    go : (b : Bool) → ltb 65535 n ≡ b → (65535 < n) × ((run p n).refusal ≡ 16)
    go true e = let l : 65535 < n = ltb-true 65535 n e in (l, ap (λ (r : Ran). r.refusal) (run_refused p n l))
    go false e = absurd (h (ap (λ (r : Ran). r.refusal) (run_done p n (ltb-false 65535 n e))))

-- a run of none, of any pair
pub run_of_none : (p : Pair) → run p 0 ≡ record { refusal = 0; pair = p }
run_of_none p = run_done p 0 (omega arith)

-- .. and of some: a run of each way of the pair as it is taken
pub run_is_two_ways : (p : Pair) (n : ℕ) → 0 < n → n ≤ 65535 → run p n ≡ record { refusal = 0; pair = along_both n (settled_pair p) }
run_is_two_ways p n z h = run_done p n h ∙ ap (λ (q : Pair). record { refusal = 0; pair = q }) (sym (along_settled n p z))

-- .. each device as one call of the chip would take it, by itself
pub run_settles : (p : Pair) (n : ℕ) → 0 < n → n ≤ 65535 → run p n ≡ run (settled_pair p) n
run_settles p n z h =
    run_done p n h
    ∙ ap (λ (q : Pair). record { refusal = 0; pair = q })
    (sym (settled_ticks n p z) ∙ ap (joined_ticks n) (sym (settled_pair_lem (settled_pair p) (settled_both p))) ∙ settled_ticks n (settled_pair p) z)
    ∙ sym (run_done (settled_pair p) n h)
