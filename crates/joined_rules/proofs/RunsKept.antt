-- A run and a wait of a pair in range leave the status byte of each device what its other fields mean, refused or not: request P7. So do joined ticks, one
-- or more, of any pair, as they settle it first.
-- Assumes nothing.
use Prim.Native.Nat.{ℕ, ◌<◌}
use mathlib.Core.Path.{◌≡◌, refl, sym, ap, subst}
use mathlib.Core.Bool.{Bool, true, false}
use lib.Dec.{ltb}
use borrow.Author.Tests.{ltb-true, ltb-false}
use Rattle.ins2651_rules.specs.Status.{Kept}
use Rattle.joined_rules.specs.declared.Pair.{Pair}
use Rattle.line_rules.specs.declared.Unit.{Unit}
use Rattle.joined_rules.specs.Joining.{Ran, Joined, tick, ticks, run, settled_pair}
use Rattle.joined_rules.specs.Waiting.{wait}
use Rattle.joined_rules.proofs.Runs.{BothIn, settled_both, joined_in, joined_ticks_in, tick_is, in_range_ticks, settled_ticks}
use Rattle.joined_rules.proofs.TwoWays.{both_kept}
use Rattle.joined_rules.proofs.RunsRefused.{run_refused, run_done}
use Rattle.joined_rules.proofs.Waits.{wait_ticks}

-- a tick, of any pair
tick_in : (p : Pair) → BothIn (tick p).pair
tick_in p = subst BothIn (sym (ap (λ (o : Joined). o.pair) (tick_is p))) (joined_in (settled_pair p) (settled_both p))

pub tick_kept : (p : Pair) → Kept (tick p).pair.a × Kept (tick p).pair.b
tick_kept p = both_kept (tick p).pair (tick_in p)

-- ticks, of a pair in range, or one and more of any
ticks_in : (n : ℕ) (p : Pair) → BothIn p → BothIn (ticks n p)
ticks_in n p h = subst BothIn (sym (in_range_ticks n p h)) (joined_ticks_in n p h)

pub some_ticks_kept : (n : ℕ) (p : Pair) → 0 < n → Kept (ticks n p).a × Kept (ticks n p).b
some_ticks_kept n p z = both_kept (ticks n p) (subst BothIn (settled_ticks n p z) (joined_ticks_in n (settled_pair p) (settled_both p)))

-- a run, refused or not
run_in : (p : Pair) (n : ℕ) → BothIn p → BothIn (run p n).pair
run_in p n h = go (ltb 65535 n) refl
  where
    go : (b : Bool) → ltb 65535 n ≡ b → BothIn (run p n).pair
    go true e = subst (λ (r : Ran). BothIn r.pair) (sym (run_refused p n (ltb-true 65535 n e))) h
    go false e = subst (λ (r : Ran). BothIn r.pair) (sym (run_done p n (ltb-false 65535 n e))) (ticks_in n p h)

pub run_kept : (p : Pair) (n : ℕ) → BothIn p → Kept (run p n).pair.a × Kept (run p n).pair.b
run_kept p n h = both_kept (run p n).pair (run_in p n h)

-- a wait, refused or not
pub wait_kept : (p : Pair) (u : Unit) (limit : ℕ) → BothIn p → Kept (wait p u limit).pair.a × Kept (wait p u limit).pair.b
wait_kept p u limit h = both_kept (wait p u limit).pair (subst BothIn (wait_ticks p u limit) (ticks_in (wait p u limit).count p h))
