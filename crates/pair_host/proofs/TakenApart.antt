-- C takes the levels of a joined tick apart as they were put together, and the refusal and the count of a wait: none is lost in one number. And which unit a number names.
-- Assumes nothing.
use Prim.Native.Nat.{ℕ, suc, ◌≤◌}
use native.Mathlib.Omega.{arith}
use mathlib.Core.Path.{◌≡◌, refl}
use borrow.Author.Tests.{ne_eqb}
use Rattle.line_rules.proofs.Bits.{at_most_one}
use Rattle.ins2651_rules.specs.declared.Device.{Device}
use Rattle.ins2651_rules.specs.Ranges.{settled}
use Rattle.ins2651_rules.specs.Ticks.{transmit, transmit_tick, sent}
use Rattle.joined_rules.specs.declared.Pair.{Pair}
use Rattle.line_rules.specs.declared.Unit.{Unit}
use Rattle.line_rules.specs.declared.Unit.TheVariants as unit
use Rattle.joined_rules.specs.Joining.{Joined, tick}
use Rattle.joined_rules.specs.Waiting.{Waited, wait}
use Rattle.joined_rules.proofs.Waits.{count_fits}
use Rattle.pair_host.specs.Replies.{levels_sent, level_of_a, level_of_b, unit_of, wait_answer, wait_refusal, wait_count}

level_fits : (d : Device) → (transmit d).level ≤ 1
unfolding transmit transmit_tick
level_fits d = at_most_one (sent (settled d)).level

told : (j : Joined) → j.a ≤ 1 → (level_of_a (levels_sent j) ≡ j.a) × (level_of_b (levels_sent j) ≡ j.b)
told j h = (omega (arith, h), omega (arith, h))

pub levels_told : (p : Pair) → (level_of_a (levels_sent (tick p)) ≡ (tick p).a) × (level_of_b (levels_sent (tick p)) ≡ (tick p).b)
unfolding tick
levels_told p = told (tick p) (level_fits p.a)

-- == a wait ==

-- 0 names a from C, and any other number b
pub unit_named : (n : ℕ) → (unit_of 0 ≡ unit.A) × (unit_of (suc n) ≡ unit.B)
unit_named n = (refl, rw (ne_eqb (suc n) 0 (λ e. omega arith)))

in_one : (w : Waited) → w.count ≤ 65535 → (wait_refusal (wait_answer w) ≡ w.refusal) × (wait_count (wait_answer w) ≡ w.count)
in_one w h = (omega (arith, h), omega (arith, h))

pub wait_parts_told : (p : Pair) (u : Unit) (limit : ℕ) → (wait_refusal (wait_answer (wait p u limit)) ≡ (wait p u limit).refusal) × (wait_count (wait_answer (wait p u limit)) ≡ (wait p u limit).count)
wait_parts_told p u limit = in_one (wait p u limit) (count_fits p u limit)
