-- The loop of `run_polls::batches`: what is left of the space grows less.
use Rattle.std.proofs.Common.{◌≤◌, length}
use Rattle.run_polls.proofs.batches.Given as goal

abbrev pub invariant-loop-input : goal.invariant-loop-input
invariant-loop-input g l = length l.room ≤ 65536

abbrev pub decreases-loop-input : goal.decreases-loop-input
decreases-loop-input g l = length l.room
