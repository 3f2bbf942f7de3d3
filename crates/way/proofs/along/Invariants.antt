-- The ticks that are left make up the run, up to the first that brings a character where that is watched for.
use Rattle.way_rules.proofs.Until.{SoFar}
use Rattle.way.proofs.along.Given as goal

abbrev pub invariant-loop-left : goal.invariant-loop-left
invariant-loop-left l = SoFar l.e l.watch l.n l.fn.w l.left l.w

abbrev pub decreases-loop-left : goal.decreases-loop-left
decreases-loop-left l = l.left
