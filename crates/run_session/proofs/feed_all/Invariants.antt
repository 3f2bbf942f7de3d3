-- The loop of `run_session::feed_all`: what the calls so far have taken of the piece.
use Rattle.std.proofs.Common.{length}
use Rattle.run_session.proofs.Parts.{SoFar}
use Rattle.run_session.proofs.feed_all.Given as goal

abbrev pub invariant-loop-rest : goal.invariant-loop-rest
invariant-loop-rest g l = SoFar l.initial.s l.piece l.rest l.s (g.W.Write.contents l.initial.output) (g.W.Write.contents l.output)

abbrev pub decreases-loop-rest : goal.decreases-loop-rest
decreases-loop-rest g l = length l.rest
