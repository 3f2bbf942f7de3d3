-- The loop of `session::feed`: what the bytes taken so far have come to.
-- Assumes nothing.
use Rattle.session_rules.proofs.Feeding.{Going}
use Rattle.session.proofs.feed.Given as goal

abbrev pub invariant-loop-used : goal.invariant-loop-used
invariant-loop-used l = Going l.fn.s l.piece l.fn.out l.out l.s l.used l.at
