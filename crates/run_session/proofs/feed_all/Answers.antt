-- Each call takes some of what is left of the piece, and what it said to that is written behind what was said before.
use Rattle.run_session.proofs.Parts.{part_taken}
use Rattle.run_session.proofs.feed_all.Goals as goal

pub loop-rest-preserved : goal.loop-rest-preserved
loop-rest-preserved g c =
    let took = c.in_ok-used.ensures.took in
    part_taken c.in_ok-used.used (rw took.2 took.1.within) c.loop-rest.invariant (rw took.2 took.1.session) c.in_ok-used.ensures.wrote
