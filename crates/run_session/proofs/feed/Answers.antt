-- With 65,536 bytes of room some of the piece is taken, and never more than all of it.
use Rattle.std.proofs.Common.{arith, refl}
use Rattle.run_session.proofs.Parts.{some_taken, no_answer}
use Rattle.run_session.proofs.feed.Goals as goal

pub returns-in_err-map_err-clause-took : goal.returns-in_err-map_err-clause-took
returns-in_err-map_err-clause-took g c =
    (c.feed-fed.result.used, some_taken _ _ _ _ _ c.feed-fed.ensures.used_value (omega arith) c.feed-fed.ensures.session_value, no_answer _ _ c.from_residual.ensures.0)

pub returns-clause-took : goal.returns-clause-took
returns-clause-took g c =
    (c.feed-fed.result.used, some_taken _ _ _ _ _ c.feed-fed.ensures.used_value (omega arith) c.feed-fed.ensures.session_value, refl)
