-- What was said to all bytes is written, and then the last that is said.
use Rattle.run_session.proofs.Parts.{ended_well}
use Rattle.run_session.proofs.run.Goals as goal

pub returns : goal.returns
returns g c = ended_well _ _ _ _ _ _ _ _ c.begin-s.ensures c.whole-went.ensures.passed c.in_ok-next.ensures.failed _ c.in_ok-next.ensures.wrote
