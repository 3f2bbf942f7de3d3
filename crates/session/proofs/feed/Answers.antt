-- `session::feed` meets its contract: each turn takes the piece's next byte, while the text has room.
-- Assumes nothing.
use Rattle.session_rules.proofs.Feeding.{goes_on_lem, done_full, done_all}
use Rattle.session.proofs.feed.Goals as goal

pub returns-then-out-at-lt32-clause-spoke : goal.returns-then-out-at-lt32-clause-spoke
returns-then-out-at-lt32-clause-spoke c = (done_full c.loop-used.invariant c.loop-used-test.true c.if-out-at-lt32.true).text

pub loop-used-preserved : goal.loop-used-preserved
loop-used-preserved c = goes_on_lem c.loop-used.invariant c.loop-used-test.true c.if-out-at-lt32.false c.step-at.ensures.session c.step-at.ensures.text

pub returns-clause-spoke : goal.returns-clause-spoke
returns-clause-spoke c = (done_all c.loop-used.invariant c.loop-used-test.false).text
