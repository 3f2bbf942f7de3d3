-- One read after another.
use Rattle.run_session.proofs.Parts.{then, none_fed, none_passed, then_passed, stopped_passed, stops, goes, more_fed, more_passed}
use Rattle.run_session.proofs.whole.Goals as goal

pub loop-init : goal.loop-init
loop-init g c = record { fed = none_fed _; passed = none_passed _ _ _ }

pub returns-then-ne-clause-fed : goal.returns-then-ne-clause-fed
returns-then-ne-clause-fed g c = then c.loop.invariant.fed c.in_ok-next.ensures.fed

pub returns-then-ne-clause-passed : goal.returns-then-ne-clause-passed
returns-then-ne-clause-passed g c = stopped_passed _ (stops _ c.if-ne.ensures) (then_passed c.loop.invariant.passed c.in_ok-next.ensures.passed)

pub loop-preserved : goal.loop-preserved
loop-preserved g c =
    let on = goes _ c.if-ne.ensures in
    record {
      fed = more_fed on (then c.loop.invariant.fed c.in_ok-next.ensures.fed);
      passed = more_passed on (then_passed c.loop.invariant.passed c.in_ok-next.ensures.passed);
    }
