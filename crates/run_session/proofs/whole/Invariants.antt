-- The loop of `run_session::whole`: what the reads so far brought.
use Rattle.run_session.specs.declared.Next.TheVariants.{More}
use Rattle.run_session.specs.Goes.{Fed}
use Rattle.run_session.specs.Passing.{Passed}
use Rattle.run_session.proofs.whole.Given as goal

-- the session has taken what each read brought, one after another: a byte or more each
abbrev pub invariant-loop : goal.invariant-loop
invariant-loop g l = record {
  fed : Fed l.initial.s l.s More;
  passed : Passed l.initial.s l.counter (g.R.Read.remaining l.initial.input) (g.R.Read.remaining l.input) (g.W.Write.contents l.initial.output) (g.W.Write.contents l.output) l.s More;
}
