-- `pair_host::ins2651_joined_run` meets its contract: where the run is refused, by the number of what is told.
use Rattle.std.proofs.Common.{ap, sym, ◌∙◌}
use Rattle.joined_rules.specs.Joining.{Ran}
use Rattle.joined_rules.proofs.Told.{run_err}
use Rattle.pair_host.proofs.ins2651_joined_run.Goals as goal

pub returns-in-Err-clause-answer : goal.returns-in-Err-clause-answer
returns-in-Err-clause-answer c =
    c.from-in-Err.ensures
    ∙ c.from.ensures
    ∙ sym (ap (λ (r : Ran). r.refusal) (run_err tt c.args.p.now c.args.n c.in-Err.refused (sym c.run.ensures.answer ∙ c.in-Err.is)))
