-- `pair_host::ins2651_joined_wait` meets its contract: where the wait is refused, by the number of what is told.
use Rattle.std.proofs.Common.{ℕ, ◌+◌, ◌*◌, ◌≡◌, ap, sym, ◌∙◌, arith}
use Rattle.line_rules.specs.declared.Unit.{Unit}
use Rattle.joined_rules.specs.Refused.{number}
use Rattle.joined_rules.specs.Waiting.{wait}
use Rattle.joined_rules.proofs.Told.{wait_err}
use Rattle.pair_host.specs.Replies.{wait_answer}
use Rattle.pair_host.proofs.ins2651_joined_wait.Goals as goal

pub returns-in-Err-clause-answer : goal.returns-in-Err-clause-answer
returns-in-Err-clause-answer c =
    let a = c.args in
    let w = c.wait in
    let n : ℕ = number c.in-Err.refused in
    ap (λ (k : ℕ). k * 65536) (c.from-in-Err-2.ensures ∙ c.from-in-Err.ensures)
    ∙ (let q : n * 65536 ≡ n * 65536 + 0 = omega arith in q)
    ∙ ap wait_answer (sym (wait_err (wait a.p.now c.unit_of.result a.limit).count a.p.now c.unit_of.result a.limit c.in-Err.refused (sym w.ensures.answer ∙ c.in-Err.is)))
    ∙ ap (λ (u : Unit). wait_answer (wait a.p.now u a.limit)) c.unit_of.ensures
