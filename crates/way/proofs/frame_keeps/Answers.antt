-- `way::frame_keeps` meets its contract. A stop is at 1.
use Rattle.std.proofs.Common.{ℕ, Bool, cond, eqb, ap₂, sym, ◌∙◌}
use Rattle.line_rules.specs.Sending.{bit}
use Rattle.way_rules.proofs.Senders.{stop_level, in_stop}
use Rattle.way.proofs.frame_keeps.Goals as goal

pub returns-then-stopping : goal.returns-then-stopping
returns-then-stopping c =
    let a = c.args in
    let t = sym c.stopping.ensures ∙ c.if-stopping.true in
    c.only.ensures ∙ ap₂ (λ (x : Bool) (n : ℕ). cond (eqb a.p (bit x)) n 0) (sym (stop_level a.g t)) (c.places_left.ensures ∙ sym (in_stop a.g t))
