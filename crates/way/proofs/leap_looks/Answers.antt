-- `way::leap_looks` meets its contract. By whether a frame is followed, and the receiver in step.
use Rattle.std.proofs.Common.{ℕ, Bool, ◌&&◌, ap, ap₂, sym, ◌∙◌, arith}
use Rattle.line_rules.proofs.Choice.{all}
use Rattle.way_rules.specs.Calm.{least}
use Rattle.way_rules.specs.Leap.{in_step, looks_ahead}
use Rattle.way_rules.proofs.Branches.{least_min}
use Rattle.way_rules.proofs.AtOnce.{leaps_none, leaps_some}
use Rattle.way.proofs.leap_looks.Goals as goal

pub returns-then-step : goal.returns-then-step
returns-then-step c =
    let a = c.args in
    let busy = c.if-followed.true in
    let step = sym c.in_step-step.ensures.0 ∙ c.if-step.true in (
      c.looks_ahead.ensures.0 ∙ ap (looks_ahead a.w.now) (least_min _ _ _ c.min.ensures ∙ ap (λ (n : ℕ). least n a.room) c.places_left.ensures) ∙ leaps_some a.e.now a.w.now a.room (all busy step),
      λ h. record { byte = c.in_step-step.ensures.1; look = c.looks_ahead.ensures.1 h },
    )

pub returns-then-followed : goal.returns-then-followed
returns-then-followed c =
    let a = c.args in
    let b = c.if-followed.true in
    (leaps_none a.e.now a.w.now a.room (ap₂ (λ (x y : Bool). x && y) b (sym c.in_step-step.ensures.0 ∙ c.if-step.false)), λ h. absurd (omega arith))

pub returns : goal.returns
returns c =
    let a = c.args in
    let b = c.if-followed.false in
    (leaps_none a.e.now a.w.now a.room (ap (λ (x : Bool). x && in_step a.w.now) b), λ h. absurd (omega arith))
