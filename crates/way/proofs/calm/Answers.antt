-- `way::calm` meets its contract. The lesser of both halves' counts.
use Rattle.way_rules.specs.Calm.{way_calm}
use Rattle.std.proofs.Common.{◌∙◌}
use Rattle.way_rules.proofs.Branches.{least_min}
use Rattle.way_rules.proofs.Ways.{looks_next, none_sent}
use Rattle.way.proofs.calm.Goals as goal

pub returns-then-looks : goal.returns-then-looks
returns-then-looks c = looks_next c.args.e.now c.args.w.now _ c.looks.ensures c.if-looks.true

pub returns-then-sends-eq0 : goal.returns-then-sends-eq0
returns-then-sends-eq0 c = none_sent c.args.e.now c.args.w.now _ c.sender_calm-sends.ensures c.if-sends-eq0.true

pub returns : goal.returns
unfolding way_calm
returns c = least_min _ _ _ c.min.ensures ∙ rw (c.heard_calm.ensures, c.sender_calm-sends.ensures)
