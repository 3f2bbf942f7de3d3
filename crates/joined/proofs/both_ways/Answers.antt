-- `joined::both_ways` meets its contract: a way and then the way back, from the devices that the first leaves, and then the byte of each.
use Rattle.std.proofs.Common.{ap, ◌∙◌}
use Rattle.ins2651_rules.specs.Shape.{status_kept}
use Rattle.joined_rules.proofs.TwoWays.{heard_after, sent_after}
use Rattle.joined.proofs.both_ways.Goals as goal

pub returns-clause-from : goal.returns-clause-from
returns-clause-from c =
    let one = c.one_way-count in
    let two = c.one_way in
    c.keep_status.ensures
    ∙ ap status_kept two.ensures.to
    ∙ heard_after one.result c.args.from.now c.args.to.now two.result one.new.from one.new.to one.ensures.from one.ensures.to two.ensures.count

pub returns-clause-to : goal.returns-clause-to
returns-clause-to c =
    let one = c.one_way-count in
    let two = c.one_way in
    c.keep_status-2.ensures
    ∙ ap status_kept two.ensures.from
    ∙ sent_after one.result c.args.from.now c.args.to.now two.result one.new.from one.new.to one.ensures.from one.ensures.to two.ensures.count
