-- `way::skip` meets its contract. Ticks that only count, at once.
use Rattle.std.proofs.Common.{◌∙◌, arith}
use Rattle.way_rules.proofs.Ways.{skips}
use Rattle.way.proofs.skip.Goals as goal

pub returns : goal.returns
returns c = c.count.ensures ∙ skips c.args.e.now c.args.k c.args.w.now (omega (arith, c.if-k-eq0.false)) c.requires
