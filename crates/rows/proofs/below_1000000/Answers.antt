-- `rows::below_1000000` meets its contract: from 1000 on, its thousands and then three digits.
-- Assumes nothing.
use Rattle.std.proofs.Common.{arith}
use Rattle.rows.proofs.Threes.{three_behind}
use Rattle.rows.proofs.below_1000000.Goals as goal

pub returns : goal.returns
returns c = three_behind c.args.n c.ranges.n.fits (omega arith) c.below_1000-e.ensures c.three.ensures
