-- `rows::decimal` meets its contract: with seven to nine digits, its thousands and then three digits.
-- Assumes nothing.
use Rattle.std.proofs.Common.{arith}
use Rattle.rows.proofs.Threes.{three_behind}
use Rattle.rows.proofs.decimal.Goals as goal

pub returns-then-n-lt1000000000 : goal.returns-then-n-lt1000000000
returns-then-n-lt1000000000 c = three_behind c.args.n c.ranges.n.fits (omega arith) c.below_1000000-e.ensures c.three.ensures
