-- `rows::write` meets its contract.
-- Assumes nothing.
use Rattle.rows.specs.Text.{row_text}
use Rattle.rows.proofs.Puts.{nothing_put}
use Rattle.rows.proofs.write.Goals as goal

pub returns-in_default-2 : goal.returns-in_default-2
unfolding row_text
returns-in_default-2 c = rw c.in_default.is (nothing_put c.args.out.now c.args.at)
