-- `rows::line` meets its contract: each step moves a number from those that are left to what is stored.
-- Assumes nothing.
use Rattle.std.proofs.Common.{◌≡◌, [], ◌∷◌, ◌++◌}
use mathlib.Core.List.{append_assoc}
use lib.ListN.{get_or}
use Rattle.std.proofs.lemmas.List.{at_drop_more, at_drop_all}
use Rattle.rows.specs.Text.{ended, line, decimal}
use Rattle.rows.proofs.Puts.{behind}
use Rattle.rows.proofs.line.Goals as goal

pub loop-n-preserved : goal.loop-n-preserved
loop-n-preserved c =
    let i = c.loop-n.invariant in (
      i.0 ++ 9 ∷ decimal (get_or c.args.numbers.now c.loop-n.n-index 0),
      behind i.1 c.field-e.ensures,
      rw (append_assoc, ← at_drop_more ended c.args.numbers.now c.loop-n.n-index 0 c.loop-n-test.true) i.2,
    )

pub returns : goal.returns
returns c =
    let i = c.loop-n.invariant in
    let e : i.0 ++ 10 ∷ [] ≡ line c.args.head.now c.args.numbers.now = rw (at_drop_all ended c.args.numbers.now c.loop-n.n-index c.loop-n-test.false) at i.2 in
    rw (← e) (behind i.1 c.store.ensures)
