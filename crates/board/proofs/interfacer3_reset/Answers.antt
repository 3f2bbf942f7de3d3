-- `board::interfacer3_reset` goes by its plan.
use Rattle.std.proofs.Common.{◌∙◌}
use Rattle.board_walks.proofs.Planned.{reset_by_plan}
use Rattle.board.proofs.interfacer3_reset.Goals as goal

pub returns-clause-plan : goal.returns-clause-plan
returns-clause-plan c =
    let done = c.reset_all.ensures in
    rw (c.answered.ensures ∙ done.answer, done.board, done.room) (reset_by_plan c.args.board.now c.args.room.now)
