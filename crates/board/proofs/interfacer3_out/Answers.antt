-- `board::interfacer3_out` goes by its plan.
use Rattle.std.proofs.Common.{◌∙◌}
use Rattle.board_walks.proofs.Planned.{out_by_plan}
use Rattle.board.proofs.interfacer3_out.Goals as goal

pub returns-clause-plan : goal.returns-clause-plan
returns-clause-plan c =
    let done = c.write_port.ensures in
    rw (c.answered.ensures ∙ done.answer, done.board, done.room) (out_by_plan c.args.board.now c.args.room.now c.args.port c.args.value)
