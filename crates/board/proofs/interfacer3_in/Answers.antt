-- `board::interfacer3_in` goes by its plan.
use Rattle.std.proofs.Common.{◌∙◌}
use Rattle.board_walks.proofs.Planned.{in_by_all}
use Rattle.board.proofs.interfacer3_in.Goals as goal

pub returns-clause-all : goal.returns-clause-all
returns-clause-all c h all = c.answered.ensures ∙ c.read_port.ensures.answer ∙ in_by_all c.args.board.now c.args.room.now c.args.port h all
