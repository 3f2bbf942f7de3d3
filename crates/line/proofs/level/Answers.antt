-- `line::level` meets its contract. Each way out is the part of the frame between two boundaries.
use Rattle.std.proofs.Common.{sym, ◌∙◌, arith}
use Rattle.line_rules.proofs.Frames.{level_stop}
use Rattle.line.proofs.Boundaries.{behind_start, level_start, level_data, level_parity}
use Rattle.line.proofs.level.Goals as goal

pub returns-then-start_never_ends-at : goal.returns-then-start_never_ends-at
returns-then-start_never_ends-at c =
    sym (level_start c.args.f c.args.c c.args.place (rw (← c.from-at.ensures, ← c.from-before_data.ensures) c.if-start_never_ends-at.true))

pub returns-then-at-before_parity : goal.returns-then-at-before_parity
returns-then-at-before_parity c =
    let b = behind_start c.args.f.factor c.args.place (rw (← c.from-at.ensures, ← c.from-before_data.ensures) c.if-start_never_ends-at.false) in
    rw (c.bit_at.ensures, c.data_bit.ensures) (sym (level_data c.args.f c.args.c c.args.place b.1 (omega arith)))

pub returns-then-at-before_stop : goal.returns-then-at-before_stop
returns-then-at-before_stop c = c.parity_level.ensures ∙ sym (level_parity c.args.f c.args.c c.args.place (omega arith) (omega arith))

pub returns : goal.returns
returns c =
    let b = behind_start c.args.f.factor c.args.place (rw (← c.from-at.ensures, ← c.from-before_data.ensures) c.if-start_never_ends-at.false) in
    sym (level_stop c.args.f c.args.c c.args.place b.0 (omega arith))
