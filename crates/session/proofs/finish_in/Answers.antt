-- `session::finish_in` meets its contract. The last line's text, where it lacks its newline, and the counts behind it.
-- Assumes nothing.
use Rattle.std.proofs.Common.{arith, length-append, le-ltb, lt-ltb}
use Rattle.rows.proofs.Puts.{behind, room, spoke}
use Rattle.session_rules.specs.Bytes.{last_said}
use Rattle.session_rules.proofs.Feeding.{said_short, counts_short}
use Rattle.session.proofs.finish_in.Goals as goal

pub counts-requires : goal.counts-requires
counts-requires c = room 32 32 c.step-at.ensures.text (said_short c.args.s 10) c.requires

pub returns-then-s-gt0 : goal.returns-then-s-gt0
unfolding last_said
returns-then-s-gt0 c =
    let s = c.args.s in
    let q = c.step-at.new.s in
    let last = c.step-at.ensures in
    rw (lt-ltb 0 _ c.if-s-gt0.true, ← last.session)
    (spoke (behind last.text c.counts.ensures) (rw length-append (omega (arith, said_short s 10, counts_short q.lines q.refusals, c.requires))))

pub returns : goal.returns
unfolding last_said
returns c =
    let s = c.args.s in
    rw (le-ltb 0 _ c.if-s-gt0.false) (spoke c.counts-2.ensures (omega (arith, counts_short s.lines s.refusals, c.requires)))
