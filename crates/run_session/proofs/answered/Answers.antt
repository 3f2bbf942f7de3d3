-- All but the last byte is fed, and that byte where lines are still taken.
use Rattle.std.proofs.Common.{arith, ◌-◌, length}
use Rattle.run_session.proofs.Parts.{rest_fed, rest_unread, rest_said, no_rest_said, no_more, some_bytes}
use Rattle.run_session.proofs.answered.Goals as goal

pub returns-in-More-clause-answered : goal.returns-in-More-clause-answered
returns-in-More-clause-answered g c =
    let piece = c.args.piece.now in
    rest_fed c.args.s.now piece (length piece - 1) (omega (arith, some_bytes piece _ c.is_empty.ensures c.if-is_empty.false)) c.in_ok-feed_all.ensures.took c.in-More.is _ _ c.feed_all-in-More.ensures.took

pub returns-in-More-clause-wrote : goal.returns-in-More-clause-wrote
returns-in-More-clause-wrote g c =
    let piece = c.args.piece.now in
    let start = c.in_ok-feed_all.ensures in
    rest_said c.args.s.now piece (length piece - 1) (omega (arith, some_bytes piece _ c.is_empty.ensures c.if-is_empty.false)) start.took _ _ _ _ start.wrote c.feed_all-in-More.ensures.wrote

pub returns-in_default : goal.returns-in_default
returns-in_default g c =
    let piece = c.args.piece.now in
    let start = c.in_ok-feed_all.ensures in
    let off = no_more _ c.in_default.not-More in
    record {
      answered = rest_unread c.args.s.now piece (length piece - 1) (omega (arith, some_bytes piece _ c.is_empty.ensures c.if-is_empty.false)) start.took off;
      wrote = no_rest_said c.args.s.now piece (length piece - 1) (omega (arith, some_bytes piece _ c.is_empty.ensures c.if-is_empty.false)) start.took off _ _ start.wrote;
    }
