-- `way::along` meets its contract. The ticks that are left make up the run, up to the first that brings a character where that is watched for.
use Rattle.std.proofs.Common.{◌-◌, Bool, ◌&&◌, ap, sym, subst, ◌∙◌, arith}
use Rattle.way_rules.specs.Leap.{Moved}
use Rattle.way_rules.specs.Along.{way_tick}
use Rattle.way_rules.specs.Until.{unread}
use Rattle.way_rules.proofs.AtOnce.{moves_by}
use Rattle.way_rules.proofs.Until.{SoFar, begins, goes_on, turns, over, ends}
use Rattle.way.proofs.along.Goals as goal

pub loop-left-init : goal.loop-left-init
loop-left-init c = begins _ _ _ _

pub overflow_sub-left-in-loop-left : goal.overflow_sub-left-in-loop-left
overflow_sub-left-in-loop-left c =
    let l = c.loop-left in
    let m = moves_by c.args.e.now l.w (l.left - 1) c.advance-k.result c.advance-k.new.w c.advance-k.ensures.ticks c.advance-k.ensures.way in
    omega (arith, m.in_room_lem, (goes_on c.args.e.now c.args.watch l.left l.w c.loop-left-test.true).0)

pub overflow_sub-left-in-loop-left-2 : goal.overflow_sub-left-in-loop-left-2
overflow_sub-left-in-loop-left-2 c =
    let l = c.loop-left in
    let m = moves_by c.args.e.now l.w (l.left - 1) c.advance-k.result c.advance-k.new.w c.advance-k.ensures.ticks c.advance-k.ensures.way in
    omega (arith, m.in_room_lem, (goes_on c.args.e.now c.args.watch l.left l.w c.loop-left-test.true).0)

pub loop-left-preserved : goal.loop-left-preserved
loop-left-preserved c =
    let a = c.args in
    let l = c.loop-left in
    let d = c.advance-k in
    let on = goes_on a.e.now a.watch l.left l.w c.loop-left-test.true in
    let m = moves_by a.e.now l.w (l.left - 1) d.result d.new.w d.ensures.ticks d.ensures.way in
    subst (SoFar a.e.now a.watch a.n a.w.now (l.left - d.result - 1)) (sym (c.tick.ensures ∙ ap (way_tick a.e.now) m.way))
    (turns a.e.now a.watch a.n a.w.now l.left l.w d.result l.invariant (omega (arith, m.in_room_lem, on.0))
    (ap (λ (b : Bool). a.watch && b) (sym (ap unread m.way) ∙ d.ensures.none) ∙ on.1))

pub overflow_sub-result : goal.overflow_sub-result
overflow_sub-result c = omega (arith, c.loop-left.invariant.no_more)

pub returns : goal.returns
returns c =
    let a = c.args in
    let l = c.loop-left in
    let done = ends a.e.now a.watch a.n a.w.now l.left l.w l.invariant (over a.e.now a.watch l.left l.w c.loop-left-test.false) in
    record { ticks = ap (λ (m : Moved). m.ticks) done; way = ap (λ (m : Moved). m.way) done }
