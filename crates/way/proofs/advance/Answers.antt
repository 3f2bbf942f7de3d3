-- `way::advance` meets its contract. Nothing, a leap, or ticks that only count.
use Rattle.std.proofs.Common.{ℕ, eqb, refl, ap, ◌∙◌, eqb-true, arith}
use Rattle.line_rules.specs.Sending.{on}
use Rattle.line_rules.proofs.Table.{both}
use Rattle.way_rules.specs.Leap.{Moved}
use Rattle.way_rules.specs.Calm.{least}
use Rattle.way_rules.specs.Until.{unread}
use Rattle.way_rules.proofs.Branches.{least_is, least_min}
use Rattle.way_rules.proofs.AtOnce.{none_done, leap_is, leap_done, skip_done}
use Rattle.way_rules.proofs.Flown.{step_parts}
use Rattle.way_rules.proofs.Until.{calm_brings_none}
use Rattle.way.proofs.advance.Goals as goal

pub returns-then-room-eq0 : goal.returns-then-room-eq0
returns-then-room-eq0 c =
    let done = none_done c.args.e.now c.args.w.now c.args.room c.if-room-eq0.true in
    record { ticks = ap (λ (m : Moved). m.ticks) done; way = ap (λ (m : Moved). m.way) done; none = refl }

pub leap_ticks-k-requires : goal.leap_ticks-k-requires
leap_ticks-k-requires c =
    let q = c.leap_looks-q in
    omega (arith, (leap_is c.args.e.now c.args.w.now c.args.room q.result q.ensures.0 c.if-q-gt0.true).placed)

pub leap-requires : goal.leap-requires
leap-requires c =
    let w = c.args.w.now in
    let q = c.leap_looks-q in
    let l = leap_is c.args.e.now w c.args.room q.result q.ensures.0 c.if-q-gt0.true in
    record {
      placed = omega (arith, l.placed, c.leap_ticks-k.ensures);
      looked = omega (arith, (q.ensures.1 c.if-q-gt0.true).look);
      phase = eqb-true w.receiver.state.phase 2 (both (on w.sender.frame.place) (eqb w.receiver.state.phase 2) l.busy).1;
      wrong = (step_parts w l.step).wrong;
    }

pub returns-then-q-gt0 : goal.returns-then-q-gt0
returns-then-q-gt0 c =
    let a = c.args in
    let q = c.leap_looks-q in
    let done = leap_done a.e.now a.w.now a.room q.result c.leap_ticks-k.result _ q.ensures.0 c.if-q-gt0.true (q.ensures.1 c.if-q-gt0.true).byte c.leap_ticks-k.ensures c.leap.ensures in
    record { ticks = ap (λ (m : Moved). m.ticks) done; way = ap (λ (m : Moved). m.way) done; none = ap unread c.leap.ensures }

pub returns : goal.returns
returns c =
    let a = c.args in
    let q = c.leap_looks-q in
    let k = c.min-k in
    let lesser = least_min c.calm.result a.room k.result k.ensures in
    let calm = least_is c.calm.result a.room k.result lesser in
    let done = skip_done a.e.now a.w.now a.room q.result k.result _ q.ensures.0 (omega (arith, c.if-q-gt0.false)) (lesser ∙ ap (λ (n : ℕ). least n a.room) c.calm.ensures) c.skip.ensures in
    record {
      ticks = ap (λ (m : Moved). m.ticks) done;
      way = ap (λ (m : Moved). m.way) done;
      none = ap unread c.skip.ensures ∙ calm_brings_none a.e.now k.result a.w.now (omega (arith, calm.first, c.calm.ensures));
    }
