-- `way::looks_ahead` meets its contract. The looks that are left, and those that the room has ticks for.
use Rattle.std.proofs.Common.{◌<◌, ◌-◌, ◌*◌, arith}
use Rattle.way_rules.proofs.AtOnce.{no_factor, no_room, no_look, to_the_last, in_reach, not_reached}
use Rattle.way.proofs.looks_ahead.Goals as goal

pub returns-then-ticks-eq0 : goal.returns-then-ticks-eq0
returns-then-ticks-eq0 c = (no_factor c.args.w.now c.args.room (omega (arith, c.if-ticks-eq0.true, c.from-ticks.ensures)), λ h. absurd (omega arith))

pub returns-then-room-wait : goal.returns-then-room-wait
returns-then-room-wait c = (no_room c.args.w.now c.args.room (omega (arith, c.if-room-wait.true, c.from-wait.ensures)), λ h. absurd (omega arith))

pub returns-then-last-look : goal.returns-then-last-look
returns-then-last-look c = (no_look c.args.w.now c.args.room (omega (arith, c.if-last-look.true, c.last_look-last.ensures.0)), λ h. absurd (omega arith))

pub returns-then-ticks-last : goal.returns-then-ticks-last
returns-then-ticks-last c =
    let l = c.last_look-last in
    let f : 0 < c.args.w.now.receiver.format.factor = omega (arith, c.if-ticks-eq0.false, c.from-ticks.ensures) in
    (to_the_last c.args.w.now c.args.room l.result l.ensures.0 f (omega (arith, c.if-room-wait.false, c.from-wait.ensures)) (rw (← c.from-ticks.ensures, ← c.from-wait.ensures) c.if-ticks-last.true), λ h. omega (arith, l.ensures.1, c.if-last-look.false))

pub returns : goal.returns
returns c =
    let l = c.last_look-last in
    let w = c.args.w.now in
    let f : 0 < w.receiver.format.factor = omega (arith, c.if-ticks-eq0.false, c.from-ticks.ensures) in
    let short : c.args.room - w.receiver.state.countdown < w.receiver.format.factor * (l.result - w.receiver.state.look) =
    rw (← c.from-ticks.ensures, ← c.from-wait.ensures) c.if-ticks-last.false in
    let n = not_reached w.receiver.format.factor (c.args.room - w.receiver.state.countdown) (l.result - w.receiver.state.look) f short in
    rw (c.from-ticks.ensures, c.from-wait.ensures) (in_reach w c.args.room l.result l.ensures.0 f (omega (arith, c.if-room-wait.false, c.from-wait.ensures)) short, λ h. omega (arith, n, l.ensures.1, c.if-last-look.false))
