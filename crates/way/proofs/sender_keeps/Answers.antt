-- `way::sender_keeps` meets its contract. By what the sender does: its level, and for how long that stays.
use Rattle.std.proofs.Common.{ℕ, true, false, not, cond, ◌&&◌, eqb, refl, ap, sym, ◌∙◌, lt-ltb, le-ltb}
use Rattle.line_rules.specs.Sending.{on}
use Rattle.way_rules.proofs.Senders.{frame_holds_lem, break_holds, guard_holds, rest_holds}
use Rattle.way_rules.proofs.Ticks.{frame_levels, break_level, guard_level, rest_level, keeps_as}
use Rattle.way.proofs.sender_keeps.Goals as goal

pub returns-then-s-gt0 : goal.returns-then-s-gt0
returns-then-s-gt0 c =
    let a = c.args in
    let t = lt-ltb 0 _ c.if-s-gt0.true in
    c.frame_keeps.ensures ∙ keeps_as a.e.now a.s.now a.p _ _ (frame_levels a.e.now a.s.now _ t refl) (frame_holds_lem a.e.now a.s.now t)

pub returns-then-breaks : goal.returns-then-breaks
returns-then-breaks c =
    let a = c.args in
    let t = le-ltb 0 _ c.if-s-gt0.false in
    let b = sym c.breaks.ensures ∙ c.if-breaks.true in
    c.only.ensures ∙ keeps_as a.e.now a.s.now a.p false 65535 (break_level a.e.now a.s.now t b) (break_holds a.e.now a.s.now t b)

pub returns-then-s-gt0-2 : goal.returns-then-s-gt0-2
returns-then-s-gt0-2 c =
    let a = c.args in
    let t = le-ltb 0 _ c.if-s-gt0.false in
    let b = sym c.breaks.ensures ∙ c.if-breaks.false in
    let g = lt-ltb 0 _ c.if-s-gt0-2.true in
    c.only-then-s-gt0-2.ensures ∙ ap (λ (n : ℕ). cond (eqb a.p 1) n 0) c.from.ensures ∙ keeps_as a.e.now a.s.now a.p true a.s.now.guard (guard_level a.e.now a.s.now t b g) (guard_holds a.e.now a.s.now t b g)

pub returns : goal.returns
returns c =
    let a = c.args in
    let t = le-ltb 0 _ c.if-s-gt0.false in
    let b = sym c.breaks.ensures ∙ c.if-breaks.false in
    let g = le-ltb 0 _ c.if-s-gt0-2.false in
    c.only-2.ensures
    ∙ ap (λ (x : ℕ). cond (eqb a.p x) 65535 0) c.from-2.ensures
    ∙ keeps_as a.e.now a.s.now a.p (not (a.e.now.ready && on a.s.now.full)) 65535 (rest_level a.e.now a.s.now t b g) (rest_holds a.e.now a.s.now t b g)
