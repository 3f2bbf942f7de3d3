-- `fields::Fields::place` meets its contract. A store beyond the end changes nothing.
-- Assumes nothing.
use Rattle.std.proofs.Common.{arith}
use mathlib.Core.Path.{refl}
use Rattle.std.proofs.lemmas.List.{set_past}
use Rattle.fields.specs.Reading.{placed}
use Rattle.fields.proofs.Fields.place.Goals as goal

pub returns-else-place-lt4 : goal.returns-else-place-lt4
unfolding placed
returns-else-place-lt4 c = rw (set_past c.args.self.now.before c.args.self.now.count c.args.self.now.last (omega (arith, c.if-place-lt4.false, c.from-place.ensures))) refl
