-- The loop of `rows::line`: what is stored, with the numbers that are left, is the line.
use Rattle.std.proofs.Common.{◌≡◌, ◌++◌, ℕ, List}
use Rattle.std.specs.Prelude.{drop}
use Rattle.rows.specs.Text.{Put, ended, line}
use Rattle.rows.proofs.line.Given as goal

abbrev pub invariant-loop-n : goal.invariant-loop-n
invariant-loop-n l = (t : List ℕ) × Put l.fn.out l.fn.at t l.out l.e × (t ++ ended (drop l.n-index l.fn.numbers) ≡ line l.fn.head l.fn.numbers)
