-- Which numbers are a format of document 01: mode register 1's factors, lengths, parity and stop lengths.
-- Assumes nothing.
use Rattle.std.specs.Prelude.{ℕ, ◌+◌, ◌*◌, ◌≤◌, ◌<◌, Bool, ◌&&◌, ◌||◌, leb, eqb}
use Rattle.line_rules.specs.declared.Format.{Format}
use Rattle.line_rules.specs.Sending.{half}

abbrev pub is_factor : ℕ → Bool
is_factor x = eqb x 1 || eqb x 16 || eqb x 64

-- 1, 1½ or 2 bits; with F = 1, 1½ counts as one tick
abbrev pub is_stop : Format → Bool
is_stop f = eqb f.stop f.factor || eqb f.stop (f.factor + half f) || eqb f.stop (2 * f.factor)

abbrev pub is_length : ℕ → Bool
is_length n = leb 5 n && leb n 8

unfoldable pub in_range : Format → Bool
in_range f = is_factor f.factor && is_length f.length && leb f.parity 1 && leb f.even 1 && is_stop f

-- what the range gives a proof
pub record Bounds (f : Format) : Type 0 where
  pub ticks : 0 < f.factor
  pub few : f.factor ≤ 64
  pub long : 5 ≤ f.length
  pub short : f.length ≤ 8
  pub parity : f.parity ≤ 1
  pub even : f.even ≤ 1
  pub stops : half f < f.stop
  pub ends : f.stop ≤ 2 * f.factor
