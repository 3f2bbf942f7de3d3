-- When the looks of a receiver see a frame, however its samples were come by.
-- Assumes nothing.
use Rattle.std.specs.Prelude.{ℕ, suc, ◌+◌, ◌*◌, ◌≤◌, ◌≡◌, Bool, true, false}
use Rattle.line_rules.specs.declared.Format.{Format}
use Rattle.line_rules.specs.Sending.{on, half, parity_bits, level_of}

-- the samples g 0, g 1, .. begin with a start's edge, and each look sees its bit of a frame of c, up to the stop
pub record Sees (f : Format) (c : ℕ) (g : ℕ → Bool) : Type 0 where
  pub edge : g 0 ≡ false
  pub looks : (m : ℕ) → m ≤ suc (f.length + parity_bits f) → g (half f + f.factor * m) ≡ level_of f c m

-- frames of the two formats look alike up to the stop: parity's kind matters where there is parity, stop lengths do not
pub record Alike (f g : Format) : Type 0 where
  pub factor : f.factor ≡ g.factor
  pub length : f.length ≡ g.length
  pub parity : on f.parity ≡ on g.parity
  pub kind : on f.parity ≡ true → on f.even ≡ on g.even
