-- Which part of a frame a bit after the start is in.
-- Assumes nothing.
use Prim.Native.Nat.{ℕ, ◌+◌, ◌<◌, ◌≤◌}
use native.Mathlib.Omega.{arith}
use mathlib.Core.Path.{◌≡◌}
use borrow.Author.Tests.{lt-ltb, le-ltb}
use Rattle.line_rules.specs.declared.Format.{Format}
use Rattle.line_rules.specs.Sending.{parity_bits, part}

module _ {A : Type 0} (f : Format) (i : ℕ) (x y z : A) where
  pub part_data : i < f.length → part f i x y z ≡ x
  unfolding part
  part_data h = rw (lt-ltb i f.length h)

  pub part_parity : f.length ≤ i → i < f.length + parity_bits f → part f i x y z ≡ y
  unfolding part
  part_parity h l = rw (le-ltb i f.length h, lt-ltb i (f.length + parity_bits f) l)

  pub part_stop : f.length + parity_bits f ≤ i → part f i x y z ≡ z
  unfolding part
  part_stop h = rw (le-ltb i f.length (omega arith), le-ltb i (f.length + parity_bits f) h)
