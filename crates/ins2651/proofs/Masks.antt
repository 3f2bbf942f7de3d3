-- What a mask leaves, by the definition, which goes by a quotient.
-- Assumes nothing.
use Prim.Native.Nat.{ℕ, ◌<◌}
use native.Mathlib.Omega.{arith}
use mathlib.Core.Path.{◌≡◌}
use lib.Bits.{bit_and}
use Rattle.std.proofs.lemmas.Nat.{and_comm, and-not}
use Rattle.std.proofs.lemmas.Nat.Bits.{and_pow}
use Rattle.ins2651_rules.specs.RegisterWrites.{stored}

pub without_bit_4 : (v : ℕ) → v < 256 → bit_and v 239 ≡ stored v
without_bit_4 v h = omega (arith, and_comm v 239, and_comm v 16, and-not 8 16 v (omega arith) h, and_pow v 4)
