-- Numbers that are stored three digits behind what is before these.
-- Assumes nothing.
use mathlib.Core.List.{List}
use Prim.Native.Nat.{ℕ, ◌+◌, ◌/◌, ◌≤◌, ◌<◌}
use native.Mathlib.Omega.{arith}
use mathlib.Core.Path.{◌≡◌}
use lib.ListN.{length, length-append}
use Rattle.rows.specs.Text.{Put, three, decimal}
use Rattle.rows.proofs.Decimals.{decimal_three_more}
use Rattle.rows.proofs.Puts.{behind, room}

module _ (n : ℕ) (h : n < 4294967296) (some : 1000 ≤ n) where
  longer : length (decimal n) ≡ length (decimal (n / 1000)) + 3
  longer = rw (decimal_three_more n h some) (length-append (decimal (n / 1000)) (three n))

  pub room_before : (at size : ℕ) → at + length (decimal n) ≤ size → at + length (decimal (n / 1000)) ≤ size
  room_before at size p = omega (arith, longer, p)

  module _ {l m : List ℕ} {at e : ℕ} (p : Put l at (decimal (n / 1000)) m e) where
    pub room_for_three : at + length (decimal n) ≤ length l → e + 3 ≤ length m
    room_for_three q = room 3 (length (decimal (n / 1000))) p (omega arith) (omega (arith, longer, q))

    pub three_behind : {k : List ℕ} {r : ℕ} → Put m e (three n) k r → Put l at (decimal n) k r
    three_behind q = rw (decimal_three_more n h some) (behind p q)
