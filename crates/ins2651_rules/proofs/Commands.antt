-- A command is stored with all its bits but bit 4.
-- Assumes nothing.
use Prim.Native.Nat.{ℕ, ◌/◌, ◌%◌, ◌<◌}
use native.Mathlib.Omega.{arith}
use mathlib.Core.Path.{◌≡◌, ap}
use mathlib.Core.Bool.{Bool, false, cond}
use lib.Dec.{ltb, eqb}
use borrow.Author.Tests.{lt-ltb, ltb-true}
use Rattle.line_rules.proofs.Choice.{each}
use Rattle.ins2651_rules.specs.Modes.{has, transmit_enable, receive_enable}
use Rattle.ins2651_rules.specs.Refusals.{command_refusal}
use Rattle.ins2651_rules.specs.RegisterWrites.{stored}

kept : (w v : ℕ) → stored v / w % 2 ≡ v / w % 2 → has w (stored v) ≡ has w v
kept w v e = ap (λ (k : ℕ). eqb k 1) e

pub transmit_stored : (v : ℕ) → transmit_enable (stored v) ≡ transmit_enable v
transmit_stored v = kept 1 v (omega arith)

pub receive_stored : (v : ℕ) → receive_enable (stored v) ≡ receive_enable v
receive_stored v = kept 4 v (omega arith)

pub bit4_gone : (v : ℕ) → has 16 (stored v) ≡ false
bit4_gone v = let e : stored v / 16 % 2 ≡ 0 = omega arith in ap (λ (k : ℕ). eqb k 1) e

-- an accepted command is still one as it is stored
pub accepted_stored : (v : ℕ) → command_refusal v ≡ 0 → command_refusal (stored v) ≡ 0
accepted_stored v h =
    let below : v < 64 = each (λ (n : ℕ). n ≡ 0 → v < 64) (ltb v 64) (λ t e. ltb-true v 64 t) (λ t e. absurd (omega arith)) h in
    ap (λ (b : Bool). cond b 0 5) (lt-ltb (stored v) 64 (omega arith))
