-- Two devices joined are two chips on a line.
-- Assumes nothing.
use Prim.Native.Nat.{ℕ}
use mathlib.Core.Path.{◌≡◌, refl, sym, ap}
use Rattle.line_rules.specs.Sending.{bit}
use Rattle.line_rules.proofs.Bits.{on_bit}
use Rattle.ins2651_rules.specs.declared.Device.{Device}
use Rattle.ins2651_rules.specs.Ranges.{settled}
use Rattle.ins2651_rules.specs.Ticks.{sent, transmit_tick, transmit}
use Rattle.ins2651_rules.specs.Runs.{Transmit, Receive, next}
use Rattle.ins2651_ends.specs.OnALine.{level_of, ins2651}
use Rattle.delivery.specs.Joined.{Side, A, B, other, Becomes, Joins}
use Rattle.joined_rules.specs.declared.Pair.{Pair}
use Rattle.joined_rules.specs.Joining.{tick}
use Rattle.joined_rules.specs.Bench.{device_at, Step, Tick, At, moved, happens, line}

-- what a device sends is a level
is_level : (d : Device) → bit (level_of d) ≡ (transmit d).level
unfolding transmit transmit_tick
is_level d = ap bit (on_bit (sent (settled d)).level)

-- a joined tick is a transmit tick of each, then a receive tick of what the other one sent
joined_tick_lem : (d e : Device) → next (next d Transmit) (Receive (transmit e).level) ≡ ins2651.tick d (level_of e)
joined_tick_lem d e = ap (λ (x : ℕ). next (next d Transmit) (Receive x)) (sym (is_level e))

pair_ticked : (s : Side) (p : Pair) → device_at s (tick p).pair ≡ ins2651.tick (device_at s p) (level_of (device_at (other s) p))
unfolding tick
pair_ticked A p = joined_tick_lem p.a p.b
pair_ticked B p = joined_tick_lem p.b p.a

pair_follows : (s : Side) (p : Pair) (x : Step) → Becomes line s p (happens x) (device_at s (moved p x))
pair_follows s p Tick = pair_ticked s p
pair_follows A p (At A c) = refl
pair_follows A p (At B c) = refl
pair_follows B p (At A c) = refl
pair_follows B p (At B c) = refl

pub pair_joins : Joins line
pair_joins = record { follows = pair_follows }
