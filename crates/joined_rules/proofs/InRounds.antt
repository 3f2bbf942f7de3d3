-- After one transmit tick of each device, n rounds are n joined ticks and one more transmit tick of each; no tick of them is refused. For any pair, in range
-- or not.
-- Assumes nothing.
use Prim.Native.Nat.{ℕ, zero, suc}
use mathlib.Core.Path.{◌≡◌, refl, ap, ap₂, ◌∙◌}
use Rattle.ins2651_rules.specs.declared.Device.{Device}
use Rattle.ins2651_rules.specs.Shape.{Answer}
use Rattle.ins2651_rules.specs.Ranges.{settled}
use Rattle.ins2651_rules.specs.Ticks as chip
use Rattle.ins2651_rules.proofs.Both.{tick_does_both}
use Rattle.ins2651_ends.proofs.Calls.{is_level}
use Rattle.joined_rules.specs.declared.Pair.{Pair}
use Rattle.joined_rules.specs.Joining.{tick, ticks}
use Rattle.joined_rules.specs.Rounds.{begun, round, rounds}

-- what a device sends is a level
sent_level : (d e : Device) → chip.tick (chip.transmit d).device (chip.transmit e).level ≡ chip.sending (chip.transmit (chip.receive (chip.transmit d).device (chip.transmit e).level).device)
unfolding chip.transmit chip.transmit_tick
sent_level d e = tick_does_both (chip.transmit d).device (chip.transmit e).level (is_level (chip.sent (settled e)).level)

round_is_tick : (p : Pair) → round (begun p) ≡ begun (tick p).pair
unfolding tick
round_is_tick p = ap₂ (λ (x y : Answer). record { a = x; b = y }) (sent_level p.a p.b) (sent_level p.b p.a)

pub rounds_are_ticks : (n : ℕ) (p : Pair) → rounds n (begun p) ≡ begun (ticks n p)
rounds_are_ticks zero p = refl
rounds_are_ticks (suc n) p = ap (rounds n) (round_is_tick p) ∙ rounds_are_ticks n (tick p).pair
