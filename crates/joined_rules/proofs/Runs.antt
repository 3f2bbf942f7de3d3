-- Runs of joined ticks: a tick keeps the ranges, so that a run need check them only once.
-- Assumes nothing.
use Prim.Native.Nat.{ℕ, zero, suc, ◌+◌, ◌<◌}
use native.Mathlib.Nat.{zero-add, suc-add}
use native.Mathlib.Omega.{arith}
use mathlib.Core.Path.{◌≡◌, refl, ap, ap₂, sym, ◌∙◌}
use mathlib.Core.Bool.{Bool, true, false}
use Rattle.line_rules.specs.Sending.{bit, on}
use Rattle.ins2651_rules.specs.declared.Device.{Device}
use Rattle.ins2651_rules.specs.Ranges.{in_range, settled}
use Rattle.ins2651_rules.specs.Ticks.{sent, transmit_tick, transmit, receive_tick, receive}
use Rattle.ins2651_rules.proofs.Settled.{settled_is, settled_in}
use Rattle.ins2651_rules.proofs.Done.{does_receive}
use Rattle.ins2651_rules.proofs.InRange.{transmitted_in, received_in}
use Rattle.joined_rules.specs.declared.Pair.{Pair}
use Rattle.joined_rules.specs.Joining.{Joined, settled_pair, joined_tick, joined_ticks, tick, ticks}

-- == ranges ==

-- a receive call with a level
received_is : (d : Device) (x : Bool) → in_range d ≡ true → (receive d (bit x)).device ≡ receive_tick d (on (bit x))
received_is d true h = does_receive d h 1 refl
received_is d false h = does_receive d h 0 refl

-- both devices are in range
pub record BothIn (p : Pair) : Type 0 where
  pub a : in_range p.a ≡ true
  pub b : in_range p.b ≡ true

pub settled_both : (p : Pair) → BothIn (settled_pair p)
settled_both p = record { a = settled_in p.a; b = settled_in p.b }

pub settled_pair_lem : (p : Pair) → BothIn p → settled_pair p ≡ p
settled_pair_lem p h = ap₂ (λ (a b : Device). record { a = a; b = b }) (settled_is p.a h.a) (settled_is p.b h.b)

pub joined_in : (p : Pair) → BothIn p → BothIn (joined_tick p).pair
unfolding joined_tick
joined_in p h =
    record {
      a = received_in (transmit_tick p.a).device (on (transmit_tick p.b).level) (transmitted_in p.a h.a);
      b = received_in (transmit_tick p.b).device (on (transmit_tick p.a).level) (transmitted_in p.b h.b);
    }

pub joined_ticks_in : (n : ℕ) (p : Pair) → BothIn p → BothIn (joined_ticks n p)
joined_ticks_in zero p h = h
joined_ticks_in (suc n) p h = joined_ticks_in n (joined_tick p).pair (joined_in p h)

-- == one tick ==

-- one end of the joined tick, by the chip's calls and on devices in range
end_is : (d e : Device) → (receive (transmit d).device (transmit e).level).device
    ≡ receive_tick (transmit_tick (settled d)).device (on (transmit_tick (settled e)).level)
unfolding transmit transmit_tick
end_is d e = received_is (transmit_tick (settled d)).device (sent (settled e)).level (transmitted_in (settled d) (settled_in d))

pub tick_is : (p : Pair) → tick p ≡ joined_tick (settled_pair p)
unfolding tick joined_tick transmit
tick_is p =
    ap₂ (λ (a b : Device). record { pair = record { a = a; b = b }; a = (transmit p.a).level; b = (transmit p.b).level })
    (end_is p.a p.b) (end_is p.b p.a)

-- the pair the other way round
abbrev pub mirror : Pair → Pair
mirror p = record { a = p.b; b = p.a }

abbrev pub mirrored : Joined → Joined
mirrored o = record { pair = mirror o.pair; a = o.b; b = o.a }

-- neither end comes first
pub tick_mirrors : (p : Pair) → tick (mirror p) ≡ mirrored (tick p)
unfolding tick
tick_mirrors p = refl

-- each level told is the one that the device's own transmit tick sends
pub tick_tells : (p : Pair) → ((tick p).a ≡ (transmit p.a).level) × ((tick p).b ≡ (transmit p.b).level)
unfolding tick
tick_tells p = (refl, refl)

-- == many ==

-- a run of m + n is a run of n after a run of m
pub ticks_add : (m n : ℕ) (p : Pair) → ticks (m + n) p ≡ ticks n (ticks m p)
ticks_add zero n p = rw zero-add
ticks_add (suc m) n p = rw suc-add (ticks_add m n (tick p).pair)

-- of a pair in range
pub in_range_ticks : (n : ℕ) (p : Pair) → BothIn p → ticks n p ≡ joined_ticks n p
in_range_ticks zero p h = refl
in_range_ticks (suc n) p h =
    ap (λ (o : Joined). ticks n o.pair) (tick_is p ∙ ap joined_tick (settled_pair_lem p h)) ∙ in_range_ticks n (joined_tick p).pair (joined_in p h)

-- of any pair: a run that is not empty settles it first
pub settled_ticks : (n : ℕ) (p : Pair) → 0 < n → joined_ticks n (settled_pair p) ≡ ticks n p
settled_ticks zero p h = absurd (omega arith)
settled_ticks (suc n) p h =
    sym (ap (λ (o : Joined). ticks n o.pair) (tick_is p) ∙ in_range_ticks n (joined_tick (settled_pair p)).pair (joined_in (settled_pair p) (settled_both p)))
