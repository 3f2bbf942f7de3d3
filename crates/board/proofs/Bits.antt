-- The channels' bits, taken one by one.
-- Assumes nothing.
use Rattle.std.proofs.Common.{◌≡◌, ℕ, zero, suc, ◌<◌, ◌+◌, ◌*◌, ◌^◌, ◌/◌, ◌%◌, Bool, List, length, get_or, drop, set, add-one, ap, sym, ◌∙◌, arith}
use Rattle.std.proofs.Math.Nat.{pow-suc}
use Rattle.std.proofs.lemmas.List.{at_drop_more, set-get_or}
use Rattle.ins2651_rules.specs.declared.Device.{Device}
use Rattle.ins2651_rules.specs.Modes.{has}
use Rattle.ins2651_rules.specs.Status.{weigh}
use Rattle.ins2651_rules.specs.Looks.{peek}
use Rattle.board_rules.proofs.Bits.{shown_bit}
use Rattle.board_rules.specs.Interrupts.{by_channel, sends_next, holds_one}

below_two : (x : ℕ) → x % 2 < 2
below_two x = omega arith

-- `sum` has the bits of the first i channels, and `weight` is that of the next one's
pub record Summed (p : Device → Bool) (ys : List Device) (i sum weight : ℕ) : Type 0 where
  pub power : weight ≡ 2 ^ i
  pub small : sum < weight
  pub whole : sum + weight * by_channel p (drop i ys) ≡ by_channel p ys

pub summed_more : (p : Device → Bool) (ys : List Device) (i sum weight v : ℕ) (z : Device) → i < length ys → v % 2 ≡ weigh (p (get_or ys i z)) 1
    → Summed p ys i sum weight → Summed p ys (i + 1) (sum + v % 2 * weight) (weight * 2)
summed_more p ys i sum weight v z l is s = record {
  power = next weight s.power;
  small = more (v % 2) (below_two v);
  whole = regroup (v % 2) (by_channel p (drop (i + 1) ys)) ∙ ap (λ (b : ℕ). sum + weight * (b + 2 * by_channel p (drop (i + 1) ys))) is
      ∙ ap (λ (n : ℕ). sum + weight * n) (sym (at_drop_more (by_channel p) ys i z l)) ∙ s.whole;
}
  where
    next : (w : ℕ) → w ≡ 2 ^ i → w * 2 ≡ 2 ^ (i + 1)
    next w e = rw add-one (omega (arith, e, pow-suc 2 i))

    more : (b : ℕ) → b < 2 → sum + b * weight < weight * 2
    more zero l = let h = s.small in omega (arith, h)
    more (suc zero) l = let h = s.small in omega (arith, h)
    more (suc (suc b)) l = absurd (omega (arith, l))

    regroup : (b n : ℕ) → sum + b * weight + weight * 2 * n ≡ sum + weight * (b + 2 * n)
    regroup b n = omega arith

-- what stands while a room is polled: it stays, and both sums have the first i channels
abbrev pub Polled : List Device → List Device → (i transmit receive weight : ℕ) → Type 0
Polled room ys i transmit receive weight = (room ≡ ys) × (Summed sends_next ys i transmit weight × Summed holds_one ys i receive weight)

-- a look at the next channel leaves it
pub polled_more : (room ys : List Device) (i transmit receive weight shown : ℕ) (z d : Device) → i < length ys → shown ≡ peek (get_or room i z) → d ≡ get_or room i z
    → Polled room ys i transmit receive weight → Polled (set room i d) ys (i + 1) (transmit + shown % 2 * weight) (receive + shown / 2 % 2 * weight) (weight * 2)
polled_more room ys i transmit receive weight shown z d l is same p = (
  ap (set room i) same ∙ set-get_or room i z ∙ p.0,
  (
    summed_more sends_next ys i transmit weight shown z l ((let e : shown % 2 ≡ shown / 1 % 2 = omega arith in e) ∙ shown_bit 1 shown ∙ ap (λ (v : ℕ). weigh (has 1 v) 1) seen) p.1.0,
    summed_more holds_one ys i receive weight (shown / 2) z l (shown_bit 2 shown ∙ ap (λ (v : ℕ). weigh (has 2 v) 1) seen) p.1.1,
  ),
)
  where
    seen : shown ≡ peek (get_or ys i z)
    seen = is ∙ ap (λ (r : List Device). peek (get_or r i z)) p.0
