-- A pair that stands is left as it is by any number of joined ticks but for its tallies, and a pair in range of which a tick moves no more stands.
-- Assumes nothing.
use Prim.Native.Nat.{ℕ}
use mathlib.Core.Path.{◌≡◌, refl, ap, ap₂, sym, ◌∙◌}
use mathlib.Core.Bool.{Bool, true, false, not, ◌&&◌}
use lib.Dec.{ltb}
use borrow.Author.Tests.{eqb-true, le-ltb}
use Rattle.line_rules.specs.Sending.{bit, on}
use Rattle.line_rules.proofs.Bits.{at_most_one}
use Rattle.line_rules.proofs.Choice.{all, not_so}
use Rattle.line_rules.proofs.Table.{both}
use Rattle.link_rules.specs.Hearing.{under_way}
use Rattle.link_rules.specs.Within.{clear}
use Rattle.way_rules.specs.declared.Ends.{Ends}
use Rattle.way_rules.specs.declared.Way.{Way}
use Rattle.way_rules.specs.Along.{way_tick}
use Rattle.way_rules.specs.Calm.{breaks, sender_stands, way_stands}
use Rattle.way_rules.proofs.Standing.{way_stands_lem}
use Rattle.way_rules.proofs.StandsExactly.{unchanged_stands}
use Rattle.link_rules.specs.Parts.{sender_later, receiver_later}
use Rattle.ins2651_rules.specs.declared.Device.{Device}
use Rattle.ins2651_rules.specs.Shape.{status_kept, device_later}
use Rattle.ins2651_rules.specs.Ranges.{in_range, shown_in_range, rests_in_range}
use Rattle.ins2651_rules.specs.Status.{Kept}
use Rattle.ins2651_rules.proofs.StatusKept.{kept_is, unshown_kept}
use Rattle.ins2651_rules.proofs.InRange.{parts}
use Rattle.ins2651_rules.proofs.RestsInRange.{rests_in_range_lem}
use Rattle.joined_rules.specs.declared.Pair.{Pair}
use Rattle.joined_rules.specs.Joining.{Joined, joined_tick, tick, ticks}
use Rattle.joined_rules.specs.TwoWays.{ends_of, way_of, with_ways, along_both, pair_later, stands}
use Rattle.joined_rules.proofs.Runs.{BothIn, settled_pair_lem, tick_is, in_range_ticks}
use Rattle.joined_rules.proofs.TwoWays.{both_kept, both_move, two_ways}

-- tallies are no part of the status
later_kept : (n : ℕ) (d : Device) → Kept d → status_kept (device_later n d) ≡ device_later n d
later_kept n d k = kept_is (device_later n d) (unshown_kept d k d.registers (sender_later n d.sender) (receiver_later n d.receiver) refl refl refl)

pub stands_counts : (p : Pair) (n : ℕ) → stands p ≡ true → ticks n p ≡ pair_later n p
unfolding stands along_both
stands_counts p n h =
    let there : Bool = way_stands (ends_of p.a p.b) (way_of p.a p.b) in
    let back : Bool = way_stands (ends_of p.b p.a) (way_of p.b p.a) in
    let b = both (there && back && in_range p.a) (in_range p.b) h in
    let a = both (there && back) (in_range p.a) b.0 in
    let s = both there back a.0 in
    let i : BothIn p = record { a = a.1; b = b.1 } in
    let k = both_kept p i in
    in_range_ticks n p i
    ∙ two_ways n p i
    ∙ ap₂ (with_ways p) (way_stands_lem (ends_of p.a p.b) n (way_of p.a p.b) s.0) (way_stands_lem (ends_of p.b p.a) n (way_of p.b p.a) s.1)
    ∙ ap₂ (λ (a b : Device). record { a = a; b = b }) (later_kept n p.a k.0) (later_kept n p.b k.1)

-- .. and of the pairs in range a single tick changes more of every other: one of which it only counts has both ways left so
pub counted_pair_stands : (p : Pair) → BothIn p → (tick p).pair ≡ pair_later 1 p → stands p ≡ true
unfolding stands
counted_pair_stands p i h =
    let there : Way = way_tick (ends_of p.a p.b) (way_of p.a p.b) in
    let back : Way = way_tick (ends_of p.b p.a) (way_of p.b p.a) in
    let same : with_ways p there back ≡ pair_later 1 p = sym (ap (λ (o : Joined). o.pair) (tick_is p ∙ ap joined_tick (settled_pair_lem p i)) ∙ both_move p i) ∙ h in
    let s = unchanged_stands (ends_of p.a p.b) (way_of p.a p.b) (parts p.b i.b).receiver (ap (λ (q : Pair). way_of q.a q.b) same) in
    let r = unchanged_stands (ends_of p.b p.a) (way_of p.b p.a) (parts p.a i.a).receiver (ap (λ (q : Pair). way_of q.b q.a) same) in
    all (all (all s r) i.a) i.b

-- a way that stands has nothing under way at either end
under_way_none : (e : Ends) (w : Way) → way_stands e w ≡ true → (on w.sender.frame.place ≡ false) × (under_way w.receiver.state ≡ false)
unfolding way_stands
under_way_none e w h =
    let t = both (sender_stands w.sender e.ready e.broken e.send.factor) _ h in
    let s = both (not (on w.sender.frame.place)) _ t.0 in
    let r = both (clear w.receiver) _ t.1 in
    let level : Bool = e.live && not (breaks e) in
    (not_so _ s.0, ap (ltb 1) (eqb-true w.receiver.state.phase (bit level) r.1) ∙ le-ltb 1 (bit level) (at_most_one level))

-- as the code puts it together: the ways, and where both stand the ranges
module _ (p : Pair) (x y : Bool) (there : x ≡ way_stands (ends_of p.a p.b) (way_of p.a p.b)) (back : y ≡ way_stands (ends_of p.b p.a) (way_of p.b p.a)) where
  all_of : (x && y && in_range p.a && in_range p.b) ≡ stands p
  unfolding stands
  all_of = ap₂ (λ (s r : Bool). s && r && in_range p.a && in_range p.b) there back

  pub stands_in : (x && y) ≡ true → (rests_in_range p.a && shown_in_range p.a && (rests_in_range p.b && shown_in_range p.b)) ≡ stands p
  stands_in w =
      let t = both x y w in
      let s = under_way_none (ends_of p.a p.b) (way_of p.a p.b) (sym there ∙ t.0) in
      let r = under_way_none (ends_of p.b p.a) (way_of p.b p.a) (sym back ∙ t.1) in
      ap₂ (λ (u v : Bool). u && v) (rests_in_range_lem p.a s.0 r.1) (rests_in_range_lem p.b r.0 s.1)
      ∙ ap (λ (u : Bool). u && in_range p.a && in_range p.b) (sym w)
      ∙ all_of

  pub stands_not : (x && y) ≡ false → false ≡ stands p
  stands_not w = ap (λ (s : Bool). s && in_range p.a && in_range p.b) (sym w) ∙ all_of
