-- A run of the pair is a run of each way: a joined tick is one tick of both, and leaves what they go by.
-- Assumes nothing.
use Prim.Native.Nat.{ℕ, zero, suc, ◌<◌}
use mathlib.Core.Path.{◌≡◌, refl, sym, ap, ap₂, subst, ◌∙◌}
use mathlib.Core.Bool.{Bool, false}
use Rattle.std.specs.Prelude.{Option, None, Some}
use Rattle.line_rules.specs.declared.Arrival.{Arrival}
use Rattle.line_rules.specs.Sending.{on}
use Rattle.line_rules.proofs.Bits.{on_bit}
use Rattle.way_rules.specs.declared.Ends.{Ends}
use Rattle.way_rules.specs.declared.Way.{Way}
use Rattle.way_rules.specs.Leap.{Moved}
use Rattle.way_rules.specs.Along as along
use Rattle.way_rules.specs.Along.{way_tick}
use Rattle.way_rules.specs.Until.{until_unread}
use Rattle.way_rules.proofs.Until.{unwatched}
use Rattle.ins2651_rules.specs.declared.Flags.{Flags}
use Rattle.ins2651_rules.specs.declared.Device.{Device}
use Rattle.ins2651_rules.specs.Shape.{status_kept, with_parts, with_errors}
use Rattle.ins2651_rules.specs.Status.{Kept}
use Rattle.ins2651_rules.specs.Ticks.{sent, transmit_tick, received, noted, received_by, receive_tick}
use Rattle.ins2651_rules.proofs.StatusKept.{kept_is, sent_kept, heard_kept}
use Rattle.ins2651_rules.proofs.InRange.{status_kept_lem}
use Rattle.joined_rules.specs.declared.Pair.{Pair}
use Rattle.joined_rules.specs.Joining.{settled_pair, joined_tick, joined_ticks, ticks}
use Rattle.joined_rules.specs.TwoWays.{ends_of, way_of, along_way, with_sent, with_heard, with_ends, with_ways, along_both}
use Rattle.joined_rules.proofs.Runs.{BothIn, settled_both, joined_in, settled_ticks}

-- what arrives sets the three flags of the device as it sets those of the way
notes : (f : Flags) (o : Bool) (h : Option Arrival) → let x = along.noted (record { framing = f.framing; overrun = f.overrun; parity = f.parity }) o h in
    noted f o h ≡ with_errors f x.framing x.overrun x.parity
notes f o None = refl
notes f o (Some a) = refl

-- one end of a joined tick: the way out moves its sender, the way back its receiver; the ticks keep its status byte, and so it is the one built
end_moves : (d e : Device) → Kept d → receive_tick (transmit_tick d).device (on (transmit_tick e).level) ≡ with_ends d (way_tick (ends_of d e) (way_of d e)) (way_tick (ends_of e d) (way_of e d))
unfolding transmit_tick receive_tick way_tick
end_moves d e k =
    let t : Device = (transmit_tick d).device in
    let x : Bool = on (transmit_tick e).level in
    sym (kept_is (receive_tick t x) (heard_kept t (sent_kept d k) x))
    ∙ ap (λ (y : Bool). status_kept (received_by t (received d y))) (on_bit (sent e).level)
    ∙ ap
    (with_parts d d.registers d.pins (sent d).half (received d (sent e).level).half)
    (notes t.flags (received d (sent e).level).overrun (received d (sent e).level).heard)

-- both bytes are right
pub both_kept : (p : Pair) → BothIn p → Kept p.a × Kept p.b
both_kept p h = (status_kept_lem p.a h.a, status_kept_lem p.b h.b)

-- a joined tick of a pair in range is a tick of each way
pub both_move : (p : Pair) → BothIn p → (joined_tick p).pair ≡ with_ways p (way_tick (ends_of p.a p.b) (way_of p.a p.b)) (way_tick (ends_of p.b p.a) (way_of p.b p.a))
unfolding joined_tick
both_move p h = let k = both_kept p h in ap₂ (λ (a b : Device). record { a = a; b = b }) (end_moves p.a p.b k.0) (end_moves p.b p.a k.1)

-- a run of the pair is a run of each way
pub two_ways : (n : ℕ) (p : Pair) → BothIn p → joined_ticks n p ≡ along_both n p
unfolding along_both
two_ways zero p h = let k = both_kept p h in sym (ap₂ (λ (a b : Device). record { a = a; b = b }) (kept_is p.a k.0) (kept_is p.b k.1))
two_ways (suc n) p h =
    ap (joined_ticks n) (both_move p h)
    ∙ two_ways n (with_ways p (way_tick (ends_of p.a p.b) (way_of p.a p.b)) (way_tick (ends_of p.b p.a) (way_of p.b p.a)))
    (subst BothIn (both_move p h) (joined_in p h))

-- .. of any pair, as it is taken
pub along_settled : (n : ℕ) (p : Pair) → 0 < n → along_both n (settled_pair p) ≡ ticks n p
along_settled n p z = sym (two_ways n (settled_pair p) (settled_both p)) ∙ settled_ticks n p z

-- a run of a way does all of its ticks
pub until_all : (e : Ends) (n : ℕ) (w : Way) → until_unread e false n w ≡ n
until_all e n w = ap (λ (m : Moved). m.ticks) (unwatched e n w)

-- one way and then the other, from the devices that the first leaves, and then the byte of each, are both
module _ (k : ℕ) (d e : Device) where
  abbrev out : Device
  out = with_sent d (along_way k d e)

  abbrev in_ : Device
  in_ = with_heard e (along_way k d e)

  pub heard_after : (m : ℕ) (d' e' : Device) → d' ≡ out → e' ≡ in_ → m ≡ until_unread (ends_of e' d') false k (way_of e' d') → status_kept (with_heard d' (along_way m e' d')) ≡ with_ends d (along_way k d e) (along_way k e d)
  heard_after m d' e' x y h = ap₂ (λ (n : ℕ) (f : Device × Device). status_kept (with_heard f.0 (along_way n f.1 f.0))) (h ∙ until_all (ends_of e' d') k (way_of e' d')) (λ i. (x i, y i))

  pub sent_after : (m : ℕ) (d' e' : Device) → d' ≡ out → e' ≡ in_ → m ≡ until_unread (ends_of e' d') false k (way_of e' d') → status_kept (with_sent e' (along_way m e' d')) ≡ with_ends e (along_way k e d) (along_way k d e)
  sent_after m d' e' x y h = ap₂ (λ (n : ℕ) (f : Device × Device). status_kept (with_sent f.1 (along_way n f.1 f.0))) (h ∙ until_all (ends_of e' d') k (way_of e' d')) (λ i. (x i, y i))
