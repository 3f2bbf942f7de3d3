-- A transmit tick of a device that rests sends 1 and only counts, whatever the device. So does a receive tick of one in range that searches, with a 1.
-- Assumes nothing.
use Prim.Native.Nat.{ℕ, ◌-◌}
use native.Mathlib.Omega.{arith}
use mathlib.Core.Path.{◌≡◌, ap, ap₂, ◌∙◌}
use mathlib.Core.Bool.{Bool, true, false, not, ◌&&◌}
use lib.Dec.{eqb}
use borrow.Author.Tests.{eqb-true, le-ltb}
use Rattle.line_rules.specs.declared.Format.{Format}
use Rattle.line_rules.specs.Sending.{on}
use Rattle.line_rules.proofs.Table.{both}
use Rattle.line_rules.proofs.Choice.{not_so}
use Rattle.link_rules.specs.declared.SenderHalf.{SenderHalf}
use Rattle.link_rules.specs.Parts.{sender_later}
use Rattle.link_rules.specs.Transmitting.{idle_tick, transmit}
use Rattle.link_rules.specs.Hearing.{receive}
use Rattle.link_rules.proofs.AtRest.{is_clear, in_range_clear, stays, rest_stays}
use Rattle.ins2651_rules.specs.declared.Device.{Device}
use Rattle.ins2651_rules.specs.Shape.{ticked, send_counted, hear_counted, device_later}
use Rattle.ins2651_rules.specs.Modes.{send_format, receive_format}
use Rattle.ins2651_rules.specs.Conditions.{may_start, break_on, listening}
use Rattle.ins2651_rules.specs.Ranges.{in_range}
use Rattle.ins2651_rules.specs.Ticks.{sent_by, transmit_tick, received_by, receive_tick, both_ticks}
use Rattle.ins2651_rules.specs.Still.{idle, rests, searches, still}
use Rattle.ins2651_rules.proofs.InRange.{parts}

-- == a transmit tick ==

module _ (s : SenderHalf) (ready broken : Bool) (f : Format) (t : on s.frame.place ≡ false) (h : idle s ready broken ≡ true) where
  -- an idle half sends 1 and only counts
  idle_stays : transmit s ready broken f ≡ idle_tick (sender_later 1 s) true s.guard
  unfolding transmit
  idle_stays =
      let p = both (not (ready && broken) && eqb s.guard 0) _ h in
      let q = both (not (ready && broken)) _ p.0 in
      let g : s.guard ≡ 0 = eqb-true s.guard 0 q.1 in
      rw (t, not_so (ready && broken) q.0, le-ltb 0 s.guard (omega (arith, g)), not_so (ready && on s.full) p.1)
      (ap (idle_tick (sender_later 1 s) true) (let e : s.guard - 1 ≡ s.guard = omega (arith, g) in e))

pub rests_still : (d : Device) → rests d ≡ true → transmit_tick d ≡ ticked 1 (send_counted d)
unfolding rests transmit_tick
rests_still d e =
    let t = both (not (on d.sender.frame.place)) _ e in
    ap (sent_by d) (idle_stays d.sender (may_start d) (break_on d) (send_format d.registers) (not_so (on d.sender.frame.place) t.0) t.1)

-- == a receive tick ==

module _ (d : Device) (h : in_range d ≡ true) (x : ℕ) where
  pub searches_still : searches d x ≡ true → receive_tick d (on x) ≡ hear_counted d
  unfolding searches receive_tick
  searches_still e =
      let t = both (on x && listening d) _ e in
      let u = both (on x) _ t.0 in
      let p = eqb-true d.receiver.state.phase 1 t.1 in
      let f : Format = receive_format d.registers in
      ap (received_by d)
      (ap₂ (λ (b y : Bool). receive d.receiver b f y) u.1 u.0
      ∙ rest_stays d.receiver 1 true true f (stays true true) (is_clear d.receiver 1 p (in_range_clear d.receiver (parts d h).receiver (omega (arith, p)))))

  -- both ticks of it
  pub still_stays : still d x ≡ true → both_ticks d (on x) ≡ ticked 1 (device_later 1 d)
  unfolding still rests
  still_stays e = let t = both (searches d x) _ e in ap transmit_tick (searches_still t.0) ∙ rests_still (hear_counted d) t.1
