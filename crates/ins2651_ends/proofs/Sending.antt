-- The INS2651 is an end that sends: what its sending rests on, and that each call and tick which leaves that alone does to the sending half what
-- `delivery` asks.
-- Assumes nothing.
use Prim.Native.Nat.{ℕ, zero, suc, ◌/◌, ◌%◌}
use native.Mathlib.Omega.{arith}
use mathlib.Core.Path.{◌≡◌, refl, sym, ap, ap₂, subst, ◌∙◌}
use mathlib.Core.Bool.{Bool, true, false, cond, not, ◌&&◌, true≢false}
use lib.Dec.{eqb}
use Rattle.line_rules.specs.declared.Format.{Format}
use Rattle.line_rules.specs.Sending.{bit, on}
use Rattle.line_rules.proofs.Bits.{on_bit}
use Rattle.line_rules.proofs.Choice.{all, not_so}
use Rattle.line_rules.proofs.Table.{both}
use Rattle.link_rules.specs.declared.SenderHalf.{SenderHalf}
use Rattle.link_rules.specs.Transmitting.{Sent}
use Rattle.link_rules.specs.Parts.{loaded}
use Rattle.link_rules.specs.Transmitting as link-transmitting
use Rattle.ins2651_rules.specs.declared.Registers.{Registers}
use Rattle.ins2651_rules.specs.declared.Pins.{Pins}
use Rattle.ins2651_rules.specs.declared.Device.{Device}
use Rattle.ins2651_rules.specs.Modes.{has, transmit_enable, force_break, format_of, send_format}
use Rattle.ins2651_rules.specs.Conditions.{transmit_enabled, clear_to_send, mode_set, break_on, vacant}
use Rattle.ins2651_rules.specs.Ranges.{in_range, settled}
use Rattle.ins2651_rules.specs.Refusals.{level_refusal}
use Rattle.ins2651_rules.specs.RegisterWrites.{stored}
use Rattle.ins2651_rules.specs.Ticks.{sent, transmit_tick, transmit}
use Rattle.ins2651_rules.specs.Runs.{Call, Reset, Read, Write, SetPins, Transmit, Receive, Outputs, next}
use Rattle.ins2651_rules.specs.Rows.{refusal}
use Rattle.ins2651_rules.specs.History.{writes_holding}
use Rattle.ins2651_rules.proofs.Settled.{settled_is}
use Rattle.ins2651_rules.proofs.Done.{does_transmit}
use Rattle.ins2651_rules.proofs.Refused.{write_address, refused_unchanged}
use Rattle.ins2651_rules.proofs.Commands.{transmit_stored}
use Rattle.ins2651_rules.proofs.ReadByHistory.{command_put}
use Rattle.ins2651_rules.proofs.Leaves.{ReceiveLeaves, receive_leaves}
use Rattle.ins2651_rules.proofs.WritesLeave.{CommandWritten, command_write_leaves}
use Rattle.ins2651_rules.proofs.InRange.{next_in}
use Rattle.delivery.specs.Ends.{SendingEnd}
use Rattle.ins2651_ends.specs.OnALine.{may_write, value_of, normal, leaves_sending, refused_or, ins2651}
use Rattle.ins2651_ends.proofs.Calls.{may_write_is, is_level, refused_or_lem, refused_writes_nothing, light, pins_after, Light, light_leaves}

-- it may start frames in the format f, and no break is on
pub record Sending (f : Format) (d : Device) : Type 0 where
  pub within : in_range d ≡ true
  pub enabled : transmit_enabled d ≡ true
  pub clear : clear_to_send d ≡ true
  pub set : mode_set d ≡ true
  pub no_break : break_on d ≡ false
  pub format : send_format d.registers ≡ f

abbrev low : Pins → Bool
low p = eqb p.cts 0

-- the same modes, a command that leaves transmit on and break off, and CTS low
sends_still : {f : Format} (d e : Device) → Sending f d → in_range e ≡ true → e.registers.mode1 ≡ d.registers.mode1 → e.registers.mode2 ≡ d.registers.mode2
    → e.registers.accepted ≡ d.registers.accepted → transmit_enabled e ≡ true → break_on e ≡ false → clear_to_send e ≡ true → Sending f e
sends_still d e h i m n a t b c =
    record { within = i; enabled = t; clear = c; set = ap on a ∙ h.set; no_break = b; format = ap₂ (λ (x y : ℕ). format_of x (has 32 y)) m n ∙ h.format }

-- all registers and pins
sends_same : {f : Format} (d e : Device) → Sending f d → in_range e ≡ true → e.registers ≡ d.registers → e.pins ≡ d.pins → Sending f e
sends_same d e h i r p =
    sends_still d e h i (ap (λ (q : Registers). q.mode1) r) (ap (λ (q : Registers). q.mode2) r) (ap (λ (q : Registers). q.accepted) r)
    (ap (λ (q : Registers). transmit_enable q.command) r ∙ h.enabled) (ap (λ (q : Registers). force_break q.command) r ∙ h.no_break)
    (ap low p ∙ h.clear)

-- == what a bench sees ==

-- it may be written while THR is empty
vacant_is : {f : Format} (d : Device) → Sending f d → may_write d ≡ vacant d
vacant_is d h = may_write_is d h.within ∙ ap (λ (b : Bool). b && vacant d) h.enabled

-- the sending half is told that it may start, that no break is on, and the format
sent_is : {f : Format} (d : Device) → Sending f d → sent d ≡ link-transmitting.transmit d.sender true false f
sent_is {f = f} d h =
    ap₂ (λ (ready broken : Bool). link-transmitting.transmit d.sender ready broken (send_format d.registers)) (all (all h.enabled h.clear) h.set) h.no_break
    ∙ ap (link-transmitting.transmit d.sender true false) h.format

level_is : {f : Format} (d : Device) → Sending f d → on (transmit d).level ≡ (link-transmitting.transmit d.sender true false f).level
unfolding transmit_tick
level_is d h = ap (λ o. on o.level) (does_transmit d h.within) ∙ on_bit (sent d).level ∙ ap (λ (o : Sent). o.level) (sent_is d h)

-- == what it does ==

-- it is still an end that sends, and its half is this one
record SendsOn (f : Format) (e : Device) (s : SenderHalf) : Type 0 where
  pub ready : Sending f e
  pub half : e.sender ≡ s

-- a receive tick of any level leaves it alone
sends_through : {f : Format} (d : Device) (x : ℕ) → Sending f d → refusal d (Receive x) ≡ 0 → SendsOn f (next d (Receive x)) d.sender
sends_through {f = f} d x h n =
    let w : ReceiveLeaves d (next d (Receive x)) = subst (λ (k : Device). ReceiveLeaves k (next d (Receive x))) (settled_is d h.within) (receive_leaves d x n) in
    record { ready = sends_same d (next d (Receive x)) h (next_in d (Receive x) h.within) w.registers w.pins; half = w.sender }

-- its part of a joined tick: a transmit tick, then a receive tick of whatever the other device sends
sends_ticked : {f : Format} (d : Device) (x : ℕ) → Sending f d → level_refusal x ≡ 0
    → SendsOn f (next (next d Transmit) (Receive x)) (link-transmitting.transmit d.sender true false f).half
unfolding transmit_tick
sends_ticked {f = f} d x h n =
    let e : Device = next d Transmit in
    let is : e ≡ (transmit_tick d).device = ap (λ o. o.device) (does_transmit d h.within) in
    let r : Sending f e = sends_same d e h (next_in d Transmit h.within) (ap (λ (k : Device). k.registers) is) (ap (λ (k : Device). k.pins) is) in
    let w = sends_through e x r n in
    record { ready = w.ready; half = w.half ∙ ap (λ (k : Device). k.sender) is ∙ ap (λ (o : Sent). o.half) (sent_is d h) }

-- a write loads the half
abbrev written : Call → SenderHalf → SenderHalf
written c s = cond (writes_holding c) (loaded s (value_of c)) s

module _ {f : Format} (d : Device) (h : Sending f d) where
  -- a call that changes little, and leaves CTS low
  sends_lightly : (c : Call) → refusal d c ≡ 0 → light c ≡ true → eqb (pins_after c d.pins).cts 0 ≡ true → SendsOn f (next d c) (written c d.sender)
  sends_lightly c n l cts =
      let w : Light d c = light_leaves d c h.within n l in
      record {
        ready = sends_still d (next d c) h (next_in d c h.within) w.mode1 w.mode2 w.accepted
            (ap transmit_enable w.command ∙ h.enabled) (ap force_break w.command ∙ h.no_break) (ap low w.pins ∙ cts);
        half = w.sender;
      }

  -- a command that leaves transmit on and break off
  sends_commanded : (v : ℕ) → refusal d (Write 3 v) ≡ 0 → transmit_enable v ≡ true → force_break v ≡ false → SendsOn f (next d (Write 3 v)) d.sender
  sends_commanded v n t b =
      let e : Device = next d (Write 3 v) in
      let w : CommandWritten v d e = subst (λ (k : Device). CommandWritten v k e) (settled_is d h.within) (command_write_leaves d v n) in
      let is : e.registers.command ≡ stored v = w.command ∙ sym (command_put v) in
      let kept : stored v / 8 % 2 ≡ v / 8 % 2 = omega arith in
      record {
        ready = sends_still d e h (next_in d (Write 3 v) h.within) w.modes.mode1 w.modes.mode2 w.modes.accepted
            (ap transmit_enable is ∙ transmit_stored v ∙ t) (ap force_break is ∙ ap (λ (k : ℕ). eqb k 1) kept ∙ b) (ap low w.pins ∙ h.clear);
        half = w.sender;
      }

  sends_done : (c : Call) → refusal d c ≡ 0 → leaves_sending c ≡ true → SendsOn f (next d c) (written c d.sender)
  sends_done Reset n l = absurd (true≢false (sym l))
  sends_done (Read address) n l = sends_lightly (Read address) n refl h.clear
  sends_done (Write zero v) n l = sends_lightly (Write 0 v) n refl h.clear
  sends_done (Write (suc zero) v) n l = sends_lightly (Write 1 v) n refl h.clear
  sends_done (Write (suc (suc zero)) v) n l = absurd (true≢false (sym l))
  sends_done (Write (suc (suc (suc zero))) v) n l = let t = both (normal v && transmit_enable v) (not (force_break v)) l in sends_commanded v n (both (normal v) (transmit_enable v) t.0).1 (not_so (force_break v) t.1)
  sends_done (Write (suc (suc (suc (suc i)))) v) n l = absurd (omega (arith, write_address (settled d).registers (suc (suc (suc (suc i)))) v n))
  sends_done (SetPins dsr dcd cts) n l = sends_lightly (SetPins dsr dcd cts) n refl l
  sends_done Transmit n l = absurd (true≢false (sym l))
  sends_done (Receive x) n l = sends_through d x h n
  sends_done Outputs n l = record { ready = h; half = refl }

  -- a call that leaves alone what sending rests on, or is refused
  sends_called : (c : Call) → refused_or leaves_sending d c ≡ true → SendsOn f (next d c) (written c d.sender)
  sends_called c a =
      refused_or_lem leaves_sending d c a (sends_done c) λ n.
      let is : next d c ≡ d = (refused_unchanged d c n).device in
      record {
        ready = subst (Sending f) (sym is) h;
        half = ap (λ (k : Device). k.sender) is ∙ ap (λ (b : Bool). cond b (loaded d.sender (value_of c)) d.sender) (sym (refused_writes_nothing d c n));
      }

-- == the end ==

pub sending_end : (f : Format) → SendingEnd ins2651 f (Sending f) (λ d. d.sender)
sending_end f =
    record {
      may_write_lem = vacant_is;
      level = level_is;
      tick_ready = λ d x h. (sends_ticked d (bit x) h (is_level x)).ready;
      tick_half = λ d x h. (sends_ticked d (bit x) h (is_level x)).half;
      call_ready = λ d c h a. (sends_called d h c a).ready;
      call_half = λ d c h a. (sends_called d h c a).half;
    }
