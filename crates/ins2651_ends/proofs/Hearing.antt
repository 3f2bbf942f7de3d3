-- The INS2651 is an end that receives: what its receiving rests on, and that each call and tick which leaves that alone does to the receiving
-- half what `delivery` asks.
-- Assumes nothing.
use Prim.Native.Nat.{ℕ, zero, suc}
use native.Mathlib.Omega.{arith}
use mathlib.Core.Path.{◌≡◌, refl, sym, ap, ap₂, subst, ◌∙◌}
use mathlib.Core.Bool.{Bool, true, false, cond, ◌||◌, true≢false}
use lib.Dec.{eqb}
use Rattle.std.specs.Prelude.{Option, None, Some}
use Rattle.line_rules.specs.declared.Arrival.{Arrival}
use Rattle.line_rules.specs.declared.Format.{Format}
use Rattle.line_rules.specs.Sending.{bit, on}
use Rattle.line_rules.proofs.Bits.{on_bit}
use Rattle.line_rules.proofs.Choice.{all, neither}
use Rattle.line_rules.proofs.Table.{both}
use Rattle.link_rules.specs.declared.ReceiverHalf.{ReceiverHalf}
use Rattle.link_rules.specs.Parts.{emptied}
use Rattle.link_rules.specs.Hearing.{Received, arrives}
use Rattle.link_rules.specs.Hearing as link-hearing
use Rattle.ins2651_rules.specs.declared.Registers.{Registers}
use Rattle.ins2651_rules.specs.declared.Pins.{Pins}
use Rattle.ins2651_rules.specs.declared.Flags.{Flags}
use Rattle.ins2651_rules.specs.declared.Device.{Device}
use Rattle.ins2651_rules.specs.Modes.{has, receive_enable, format_of, receive_format}
use Rattle.ins2651_rules.specs.Conditions.{carrier, mode_set}
use Rattle.ins2651_rules.specs.Ranges.{in_range, settled}
use Rattle.ins2651_rules.specs.Refusals.{level_refusal}
use Rattle.ins2651_rules.specs.Ticks.{noted, received, receive_tick}
use Rattle.ins2651_rules.specs.Runs.{Call, Reset, Read, Write, SetPins, Transmit, Receive, Outputs, next}
use Rattle.ins2651_rules.specs.Rows.{refusal}
use Rattle.ins2651_rules.specs.History.{reads}
use Rattle.ins2651_rules.proofs.Settled.{settled_is}
use Rattle.ins2651_rules.proofs.Done.{does_receive}
use Rattle.ins2651_rules.proofs.Refused.{write_address, refused_unchanged}
use Rattle.ins2651_rules.proofs.Commands.{receive_stored}
use Rattle.ins2651_rules.proofs.ReadByHistory.{command_put}
use Rattle.ins2651_rules.proofs.Leaves.{SameErrors, TransmitLeaves, transmit_leaves}
use Rattle.ins2651_rules.proofs.WritesLeave.{NoErrors, CommandWritten, command_write_leaves}
use Rattle.ins2651_rules.proofs.InRange.{next_in}
use Rattle.delivery.specs.Ends.{receive_on, faulty, tick_faults, ReceivingEnd}
use Rattle.ins2651_ends.specs.OnALine.{flagged, normal, leaves_receiving, refused_or, ins2651}
use Rattle.ins2651_ends.proofs.Calls.{unread_is, character_is, stamp_is, flagged_is, is_level, refused_or_lem, refused_reads_nothing, same_none, command_sets_none, light, pins_after, Light, light_leaves}

-- it listens in the format g, and no error flag is set
pub record Hearing (g : Format) (d : Device) : Type 0 where
  pub within : in_range d ≡ true
  pub enabled : receive_enable d.registers.command ≡ true
  pub carried : carrier d ≡ true
  pub set : mode_set d ≡ true
  pub format : receive_format d.registers ≡ g
  pub no_errors : NoErrors d.flags

abbrev low : Pins → Bool
low p = eqb p.dcd 0

-- the same modes, a command that leaves receive on, DCD low, and no flag
hears_still : {g : Format} (d e : Device) → Hearing g d → in_range e ≡ true → e.registers.mode1 ≡ d.registers.mode1 → e.registers.mode2 ≡ d.registers.mode2
    → e.registers.accepted ≡ d.registers.accepted → receive_enable e.registers.command ≡ true → carrier e ≡ true → NoErrors e.flags → Hearing g e
hears_still d e h i m n a t c z =
    record { within = i; enabled = t; carried = c; set = ap on a ∙ h.set; format = ap₂ (λ (x y : ℕ). format_of x (has 16 y)) m n ∙ h.format; no_errors = z }

-- all registers and pins
hears_same : {g : Format} (d e : Device) → Hearing g d → in_range e ≡ true → e.registers ≡ d.registers → e.pins ≡ d.pins → NoErrors e.flags → Hearing g e
hears_same d e h i r p z =
    hears_still d e h i (ap (λ (q : Registers). q.mode1) r) (ap (λ (q : Registers). q.mode2) r) (ap (λ (q : Registers). q.accepted) r)
    (ap (λ (q : Registers). receive_enable q.command) r ∙ h.enabled) (ap low p ∙ h.carried) z

-- == what a bench sees ==

shows_no_flag : {g : Format} (d : Device) → Hearing g d → flagged d ≡ false
shows_no_flag d h =
    flagged_is d h.within
    ∙ ap₂ (λ (x y : Bool). x || y)
    (ap₂ (λ (x y : Bool). x || y) (ap on h.no_errors.framing) (ap on h.no_errors.overrun)) (ap on h.no_errors.parity)

-- the receiving half is told that it is on, and the format
received_is : {g : Format} (d : Device) (x : Bool) → Hearing g d → received d x ≡ receive_on g x d.receiver
received_is d x h =
    ap (λ (live : Bool). link-hearing.receive d.receiver live (receive_format d.registers) x) (all (all h.enabled h.carried) h.set)
    ∙ ap (λ (k : Format). link-hearing.receive d.receiver true k x) h.format

-- == what it does ==

-- it is still an end that receives, and its half is this one
record HearsOn (g : Format) (e : Device) (r : ReceiverHalf) : Type 0 where
  pub ready : Hearing g e
  pub half : e.receiver ≡ r

-- a transmit tick leaves it alone
hears_through : {g : Format} (d : Device) → Hearing g d → HearsOn g (next d Transmit) d.receiver
hears_through d h =
    let w : TransmitLeaves d (next d Transmit) = subst (λ (k : Device). TransmitLeaves k (next d Transmit)) (settled_is d h.within) (transmit_leaves d) in
    record { ready = hears_same d (next d Transmit) h (next_in d Transmit h.within) w.registers w.pins (same_none w.errors h.no_errors); half = w.receiver }

-- an arrival with no fault, into a register that was read, sets no flag
noted_same : (f : Flags) (o : Bool) (k : Option Arrival) → (o || arrives faulty k) ≡ false → SameErrors f (noted f o k)
noted_same f o None q = record { framing = refl; overrun = refl; parity = refl }
noted_same f o (Some a) q =
    let n = neither o (faulty a) q in
    let none = neither a.parity a.framing n.1 in
    rw (n.0, none.0, none.1) (record { framing = refl; overrun = refl; parity = refl })

-- the half after a receive tick, and the end where that brought no fault
heard_half : {g : Format} (d : Device) (x : ℕ) → Hearing g d → level_refusal x ≡ 0 → (next d (Receive x)).receiver ≡ (receive_on g (on x) d.receiver).half
unfolding receive_tick
heard_half d x h n = ap (λ (k : Device). k.receiver) (does_receive d h.within x n) ∙ ap (λ (o : Received). o.half) (received_is d (on x) h)

heard_ready : {g : Format} (d : Device) (x : ℕ) → Hearing g d → level_refusal x ≡ 0 → tick_faults g (on x) d.receiver ≡ false → Hearing g (next d (Receive x))
unfolding receive_tick
heard_ready d x h n q =
    let is : next d (Receive x) ≡ receive_tick d (on x) = does_receive d h.within x n in
    let fine = ap (λ (o : Received). o.overrun || arrives faulty o.heard) (received_is d (on x) h) ∙ q in
    hears_same d (next d (Receive x)) h (next_in d (Receive x) h.within) (ap (λ (k : Device). k.registers) is) (ap (λ (k : Device). k.pins) is)
    (subst (λ (k : Device). NoErrors k.flags) (sym is)
    (same_none (noted_same d.flags (received d (on x)).overrun (received d (on x)).heard fine) h.no_errors))

-- its part of a joined tick: a transmit tick of its own, then a receive tick of what the other device sends
module _ {g : Format} (d : Device) (x : ℕ) (h : Hearing g d) (n : level_refusal x ≡ 0) where
  hears_ticked : (next (next d Transmit) (Receive x)).receiver ≡ (receive_on g (on x) d.receiver).half
  hears_ticked =
      let w = hears_through d h in
      heard_half (next d Transmit) x w.ready n ∙ ap (λ (r : ReceiverHalf). (receive_on g (on x) r).half) w.half

  ticked_ready : tick_faults g (on x) d.receiver ≡ false → Hearing g (next (next d Transmit) (Receive x))
  ticked_ready q =
      let w = hears_through d h in
      heard_ready (next d Transmit) x w.ready n (ap (λ (r : ReceiverHalf). tick_faults g (on x) r) w.half ∙ q)

-- a read empties the half
abbrev taken : Call → ReceiverHalf → ReceiverHalf
taken c r = cond (reads 0 c) (emptied r) r

module _ {g : Format} (d : Device) (h : Hearing g d) where
  -- a call that changes little, and leaves DCD low
  hears_lightly : (c : Call) → refusal d c ≡ 0 → light c ≡ true → low (pins_after c d.pins) ≡ true → HearsOn g (next d c) (taken c d.receiver)
  hears_lightly c n l dcd =
      let w : Light d c = light_leaves d c h.within n l in
      record {
        ready = hears_still d (next d c) h (next_in d c h.within) w.mode1 w.mode2 w.accepted
            (ap receive_enable w.command ∙ h.enabled) (ap low w.pins ∙ dcd) (same_none w.errors h.no_errors);
        half = w.receiver;
      }

  -- a command that leaves receive on
  hears_commanded : (v : ℕ) → refusal d (Write 3 v) ≡ 0 → receive_enable v ≡ true → HearsOn g (next d (Write 3 v)) d.receiver
  hears_commanded v n t =
      let e : Device = next d (Write 3 v) in
      let w : CommandWritten v d e = subst (λ (k : Device). CommandWritten v k e) (settled_is d h.within) (command_write_leaves d v n) in
      record {
        ready = hears_still d e h (next_in d (Write 3 v) h.within) w.modes.mode1 w.modes.mode2 w.modes.accepted
            (ap receive_enable (w.command ∙ sym (command_put v)) ∙ receive_stored v ∙ t) (ap low w.pins ∙ h.carried) (command_sets_none v w.errors h.no_errors);
        half = w.receiver_kept t;
      }

  hears_done : (c : Call) → refusal d c ≡ 0 → leaves_receiving c ≡ true → HearsOn g (next d c) (taken c d.receiver)
  hears_done Reset n l = absurd (true≢false (sym l))
  hears_done (Read address) n l = hears_lightly (Read address) n refl h.carried
  hears_done (Write zero v) n l = hears_lightly (Write 0 v) n refl h.carried
  hears_done (Write (suc zero) v) n l = hears_lightly (Write 1 v) n refl h.carried
  hears_done (Write (suc (suc zero)) v) n l = absurd (true≢false (sym l))
  hears_done (Write (suc (suc (suc zero))) v) n l = hears_commanded v n (both (normal v) (receive_enable v) l).1
  hears_done (Write (suc (suc (suc (suc i)))) v) n l = absurd (omega (arith, write_address (settled d).registers (suc (suc (suc (suc i)))) v n))
  hears_done (SetPins dsr dcd cts) n l = hears_lightly (SetPins dsr dcd cts) n refl l
  hears_done Transmit n l = hears_through d h
  hears_done (Receive y) n l = absurd (true≢false (sym l))
  hears_done Outputs n l = record { ready = h; half = refl }

  -- a call that leaves alone what receiving rests on, or is refused
  hears_called : (c : Call) → refused_or leaves_receiving d c ≡ true → HearsOn g (next d c) (taken c d.receiver)
  hears_called c a =
      refused_or_lem leaves_receiving d c a (hears_done c) λ n.
      let is : next d c ≡ d = (refused_unchanged d c n).device in
      record {
        ready = subst (Hearing g) (sym is) h;
        half = ap (λ (k : Device). k.receiver) is ∙ ap (λ (b : Bool). cond b (emptied d.receiver) d.receiver) (sym (refused_reads_nothing d c n));
      }

-- == the end ==

pub receiving_end : (g : Format) → ReceivingEnd ins2651 g (Hearing g) (λ d. d.receiver)
receiving_end g =
    record {
      unread = λ d h. unread_is d h.within;
      character = λ d h. character_is d h.within;
      stamp = λ d h. stamp_is d h.within;
      no_flag = shows_no_flag;
      tick_ready = λ d x h q.
          ticked_ready d (bit x) h (is_level x) (ap (λ (y : Bool). tick_faults g y d.receiver) (on_bit x) ∙ q);
      tick_half = λ d x h. hears_ticked d (bit x) h (is_level x) ∙ ap (λ (y : Bool). (receive_on g y d.receiver).half) (on_bit x);
      call_ready = λ d c h a. (hears_called d h c a).ready;
      call_half = λ d c h a. (hears_called d h c a).half;
    }
