-- The stored status byte is what the other fields mean: an act that puts it together makes it so, and any other leaves it so, as no bit has changed (P7).
-- Assumes nothing.
use Prim.Native.Nat.{ℕ, ◌+◌}
use mathlib.Core.Path.{◌≡◌, refl, sym, ap, ap₂, ◌∙◌}
use mathlib.Core.Bool.{Bool, true, false, cond, not, ◌&&◌, ◌||◌, true≢false}
use lib.Dec.{eqb}
use borrow.Author.Tests.{eqb-true}
use Rattle.std.specs.Prelude.{Option, None, Some}
use Rattle.line_rules.specs.declared.Arrival.{Arrival}
use Rattle.line_rules.specs.Sending.{on, or_set}
use Rattle.line_rules.proofs.Bits.{on_bit}
use Rattle.line_rules.proofs.Choice.{is_so, neither}
use Rattle.link_rules.specs.declared.SenderHalf.{SenderHalf}
use Rattle.link_rules.specs.declared.ReceiverHalf.{ReceiverHalf}
use Rattle.link_rules.specs.Parts.{loaded, emptied}
use Rattle.link_rules.specs.Hearing.{arrives}
use Rattle.link_rules.proofs.Halves.{full_after, unread_after}
use Rattle.ins2651_rules.specs.declared.Registers.{Registers}
use Rattle.ins2651_rules.specs.declared.Pins.{Pins}
use Rattle.ins2651_rules.specs.declared.Flags.{Flags}
use Rattle.ins2651_rules.specs.declared.Device.{Device}
use Rattle.ins2651_rules.specs.Shape.{with_status, status_kept, with_parts, with_flags, with_pins, with_sender, with_receiver, pin_levels, with_empty, with_change, with_unshown, status_if}
use Rattle.ins2651_rules.specs.Modes.{transmit_enable, send_format, receive_format}
use Rattle.ins2651_rules.specs.Conditions.{may_start, break_on, listening, either_mark, unread, vacant, may_write}
use Rattle.ins2651_rules.specs.Status.{weigh, modem_bits, error_bits, status_byte, Kept}
use Rattle.ins2651_rules.specs.RegisterReads.{read_holding, read_status}
use Rattle.ins2651_rules.specs.RegisterWrites.{write_holding}
use Rattle.ins2651_rules.specs.Pinning.{changes, pinned}
use Rattle.ins2651_rules.specs.Ticks.{sent, runs_empty, transmit_tick, noted, received, arrivals, receive_tick}

-- the byte does not go by itself
pub status_besides : (d : Device) (v : ℕ) → status_byte (with_status d v) ≡ status_byte d
unfolding status_byte
status_besides d v = refl

-- a device that is built has the right byte
pub built_kept : (d : Device) (r : Registers) (p : Pins) (s : SenderHalf) (h : ReceiverHalf) (f : Flags) → Kept (with_parts d r p s h f)
built_kept d r p s h f = sym (status_besides (record { registers = r; pins = p; sender = s; receiver = h; flags = f; status = 0 }) _)

-- a device that has the right byte is kept as it is
pub kept_is : (d : Device) → Kept d → status_kept d ≡ d
kept_is d k = ap (with_status d) (status_besides d 0 ∙ sym k)

-- two devices that show the same
pub record ShowsSame (d e : Device) : Type 0 where
  pub modem : modem_bits e ≡ modem_bits d
  pub errors : error_bits e.flags ≡ error_bits d.flags
  pub mark : either_mark e ≡ either_mark d
  pub unread : unread e ≡ unread d
  pub may_write_lem : may_write e ≡ may_write d

pub same_status : (d e : Device) → ShowsSame d e → status_byte e ≡ status_byte d
unfolding status_byte
same_status d e s =
    ap₂ ◌+◌ (ap₂ ◌+◌ s.modem s.errors)
    (ap₂ ◌+◌ (ap₂ ◌+◌ (ap (λ (b : Bool). weigh b 4) s.mark) (ap (λ (b : Bool). weigh b 2) s.unread)) (ap (λ (b : Bool). weigh b 1) s.may_write_lem))

-- where nothing arrives no flag is set
nothing_noted : (f : Flags) (o : Bool) (h : Option Arrival) → arrives (λ (a : Arrival). true) h ≡ false → noted f o h ≡ f
nothing_noted f o None e = refl
nothing_noted f o (Some a) e = absurd (true≢false e)

module _ (d : Device) (k : Kept d) where
  -- n, which d has become, put together where something happened, and else showing the same
  if_kept : (happened : Bool) (n : Device) → Kept n → (happened ≡ false → ShowsSame d n) → Kept (status_if happened d n)
  if_kept happened n a s = go happened refl
    where
      go : (b : Bool) → happened ≡ b → cond b n.status d.status ≡ status_byte (with_status n (cond b n.status d.status))
      go true e = a ∙ sym (status_besides n n.status)
      go false e = k ∙ sym (same_status d n (s e)) ∙ sym (status_besides n d.status)

  -- registers with the same command, and halves with the same marks
  pub unshown_kept : (r : Registers) (s : SenderHalf) (h : ReceiverHalf) → r.command ≡ d.registers.command → s.full ≡ d.sender.full → h.unread ≡ d.receiver.unread → Kept (with_unshown d r s h)
  unshown_kept r s h c f u =
      k
      ∙ sym (same_status d (with_unshown d r s h)
      (record { modem = refl; errors = refl; mark = refl; unread = ap on u; may_write_lem = ap₂ (λ (v : ℕ) (x : ℕ). transmit_enable v && eqb x 0) c f }))

  -- a data read
  pub read_kept : Kept (read_holding d).device
  read_kept =
      if_kept (unread d) (with_receiver d (emptied d.receiver) d.flags) (built_kept d d.registers d.pins d.sender (emptied d.receiver) d.flags)
      (λ e. record { modem = refl; errors = refl; mark = refl; unread = sym e; may_write_lem = refl })

  -- a data write
  pub written_kept : (v : ℕ) → Kept (write_holding d v)
  written_kept v =
      let s : SenderHalf = loaded d.sender v in
      let f : Flags = with_empty d.flags 0 in
      if_kept (vacant d || on d.flags.empty) (with_sender d s f) (built_kept d d.registers d.pins s d.receiver f)
      (λ e.
      let none = neither (vacant d) (on d.flags.empty) e in
      record {
        modem = refl;
        errors = refl;
        mark = ap (λ (b : Bool). b || on d.flags.change) (sym none.1);
        unread = refl;
        may_write_lem = ap (λ (b : Bool). transmit_enable d.registers.command && b) (sym none.0);
      })

  -- a pin call
  pub pinned_kept : (dsr dcd cts : ℕ) → Kept (pinned d dsr dcd cts)
  unfolding pinned
  pinned_kept dsr dcd cts =
      let t : Bool = changes d.pins dsr dcd in
      let p : Pins = pin_levels dsr dcd cts in
      let f : Flags = with_change d.flags (or_set t d.flags.change) in
      if_kept t (with_pins d p f) (built_kept d d.registers p d.sender d.receiver f)
      (λ e.
      let none = neither (not (eqb d.pins.dsr dsr)) (not (eqb d.pins.dcd dcd)) e in
      record {
        modem = ap₂ (λ (x y : ℕ). weigh (eqb x 0) 128 + weigh (eqb y 0) 64) (sym (eqb-true d.pins.dsr dsr (is_so _ none.0))) (sym (eqb-true d.pins.dcd dcd (is_so _ none.1)));
        errors = refl;
        mark = ap (λ (b : Bool). on d.flags.empty || on (or_set b d.flags.change)) e;
        unread = refl;
        may_write_lem = refl;
      })

  -- a status read
  pub status_read_kept : Kept (read_status d).device
  status_read_kept =
      let n : Device = with_flags d (with_change d.flags 0) in
      if_kept (on d.flags.change) n (built_kept d d.registers d.pins d.sender d.receiver n.flags)
      (λ e. record { modem = refl; errors = refl; mark = ap (λ (b : Bool). on d.flags.empty || b) (sym e); unread = refl; may_write_lem = refl })

  -- a transmit tick: the character leaves THR with a frame's first tick alone, and the empty-mark is set where it runs empty
  pub sent_kept : Kept (transmit_tick d).device
  unfolding transmit_tick
  sent_kept =
      let r : Bool = runs_empty d (sent d) in
      let f : Flags = with_empty d.flags (or_set r d.flags.empty) in
      if_kept ((sent d).began || r) (with_sender d (sent d).half f) (built_kept d d.registers d.pins (sent d).half d.receiver f)
      (λ e.
      let none = neither (sent d).began r e in
      let full = full_after d.sender (may_start d) (break_on d) (send_format d.registers) ∙ ap (λ (b : Bool). cond b 0 d.sender.full) none.0 in
      record {
        modem = refl;
        errors = refl;
        mark = ap (λ (b : Bool). on (or_set b d.flags.empty) || on d.flags.change) none.1;
        unread = refl;
        may_write_lem = ap (λ (x : ℕ). transmit_enable d.registers.command && eqb x 0) full;
      })

  -- a receive tick: what arrives sets the unread mark and flags, and no other tick does
  pub heard_kept : (x : Bool) → Kept (receive_tick d x)
  unfolding receive_tick
  heard_kept x =
      let o : Bool = (received d x).overrun in
      let h : Option Arrival = (received d x).heard in
      let f : Flags = noted d.flags o h in
      if_kept (on (arrivals h)) (with_receiver d (received d x).half f) (built_kept d d.registers d.pins d.sender (received d x).half f)
      (λ e.
      let none : arrives (λ (a : Arrival). true) h ≡ false = sym (on_bit (arrives (λ (a : Arrival). true) h)) ∙ e in
      record {
        modem = refl;
        errors = ap error_bits (nothing_noted d.flags o h none);
        mark = ap (λ (g : Flags). on g.empty || on g.change) (nothing_noted d.flags o h none);
        unread = unread_after d.receiver (listening d) (receive_format d.registers) x ∙ ap (λ (b : Bool). cond b true (unread d)) none;
        may_write_lem = refl;
      })
