-- No run of calls leaves the ranges.
-- Assumes nothing.
use Prim.Native.Nat.{ℕ}
use mathlib.Core.Path.{◌≡◌, refl, sym, ap, subst, ◌∙◌}
use mathlib.Core.Bool.{Bool, true, false, cond, not, ◌&&◌}
use mathlib.Core.List.{List, [], ◌∷◌}
use lib.Dec.{leb, eqb}
use borrow.Author.Tests.{eq-eqb, eqb-true, eqb-false}
use Rattle.std.specs.Prelude.{Option, None, Some}
use Rattle.line_rules.specs.declared.Arrival.{Arrival}
use Rattle.line_rules.specs.Sending.{on, or_set}
use Rattle.line_rules.proofs.Table.{both}
use Rattle.link_rules.specs.declared.ReceiverHalf.{ReceiverHalf}
use Rattle.link_rules.specs.Parts.{dropped}
use Rattle.link_rules.specs.Within.{sender_in_range, receiver_in_range}
use Rattle.line_rules.proofs.Choice.{either, each, all}
use Rattle.link_rules.proofs.SenderRange.{loaded_in, transmit_in}
use Rattle.link_rules.proofs.ReceiverRange.{dropped_in, emptied_in, receive_in}
use Rattle.ins2651_rules.specs.declared.Registers.{Registers}
use Rattle.ins2651_rules.specs.declared.Pins.{Pins}
use Rattle.ins2651_rules.specs.declared.Flags.{Flags}
use Rattle.ins2651_rules.specs.declared.Device.{Device}
use Rattle.ins2651_rules.specs.Shape.{Ticked, Answer, reset_device, with_registers, with_command, with_empty, with_change}
use Rattle.ins2651_rules.specs.Modes.{has, command_clears, transmit_enable, receive_enable, send_format, receive_format}
use Rattle.ins2651_rules.specs.Conditions.{may_start, break_on, listening}
use Rattle.ins2651_rules.specs.Ranges.{mode1_in_range, command_in_range, registers_in_range, pins_in_range, flags_in_range, status_in_range, in_range}
use Rattle.ins2651_rules.specs.Status.{status_byte, Kept}
use Rattle.ins2651_rules.specs.Refusals.{mode1_refusal, mode_refusal, command_refusal, write_refusal, pins_refusal}
use Rattle.ins2651_rules.specs.RegisterReads.{read_register}
use Rattle.ins2651_rules.specs.RegisterWrites.{syns_written, modes_written, stored, unless, flags_commanded, receiver_commanded, write_register}
use Rattle.ins2651_rules.specs.Pinning.{changes, pinned}
use Rattle.ins2651_rules.specs.Ticks.{sent, runs_empty, transmit_tick, noted, received, receive_tick}
use Rattle.ins2651_rules.specs.Runs.{Call, Reset, Read, Write, SetPins, Transmit, Receive, Outputs, next, after}
use Rattle.ins2651_rules.specs.Rows.{refusal}
use Rattle.ins2651_rules.proofs.StatusKept.{built_kept, unshown_kept, read_kept, written_kept, pinned_kept, status_read_kept, sent_kept, heard_kept}
use Rattle.ins2651_rules.proofs.Settled.{settled_is, reset_in}
use Rattle.ins2651_rules.proofs.Done.{does_read, does_write, does_pins, does_transmit, does_receive}
use Rattle.ins2651_rules.proofs.Commands.{bit4_gone, accepted_stored}
use Rattle.ins2651_rules.proofs.Formats.{format_in}
use Rattle.ins2651_rules.proofs.Leaves.{pointing}
use Rattle.ins2651_rules.proofs.Refused.{address_is_3, command_accepted, mode_accepted, levels_taken, refused_unchanged}

-- == the parts of a device ==

four : {a b c d : Bool} → a ≡ true → b ≡ true → c ≡ true → d ≡ true → (a && b && c && d) ≡ true
four p q r s = all (all (all p q) r) s

five : {a b c d e : Bool} → a ≡ true → b ≡ true → c ≡ true → d ≡ true → e ≡ true → (a && b && c && d && e) ≡ true
five p q r s t = all (four p q r s) t

pub record In (d : Device) : Type 0 where
  pub registers : registers_in_range d.registers ≡ true
  pub pins : pins_in_range d.pins ≡ true
  pub sender : sender_in_range d.sender ≡ true
  pub receiver : receiver_in_range d.receiver ≡ true
  pub flags : flags_in_range d.flags ≡ true
  pub status : Kept d

pub parts : (d : Device) → in_range d ≡ true → In d
unfolding in_range
parts d h =
    let k = both (registers_in_range d.registers && pins_in_range d.pins && sender_in_range d.sender && receiver_in_range d.receiver && flags_in_range d.flags) (status_in_range d) h in
    let f = both (registers_in_range d.registers && pins_in_range d.pins && sender_in_range d.sender && receiver_in_range d.receiver) (flags_in_range d.flags) k.0 in
    let r = both (registers_in_range d.registers && pins_in_range d.pins && sender_in_range d.sender) (receiver_in_range d.receiver) f.0 in
    let s = both (registers_in_range d.registers && pins_in_range d.pins) (sender_in_range d.sender) r.0 in
    let p = both (registers_in_range d.registers) (pins_in_range d.pins) s.0 in
    record { registers = p.0; pins = p.1; sender = s.1; receiver = r.1; flags = f.1; status = eqb-true d.status (status_byte d) k.1 }

whole : {d : Device} → In d → in_range d ≡ true
unfolding in_range
whole p = all (five p.registers p.pins p.sender p.receiver p.flags) (eq-eqb _ _ p.status)

record RegistersIn (r : Registers) : Type 0 where
  mode1 : mode1_in_range r.accepted r.mode1 ≡ true
  command : command_in_range r.command ≡ true
  modes : leb r.modes 1 ≡ true
  syns : leb r.syns 2 ≡ true

registers_of : (r : Registers) → registers_in_range r ≡ true → RegistersIn r
registers_of r h =
    let s = both (mode1_in_range r.accepted r.mode1 && command_in_range r.command && leb r.modes 1) (leb r.syns 2) h in
    let m = both (mode1_in_range r.accepted r.mode1 && command_in_range r.command) (leb r.modes 1) s.0 in
    let c = both (mode1_in_range r.accepted r.mode1) (command_in_range r.command) m.0 in
    record { mode1 = c.0; command = c.1; modes = m.1; syns = s.1 }

pub record FlagsIn (f : Flags) : Type 0 where
  pub framing : leb f.framing 1 ≡ true
  pub overrun : leb f.overrun 1 ≡ true
  pub parity : leb f.parity 1 ≡ true
  pub empty : leb f.empty 1 ≡ true
  pub change : leb f.change 1 ≡ true

pub flags_of : (f : Flags) → flags_in_range f ≡ true → FlagsIn f
flags_of f h =
    let c = both (leb f.framing 1 && leb f.overrun 1 && leb f.parity 1 && leb f.empty 1) (leb f.change 1) h in
    let e = both (leb f.framing 1 && leb f.overrun 1 && leb f.parity 1) (leb f.empty 1) c.0 in
    let p = both (leb f.framing 1 && leb f.overrun 1) (leb f.parity 1) e.0 in
    let o = both (leb f.framing 1) (leb f.overrun 1) p.0 in
    record { framing = o.0; overrun = o.1; parity = p.1; empty = e.1; change = c.1 }

pub record PinsIn (p : Pins) : Type 0 where
  pub dsr : leb p.dsr 1 ≡ true
  pub dcd : leb p.dcd 1 ≡ true
  pub cts : leb p.cts 1 ≡ true

pub pins_of : (p : Pins) → pins_in_range p ≡ true → PinsIn p
pins_of p h =
    let c = both (leb p.dsr 1 && leb p.dcd 1) (leb p.cts 1) h in
    let d = both (leb p.dsr 1) (leb p.dcd 1) c.0 in
    record { dsr = d.0; dcd = d.1; cts = c.1 }

set_in : (t : Bool) (x : ℕ) → leb x 1 ≡ true → leb (or_set t x) 1 ≡ true
set_in t x h = either (λ (k : ℕ). leb k 1 ≡ true) t refl h

cleared_in : (t : Bool) (x : ℕ) → leb x 1 ≡ true → leb (unless t x) 1 ≡ true
cleared_in t x h = either (λ (k : ℕ). leb k 1 ≡ true) t refl h

-- a SYN or mode write leaves the command
pub syns_command : (r : Registers) (v : ℕ) → (syns_written r v).command ≡ r.command
syns_command r v = either (λ (q : Registers). q.command ≡ r.command) (eqb r.syns 0) refl (either (λ (q : Registers). q.command ≡ r.command) (eqb r.syns 1) refl refl)

pub modes_command : (r : Registers) (v : ℕ) → (modes_written r v).command ≡ r.command
modes_command r v = either (λ (q : Registers). q.command ≡ r.command) (eqb r.modes 0) refl refl

-- == each act, on a device whose parts are in range ==

module _ (d : Device) (p : In d) where
  r : RegistersIn d.registers
  r = registers_of d.registers p.registers

  f : FlagsIn d.flags
  f = flags_of d.flags p.flags

  pointing_in : (m s : ℕ) → leb m 1 ≡ true → leb s 2 ≡ true → registers_in_range (pointing d.registers m s) ≡ true
  pointing_in m s a b = four r.mode1 r.command a b

  change_in : (x : ℕ) → leb x 1 ≡ true → flags_in_range (with_change d.flags x) ≡ true
  change_in x h = five f.framing f.overrun f.parity f.empty h

  empty_in : (x : ℕ) → leb x 1 ≡ true → flags_in_range (with_empty d.flags x) ≡ true
  empty_in x h = five f.framing f.overrun f.parity h f.change

  registers_kept : (q : Registers) → q.command ≡ d.registers.command → Kept (with_registers d q)
  registers_kept q c = unshown_kept d p.status q d.sender d.receiver c refl refl

  read_in : (address : ℕ) → In (read_register d address).device
  unfolding read_register
  read_in address =
      either (λ (o : Answer). In o.device) (eqb address 0)
      (record { registers = p.registers; pins = p.pins; sender = p.sender; receiver = emptied_in d.receiver p.receiver; flags = p.flags; status = read_kept d p.status })
      (either (λ (o : Answer). In o.device) (eqb address 1)
      (record { registers = p.registers; pins = p.pins; sender = p.sender; receiver = p.receiver; flags = change_in 0 refl; status = status_read_kept d p.status })
      (either (λ (o : Answer). In o.device) (eqb address 2)
      (either (λ (o : Answer). In o.device) (eqb d.registers.modes 0) (moved 1 d.registers.syns refl r.syns) (moved 0 d.registers.syns refl r.syns))
      (moved 0 0 refl refl)))
    where
      moved : (m s : ℕ) → leb m 1 ≡ true → leb s 2 ≡ true → In (with_registers d (pointing d.registers m s))
      moved m s a b =
          record { registers = pointing_in m s a b; pins = p.pins; sender = p.sender; receiver = p.receiver; flags = p.flags; status = registers_kept (pointing d.registers m s) refl }

  syns_in : (v : ℕ) → registers_in_range (syns_written d.registers v) ≡ true
  syns_in v =
      either (λ (q : Registers). registers_in_range q ≡ true) (eqb d.registers.syns 0) (four r.mode1 r.command r.modes refl)
      (either (λ (q : Registers). registers_in_range q ≡ true) (eqb d.registers.syns 1) (four r.mode1 r.command r.modes refl)
      (four r.mode1 r.command r.modes refl))

  modes_in : (v : ℕ) → mode_refusal d.registers v ≡ 0 → registers_in_range (modes_written d.registers v) ≡ true
  modes_in v h =
      each (λ (q : Registers). registers_in_range q ≡ true) (eqb d.registers.modes 0)
      (λ t. four (eq-eqb (mode1_refusal v) 0 (sym (ap (λ (b : Bool). cond b (mode1_refusal v) 0) t) ∙ h)) r.command refl r.syns)
      (λ t. four r.mode1 r.command refl r.syns)

  command_in : (v : ℕ) → command_refusal v ≡ 0 → command_in_range (stored v) ≡ true
  command_in v h = all (eq-eqb (command_refusal (stored v)) 0 (accepted_stored v h)) (ap not (bit4_gone v))

  commanded_in : (v : ℕ) → command_refusal v ≡ 0 → In (write_register d 3 v)
  unfolding write_register
  commanded_in v h =
      record {
        registers = four r.mode1 (command_in v h) r.modes r.syns;
        pins = p.pins;
        sender = p.sender;
        receiver = either (λ (q : ReceiverHalf). receiver_in_range q ≡ true) (receive_enable v) p.receiver (emptied_in (dropped d.receiver) (dropped_in d.receiver p.receiver));
        flags = five (cleared_in (command_clears v) d.flags.framing f.framing) (cleared_in (command_clears v) d.flags.overrun f.overrun) (cleared_in (command_clears v) d.flags.parity f.parity) (cleared_in (not (transmit_enable v)) d.flags.empty f.empty) f.change;
        status = built_kept d (with_command d.registers (stored v)) d.pins d.sender (receiver_commanded d.receiver v) (flags_commanded d.flags v);
      }

  pins_in : (dsr dcd cts : ℕ) → pins_refusal dsr dcd cts ≡ 0 → In (pinned d dsr dcd cts)
  unfolding pinned
  pins_in dsr dcd cts h =
      record {
        registers = p.registers;
        pins = levels_taken (leb dsr 1 && leb dcd 1 && leb cts 1) h;
        sender = p.sender;
        receiver = p.receiver;
        flags = change_in (or_set (changes d.pins dsr dcd) d.flags.change) (set_in (changes d.pins dsr dcd) d.flags.change f.change);
        status = pinned_kept d p.status dsr dcd cts;
      }

  transmit_tick_in : In (transmit_tick d).device
  unfolding transmit_tick
  transmit_tick_in =
      record {
        registers = p.registers;
        pins = p.pins;
        sender = transmit_in d.sender (may_start d) (break_on d) (send_format d.registers) p.sender (λ e. format_in d.registers.mode1 (has 32 d.registers.mode2));
        receiver = p.receiver;
        flags = empty_in (or_set (runs_empty d (sent d)) d.flags.empty) (set_in (runs_empty d (sent d)) d.flags.empty f.empty);
        status = sent_kept d p.status;
      }

  noted_in : (o : Bool) (h : Option Arrival) → flags_in_range (noted d.flags o h) ≡ true
  noted_in o None = p.flags
  noted_in o (Some a) =
      five (set_in a.framing d.flags.framing f.framing) (set_in o d.flags.overrun f.overrun) (set_in a.parity d.flags.parity f.parity) f.empty f.change

  receive_tick_in : (x : Bool) → In (receive_tick d x)
  unfolding receive_tick
  receive_tick_in x =
      record {
        registers = p.registers;
        pins = p.pins;
        sender = p.sender;
        receiver = receive_in d.receiver (listening d) (receive_format d.registers) x p.receiver (λ e. format_in d.registers.mode1 (has 16 d.registers.mode2));
        flags = noted_in (received d x).overrun (received d x).heard;
        status = heard_kept d p.status x;
      }

  write_in : (address v : ℕ) → write_refusal d.registers address v ≡ 0 → In (write_register d address v)
  unfolding write_register
  write_in address v h =
      each In (eqb address 0)
      (λ a. record { registers = p.registers; pins = p.pins; sender = loaded_in d.sender v p.sender; receiver = p.receiver; flags = empty_in 0 refl; status = written_kept d p.status v }) λ a.
      each In (eqb address 1)
      (λ b. record { registers = syns_in v; pins = p.pins; sender = p.sender; receiver = p.receiver; flags = p.flags; status = registers_kept (syns_written d.registers v) (syns_command d.registers v) }) λ b.
      each In (eqb address 2)
      (λ c. record {
        registers = modes_in v (mode_accepted d.registers v (subst (λ (k : ℕ). write_refusal d.registers k v ≡ 0) (eqb-true address 2 c) h));
        pins = p.pins;
        sender = p.sender;
        receiver = p.receiver;
        flags = p.flags;
        status = registers_kept (modes_written d.registers v) (modes_command d.registers v);
      })
      (λ c. commanded_in v (command_accepted d.registers v (subst (λ (k : ℕ). write_refusal d.registers k v ≡ 0) (address_is_3 d.registers address v h a b c) h)))

-- the ticks of a device in range
pub transmitted_in : (d : Device) → in_range d ≡ true → in_range (transmit_tick d).device ≡ true
transmitted_in d h = whole (transmit_tick_in d (parts d h))

pub received_in : (d : Device) (x : Bool) → in_range d ≡ true → in_range (receive_tick d x) ≡ true
received_in d x h = whole (receive_tick_in d (parts d h) x)

-- == runs ==

next_in_done : (d : Device) (c : Call) → in_range d ≡ true → refusal d c ≡ 0 → in_range (next d c) ≡ true
next_in_done d Reset h n = reset_in
next_in_done d (Read address) h n = ap (λ (o : Answer). in_range o.device) (does_read d h address n) ∙ whole (read_in d (parts d h) address)
next_in_done d (Write address v) h n =
    ap in_range (does_write d h address v n)
    ∙ whole (write_in d (parts d h) address v (subst (λ (e : Device). write_refusal e.registers address v ≡ 0) (settled_is d h) n))
next_in_done d (SetPins dsr dcd cts) h n = ap in_range (does_pins d h dsr dcd cts n) ∙ whole (pins_in d (parts d h) dsr dcd cts n)
next_in_done d Transmit h n = ap (λ (o : Ticked). in_range o.device) (does_transmit d h) ∙ transmitted_in d h
next_in_done d (Receive x) h n = ap in_range (does_receive d h x n) ∙ received_in d (on x) h
next_in_done d Outputs h n = h

-- a call leaves a device in range there
pub next_in : (d : Device) (c : Call) → in_range d ≡ true → in_range (next d c) ≡ true
next_in d c h = go (eqb (refusal d c) 0) refl
  where
    go : (b : Bool) → eqb (refusal d c) 0 ≡ b → in_range (next d c) ≡ true
    go true e = next_in_done d c h (eqb-true _ _ e)
    go false e = ap in_range (refused_unchanged d c (eqb-false _ _ e)).device ∙ h

pub after_in : (d : Device) (cs : List Call) → in_range d ≡ true → in_range (after d cs) ≡ true
after_in d [] h = h
after_in d (c ∷ cs) h = after_in (next d c) cs (next_in d c h)

-- reset is in range, and no run of calls leaves the ranges
pub runs_stay_in_range : (cs : List Call) → in_range (after reset_device cs) ≡ true
runs_stay_in_range cs = after_in reset_device cs reset_in

-- == the stored status byte (P7) ==

pub status_kept_lem : (d : Device) → in_range d ≡ true → Kept d
status_kept_lem d h = (parts d h).status

-- after any run of calls from any device in range the stored byte is the status that document 01 says
pub after_kept : (d : Device) (cs : List Call) → in_range d ≡ true → Kept (after d cs)
after_kept d cs h = status_kept_lem (after d cs) (after_in d cs h)
