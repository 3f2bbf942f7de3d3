-- What a bench sees of a device in range is what stands in it; what a call leaves that is neither a reset, a tick nor a write of a mode or a command.
-- Assumes nothing.
use Prim.Native.Nat.{ℕ, zero, suc}
use native.Mathlib.Omega.{arith}
use mathlib.Core.Path.{◌≡◌, refl, sym, ap, ap₂, ◌∙◌}
use mathlib.Core.Bool.{Bool, true, false, cond, ◌||◌, ◌&&◌, true≢false, and-true, and-false}
use lib.Dec.{eqb, ltb}
use borrow.Author.Tests.{ltb-true, lt-ltb, eqb-true, eqb-false}
use Rattle.line_rules.specs.Sending.{bit, on}
use Rattle.line_rules.proofs.Choice.{either}
use Rattle.link_rules.specs.declared.SenderHalf.{SenderHalf}
use Rattle.link_rules.specs.declared.ReceiverHalf.{ReceiverHalf}
use Rattle.link_rules.specs.Parts.{loaded, emptied}
use Rattle.ins2651_rules.specs.declared.Registers.{Registers}
use Rattle.ins2651_rules.specs.declared.Pins.{Pins}
use Rattle.ins2651_rules.specs.declared.Flags.{Flags}
use Rattle.ins2651_rules.specs.declared.Device.{Device}
use Rattle.ins2651_rules.specs.Shape.{Answer, with_status, with_parts, with_registers, pin_levels, with_empty, with_change}
use Rattle.ins2651_rules.specs.Modes.{has}
use Rattle.ins2651_rules.specs.Conditions.{transmit_enabled, vacant}
use Rattle.ins2651_rules.specs.Ranges.{in_range, settled}
use Rattle.ins2651_rules.specs.Refusals.{level_refusal, write_refusal}
use Rattle.ins2651_rules.specs.RegisterReads.{read_register, read}
use Rattle.ins2651_rules.specs.RegisterWrites.{write_register}
use Rattle.ins2651_rules.specs.Pinning.{pinned}
use Rattle.ins2651_rules.specs.Status.{status_byte}
use Rattle.ins2651_rules.specs.Stamps.{stamp}
use Rattle.ins2651_rules.specs.Runs.{Call, Reset, Read, Write, SetPins, Transmit, Receive, Outputs, next, by_call, otherwise, at_read, at_write, at_pins, at_outputs}
use Rattle.ins2651_rules.specs.Rows.{refusal}
use Rattle.ins2651_rules.specs.History.{reads, writes_holding}
use Rattle.ins2651_rules.proofs.Settled.{settled_is, settled_out, settled_in}
use Rattle.ins2651_rules.proofs.Done.{does_read, does_write, does_pins}
use Rattle.ins2651_rules.proofs.Refused.{read_address}
use Rattle.ins2651_rules.proofs.InRange.{status_kept_lem}
use Rattle.ins2651_rules.proofs.Leaves.{SameErrors, with_syns}
use Rattle.ins2651_rules.proofs.WritesLeave.{NoErrors, ErrorsBy}
use Rattle.ins2651_rules.proofs.StatusBits.{status_bits}
use Rattle.ins2651_ends.specs.OnALine.{status_bit, may_write, unread, flagged, character, value_of, refused_or}

-- == what a bench sees ==

bit_is : (d : Device) (w : ℕ) → in_range d ≡ true → status_bit w d ≡ has w (status_byte d)
unfolding read_register
bit_is d w h = ap (λ (o : Answer). has w o.value) (does_read d h 1 refl) ∙ ap (has w) (status_kept_lem d h)

-- bit 0 is 1 while transmit is enabled and THR empty
pub may_write_is : (d : Device) → in_range d ≡ true → may_write d ≡ (transmit_enabled d && vacant d)
may_write_is d h = bit_is d 1 h ∙ (status_bits d).bit0

-- bit 1 is 1 while RHR holds an unread character
pub unread_is : (d : Device) → in_range d ≡ true → unread d ≡ on d.receiver.unread
unread_is d h = bit_is d 2 h ∙ (status_bits d).bit1

-- .. of any device: what a status read shows is of the device as the call takes it, as it is or just reset
pub unread_taken : (d : Device) → unread d ≡ on (settled d).receiver.unread
unfolding read
unread_taken d =
    sym (ap (λ (e : Device). has 2 (read_register e 1).value) (settled_is (settled d) (settled_in d))) ∙ unread_is (settled d) (settled_in d)

-- so one is held by a device in range with its mark set
pub unread_held : (d : Device) → unread d ≡ (in_range d && on d.receiver.unread)
unread_held d = unread_taken d ∙ go (in_range d) refl
  where
    go : (b : Bool) → in_range d ≡ b → on (settled d).receiver.unread ≡ (b && on d.receiver.unread)
    go true h = ap (λ (e : Device). on e.receiver.unread) (settled_is d h)
    go false h = ap (λ (e : Device). on e.receiver.unread) (settled_out d h)

-- .. by a code's tests: the mark, and where that is set the range
pub unread_none : (d : Device) → d.receiver.unread ≡ 0 → false ≡ unread d
unread_none d z = sym (unread_held d ∙ ap (λ (k : ℕ). in_range d && on k) z ∙ and-false (in_range d))

pub unread_some : (d : Device) → (d.receiver.unread ≡ 0 → ⊥) → in_range d ≡ unread d
unread_some d z = sym (unread_held d ∙ ap (λ (b : Bool). in_range d && b) (lt-ltb 0 d.receiver.unread (omega arith)) ∙ and-true (in_range d))

-- a read of address 0 would give what RHR holds
pub character_is : (d : Device) → in_range d ≡ true → character d ≡ d.receiver.holding
unfolding read_register
character_is d h = ap (λ (o : Answer). o.value) (does_read d h 0 refl)

-- with its stamp
pub stamp_is : (d : Device) → in_range d ≡ true → stamp d ≡ d.receiver.stamp
unfolding stamp
stamp_is d h = ap (λ (e : Device). e.receiver.stamp) (settled_is d h)

-- bits 5, 4 and 3 are the error flags
pub flagged_is : (d : Device) → in_range d ≡ true → flagged d ≡ (on d.flags.framing || on d.flags.overrun || on d.flags.parity)
flagged_is d h =
    ap₂ (λ (x y : Bool). x || y)
    (ap₂ (λ (x y : Bool). x || y) (bit_is d 32 h ∙ (status_bits d).bit5) (bit_is d 16 h ∙ (status_bits d).bit4)) (bit_is d 8 h ∙ (status_bits d).bit3)

-- a level is never refused
pub is_level : (b : Bool) → level_refusal (bit b) ≡ 0
is_level true = refl
is_level false = refl

-- == which calls write and read ==

pub writes_is : (c : Call) → writes_holding c ≡ true → c ≡ Write 0 (value_of c)
writes_is Reset h = absurd (true≢false (sym h))
writes_is (Read address) h = absurd (true≢false (sym h))
writes_is (Write address v) h = ap (λ (k : ℕ). Write k v) (eqb-true address 0 h)
writes_is (SetPins dsr dcd cts) h = absurd (true≢false (sym h))
writes_is Transmit h = absurd (true≢false (sym h))
writes_is (Receive x) h = absurd (true≢false (sym h))
writes_is Outputs h = absurd (true≢false (sym h))

reads_is : (c : Call) → reads 0 c ≡ true → c ≡ Read 0
reads_is Reset h = absurd (true≢false (sym h))
reads_is (Read address) h = ap Read (eqb-true address 0 h)
reads_is (Write address v) h = absurd (true≢false (sym h))
reads_is (SetPins dsr dcd cts) h = absurd (true≢false (sym h))
reads_is Transmit h = absurd (true≢false (sym h))
reads_is (Receive x) h = absurd (true≢false (sym h))
reads_is Outputs h = absurd (true≢false (sym h))

-- == done, or refused ==

pub by_refusal : {P : Type 0} (d : Device) (c : Call) → (refusal d c ≡ 0 → P) → ((refusal d c ≡ 0 → ⊥) → P) → P
by_refusal {P} d c done refused = go (eqb (refusal d c) 0) refl
  where
    go : (b : Bool) → eqb (refusal d c) 0 ≡ b → P
    go true e = done (eqb-true _ _ e)
    go false e = refused (eqb-false _ _ e)

pub refused_or_lem : {P : Type 0} (p : Call → Bool) (d : Device) (c : Call) → refused_or p d c ≡ true → (refusal d c ≡ 0 → p c ≡ true → P) → ((refusal d c ≡ 0 → ⊥) → P) → P
refused_or_lem p d c a done refused = by_refusal d c (λ n. done n (rw n at a)) refused

pub none : (b : Bool) → (b ≡ true → ⊥) → b ≡ false
none true n = absurd (n refl)
none false n = refl

-- neither is ever refused, so that a refused call is none of them
pub refused_writes_nothing : (d : Device) (c : Call) → (refusal d c ≡ 0 → ⊥) → writes_holding c ≡ false
unfolding write_refusal
refused_writes_nothing d c n = none (writes_holding c) (λ e. n (ap (refusal d) (writes_is c e)))

pub refused_reads_nothing : (d : Device) (c : Call) → (refusal d c ≡ 0 → ⊥) → reads 0 c ≡ false
refused_reads_nothing d c n = none (reads 0 c) (λ e. n (ap (refusal d) (reads_is c e)))

-- == a call that changes little ==

abbrev pub light : Call → Bool
light c = by_call (at_read (λ address. true) (at_write (λ address v. ltb address 2) (at_pins (λ dsr dcd cts. true) (at_outputs true (otherwise false))))) c

abbrev pub pins_after : Call → Pins → Pins
pins_after c p = by_call (at_pins pin_levels (otherwise p)) c

-- modes, command and error flags stay; a half changes at address 0 alone
pub record Light (d : Device) (c : Call) : Type 0 where
  pub mode1 : (next d c).registers.mode1 ≡ d.registers.mode1
  pub mode2 : (next d c).registers.mode2 ≡ d.registers.mode2
  pub accepted : (next d c).registers.accepted ≡ d.registers.accepted
  pub command : (next d c).registers.command ≡ d.registers.command
  pub pins : (next d c).pins ≡ pins_after c d.pins
  pub sender : (next d c).sender ≡ cond (writes_holding c) (loaded d.sender (value_of c)) d.sender
  pub receiver : (next d c).receiver ≡ cond (reads 0 c) (emptied d.receiver) d.receiver
  pub errors : SameErrors d.flags (next d c).flags

module _ (d : Device) (h : in_range d ≡ true) where
  -- SYN bytes, pointers, pins, halves, marks and the status
  lightly : (k : Call) {a b c m n x y v : ℕ} {p : Pins} {s : SenderHalf} {r : ReceiverHalf}
      → next d k ≡ with_status (with_parts d (with_syns d.registers a b c m n) p s r (with_empty (with_change d.flags y) x)) v
      → p ≡ pins_after k d.pins → s ≡ cond (writes_holding k) (loaded d.sender (value_of k)) d.sender → r ≡ cond (reads 0 k) (emptied d.receiver) d.receiver → Light d k
  lightly k q p s r =
      record {
        mode1 = ap (λ (e : Device). e.registers.mode1) q;
        mode2 = ap (λ (e : Device). e.registers.mode2) q;
        accepted = ap (λ (e : Device). e.registers.accepted) q;
        command = ap (λ (e : Device). e.registers.command) q;
        pins = ap (λ (e : Device). e.pins) q ∙ p;
        sender = ap (λ (e : Device). e.sender) q ∙ s;
        receiver = ap (λ (e : Device). e.receiver) q ∙ r;
        errors = record {
          framing = ap (λ (e : Device). e.flags.framing) q;
          overrun = ap (λ (e : Device). e.flags.overrun) q;
          parity = ap (λ (e : Device). e.flags.parity) q;
        };
      }

  does_so : (address : ℕ) → refusal d (Read address) ≡ 0 → next d (Read address) ≡ (read_register d address).device
  does_so address n = ap (λ (o : Answer). o.device) (does_read d h address n)

  by_call_lem : (c : Call) → refusal d c ≡ 0 → light c ≡ true → Light d c
  unfolding read_register write_refusal write_register pinned
  by_call_lem Reset n l = absurd (true≢false (sym l))
  by_call_lem (Read zero) n l = lightly (Read 0) (does_so 0 refl) refl refl refl
  by_call_lem (Read (suc zero)) n l = lightly (Read 1) (does_so 1 refl) refl refl refl
  by_call_lem (Read (suc (suc zero))) n l =
      let P : Answer → Type 0 = λ o. next d (Read 2) ≡ o.device → Light d (Read 2) in
      either P (eqb d.registers.modes 0)
      (λ q. lightly (Read 2) q refl refl refl) (λ q. lightly (Read 2) q refl refl refl) (does_so 2 refl)
  by_call_lem (Read (suc (suc (suc zero)))) n l = lightly (Read 3) (does_so 3 refl) refl refl refl
  by_call_lem (Read (suc (suc (suc (suc i))))) n l = absurd (omega (arith, read_address (suc (suc (suc (suc i)))) n))
  by_call_lem (Write zero v) n l = lightly (Write 0 v) (does_write d h 0 v refl) refl refl refl
  by_call_lem (Write (suc zero) v) n l =
      let P : Registers → Type 0 = λ q. next d (Write 1 v) ≡ with_registers d q → Light d (Write 1 v) in
      either P (eqb d.registers.syns 0) (λ q. lightly (Write 1 v) q refl refl refl)
      (either P (eqb d.registers.syns 1) (λ q. lightly (Write 1 v) q refl refl refl) (λ q. lightly (Write 1 v) q refl refl refl))
      (does_write d h 1 v refl)
  by_call_lem (Write (suc (suc i)) v) n l = absurd (omega (arith, ltb-true (suc (suc i)) 2 l))
  by_call_lem (SetPins dsr dcd cts) n l = lightly (SetPins dsr dcd cts) (does_pins d h dsr dcd cts n) refl refl refl
  by_call_lem Transmit n l = absurd (true≢false (sym l))
  by_call_lem (Receive x) n l = absurd (true≢false (sym l))
  by_call_lem Outputs n l = lightly Outputs refl refl refl refl

-- such a call, where it is done
pub light_leaves : (d : Device) (c : Call) → in_range d ≡ true → refusal d c ≡ 0 → light c ≡ true → Light d c
light_leaves d c h n l = by_call_lem d h c n l

-- == error flags ==

pub same_none : {f g : Flags} → SameErrors f g → NoErrors f → NoErrors g
same_none s n = record { framing = s.framing ∙ n.framing; overrun = s.overrun ∙ n.overrun; parity = s.parity ∙ n.parity }

-- a command sets none
pub command_sets_none : (v : ℕ) {f g : Flags} → ErrorsBy v f g → NoErrors f → NoErrors g
command_sets_none v {f} {g} w n = go (has 4 v) refl (has 16 v) refl
  where
    go : (b : Bool) → has 4 v ≡ b → (c : Bool) → has 16 v ≡ c → NoErrors g
    go false q c t = w.receive_off_lem q
    go true q true t = w.reset_error_lem t
    go true q false t = same_none (w.others q t) n
