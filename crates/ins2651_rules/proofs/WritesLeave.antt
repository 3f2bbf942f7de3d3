-- Nothing else moves, for writes: what an accepted write changes, one law an address, and that it changes nothing else.
-- Bits of a command are told by their weights alone.
-- Assumes nothing.
use Prim.Native.Nat.{ℕ, ◌<◌}
use native.Mathlib.Omega.{arith}
use mathlib.Core.Path.{◌≡◌, refl, sym, subst}
use mathlib.Core.Bool.{Bool, true, false}
use lib.Dec.{eqb}
use borrow.Author.Tests.{eq-eqb, ne_eqb}
use Rattle.line_rules.proofs.Choice.{either}
use Rattle.link_rules.proofs.Halves.{Dropped}
use Rattle.ins2651_rules.specs.declared.Flags.{Flags}
use Rattle.ins2651_rules.specs.declared.Registers.{Registers}
use Rattle.ins2651_rules.specs.declared.Device.{Device}
use Rattle.ins2651_rules.specs.Shape.{Outcome}
use Rattle.ins2651_rules.specs.Modes.{has}
use Rattle.ins2651_rules.specs.Ranges.{settled}
use Rattle.ins2651_rules.specs.Refusals.{write_refusal}
use Rattle.ins2651_rules.specs.RegisterWrites.{flags_commanded, write_register}
use Rattle.ins2651_rules.specs.Runs.{Write, next}
use Rattle.ins2651_rules.specs.Rows.{refusal}
use Rattle.ins2651_rules.specs.ReadHistory.{without_bit4}
use Rattle.ins2651_rules.proofs.Done.{done_write}
use Rattle.ins2651_rules.proofs.Leaves.{SameErrors}

-- what holds of the act holds of the accepted call
of_call : (P : Device → Device → Type 0) (d : Device) (address v : ℕ) → refusal d (Write address v) ≡ 0
    → P (settled d) (write_register (settled d) address v) → P (settled d) (next d (Write address v))
of_call P d address v n p = subst (λ (o : Outcome). P (settled d) o.device) (sym (done_write d address v n)) p

-- == parts ==

-- mode 1, mode 2, whether a mode 1 was accepted, and the mode pointer
pub record ModesAre (q : Registers) (one two set pointer : ℕ) : Type 0 where
  pub mode1 : q.mode1 ≡ one
  pub mode2 : q.mode2 ≡ two
  pub accepted : q.accepted ≡ set
  pub modes : q.modes ≡ pointer

-- SYN1, SYN2, DLE, and the SYN pointer
pub record SynsAre (q : Registers) (one two three pointer : ℕ) : Type 0 where
  pub syn1 : q.syn1 ≡ one
  pub syn2 : q.syn2 ≡ two
  pub dle : q.dle ≡ three
  pub syns : q.syns ≡ pointer

abbrev pub SameModes : Registers → Registers → Type 0
SameModes r q = ModesAre q r.mode1 r.mode2 r.accepted r.modes

abbrev pub SameSyns : Registers → Registers → Type 0
SameSyns r q = SynsAre q r.syn1 r.syn2 r.dle r.syns

-- all but the registers: so a frame and a character under way, with the formats that they began with
pub record SameOthers (d e : Device) : Type 0 where
  pub pins : e.pins ≡ d.pins
  pub sender : e.sender ≡ d.sender
  pub receiver : e.receiver ≡ d.receiver
  pub flags : e.flags ≡ d.flags

modes_are : (q : Registers) → SameModes q q
modes_are q = record { mode1 = refl; mode2 = refl; accepted = refl; modes = refl }

syns_are : (q : Registers) → SameSyns q q
syns_are q = record { syn1 = refl; syn2 = refl; dle = refl; syns = refl }

-- == address 0: THR ==

pub record HoldingWritten (v : ℕ) (d e : Device) : Type 0 where
  pub holding : e.sender.holding ≡ v
  pub full : e.sender.full ≡ 1
  pub empty : e.flags.empty ≡ 0
  pub registers : e.registers ≡ d.registers
  pub pins : e.pins ≡ d.pins
  pub frame : e.sender.frame ≡ d.sender.frame
  pub guard : e.sender.guard ≡ d.sender.guard
  pub start : e.sender.start ≡ d.sender.start
  pub tally : e.sender.tally ≡ d.sender.tally
  pub receiver : e.receiver ≡ d.receiver
  pub errors : SameErrors d.flags e.flags
  pub change : e.flags.change ≡ d.flags.change

holding_written : (d : Device) (v : ℕ) → HoldingWritten v d (write_register d 0 v)
unfolding write_register
holding_written d v =
    record {
      holding = refl;
      full = refl;
      empty = refl;
      registers = refl;
      pins = refl;
      frame = refl;
      guard = refl;
      start = refl;
      tally = refl;
      receiver = refl;
      errors = record { framing = refl; overrun = refl; parity = refl };
      change = refl;
    }

-- THR takes the value and the empty-mark goes: nothing else
pub holding_write_leaves : (d : Device) (v : ℕ) → HoldingWritten v (settled d) (next d (Write 0 v))
unfolding write_refusal
holding_write_leaves d v = of_call (HoldingWritten v) d 0 v refl (holding_written (settled d) v)

-- == address 1: SYN1, SYN2, DLE ==

-- a pointer of 0 names SYN1, 1 SYN2, and the last DLE
pub record SynWritten (v : ℕ) (d e : Device) : Type 0 where
  pub at_syn1 : d.registers.syns ≡ 0 → SynsAre e.registers v d.registers.syn2 d.registers.dle 1
  pub at_syn2 : d.registers.syns ≡ 1 → SynsAre e.registers d.registers.syn1 v d.registers.dle 2
  pub at_dle : 1 < d.registers.syns → SynsAre e.registers d.registers.syn1 d.registers.syn2 v 0
  pub modes : SameModes d.registers e.registers
  pub command : e.registers.command ≡ d.registers.command
  pub others : SameOthers d e

syn_written : (d : Device) (v : ℕ) → SynWritten v d (write_register d 1 v)
unfolding write_register
syn_written d v =
    let r : Registers = d.registers in
    let Same : Registers → Type 0 = SameModes r in
    let Command : Registers → Type 0 = λ q. q.command ≡ r.command in
    record {
      at_syn1 = λ e. rw (eq-eqb r.syns 0 e) (syns_are _);
      at_syn2 = λ e. rw (ne_eqb r.syns 0 (λ z. omega arith), eq-eqb r.syns 1 e) (syns_are _);
      at_dle = λ e. rw (ne_eqb r.syns 0 (λ z. omega arith), ne_eqb r.syns 1 (λ z. omega arith)) (syns_are _);
      modes = either Same (eqb r.syns 0) (modes_are _) (either Same (eqb r.syns 1) (modes_are _) (modes_are _));
      command = either Command (eqb r.syns 0) refl (either Command (eqb r.syns 1) refl refl);
      others = record { pins = refl; sender = refl; receiver = refl; flags = refl };
    }

-- the register that the SYN pointer names takes the value, and the pointer moves: nothing else
pub syn_write_leaves : (d : Device) (v : ℕ) → SynWritten v (settled d) (next d (Write 1 v))
unfolding write_refusal
syn_write_leaves d v = of_call (SynWritten v) d 1 v refl (syn_written (settled d) v)

-- == address 2: mode 1, mode 2 ==

-- a pointer of 0 names mode 1, and the last mode 2
pub record ModeWritten (v : ℕ) (d e : Device) : Type 0 where
  pub at_mode1_lem : d.registers.modes ≡ 0 → ModesAre e.registers v d.registers.mode2 1 1
  pub at_mode2 : 0 < d.registers.modes → ModesAre e.registers d.registers.mode1 v d.registers.accepted 0
  pub syns : SameSyns d.registers e.registers
  pub command : e.registers.command ≡ d.registers.command
  pub others : SameOthers d e

mode_written : (d : Device) (v : ℕ) → ModeWritten v d (write_register d 2 v)
unfolding write_register
mode_written d v =
    let r : Registers = d.registers in
    record {
      at_mode1_lem = λ e. rw (eq-eqb r.modes 0 e) (modes_are _);
      at_mode2 = λ e. rw (ne_eqb r.modes 0 (λ z. omega arith)) (modes_are _);
      syns = either (SameSyns r) (eqb r.modes 0) (syns_are _) (syns_are _);
      command = either (λ (q : Registers). q.command ≡ r.command) (eqb r.modes 0) refl refl;
      others = record { pins = refl; sender = refl; receiver = refl; flags = refl };
    }

-- the register that the mode pointer names takes the value, and the pointer moves; with mode 1, one was accepted: nothing else
pub mode_write_leaves : (d : Device) (v : ℕ) → refusal d (Write 2 v) ≡ 0 → ModeWritten v (settled d) (next d (Write 2 v))
mode_write_leaves d v n = of_call (ModeWritten v) d 2 v n (mode_written (settled d) v)

-- == address 3: command ==

pub record NoErrors (f : Flags) : Type 0 where
  pub framing : f.framing ≡ 0
  pub overrun : f.overrun ≡ 0
  pub parity : f.parity ≡ 0

-- what a command does to the three error flags, by its bits: bit 4 clears them, so does bit 2 at 0, whatever bit 4 says (P1), and no other command does
pub record ErrorsBy (v : ℕ) (f g : Flags) : Type 0 where
  pub reset_error_lem : has 16 v ≡ true → NoErrors g
  pub receive_off_lem : has 4 v ≡ false → NoErrors g
  pub others : has 4 v ≡ true → has 16 v ≡ false → SameErrors f g

errors_by : (f : Flags) (v : ℕ) → ErrorsBy v f (flags_commanded f v)
errors_by f v =
    record {
      reset_error_lem = cleared;
      receive_off_lem = λ off. by_bit_4 off (has 16 v) refl;
      others = λ on kept. rw (on, kept) (record { framing = refl; overrun = refl; parity = refl });
    }
  where
    cleared : has 16 v ≡ true → NoErrors (flags_commanded f v)
    cleared e = rw e (record { framing = refl; overrun = refl; parity = refl })

    by_bit_4 : has 4 v ≡ false → (b : Bool) → has 16 v ≡ b → NoErrors (flags_commanded f v)
    by_bit_4 off true e = cleared e
    by_bit_4 off false e = rw (off, e) (record { framing = refl; overrun = refl; parity = refl })

-- all bits of the value but bit 4 are stored. Bit 0 is transmit enable, bit 2 receive enable: off, it empties RHR, which still gives its character,
-- and leaves nothing under way and a wait for a 1
pub record CommandWritten (v : ℕ) (d e : Device) : Type 0 where
  pub command : e.registers.command ≡ without_bit4 v
  pub errors : ErrorsBy v d.flags e.flags
  pub empty_cleared : has 1 v ≡ false → e.flags.empty ≡ 0
  pub empty_kept : has 1 v ≡ true → e.flags.empty ≡ d.flags.empty
  pub receiver_off : has 4 v ≡ false → Dropped d.receiver 0 d.receiver.tally e.receiver
  pub receiver_kept : has 4 v ≡ true → e.receiver ≡ d.receiver
  pub modes : SameModes d.registers e.registers
  pub syns : SameSyns d.registers e.registers
  pub pins : e.pins ≡ d.pins
  pub sender : e.sender ≡ d.sender
  pub change : e.flags.change ≡ d.flags.change

command_written : (d : Device) (v : ℕ) → CommandWritten v d (write_register d 3 v)
unfolding write_register
command_written d v =
    record {
      command = omega arith;
      errors = errors_by d.flags v;
      empty_cleared = λ t. rw t;
      empty_kept = λ t. rw t;
      receiver_off = λ t. rw t (record { state = refl; format = refl; holding = refl; unread = refl; stamp = refl; tally = refl });
      receiver_kept = λ t. rw t;
      modes = modes_are _;
      syns = syns_are _;
      pins = refl;
      sender = refl;
      change = refl;
    }

-- the command, and of the flags and the receiver what its bits 4, 0 and 2 say: nothing else
pub command_write_leaves : (d : Device) (v : ℕ) → refusal d (Write 3 v) ≡ 0 → CommandWritten v (settled d) (next d (Write 3 v))
command_write_leaves d v n = of_call (CommandWritten v) d 3 v n (command_written (settled d) v)
