-- None else moves: what each call leaves as it was, one law a call.
-- Assumes nothing.
use Prim.Native.Nat.{ℕ}
use mathlib.Core.Path.{◌≡◌, refl, sym, subst}
use mathlib.Core.Bool.{Bool}
use lib.Dec.{eqb}
use Rattle.std.specs.Prelude.{Option, None, Some}
use Rattle.line_rules.specs.declared.Arrival.{Arrival}
use Rattle.line_rules.specs.Sending.{on}
use Rattle.line_rules.proofs.Choice.{either}
use Rattle.ins2651_rules.specs.declared.Flags.{Flags}
use Rattle.ins2651_rules.specs.declared.Registers.{Registers}
use Rattle.ins2651_rules.specs.declared.Device.{Device}
use Rattle.ins2651_rules.specs.Shape.{Outcome, Answer, with_status, with_registers, with_receiver, with_mode_pointer, with_syn_pointer, with_syn1, with_syn2, with_dle, with_change}
use Rattle.ins2651_rules.specs.Ranges.{settled}
use Rattle.ins2651_rules.specs.RegisterReads.{read_register}
use Rattle.ins2651_rules.specs.Pinning.{pinned}
use Rattle.ins2651_rules.specs.Ticks.{transmit_tick, transmit, noted, received, receive_tick}
use Rattle.ins2651_rules.specs.Runs.{Read, SetPins, Transmit, Receive, next}
use Rattle.ins2651_rules.specs.Rows.{refusal}
use Rattle.ins2651_rules.proofs.Done.{done_read, done_pins, done_receive}

-- registers with other pointers ..
abbrev pub pointing : Registers → ℕ → ℕ → Registers
pointing r m s = with_syn_pointer (with_mode_pointer r m) s

-- .. and with other SYN bytes too
abbrev pub with_syns : Registers → ℕ → ℕ → ℕ → ℕ → ℕ → Registers
with_syns r a b c m s = pointing (with_dle (with_syn2 (with_syn1 r a) b) c) m s

-- the three error flags
pub record SameErrors (f g : Flags) : Type 0 where
  pub framing : g.framing ≡ f.framing
  pub overrun : g.overrun ≡ f.overrun
  pub parity : g.parity ≡ f.parity

pub record TransmitLeaves (d e : Device) : Type 0 where
  pub registers : e.registers ≡ d.registers
  pub pins : e.pins ≡ d.pins
  pub receiver : e.receiver ≡ d.receiver
  pub errors : SameErrors d.flags e.flags
  pub change : e.flags.change ≡ d.flags.change

-- a transmit tick leaves the receiving half alone, and all but the sending half and the empty-mark
pub transmit_leaves : (d : Device) → TransmitLeaves (settled d) (next d Transmit)
unfolding transmit transmit_tick
transmit_leaves d = record { registers = refl; pins = refl; receiver = refl; errors = record { framing = refl; overrun = refl; parity = refl }; change = refl }

pub record ReceiveLeaves (d e : Device) : Type 0 where
  pub registers : e.registers ≡ d.registers
  pub pins : e.pins ≡ d.pins
  pub sender : e.sender ≡ d.sender
  pub empty : e.flags.empty ≡ d.flags.empty
  pub change : e.flags.change ≡ d.flags.change

noted_empty : (f : Flags) (o : Bool) (h : Option Arrival) → (noted f o h).empty ≡ f.empty
noted_empty f o None = refl
noted_empty f o (Some a) = refl

noted_change : (f : Flags) (o : Bool) (h : Option Arrival) → (noted f o h).change ≡ f.change
noted_change f o None = refl
noted_change f o (Some a) = refl

tick_leaves : (d : Device) (x : Bool) → ReceiveLeaves d (receive_tick d x)
unfolding receive_tick
tick_leaves d x =
    record {
      registers = refl;
      pins = refl;
      sender = refl;
      empty = noted_empty d.flags (received d x).overrun (received d x).heard;
      change = noted_change d.flags (received d x).overrun (received d x).heard;
    }

-- a receive tick leaves the sending half alone, and all but the receiving half and the error flags
pub receive_leaves : (d : Device) (x : ℕ) → refusal d (Receive x) ≡ 0 → ReceiveLeaves (settled d) (next d (Receive x))
receive_leaves d x n = subst (λ (o : Outcome). ReceiveLeaves (settled d) o.device) (sym (done_receive d x n)) (tick_leaves (settled d) (on x))

pub record PinsLeave (d e : Device) : Type 0 where
  pub registers : e.registers ≡ d.registers
  pub sender : e.sender ≡ d.sender
  pub receiver : e.receiver ≡ d.receiver
  pub errors : SameErrors d.flags e.flags
  pub empty : e.flags.empty ≡ d.flags.empty

pinned_leaves : (d : Device) (dsr dcd cts : ℕ) → PinsLeave d (pinned d dsr dcd cts)
unfolding pinned
pinned_leaves d dsr dcd cts = record { registers = refl; sender = refl; receiver = refl; errors = record { framing = refl; overrun = refl; parity = refl }; empty = refl }

-- a pin call changes the pins and the change-mark alone
pub pins_leave : (d : Device) (dsr dcd cts : ℕ) → refusal d (SetPins dsr dcd cts) ≡ 0 → PinsLeave (settled d) (next d (SetPins dsr dcd cts))
pins_leave d dsr dcd cts n = subst (λ (o : Outcome). PinsLeave (settled d) o.device) (sym (done_pins d dsr dcd cts n)) (pinned_leaves (settled d) dsr dcd cts)

pub record ReadLeaves (d e : Device) : Type 0 where
  pub mode1 : e.registers.mode1 ≡ d.registers.mode1
  pub mode2 : e.registers.mode2 ≡ d.registers.mode2
  pub accepted : e.registers.accepted ≡ d.registers.accepted
  pub command : e.registers.command ≡ d.registers.command
  pub syn1 : e.registers.syn1 ≡ d.registers.syn1
  pub syn2 : e.registers.syn2 ≡ d.registers.syn2
  pub dle : e.registers.dle ≡ d.registers.dle
  pub pins : e.pins ≡ d.pins
  pub sender : e.sender ≡ d.sender
  pub state : e.receiver.state ≡ d.receiver.state
  pub format : e.receiver.format ≡ d.receiver.format
  pub holding : e.receiver.holding ≡ d.receiver.holding
  pub stamp : e.receiver.stamp ≡ d.receiver.stamp
  pub tally : e.receiver.tally ≡ d.receiver.tally
  pub errors : SameErrors d.flags e.flags
  pub empty : e.flags.empty ≡ d.flags.empty

-- other pointers, other marks and another status
moved : (d : Device) (m s u c v : ℕ)
    → ReadLeaves d (with_status (with_receiver (with_registers d (pointing d.registers m s))
    (record { state = d.receiver.state; format = d.receiver.format; holding = d.receiver.holding; unread = u; stamp = d.receiver.stamp; tally = d.receiver.tally }) (with_change d.flags c)) v)
moved d m s u c v =
    record {
      mode1 = refl;
      mode2 = refl;
      accepted = refl;
      command = refl;
      syn1 = refl;
      syn2 = refl;
      dle = refl;
      pins = refl;
      sender = refl;
      state = refl;
      format = refl;
      holding = refl;
      stamp = refl;
      tally = refl;
      errors = record { framing = refl; overrun = refl; parity = refl };
      empty = refl;
    }

register_leaves : (d : Device) (address : ℕ) → ReadLeaves d (read_register d address).device
unfolding read_register
register_leaves d address =
    let Left : Answer → Type 0 = λ o. ReadLeaves d o.device in
    let m : ℕ = d.registers.modes in
    let s : ℕ = d.registers.syns in
    let u : ℕ = d.receiver.unread in
    let c : ℕ = d.flags.change in
    either Left (eqb address 0) (moved d m s 0 c _)
    (either Left (eqb address 1) (moved d m s u 0 _)
    (either Left (eqb address 2) (either Left (eqb m 0) (moved d 1 s u c _) (moved d 0 s u c _))
    (moved d 0 0 u c _)))

-- a read changes the two pointers, the unread mark and the change-mark alone
pub read_leaves : (d : Device) (address : ℕ) → refusal d (Read address) ≡ 0 → ReadLeaves (settled d) (next d (Read address))
read_leaves d address n = subst (λ (o : Answer). ReadLeaves (settled d) o.device) (sym (done_read d address n)) (register_leaves (settled d) address)
