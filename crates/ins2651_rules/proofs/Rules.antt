-- Rules of document 01, and of request P1, that are easily lost, each as a law of the calls.
-- Assumes nothing.
use Prim.Native.Nat.{ℕ, ◌-◌}
use mathlib.Core.Path.{◌≡◌, refl, sym, ap, ◌∙◌}
use mathlib.Core.Bool.{Bool, true, false, cond, ◌&&◌}
use mathlib.Core.List.{[], ◌∷◌}
use lib.Dec.{eqb}
use lib.ListN.{replicate}
use Rattle.line_rules.specs.Sending.{bit, on}
use Rattle.line_rules.specs.Receiving.{waiting}
use Rattle.link_rules.specs.Parts.{no_format, no_frame, with_guard, dropped, emptied, sender_later, receiver_later}
use Rattle.link_rules.specs.Transmitting.{Sent, mark_tick}
use Rattle.link_rules.specs.Hearing as link-hearing
use Rattle.link_rules.proofs.Halves.{transmit_idle, receive_off_lem}
use Rattle.ins2651_rules.specs.declared.Device.{Device}
use Rattle.ins2651_rules.specs.Modes.{has, format_of, send_format, receive_format, receive_enable}
use Rattle.ins2651_rules.specs.Conditions.{mode_set, may_start, break_on, listening}
use Rattle.ins2651_rules.specs.Shape.{Answer, with_unshown}
use Rattle.ins2651_rules.specs.Ranges.{in_range, settled}
use Rattle.ins2651_rules.specs.Refusals.{command_refusal, write_refusal}
use Rattle.ins2651_rules.specs.RegisterReads.{read_register}
use Rattle.ins2651_rules.specs.RegisterWrites.{stored, write_register}
use Rattle.ins2651_rules.specs.Ticks.{sent, transmit_tick, transmit, received_by, receive_tick}
use Rattle.ins2651_rules.specs.Runs.{Reset, Read, Write, Transmit, Receive, next, said}
use Rattle.ins2651_rules.specs.Rows.{refusal}
use Rattle.ins2651_rules.proofs.Settled.{settled_is}
use Rattle.ins2651_rules.proofs.Done.{done_read, does_write, does_receive}
use Rattle.ins2651_rules.proofs.Commands.{bit4_gone}
use Rattle.ins2651_rules.proofs.InRange.{next_in}

-- == clocks ==

-- an internal clock makes the factor 16, whatever mode 1 says
pub internal_is_16 : (m : ℕ) → (format_of m true).factor ≡ 16
unfolding format_of
internal_is_16 m = refl

pub send_internal : (d : Device) → has 32 d.registers.mode2 ≡ true → (send_format d.registers).factor ≡ 16
send_internal d e = ap (λ (b : Bool). (format_of d.registers.mode1 b).factor) e ∙ internal_is_16 d.registers.mode1

pub receive_internal : (d : Device) → has 16 d.registers.mode2 ≡ true → (receive_format d.registers).factor ≡ 16
receive_internal d e = ap (λ (b : Bool). (format_of d.registers.mode1 b).factor) e ∙ internal_is_16 d.registers.mode1

-- and nothing but that direction's own clock bit changes what mode 1 says
pub send_external : (d : Device) → has 32 d.registers.mode2 ≡ false → send_format d.registers ≡ format_of d.registers.mode1 false
send_external d e = ap (λ (b : Bool). format_of d.registers.mode1 b) e

pub receive_external : (d : Device) → has 16 d.registers.mode2 ≡ false → receive_format d.registers ≡ format_of d.registers.mode1 false
receive_external d e = ap (λ (b : Bool). format_of d.registers.mode1 b) e

-- == nothing starts ==

last_off : (a : Bool) → (a && false) ≡ false
last_off true = refl
last_off false = refl

-- while mode 1 has never been accepted, neither direction starts
pub unset_sends_nothing : (d : Device) → mode_set d ≡ false → may_start d ≡ false
unset_sends_nothing d e = ap (λ (b : Bool). has 1 d.registers.command && eqb d.pins.cts 0 && b) e ∙ last_off (has 1 d.registers.command && eqb d.pins.cts 0)

pub unset_hears_nothing : (d : Device) → mode_set d ≡ false → listening d ≡ false
unset_hears_nothing d e = ap (λ (b : Bool). has 4 d.registers.command && eqb d.pins.dcd 0 && b) e ∙ last_off (has 4 d.registers.command && eqb d.pins.dcd 0)

pub record Marks (d : Device) : Type 0 where
  pub level : (transmit d).level ≡ 1
  pub sender : (next d Transmit).sender ≡ with_guard (sender_later 1 d.sender) (d.sender.guard - 1)

-- where nothing may start and no frame is under way, 1 is sent and a guard above 0 falls by one
pub nothing_starts_lem : (d : Device) → in_range d ≡ true → may_start d ≡ false → on d.sender.frame.place ≡ false → Marks d
unfolding transmit transmit_tick
nothing_starts_lem d h s t =
    let e : sent (settled d) ≡ mark_tick (sender_later 1 d.sender) = ap sent (settled_is d h) ∙ transmit_idle d.sender (may_start d) (break_on d) (send_format d.registers) t s in
    record { level = ap (λ (o : Sent). bit o.level) e; sender = ap (λ (o : Sent). o.half) e }

-- == reset ==

pub record JustReset (d : Device) : Type 0 where
  pub registers : d.registers.mode1 ∷ d.registers.mode2 ∷ d.registers.command ∷ d.registers.syn1 ∷ d.registers.syn2 ∷ d.registers.dle ∷ [] ≡ replicate 6 0
  pub unset : d.registers.accepted ≡ 0
  pub pointers : d.registers.modes ∷ d.registers.syns ∷ [] ≡ replicate 2 0
  pub empty : d.sender.full ∷ d.receiver.unread ∷ [] ≡ replicate 2 0
  pub held : d.sender.holding ∷ d.receiver.holding ∷ [] ≡ replicate 2 0
  pub tallies : d.sender.tally.0 ∷ d.receiver.tally.0 ∷ [] ≡ replicate 2 0
  pub stamps : d.sender.start.0 ∷ d.receiver.stamp.0 ∷ [] ≡ replicate 2 0
  pub frame : d.sender.frame ≡ no_frame
  pub guard : d.sender.guard ≡ 0
  pub receiver : d.receiver.state ≡ waiting
  pub format : d.receiver.format ≡ no_format
  pub inputs : d.pins.dsr ∷ d.pins.dcd ∷ d.pins.cts ∷ [] ≡ replicate 3 1
  pub flags : d.flags.framing ∷ d.flags.overrun ∷ d.flags.parity ∷ d.flags.empty ∷ d.flags.change ∷ [] ≡ replicate 5 0

-- whatever the device was: every register clear, both holding registers empty, both tallies and both stamps 0, no frame, guard or character under way, a
-- wait for a 1, inputs high
pub reset_clears : (d : Device) → JustReset (next d Reset)
reset_clears d =
    record { registers = refl; unset = refl; pointers = refl; empty = refl; held = refl; tallies = refl; stamps = refl; frame = refl; guard = refl; receiver = refl; format = refl; inputs = refl; flags = refl }

-- == what drops a character ==

-- a receive tick while receive is off, DCD high or mode unset: it counts; RHR, the flags, the status and all else stay
pub off_tick_drops : (d : Device) (x : ℕ) → in_range d ≡ true → listening d ≡ false → refusal d (Receive x) ≡ 0 → next d (Receive x) ≡ with_unshown d d.registers d.sender (dropped (receiver_later 1 d.receiver))
unfolding receive_tick
off_tick_drops d x h r n =
    does_receive d h x n
    ∙ ap (λ (live : Bool). received_by d (link-hearing.receive d.receiver live (receive_format d.registers) (on x))) r
    ∙ ap (received_by d) (receive_off_lem d.receiver (receive_format d.registers) (on x))

-- an accepted command
commanded : (d : Device) (v : ℕ) → in_range d ≡ true → command_refusal v ≡ 0 → next d (Write 3 v) ≡ write_register d 3 v
unfolding write_refusal
commanded d v h l = does_write d h 3 v l

-- a command that leaves receive off: RHR is emptied too, at once
pub off_command_drops : (d : Device) (v : ℕ) → in_range d ≡ true → command_refusal v ≡ 0 → receive_enable v ≡ false → (next d (Write 3 v)).receiver ≡ emptied (dropped d.receiver)
unfolding write_register
off_command_drops d v h l r =
    ap (λ (e : Device). e.receiver) (commanded d v h l) ∙ ap (λ (b : Bool). cond b d.receiver (emptied (dropped d.receiver))) r

-- == what is read back ==

pub record ReadsBack (d : Device) (v : ℕ) : Type 0 where
  pub value : said (next d (Write 3 v)) (Read 3) ≡ record { refusal = 0; values = stored v ∷ [] }
  pub bit4 : has 16 (stored v) ≡ false

-- a command reads back with its bit 4 at 0
pub command_reads_back : (d : Device) (v : ℕ) → in_range d ≡ true → command_refusal v ≡ 0 → ReadsBack d v
unfolding read_register write_register
command_reads_back d v h l =
    let e : settled (next d (Write 3 v)) ≡ write_register d 3 v = settled_is (next d (Write 3 v)) (next_in d (Write 3 v) h) ∙ commanded d v h l in
    record {
      value =
          ap (λ (o : Answer). record { refusal = o.refusal; values = o.value ∷ [] }) (done_read (next d (Write 3 v)) 3 refl)
          ∙ ap (λ (s : Device). record { refusal = 0; values = s.registers.command ∷ [] }) e;
      bit4 = bit4_gone v;
    }

-- RHR read again gives the same again, read or not
pub holding_read_again : (d : Device) → in_range d ≡ true → said (next d (Read 0)) (Read 0) ≡ said d (Read 0)
unfolding read_register
holding_read_again d h =
    ap (λ (o : Answer). record { refusal = o.refusal; values = o.value ∷ [] }) (done_read (next d (Read 0)) 0 refl)
    ∙ ap (λ (s : Device). record { refusal = 0; values = s.receiver.holding ∷ [] }) (settled_is (next d (Read 0)) (next_in d (Read 0) h))
    ∙ ap (λ (o : Answer). record { refusal = 0; values = o.device.receiver.holding ∷ [] }) (done_read d 0 refl)
    ∙ sym (ap (λ (o : Answer). record { refusal = o.refusal; values = o.value ∷ [] }) (done_read d 0 refl))
