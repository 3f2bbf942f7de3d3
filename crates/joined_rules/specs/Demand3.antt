-- Demand 3, as document 01 puts it: two devices joined, freshly set up alike, writing only when told they may and read in time.
-- Every character arrives unchanged, in order, with no flag, within L+D joined ticks of its write, and after exactly 1+D on an idle sender.
-- What that says of one way of the line stands in `delivery`, specs/Promise.antt.
-- Assumes nothing.
use Rattle.std.specs.Prelude.{ℕ, ◌%◌, ◌≡◌, Bool, true, false, cond, ◌&&◌, List, [], ◌∷◌, ltb, eqb}
use Rattle.line_rules.specs.declared.Format.{Format}
use Rattle.line_rules.specs.declared.RxC.{RxC}
use Rattle.line_rules.specs.Sending.{frame_length}
use Rattle.line_rules.specs.Sees.{Alike}
use Rattle.ins2651_rules.specs.declared.Device.{Device}
use Rattle.ins2651_rules.specs.Modes.{has, format_of, send_format, receive_format}
use Rattle.ins2651_rules.specs.Conditions.{may_start, break_on, listening}
use Rattle.ins2651_rules.specs.Refusals.{mode1_refusal, command_refusal}
use Rattle.ins2651_rules.specs.RegisterWrites.{stored}
use Rattle.ins2651_rules.specs.Stamps.{stamp}
use Rattle.ins2651_rules.specs.Runs.{Call, Reset, Write, SetPins, by_call, otherwise, at_read, at_write, at_pins, at_outputs}
use Rattle.ins2651_ends.specs.OnALine.{status_bit, may_write, unread, normal, refused_or}
use Rattle.ins2651_ends.specs.Fresh.{all_quiet, quiet_since_reset}
use Rattle.delivery.specs.Log.{nothing_yet}
use Rattle.delivery.specs.OneWay.{in_time}
use Rattle.delivery.specs.Promise.{has_begun, Delivered, Fetched, FirstWrites, Stamped}
use Rattle.delivery.specs.Joined.{Side, A, B, other}
use Rattle.joined_rules.specs.declared.Pair.{Pair}
use Rattle.joined_rules.specs.Joining.{tick}
use Rattle.joined_rules.specs.Bench.{device_at, Step, Tick, At, all_moved, Bench, step}

-- == freshly set up ==

-- what stands in mode 1, mode 2 and the command of one side when its set-up ends; the command as it was written, with bit 4
pub record Settings : Type 0 where
  pub mode1 : ℕ
  pub mode2 : ℕ
  pub command : ℕ

abbrev pub settings_at : Settings → Settings → Side → Settings
settings_at a b A = a
settings_at a b B = b

-- mode 1 and the command are accepted; factor bits that are not 00; bits 0 and 2 of the command on, and bits 3, 6 and 7 off
pub record Proper (s : Settings) : Type 0 where
  pub mode1 : mode1_refusal s.mode1 ≡ 0
  pub asynchronous : eqb (s.mode1 % 4) 0 ≡ false
  pub command : command_refusal s.command ≡ 0
  pub transmits : has 1 s.command ≡ true
  pub receives : has 4 s.command ≡ true
  pub no_break : has 8 s.command ≡ false
  pub no_echo : has 64 s.command ≡ false
  pub no_loopback : has 128 s.command ≡ false

-- how a side sends and receives: an internal clock makes that direction's factor 16
abbrev pub sends : Settings → Format
sends s = format_of s.mode1 (has 32 s.mode2)

abbrev pub receives : Settings → Format
receives s = format_of s.mode1 (has 16 s.mode2)

-- each way the two ends agree in factor, length, parity on or off, and its kind where on. One factor in all four directions,
-- as document 01 asks, is a case of this; stop lengths and rates may differ
pub record Agree (a b : Settings) : Type 0 where
  pub there : Alike (sends a) (receives b)
  pub back : Alike (sends b) (receives a)

-- document 01's sequence of one side: reset, both modes, a command, pins low
abbrev pub sequence : Settings → List Call
sequence s = Reset ∷ Write 2 s.mode1 ∷ Write 2 s.mode2 ∷ Write 3 s.command ∷ SetPins 0 0 0 ∷ []

-- no joined tick is among the steps
abbrev pub no_tick : List Step → Bool
no_tick [] = true
no_tick (Tick ∷ us) = false
no_tick (At s c ∷ us) = no_tick us

-- the calls to one side
abbrev pub calls_at : Side → List Step → List Call
calls_at s [] = []
calls_at s (Tick ∷ us) = calls_at s us
calls_at A (At A c ∷ us) = c ∷ calls_at A us
calls_at A (At B c ∷ us) = calls_at A us
calls_at B (At A c ∷ us) = calls_at B us
calls_at B (At B c ∷ us) = c ∷ calls_at B us

-- calls alone, none of them a tick or a write of address 0
pub record Quiet (us : List Step) : Type 0 where
  pub calls : no_tick us ≡ true
  pub a_quiet : all_quiet (calls_at A us) ≡ true
  pub b_quiet : all_quiet (calls_at B us) ≡ true

-- a reset of each side, and behind it at that side any calls but ticks and writes of address 0; in any order, mixed in time between the two
pub record FromReset (us : List Step) : Type 0 where
  pub calls : no_tick us ≡ true
  pub a_reset : quiet_since_reset (calls_at A us) ≡ true
  pub b_reset : quiet_since_reset (calls_at B us) ≡ true

-- a side holds its settings, and its pins are low. Bit 4 of a command, reset error, is done and not stored
pub record Holds (s : Settings) (d : Device) : Type 0 where
  pub mode1 : d.registers.mode1 ≡ s.mode1
  pub mode2 : d.registers.mode2 ≡ s.mode2
  pub command : d.registers.command ≡ stored s.command
  pub dsr : d.pins.dsr ≡ 0
  pub dcd : d.pins.dcd ≡ 0
  pub cts : d.pins.cts ≡ 0

-- these steps, from the devices p, leave each side with its settings; p is any two, in range or not
pub record FreshlySetUp (a b : Settings) (p : Pair) (us : List Step) : Type 0 where
  pub from_reset : FromReset us
  pub a_holds : Holds a (all_moved p us).a
  pub b_holds : Holds b (all_moved p us).b

-- then one joined tick
abbrev pub fresh : Pair → List Step → Bench
fresh p us = record { pair = (tick (all_moved p us)).pair; now = 0; there = nothing_yet; back = nothing_yet }

-- == what is allowed ==

-- a call that is done: any read; a write of address 0 when status bit 0 is 1; a write of address 1; pins kept low; a look at the outputs
abbrev pub harmless : Device → Call → Bool
harmless d c =
    by_call
    (at_read (λ address. true)
    (at_write (λ address v. cond (eqb address 0) (may_write d && ltb v 256) (eqb address 1))
    (at_pins (λ dsr dcd cts. eqb dsr 0 && eqb dcd 0 && eqb cts 0)
    (at_outputs true
    (otherwise false))))) c

-- and any call that is refused
abbrev pub allowed_call : Device → Call → Bool
allowed_call d c = refused_or (harmless d) d c

module _ (a b : Settings) where
  abbrev pub allowed : Bench → Step → Bool
  allowed w Tick = in_time (frame_length (sends a)) w.now (unread w.pair.b) w.there && in_time (frame_length (sends b)) w.now (unread w.pair.a) w.back
  allowed w (At A c) = allowed_call w.pair.a c
  allowed w (At B c) = allowed_call w.pair.b c

  -- each step where it stands
  abbrev pub all_allowed : Bench → List Step → Bool
  all_allowed w [] = true
  all_allowed w (s ∷ ss) = allowed w s && all_allowed (step w s) ss

-- == what is promised ==

-- framing, overrun and parity are 0
pub record NoFlag (d : Device) : Type 0 where
  pub framing : status_bit 32 d ≡ false
  pub overrun : status_bit 16 d ≡ false
  pub parity : status_bit 8 d ≡ false

-- demand 3
pub record Right (a b : Settings) (w : Bench) : Type 0 where
  pub there : Delivered (sends a) w.now w.there.came w.there.written
  pub back : Delivered (sends b) w.now w.back.came w.back.written
  pub a_clean : NoFlag w.pair.a
  pub b_clean : NoFlag w.pair.b

-- the stamp of the character that a side holds, the latest that came, is 1 plus the joined tick of its arrival, modulo 4,294,967,296: the set-up's own
-- tick counts (request P4)
abbrev pub first_tally : RxC
first_tally = record { 0 = 1 }

pub record StampedRight (w : Bench) : Type 0 where
  pub there : Stamped first_tally (stamp w.pair.b) w.there.came
  pub back : Stamped first_tally (stamp w.pair.a) w.back.came

-- == what the bench sees ==

-- status bit 1 and the values read; and bit 0, from the log alone: 1 exactly when the frame of the latest write has begun, or with no write yet
pub record Seen (a b : Settings) (w : Bench) : Type 0 where
  pub b_unread : Fetched (unread w.pair.b) w.there.came w.there.read
  pub a_unread : Fetched (unread w.pair.a) w.back.came w.back.read
  pub b_reads : FirstWrites (sends a) w.there.read w.there.written
  pub a_reads : FirstWrites (sends b) w.back.read w.back.written
  pub a_may : may_write w.pair.a ≡ has_begun (frame_length (sends a)) w.now w.there.written
  pub b_may : may_write w.pair.b ≡ has_begun (frame_length (sends b)) w.now w.back.written

-- == one way alone ==

-- asynchronous, with factor bits that are not 00, and in normal operation
pub record Normal (d : Device) : Type 0 where
  pub asynchronous : eqb (d.registers.mode1 % 4) 0 ≡ false
  pub operation : normal d.registers.command ≡ true

-- the way from this side is open after a set-up: both devices are normal, the one there may start a frame and has no break on, the other one
-- listens, and the two formats are alike. What is then allowed is `all_allowed` of `delivery` on `way_from s`, and what is promised is `Promised`:
-- from then on nothing is asked of the other way
pub record Open (s : Side) (p : Pair) : Type 0 where
  pub from_normal : Normal (device_at s p)
  pub to_normal : Normal (device_at (other s) p)
  pub starts : may_start (device_at s p) ≡ true
  pub no_break : break_on (device_at s p) ≡ false
  pub listens : listening (device_at (other s) p) ≡ true
  pub alike : Alike (send_format (device_at s p).registers) (receive_format (device_at (other s) p).registers)
