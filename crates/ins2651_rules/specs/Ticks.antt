-- The two ticks: document 01, "Sending, by transmit ticks" and "Receiving, by receive ticks". What a half does at a tick stands in link_rules.
-- Assumes nothing.
use Rattle.std.specs.Prelude.{ℕ, Bool, true, cond, ◌&&◌, ◌||◌, eqb, Option, None, Some}
use Rattle.line_rules.specs.declared.Arrival.{Arrival}
use Rattle.line_rules.specs.Sending.{bit, on, or_set}
use Rattle.link_rules.specs.Transmitting.{Sent}
use Rattle.link_rules.specs.Transmitting as link-transmitting
use Rattle.link_rules.specs.Hearing.{Received, arrives}
use Rattle.link_rules.specs.Hearing as link-hearing
use Rattle.ins2651_rules.specs.declared.Flags.{Flags}
use Rattle.ins2651_rules.specs.declared.Device.{Device}
use Rattle.ins2651_rules.specs.Shape.{Ticked, Outcome, Answer, with_sender, with_receiver, status_if, with_errors, with_empty, answered, refused_read, done, refused, ticked}
use Rattle.ins2651_rules.specs.Modes.{send_format, receive_format}
use Rattle.ins2651_rules.specs.Conditions.{transmit_enabled, may_start, break_on, listening}
use Rattle.ins2651_rules.specs.Ranges.{settled}
use Rattle.ins2651_rules.specs.Refusals.{level_refusal}

-- == transmit ==

-- the sending half's tick
abbrev pub sent : Device → Sent
sent d = link-transmitting.transmit d.sender (may_start d) (break_on d) (send_format d.registers)

-- the tick ends a frame with THR empty and transmit enabled: it sets the empty-mark
abbrev pub runs_empty : Device → Sent → Bool
runs_empty d s = s.drained && transmit_enabled d

-- the status changes where a frame takes the character from THR, or the empty-mark is set
abbrev pub sent_by : Device → Sent → Ticked
sent_by d s =
    ticked (bit s.level) (status_if (s.began || runs_empty d s) d (with_sender d s.half (with_empty d.flags (or_set (runs_empty d s) d.flags.empty))))

-- the tick of a device in range
unfoldable pub transmit_tick : Device → Ticked
transmit_tick d = sent_by d (sent d)

-- the call; it is never refused
unfoldable pub transmit : Device → Ticked
transmit d = transmit_tick (settled d)

-- == receive ==

-- the receiving half's tick
abbrev pub received : Device → Bool → Received
received d x = link-hearing.receive d.receiver (listening d) (receive_format d.registers) x

-- what arrives sets flags and clears none: a stop of 0, a register found unread, a wrong parity
abbrev pub noted : Flags → Bool → Option Arrival → Flags
noted f overrun None = f
noted f overrun (Some a) = with_errors f (or_set a.framing f.framing) (or_set overrun f.overrun) (or_set a.parity f.parity)

-- how many characters arrive, 0 or 1; a number, as computed cases ask for it at every tick
abbrev pub arrivals : Option Arrival → ℕ
arrivals h = bit (arrives (λ (a : Arrival). true) h)

-- the status changes where one arrives
abbrev pub received_by : Device → Received → Device
received_by d r = status_if (on (arrivals r.heard)) d (with_receiver d r.half (noted d.flags r.overrun r.heard))

-- the tick of a device in range
unfoldable pub receive_tick : Device → Bool → Device
receive_tick d x = received_by d (received d x)

-- the call
unfoldable pub receive : Device → ℕ → Outcome
receive d x = cond (eqb (level_refusal x) 0) (done (receive_tick (settled d) (on x))) (refused (level_refusal x) d)

-- == both ticks of a device, as a host's loop does them ==

-- the receive tick with a level, then the transmit tick, of a device in range
abbrev pub both_ticks : Device → Bool → Ticked
both_ticks d x = transmit_tick (receive_tick d x)

-- a transmit tick as an answer: its value is the level sent
abbrev pub sending : Ticked → Answer
sending t = answered t.level t.device

-- the call: a level that is refused does neither tick
unfoldable pub tick : Device → ℕ → Answer
tick d x = cond (eqb (level_refusal x) 0) (sending (both_ticks (settled d) (on x))) (refused_read (level_refusal x) d)
