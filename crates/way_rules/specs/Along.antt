-- One way of a line: the sending half at one end, the receiving half at the other, and the flags that they set. Document 01, "Sending, by transmit
-- ticks" and "Receiving, by receive ticks"; what the ticks go by, conditions and formats, stays as it is for as long as no call is made.
-- Assumes nothing.
use Rattle.std.specs.Prelude.{ℕ, zero, suc, Bool, ◌&&◌, Option, None, Some}
use Rattle.line_rules.specs.declared.Arrival.{Arrival}
use Rattle.line_rules.specs.declared.Format.{Format}
use Rattle.line_rules.specs.declared.Sampled.{Sampled}
use Rattle.line_rules.specs.Sending.{or_set}
use Rattle.link_rules.specs.Transmitting.{Sent, transmit}
use Rattle.link_rules.specs.Hearing.{Received, after_sample, receive}
use Rattle.way_rules.specs.declared.Faults.{Faults}
use Rattle.way_rules.specs.declared.Ends.{Ends}
use Rattle.way_rules.specs.declared.Way.{Way}

-- what arrives sets flags and clears none: a stop of 0, a register found unread, a wrong parity
abbrev pub noted : Faults → Bool → Option Arrival → Faults
noted f overrun None = f
noted f overrun (Some a) =
    record { framing = or_set a.framing f.framing; overrun = or_set overrun f.overrun; parity = or_set a.parity f.parity }

-- the sending half's tick
abbrev pub sent : Ends → Way → Sent
sent e w = transmit w.sender e.ready e.broken e.send

-- the receiving half's tick, which takes the level x
abbrev pub received : Ends → Way → Bool → Received
received e w x = receive w.receiver e.live e.hear x

-- what the sender's tick leaves; the empty-mark is set where it ends a frame with nothing waiting and transmit enabled
abbrev pub sent_by : Ends → Way → Sent → Way
sent_by e w s = record { sender = s.half; receiver = w.receiver; empty = or_set (s.drained && e.enabled) w.empty; faults = w.faults }

-- what the receiver's tick leaves
abbrev pub heard_by : Way → Received → Way
heard_by w r = record { sender = w.sender; receiver = r.half; empty = w.empty; faults = noted w.faults r.overrun r.heard }

-- .. after a sample that was read in the format g
abbrev pub heard_as : Way → Format → Sampled → Way
heard_as w g o = heard_by w (after_sample w.receiver g o)

-- a tick: the receiver takes what the sender sends
unfoldable pub way_tick : Ends → Way → Way
way_tick e w = heard_by (sent_by e w (sent e w)) (received e w (sent e w).level)

-- n of them, one after another
abbrev pub way_ticks : Ends → ℕ → Way → Way
way_ticks e zero w = w
way_ticks e (suc n) w = way_ticks e n (way_tick e w)
