-- The two ways of a joined line, request P9: what a device's sender sends the other's receiver takes. Registers and pins stay in a run, so that the ways are
-- independent: a run of the pair is a run of each (proofs/TwoWays.antt, `two_ways`).
-- Assumes nothing.
use Rattle.std.specs.Prelude.{ℕ, Bool, ◌&&◌}
use Rattle.way_rules.specs.declared.Ends.{Ends}
use Rattle.way_rules.specs.declared.Way.{Way}
use Rattle.way_rules.specs.Along.{way_ticks}
use Rattle.way_rules.specs.Calm.{way_stands}
use Rattle.ins2651_rules.specs.declared.Device.{Device}
use Rattle.ins2651_rules.specs.Shape.{with_parts, device_later, with_errors, with_empty}
use Rattle.ins2651_rules.specs.Modes.{send_format, receive_format}
use Rattle.ins2651_rules.specs.Conditions.{transmit_enabled, may_start, break_on, listening}
use Rattle.ins2651_rules.specs.Ranges.{in_range}
use Rattle.joined_rules.specs.declared.Pair.{Pair}

-- the way from d to e: what its ticks go by
abbrev pub ends_of : Device → Device → Ends
ends_of d e =
    record {
      ready = may_start d;
      broken = break_on d;
      enabled = transmit_enabled d;
      live = listening e;
      send = send_format d.registers;
      hear = receive_format e.registers;
    }

-- .. and what they move
abbrev pub way_of : Device → Device → Way
way_of d e =
    record {
      sender = d.sender;
      receiver = e.receiver;
      empty = d.flags.empty;
      faults = record { framing = e.flags.framing; overrun = e.flags.overrun; parity = e.flags.parity };
    }

-- .. and how they leave it, k of them
abbrev pub along_way : ℕ → Device → Device → Way
along_way k d e = way_ticks (ends_of d e) k (way_of d e)

-- the device that sends, with its end of a way, and the one that receives, with its; the byte of each is as it was
abbrev pub with_sent : Device → Way → Device
with_sent d w = record d { sender = w.sender; flags = with_empty d.flags w.empty }

abbrev pub with_heard : Device → Way → Device
with_heard e w = record e { receiver = w.receiver; flags = with_errors e.flags w.faults.framing w.faults.overrun w.faults.parity }

-- a device with its end of the way that leaves it and of the way that comes
abbrev pub with_ends : Device → Way → Way → Device
with_ends d out back =
    with_parts d d.registers d.pins out.sender back.receiver
    (with_empty (with_errors d.flags back.faults.framing back.faults.overrun back.faults.parity) out.empty)

abbrev pub with_ways : Pair → Way → Way → Pair
with_ways p there back = record { a = with_ends p.a there back; b = with_ends p.b back there }

-- n ticks of each way
unfoldable pub along_both : ℕ → Pair → Pair
along_both n p =
    with_ways p (way_ticks (ends_of p.a p.b) n (way_of p.a p.b)) (way_ticks (ends_of p.b p.a) n (way_of p.b p.a))

-- the same pair with n ticks more in its four tallies
abbrev pub pair_later : ℕ → Pair → Pair
pair_later n p = record { a = device_later n p.a; b = device_later n p.b }

-- no tick changes more than the tallies: both devices are in range, and both ways stand
unfoldable pub stands : Pair → Bool
stands p =
    way_stands (ends_of p.a p.b) (way_of p.a p.b) && way_stands (ends_of p.b p.a) (way_of p.b p.a)
    && in_range p.a && in_range p.b
