-- A way and a receiving half with some of their parts replaced.
-- Assumes nothing.
use Rattle.line_rules.specs.declared.Format.{Format}
use Rattle.line_rules.specs.declared.Receiver.{Receiver}
use Rattle.link_rules.specs.declared.SenderHalf.{SenderHalf}
use Rattle.link_rules.specs.declared.ReceiverHalf.{ReceiverHalf}
use Rattle.way_rules.specs.declared.Way.{Way}

abbrev pub with_sender : Way → SenderHalf → Way
with_sender w s = record { sender = s; receiver = w.receiver; empty = w.empty; faults = w.faults }

abbrev pub with_receiver : Way → ReceiverHalf → Way
with_receiver w r = record { sender = w.sender; receiver = r; empty = w.empty; faults = w.faults }

-- another receiver and its format: what is held, its stamp and the tally stay
abbrev pub with_state : Receiver → Format → ReceiverHalf → ReceiverHalf
with_state s f r = record { state = s; format = f; holding = r.holding; unread = r.unread; stamp = r.stamp; tally = r.tally }
