-- The tallies and stamps of request P4, as the calls give them without changing the device: those of one out of range are those of one just reset, 0.
-- Assumes nothing.
use Rattle.line_rules.specs.declared.TxC.{TxC}
use Rattle.line_rules.specs.declared.RxC.{RxC}
use Rattle.ins2651_rules.specs.declared.Device.{Device}
use Rattle.ins2651_rules.specs.Ranges.{settled}

-- of the character that a read of address 0 gives: the receive tally after its stop sample's tick
unfoldable pub stamp : Device → RxC
stamp d = (settled d).receiver.stamp

-- of the last frame: the transmit tally after its first tick
unfoldable pub start : Device → TxC
start d = (settled d).sender.start

-- transmit ticks since reset, and receive ticks
unfoldable pub transmit_tally : Device → TxC
transmit_tally d = (settled d).sender.tally

unfoldable pub receive_tally : Device → RxC
receive_tally d = (settled d).receiver.tally
