use Rattle.board.proofs.Bits.{Polled}
use Rattle.board.proofs.poll.Given as goal

abbrev pub invariant-loop-device : goal.invariant-loop-device
invariant-loop-device l = Polled l.room l.fn.room l.device-index l.status.transmit l.status.receive l.weight
