use Rattle.board.proofs.Bits.{polled_more}
use Rattle.board.proofs.poll.Goals as goal

pub loop-device-preserved : goal.loop-device-preserved
loop-device-preserved c =
    polled_more _ _ _ _ _ _ _ _ _ c.loop-device-test.true c.ins2651_peek-shown.ensures.answer c.ins2651_peek-shown.ensures.device c.loop-device.invariant
