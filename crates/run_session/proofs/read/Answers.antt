-- The session has taken what stands in the buffer.
use Rattle.std.proofs.Common.{arith}
use Rattle.run_session.proofs.Parts.{read_fed, read_passed}
use Rattle.run_session.proofs.read.Goals as goal

pub returns-clause-fed : goal.returns-clause-fed
returns-clause-fed g c = read_fed _ _ _ _ _ _ c.after_read.ensures.answered c.after_read.ensures.unread

pub returns-clause-passed : goal.returns-clause-passed
returns-clause-passed g c =
    read_passed _ _ _ _ _ _ c.after_read.ensures.answered c.after_read.ensures.unread c.read-got.ensures.bound (omega arith) _ _ _ _ c.read-got.ensures.bytes c.after_read.ensures.wrote
