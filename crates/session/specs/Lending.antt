-- What a borrow of one unit's device leaves of the pair.
-- Assumes nothing.
use Rattle.std.specs.Borrow.{Lends, MutBor, Fml}
use Rattle.ins2651_rules.specs.declared.Device.{Device}
use Rattle.ins2651_rules.specs.contracts.Device as device
use Rattle.joined_rules.specs.declared.Pair.{Pair}
use Rattle.joined_rules.specs.contracts.Pair as pair
use Rattle.line_rules.specs.declared.Unit.{Unit}
use Rattle.session_rules.specs.Calls.{put_back}

-- the unit's device becomes the last value behind r, and the other stays
abbrev pub LendsDevice : MutBor Pair → Unit → MutBor Device → Fml
LendsDevice p unit r = Lends pair.the_row device.the_row p r (put_back p.now unit)
