-- `rows::printed` meets its contract: what the library prints is the number's text.
-- Assumes nothing.
use Rattle.rows.proofs.Decimals.{said_decimal}
use Rattle.rows.proofs.printed.Goals as goal

pub store-requires : goal.store-requires
store-requires c = rw (said_decimal c.args.n c.ranges.n.fits c.as_bytes.ensures.value c.format.ensures.text) c.requires

pub returns : goal.returns
returns c = rw (← said_decimal c.args.n c.ranges.n.fits c.as_bytes.ensures.value c.format.ensures.text) c.store.ensures
