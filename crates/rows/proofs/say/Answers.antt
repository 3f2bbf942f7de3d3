-- `rows::say` meets its contract: a line of each kind is what it begins with and its numbers.
-- Assumes nothing.
use Rattle.std.proofs.Common.{arith}
use Rattle.std.specs.Prelude.{Some}
use Rattle.rows.specs.declared.Row.TheVariants.{Value, Held, Waited, Refusal, Counts}
use Rattle.rows.specs.Text.{decimal, row_text, value_text, held_text, wait_text, refusal_text, counts_text}
use Rattle.rows.proofs.Decimals.{row_short}
use Rattle.rows.proofs.say.Goals as goal

pub line-requires : goal.line-requires
unfolding row_text value_text
line-requires c = rw (c.into.ensures, c.into-in-Value.ensures) (omega (arith, c.requires, row_short (Some (Value c.in-Value.unit c.in-Value.address c.in-Value.value))))

pub line-requires-in-Held : goal.line-requires-in-Held
unfolding row_text held_text decimal
line-requires-in-Held c = rw c.into-in-Held.ensures (omega (arith, c.requires, row_short (Some (Held c.in-Held.unit c.in-Held.value c.in-Held.stamp))))

pub line-requires-in-Waited : goal.line-requires-in-Waited
unfolding row_text wait_text
line-requires-in-Waited c = rw c.into-in-Waited.ensures (omega (arith, c.requires, row_short (Some (Waited c.in-Waited.unit c.in-Waited.count))))

pub line-requires-in-Refusal : goal.line-requires-in-Refusal
unfolding row_text refusal_text
line-requires-in-Refusal c = rw (c.into-in-Refusal.ensures, c.into-in-Refusal-2.ensures) (omega (arith, c.requires, row_short (Some (Refusal c.in-Refusal.taken c.in-Refusal.refusal))))

pub line-requires-in-Counts : goal.line-requires-in-Counts
unfolding row_text counts_text
line-requires-in-Counts c = rw (c.into-in-Counts.ensures, c.into-in-Counts-2.ensures) (omega (arith, c.requires, row_short (Some (Counts c.in-Counts.lines c.in-Counts.refusals))))

pub returns-in-Value : goal.returns-in-Value
unfolding row_text value_text
returns-in-Value c = rw (c.in-Value.is, ← c.into.ensures, ← c.into-in-Value.ensures) c.line.ensures

pub returns-in-Held : goal.returns-in-Held
unfolding row_text held_text decimal
returns-in-Held c = rw (c.in-Held.is, ← c.into-in-Held.ensures) c.line-in-Held.ensures

pub returns-in-Waited : goal.returns-in-Waited
unfolding row_text wait_text
returns-in-Waited c = rw (c.in-Waited.is, ← c.into-in-Waited.ensures) c.line-in-Waited.ensures

pub returns-in-Refusal : goal.returns-in-Refusal
unfolding row_text refusal_text
returns-in-Refusal c = rw (c.in-Refusal.is, ← c.into-in-Refusal.ensures, ← c.into-in-Refusal-2.ensures) c.line-in-Refusal.ensures

pub returns-in-Counts : goal.returns-in-Counts
unfolding row_text counts_text
returns-in-Counts c = rw (c.in-Counts.is, ← c.into-in-Counts.ensures, ← c.into-in-Counts-2.ensures) c.line-in-Counts.ensures
