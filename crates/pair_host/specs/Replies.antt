-- How C gets an answer as one number; and what the acts on a lent pair answer and leave, of which its calls are made.
-- Assumes nothing.
use Rattle.std.specs.Prelude.{ℕ, ◌+◌, ◌*◌, ◌/◌, ◌%◌, Bool, cond, not, ◌&&◌, ◌||◌, leb, ltb, eqb}
use Rattle.joined_rules.specs.declared.Pair.{Pair}
use Rattle.joined_rules.specs.Joining.{Joined}
use Rattle.line_rules.specs.declared.Unit.{Unit}
use Rattle.line_rules.specs.declared.Unit.TheVariants as unit
use Rattle.joined_rules.specs.Joining as Joining
use Rattle.joined_rules.specs.TwoWays.{stands}
use Rattle.joined_rules.specs.Waiting as Waiting
use Rattle.joined_rules.specs.Waiting.{Waited, unread}

-- what an act on a lent pair answers, as one number, and the pair that it leaves
pub record Reply : Type 0 where
  pub answer : ℕ
  pub pair : Pair

-- the levels that a joined tick sent, as one number: 1 where `a` sent a 1, plus 2 where `b` did
abbrev pub levels_sent : Joined → ℕ
levels_sent j = j.b * 2 + j.a

abbrev pub run : Pair → ℕ → Reply
run p n = record { answer = (Joining.run p n).refusal; pair = (Joining.run p n).pair }

-- it is done, of a pair that stands: it only counts
abbrev pub run_counts : Pair → ℕ → Bool
run_counts p n = leb n 65535 && stands p

-- == a wait ==

-- the unit that a number names from C: 0 is a, and any other b
abbrev pub unit_of : ℕ → Unit
unit_of n = cond (eqb n 0) unit.A unit.B

-- a wait's refusal and its count, as one number: 65536 times the one plus the other
abbrev pub wait_answer : Waited → ℕ
wait_answer w = w.refusal * 65536 + w.count

abbrev pub wait : Pair → ℕ → ℕ → Reply
wait p u limit = record { answer = wait_answer (Waiting.wait p (unit_of u) limit); pair = (Waiting.wait p (unit_of u) limit).pair }

-- it is done, of a pair that stands, with no character there: it only counts, to its limit
abbrev pub wait_counts : Pair → ℕ → ℕ → Bool
wait_counts p u limit = leb limit 65535 && not (unread (unit_of u) p) && stands p

-- it leaves the pair as it is: it is refused, its limit is 0, or a character is there
abbrev pub wait_spared : Pair → ℕ → ℕ → Bool
wait_spared p u limit = ltb 65535 limit || eqb limit 0 || unread (unit_of u) p

-- its answer then: refused with 21, or no tick spent
abbrev pub wait_told : Pair → ℕ → ℕ → ℕ
wait_told p u limit = cond (ltb 65535 limit) (21 * 65536) 0

-- == as C takes the levels apart ==

abbrev pub level_of_a : ℕ → ℕ
level_of_a n = n % 2

abbrev pub level_of_b : ℕ → ℕ
level_of_b n = n / 2

-- == as C takes the answer of a wait apart ==

abbrev pub wait_refusal : ℕ → ℕ
wait_refusal n = n / 65536

abbrev pub wait_count : ℕ → ℕ
wait_count n = n % 65536
