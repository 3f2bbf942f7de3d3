-- The reading: what arrives, from the list of levels and the receive tally before them alone, for one format, receive on, DCD low, beginning with the
-- wait for a 1 (document 01, "Receiving, by receive ticks"; P4). It runs none of the receiver's steps.
-- Assumes nothing.
use Rattle.std.specs.Prelude.{ℕ, zero, suc, ◌+◌, ◌*◌, ◌^◌, ◌%◌, Bool, true, false, cond, not, List, [], ◌∷◌, ltb, length, get_or, drop}
use Rattle.std.specs.Bool.{beq}
use Rattle.line_rules.specs.declared.Format.{Format}
use Rattle.line_rules.specs.declared.RxC.{RxC}
use Rattle.line_rules.specs.Sending.{bit, on, differ, half, stop_sample, parity_bit}
use Rattle.line_rules.specs.Clocks.{rx_later}
use Rattle.line_rules.specs.Arrived.{Arrived}

-- the level that follows on i others
abbrev pub lev : List Bool → ℕ → Bool
lev ls i = get_or ls i false

-- how many levels pass before the first b; all of them where there is none
abbrev pub find : Bool → List Bool → ℕ
find b [] = 0
find b (x ∷ xs) = cond (beq x b) 0 (suc (find b xs))

-- the same from index i on, as an index
abbrev pub first : Bool → List Bool → ℕ → ℕ
first b ls i = i + find b (drop i ls)

-- what look m sees of the character whose start bit begins at index k
abbrev pub seen : Format → List Bool → ℕ → ℕ → Bool
seen f ls k m = lev ls (k + half f + f.factor * m)

-- the number with the bits b 0, b 1, .., b (m - 1), lowest first
abbrev pub number : (ℕ → Bool) → ℕ → ℕ
number b zero = 0
number b (suc m) = number b m + bit (b m) * 2 ^ m

-- its value, in a byte: data bit i is look i + 1
abbrev pub value_at : Format → List Bool → ℕ → ℕ
value_at f ls k = number (λ (i : ℕ). seen f ls k (suc i)) f.length % 256

abbrev pub wrong_parity_at : Format → List Bool → ℕ → Bool
wrong_parity_at f ls k = cond (on f.parity) (differ (seen f ls k (suc f.length)) (parity_bit f (value_at f ls k))) false

-- the number of its stop sample; samples count from 1
abbrev pub stop_number : Format → ℕ → ℕ
stop_number f k = suc (k + stop_sample f)

-- it arrives with the stop sample, stamped with the tally t plus that sample's number
abbrev pub arrived_at : Format → RxC → List Bool → ℕ → Arrived
arrived_at f t ls k =
    record {
      at = stop_number f k;
      arrival = record {
        value = value_at f ls k;
        parity = wrong_parity_at f ls k;
        framing = not (lev ls (k + stop_sample f));
        stamp = rx_later (stop_number f k) t;
      };
    }

-- where the search goes on after a stop sample at index s: at once after a 1, else after the next 1
abbrev pub resume : List Bool → ℕ → ℕ
resume ls s = cond (lev ls s) (suc s) (suc (first true ls (suc s)))

-- a start bit: its character is not whole; it was a false start, and the search goes on; or a character, and where the search goes on
pub data Found : Type 0 where
  cut_off : Found
  false_start : ℕ → Found
  character : Arrived → ℕ → Found

-- of the start bit that begins at index k
abbrev pub start_at : Format → RxC → List Bool → ℕ → Found
start_at f t ls k =
    cond (seen f ls k 0)
    (false_start (suc (k + half f)))
    (cond (ltb (k + stop_sample f) (length ls)) (character (arrived_at f t ls k) (resume ls (k + stop_sample f))) cut_off)

abbrev pub gather : Found → (ℕ → List Arrived) → List Arrived
gather cut_off rest = []
gather (false_start i) rest = rest i
gather (character a i) rest = a ∷ rest i

-- at most `starts` start bits, searched for from index i on
abbrev pub read_from : Format → RxC → List Bool → ℕ → ℕ → List Arrived
read_from f t ls zero i = []
read_from f t ls (suc starts) i = gather (start_at f t ls (first false ls i)) (λ (j : ℕ). read_from f t ls starts j)

-- the search begins after the first 1; each start bit takes a level, so there are no more of them than levels
unfoldable pub reading : Format → RxC → List Bool → List Arrived
reading f t ls = read_from f t ls (length ls) (suc (first true ls 0))
