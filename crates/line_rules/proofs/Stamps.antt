-- Stamps by the reading, request P4: the stamp of each character that is read is the tally before the levels plus the number of its stop sample.
-- Assumes nothing.
use Prim.Native.Nat.{ℕ, zero, suc, ◌+◌}
use mathlib.Core.Path.{◌≡◌, refl, ap}
use mathlib.Core.Bool.{Bool, true, false}
use mathlib.Core.List.{List, ◌∷◌, map}
use lib.Dec.{ltb}
use lib.ListN.{length}
use Rattle.line_rules.specs.declared.Format.{Format}
use Rattle.line_rules.specs.declared.RxC.{RxC}
use Rattle.line_rules.specs.Sending.{stop_sample}
use Rattle.line_rules.specs.Clocks.{rx_later}
use Rattle.line_rules.specs.Arrived.{Arrived}
use Rattle.line_rules.specs.Reading.{first, seen, resume, arrived_at, Found, gather, read_from, reading}
use Rattle.line_rules.proofs.Choice.{either}

module _ (f : Format) (t : RxC) (ls : List Bool) where
  abbrev stamps : List Arrived → List RxC
  stamps as' = map (λ (a : Arrived). a.arrival.stamp) as'

  abbrev numbers : List Arrived → List RxC
  numbers as' = map (λ (a : Arrived). rx_later a.at t) as'

  by_number : (starts i : ℕ) → stamps (read_from f t ls starts i) ≡ numbers (read_from f t ls starts i)
  by_number zero i = refl
  by_number (suc starts) i =
      let k : ℕ = first false ls i in
      let rest : ℕ → List Arrived = λ j. read_from f t ls starts j in
      let P : Found → Type 0 = λ o. stamps (gather o rest) ≡ numbers (gather o rest) in
      either P (seen f ls k 0) (by_number starts _)
      (either P (ltb (k + stop_sample f) (length ls))
      (ap (λ (r : List RxC). (arrived_at f t ls k).arrival.stamp ∷ r) (by_number starts (resume ls (k + stop_sample f)))) refl)

  -- samples count from 1, and the tally wraps at 4,294,967,296
  pub stamps_by_the_reading : map (λ (a : Arrived). a.arrival.stamp) (reading f t ls) ≡ map (λ (a : Arrived). rx_later a.at t) (reading f t ls)
  unfolding reading
  stamps_by_the_reading = by_number (length ls) (suc (first true ls 0))
