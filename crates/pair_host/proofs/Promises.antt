-- The pair as a struct that is lent, what the lent calls promise, that a run and a wait of a pair that stands only count, and that a wait may be
-- spared.
-- Assumes nothing.
use Prim.Native.Nat.{ℕ, ◌+◌, ◌*◌, ◌%◌, ◌≤◌}
use native.Mathlib.Omega.{arith}
use mathlib.Core.Path.{◌≡◌, refl, ap, sym, ◌∙◌}
use mathlib.Core.Bool.{Bool, true, false, not, ◌&&◌, ◌||◌, false≢true}
use lib.Dec.{leb, ltb, eqb}
use borrow.Author.Tests.{leb-true, ltb-true, ltb-false, eqb-true}
use mir.Syntax.{Width, w32}
use Rattle.line_rules.proofs.Choice.{not_so}
use Rattle.line_rules.proofs.Table.{both}
use Rattle.joined_rules.specs.declared.Pair.{Pair}
use Rattle.joined_rules.specs.Joining.{Ran}
use Rattle.joined_rules.specs.Joining as Joining
use Rattle.joined_rules.specs.TwoWays.{pair_later, stands}
use Rattle.joined_rules.specs.Waiting.{Waited, unread, waited, wait}
use Rattle.joined_rules.proofs.RunsRefused.{run_done}
use Rattle.joined_rules.proofs.Standing.{stands_counts}
use Rattle.joined_rules.proofs.Waits.{wait_refused, wait_done, wait_none, wait_there, wait_stands}
use Rattle.joined_rules.specs.contracts.Pair as D
use Rattle.joined_rules.proofs.Pair.TheLaws as D'
use Rattle.lending.proofs.Lendable.{Lendable}
use Rattle.lending.proofs.Numbers.{Numbers}
use Rattle.lending.proofs.Calls.{Promise}
use Rattle.lending.proofs.Spares.{Spares}
use Rattle.pair_host.specs.Replies.{levels_sent, run_counts, unit_of, wait_answer, wait_counts, wait_spared, wait_told}
use Rattle.pair_host.specs.Replies as Replies

abbrev pub lent_pair : Lendable
lent_pair = record { type = D.the_type; laws = D'.the_laws; lowers = D'.lowers; plain = D'.the_plain }

-- the width of a count of ticks, and of the number of a unit
abbrev pub count : Width
count = w32

abbrev pub ticks : Promise lent_pair 0
ticks = record { answers = λ p xs. levels_sent (Joining.tick p); leaves = λ p xs. (Joining.tick p).pair }

abbrev pub runs : Promise lent_pair 1
runs = record { answers = λ p xs. (Joining.run p xs.0).refusal; leaves = λ p xs. (Joining.run p xs.0).pair }

-- a wait, of a unit's number and a limit
abbrev pub waits : Promise lent_pair 2
waits = record { answers = λ p xs. wait_answer (wait p (unit_of xs.0) xs.1.0); leaves = λ p xs. (wait p (unit_of xs.0) xs.1.0).pair }

-- a run and a wait of a pair that stands, as the code does them
pub standing_run : (p : Pair) (n : ℕ) → run_counts p n ≡ true → record { answer = 0; pair = pair_later (n % 65536) p } ≡ Replies.run p n
standing_run p n c =
    let t = both (leb n 65535) (stands p) c in
    let l : n ≤ 65535 = leb-true n 65535 t.0 in
    let h = t.1 in
    let e : Joining.run p n ≡ record { refusal = 0; pair = pair_later n p } = run_done p n l ∙ ap (λ (q : Pair). record { refusal = 0; pair = q }) (stands_counts p n h) in
    ap (λ (k : ℕ). record { answer = 0; pair = pair_later k p }) (let q : n % 65536 ≡ n = omega arith in q) ∙ ap (λ (r : Ran). record { answer = r.refusal; pair = r.pair }) (sym e)

pub standing_wait : (p : Pair) (u limit : ℕ) → wait_counts p u limit ≡ true → record { answer = limit; pair = pair_later (limit % 65536) p } ≡ Replies.wait p u limit
standing_wait p u limit c =
    let a = both (leb limit 65535 && not (unread (unit_of u) p)) (stands p) c in
    let b = both (leb limit 65535) (not (unread (unit_of u) p)) a.0 in
    let l : limit ≤ 65535 = leb-true limit 65535 b.0 in
    let t : unread (unit_of u) p ≡ false = not_so _ b.1 in
    let h = a.1 in
    let e : wait p (unit_of u) limit ≡ record { refusal = 0; count = limit; pair = pair_later limit p } = wait_done p (unit_of u) limit l ∙ wait_stands p (unit_of u) limit h t in
    ap (λ (k : ℕ). record { answer = limit; pair = pair_later k p }) (let q : limit % 65536 ≡ limit = omega arith in q)
    ∙ ap (λ (n : ℕ). record { answer = n; pair = pair_later limit p }) (let q : limit ≡ 0 * 65536 + limit = omega arith in q)
    ∙ ap (λ (w : Waited). record { answer = wait_answer w; pair = w.pair }) (sym e)

-- a wait that is spared: it answers what is told, and the pair stays
module _ (p : Pair) (u limit : ℕ) where
  abbrev it : Waited
  it = wait p (unit_of u) limit

  abbrev Told : Type 0
  Told = (wait_told p u limit ≡ wait_answer it) × (p ≡ it.pair)

  as_told : {r n : ℕ} → it ≡ record { refusal = r; count = n; pair = p } → wait_told p u limit ≡ wait_answer (record { refusal = r; count = n; pair = p }) → Told
  as_told e q = (q ∙ ap wait_answer (sym e), ap (λ (w : Waited). w.pair) (sym e))

  pub spared_wait : wait_spared p u limit ≡ true → Told
  spared_wait = go (ltb 65535 limit) (eqb limit 0) (unread (unit_of u) p) refl refl refl
    where
      done : {w : Waited} → ltb 65535 limit ≡ false → waited p (unit_of u) limit ≡ w → it ≡ w
      done e q = wait_done p (unit_of u) limit (ltb-false 65535 limit e) ∙ q

      go : (above none there : Bool) → ltb 65535 limit ≡ above → eqb limit 0 ≡ none → unread (unit_of u) p ≡ there → (above || none || there) ≡ true → Told
      go true none there a z t h = as_told (wait_refused p (unit_of u) limit (ltb-true 65535 limit a)) (rw a refl)
      go false none true a z t h = as_told (done a (wait_there p (unit_of u) limit t)) (rw a refl)
      go false true false a z t h = as_told (done a (wait_none p (unit_of u) limit (eqb-true limit 0 z))) (rw a refl)
      go false false false a z t h = absurd (false≢true h)

abbrev pub unmoved : Pair → Numbers 2 → Bool
unmoved p xs = wait_spared p xs.0 xs.1.0

abbrev pub unmoved_answer : Pair → Numbers 2 → ℕ
unmoved_answer p xs = wait_told p xs.0 xs.1.0

pub told_or_waits : Spares lent_pair 2 unmoved_answer unmoved waits waits
told_or_waits = record { still = λ p xs h. spared_wait p xs.0 xs.1.0 h; acts = λ p xs h. (refl, refl) }
