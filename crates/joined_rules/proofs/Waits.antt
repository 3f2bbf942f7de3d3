-- The wait with a limit: request P12. 21 is given exactly when the limit is above 65535, and then nothing is spent and the pair is as it was. Else the
-- count is the least number of single joined ticks after which the unit holds an unread character, or the limit, and the pair is what as many leave: as
-- given where that is none. And that a wait goes by the way that comes to the unit.
-- Assumes nothing.
use Prim.Native.Nat.{ℕ, zero, suc, ◌≤◌, ◌<◌}
use native.Mathlib.Omega.{arith}
use mathlib.Core.Path.{◌≡◌, refl, ap, ap₂, sym, ◌∙◌}
use mathlib.Core.Bool.{Bool, true, false, cond, ◌||◌}
use lib.Dec.{ltb, eqb}
use borrow.Author.Tests.{lt-ltb, le-ltb, ltb-true, ltb-false, eqb-false}
use Rattle.line_rules.specs.Sending.{on}
use Rattle.line_rules.proofs.Choice.{each, neither}
use Rattle.way_rules.specs.Along.{way_ticks}
use Rattle.way_rules.specs.Until.{LeastBelow, until_unread}
use Rattle.way_rules.specs.Until as way
use Rattle.way_rules.proofs.Until.{is_least, same_below, none_below}
use Rattle.link_rules.specs.Within.{sender_in_range, receiver_in_range}
use Rattle.ins2651_rules.specs.declared.Device.{Device}
use Rattle.ins2651_rules.specs.Shape.{reset_device, device_later}
use Rattle.ins2651_rules.specs.Status.{status_byte}
use Rattle.ins2651_rules.specs.Ranges.{in_range, settled}
use Rattle.ins2651_ends.specs.OnALine as chip
use Rattle.ins2651_ends.proofs.Calls.{unread_is, unread_taken}
use Rattle.delivery.specs.Joined.{Side, A, B}
use Rattle.joined_rules.specs.declared.Pair.{Pair}
use Rattle.line_rules.specs.declared.Unit.{Unit}
use Rattle.line_rules.specs.declared.Unit.TheVariants as unit
use Rattle.joined_rules.specs.Joining.{ticks, run, settled_pair, joined_ticks}
use Rattle.joined_rules.specs.Bench.{device_at}
use Rattle.joined_rules.specs.TwoWays.{along_both, pair_later, stands}
use Rattle.joined_rules.specs.Waiting.{Waited, side_of, unread, ticks_until, unspent, waited, wait, joined_until, waited_on, ends_to, way_to, waited_along}
use Rattle.joined_rules.proofs.Runs.{BothIn, settled_both, settled_ticks, joined_ticks_in}
use Rattle.joined_rules.proofs.TwoWays.{two_ways}
use Rattle.joined_rules.proofs.RunsRefused.{run_done}
use Rattle.joined_rules.proofs.Standing.{stands_counts}

-- == refused or done ==

pub wait_refused : (p : Pair) (u : Unit) (limit : ℕ) → 65535 < limit → wait p u limit ≡ record { refusal = 21; count = 0; pair = p }
unfolding wait
wait_refused p u limit h = rw (lt-ltb 65535 limit h)

pub wait_done : (p : Pair) (u : Unit) (limit : ℕ) → limit ≤ 65535 → wait p u limit ≡ waited p u limit
unfolding wait
wait_done p u limit h = rw (le-ltb 65535 limit h)

-- what holds of both holds of every wait
wait_either : (P : Waited → Type 0) (p : Pair) (u : Unit) (limit : ℕ) → (65535 < limit → P (unspent p 21)) → (limit ≤ 65535 → P (waited p u limit)) → P (wait p u limit)
unfolding wait
wait_either P p u limit refused done = each P (ltb 65535 limit) (λ e. refused (ltb-true 65535 limit e)) (λ e. done (ltb-false 65535 limit e))

-- 21 exactly then, and no other number
pub wait_number : (p : Pair) (u : Unit) (limit : ℕ) → (wait p u limit).refusal ≡ cond (ltb 65535 limit) 21 0
wait_number p u limit =
    wait_either (λ (w : Waited). w.refusal ≡ cond (ltb 65535 limit) 21 0) p u limit (λ h. rw (lt-ltb 65535 limit h)) (λ h. rw (le-ltb 65535 limit h))

-- == how many ticks ==

-- the count is the limit at most; before it the unit holds none, and where it is below the limit the unit holds one then
pub wait_least : (p : Pair) (u : Unit) (limit : ℕ) → LeastBelow limit (λ k. unread u (ticks k p)) (waited p u limit).count
wait_least p u limit = is_least limit (λ k. unread u (ticks k p))

-- refused or not it is 65535 at most, and the pair is the run of that count: a refused wait spends nothing
pub count_fits : (p : Pair) (u : Unit) (limit : ℕ) → (wait p u limit).count ≤ 65535
count_fits p u limit = wait_either (λ (w : Waited). w.count ≤ 65535) p u limit (λ h. omega arith) (λ h. omega (arith, h, (wait_least p u limit).within))

pub wait_ticks : (p : Pair) (u : Unit) (limit : ℕ) → ticks (wait p u limit).count p ≡ (wait p u limit).pair
wait_ticks p u limit = wait_either (λ (w : Waited). ticks w.count p ≡ w.pair) p u limit (λ h. refl) (λ h. refl)

pub wait_is_the_run : (p : Pair) (u : Unit) (limit : ℕ) → run p (wait p u limit).count ≡ record { refusal = 0; pair = (wait p u limit).pair }
wait_is_the_run p u limit = run_done p (wait p u limit).count (count_fits p u limit) ∙ ap (λ (q : Pair). record { refusal = 0; pair = q }) (wait_ticks p u limit)

-- nothing is spent with a limit of 0, or where one was there
pub wait_none : (p : Pair) (u : Unit) (limit : ℕ) → limit ≡ 0 → waited p u limit ≡ record { refusal = 0; count = 0; pair = p }
wait_none p u limit h = ap (waited p u) h

pub wait_there : (p : Pair) (u : Unit) (limit : ℕ) → unread u p ≡ true → waited p u limit ≡ record { refusal = 0; count = 0; pair = p }
wait_there p u zero h = refl
wait_there p u (suc n) h = ap (λ (k : ℕ). record { refusal = 0; count = k; pair = ticks k p }) (let q : ticks_until p u (suc n) ≡ 0 = rw h in q)

-- tallies do not matter to what is unread
unread_so : (n : ℕ) (d : Device) → chip.unread (device_later n d) ≡ chip.unread d
unfolding settled in_range sender_in_range receiver_in_range status_byte
unread_so n d = unread_taken (device_later n d) ∙ ap on (go (in_range d)) ∙ sym (unread_taken d)
  where
    go : (b : Bool) → (cond b (device_later n d) reset_device).receiver.unread ≡ (cond b d reset_device).receiver.unread
    go true = refl
    go false = refl

unread_later : (u : Unit) (p : Pair) (n : ℕ) → unread u (pair_later n p) ≡ unread u p
unread_later unit.A p n = unread_so n p.a
unread_later unit.B p n = unread_so n p.b

-- all of the limit where the pair stands and none was there
pub wait_stands : (p : Pair) (u : Unit) (limit : ℕ) → stands p ≡ true → unread u p ≡ false → waited p u limit ≡ record { refusal = 0; count = limit; pair = pair_later limit p }
wait_stands p u limit s h =
    let none : ticks_until p u limit ≡ limit = none_below limit (λ k. unread u (ticks k p)) (λ k. ap (unread u) (stands_counts p k s) ∙ unread_later u p k ∙ h) in
    ap (λ (k : ℕ). record { refusal = 0; count = k; pair = ticks k p }) none ∙ ap (λ (q : Pair). record { refusal = 0; count = limit; pair = q }) (stands_counts p limit s)

-- == on a pair in range ==

-- a wait of any pair is one of the pair as it is taken
seen_settled : (p : Pair) (s : Side) (k : ℕ) → chip.unread (device_at s (ticks k p)) ≡ on (device_at s (joined_ticks k (settled_pair p))).receiver.unread
seen_settled p A zero = unread_taken p.a
seen_settled p B zero = unread_taken p.b
seen_settled p s (suc k) =
    ap (λ (q : Pair). chip.unread (device_at s q)) (sym (settled_ticks (suc k) p (omega arith))) ∙ within_range s (joined_ticks_in (suc k) (settled_pair p) (settled_both p))
  where
    within_range : (s : Side) → BothIn (joined_ticks (suc k) (settled_pair p)) → chip.unread (device_at s (joined_ticks (suc k) (settled_pair p))) ≡ on (device_at s (joined_ticks (suc k) (settled_pair p))).receiver.unread
    within_range A i = unread_is (joined_ticks (suc k) (settled_pair p)).a i.a
    within_range B i = unread_is (joined_ticks (suc k) (settled_pair p)).b i.b

until_settled : (p : Pair) (u : Unit) (limit : ℕ) → ticks_until p u limit ≡ joined_until (settled_pair p) u limit
until_settled p u limit =
    same_below limit (λ k. unread u (ticks k p)) (λ k. on (device_at (side_of u) (joined_ticks k (settled_pair p))).receiver.unread) (seen_settled p (side_of u))

-- one tick or more is spent where none was there
some_spent : (p : Pair) (u : Unit) (limit : ℕ) → 0 < limit → unread u p ≡ false → 0 < ticks_until p u limit
some_spent p u zero z h = absurd (omega arith)
some_spent p u (suc n) z h = rw h (omega arith)

pub wait_settled : (p : Pair) (u : Unit) (limit : ℕ) → 0 < limit → unread u p ≡ false → waited p u limit ≡ waited_on (settled_pair p) u limit
wait_settled p u limit z h =
    let same = until_settled p u limit in
    ap₂ (λ (k : ℕ) (q : Pair). record { refusal = 0; count = k; pair = q }) same
    (sym (settled_ticks (ticks_until p u limit) p (some_spent p u limit z h)) ∙ ap (λ (k : ℕ). joined_ticks k (settled_pair p)) same)

-- == by the ways ==

module _ (p : Pair) (i : BothIn p) (u : Unit) where
  by_way : (k : ℕ) → on (device_at (side_of u) (joined_ticks k p)).receiver.unread ≡ way.unread (way_ticks (ends_to u p) k (way_to u p))
  unfolding along_both
  by_way k = go u
    where
      go : (v : Unit) → on (device_at (side_of v) (joined_ticks k p)).receiver.unread ≡ way.unread (way_ticks (ends_to v p) k (way_to v p))
      go unit.A = ap (λ (q : Pair). on q.a.receiver.unread) (two_ways k p i)
      go unit.B = ap (λ (q : Pair). on q.b.receiver.unread) (two_ways k p i)

  -- the way that comes to the unit is run until one is unread, and the other as long
  pub waits_along : (limit : ℕ) → waited_on p u limit ≡ waited_along p u limit
  waits_along limit =
      let same : joined_until p u limit ≡ until_unread (ends_to u p) true limit (way_to u p) =
      same_below limit (λ k. on (device_at (side_of u) (joined_ticks k p)).receiver.unread) (λ k. way.unread (way_ticks (ends_to u p) k (way_to u p))) by_way in
      ap₂ (λ (k : ℕ) (q : Pair). record { refusal = 0; count = k; pair = q }) same (two_ways (joined_until p u limit) p i ∙ ap (λ (k : ℕ). along_both k p) same)

-- by the code's test, u being whether one is there: a wait goes by the ways of the pair as it is taken
module _ (p : Pair) (unit : Unit) (limit : ℕ) (u : Bool) (there : u ≡ unread unit p) where
  pub some_waited : (u || eqb limit 0) ≡ false → waited p unit limit ≡ waited_along (settled_pair p) unit limit
  some_waited h =
      let n = neither u (eqb limit 0) h in
      let z = eqb-false limit 0 n.1 in
      wait_settled p unit limit (omega arith) (sym there ∙ n.0) ∙ waits_along (settled_pair p) (settled_both p) unit limit
