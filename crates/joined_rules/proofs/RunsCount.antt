-- Every joined tick counts, one by one or many at once: a run of n moves all four tallies by n, request P4.
-- Assumes nothing.
use Prim.Native.Nat.{ℕ, zero, suc, ◌≤◌}
use native.Mathlib.Omega.{arith}
use mathlib.Core.Path.{◌≡◌, refl, ap, sym, subst, ◌∙◌}
use mathlib.Core.Bool.{true}
use Rattle.way_rules.proofs.Later.{ways_count}
use Rattle.ins2651_rules.specs.declared.Device.{Device}
use Rattle.ins2651_rules.specs.Ranges.{in_range}
use Rattle.ins2651_rules.specs.Stamps.{transmit_tally, receive_tally}
use Rattle.ins2651_rules.proofs.Settled.{settled_is}
use Rattle.joined_rules.specs.declared.Pair.{Pair}
use Rattle.line_rules.specs.declared.Unit.{Unit}
use Rattle.joined_rules.specs.Joining.{Ran, ticks, run, TalliesMoved, settled_pair, joined_ticks}
use Rattle.joined_rules.specs.TwoWays.{ends_of, way_of, along_both}
use Rattle.joined_rules.specs.Waiting.{wait}
use Rattle.joined_rules.proofs.Runs.{settled_both, settled_ticks, joined_ticks_in}
use Rattle.joined_rules.proofs.TwoWays.{two_ways}
use Rattle.joined_rules.proofs.RunsRefused.{run_done}
use Rattle.joined_rules.proofs.Waits.{wait_ticks}

-- the calls give the fields of a device in range
sent_is : (d : Device) → in_range d ≡ true → transmit_tally d ≡ d.sender.tally
unfolding transmit_tally
sent_is d h = ap (λ (e : Device). e.sender.tally) (settled_is d h)

heard_is : (d : Device) → in_range d ≡ true → receive_tally d ≡ d.receiver.tally
unfolding receive_tally
heard_is d h = ap (λ (e : Device). e.receiver.tally) (settled_is d h)

-- of a pair, taken in range, by its ways
along_counts : (n : ℕ) (p : Pair) → TalliesMoved n p (joined_ticks n (settled_pair p))
unfolding along_both transmit_tally receive_tally
along_counts n p =
    let s : Pair = settled_pair p in
    let q : Pair = joined_ticks n s in
    let i = joined_ticks_in n s (settled_both p) in
    let there = ways_count (ends_of s.a s.b) n (way_of s.a s.b) in
    let back = ways_count (ends_of s.b s.a) n (way_of s.b s.a) in
    let e = two_ways n s (settled_both p) in
    record {
      a_sent = sent_is q.a i.a ∙ ap (λ (r : Pair). r.a.sender.tally) e ∙ there.0;
      a_heard = heard_is q.a i.a ∙ ap (λ (r : Pair). r.a.receiver.tally) e ∙ back.1;
      b_sent = sent_is q.b i.b ∙ ap (λ (r : Pair). r.b.sender.tally) e ∙ back.0;
      b_heard = heard_is q.b i.b ∙ ap (λ (r : Pair). r.b.receiver.tally) e ∙ there.1;
    }

pub ticks_count : (n : ℕ) (p : Pair) → TalliesMoved n p (ticks n p)
ticks_count zero p = record { a_sent = refl; a_heard = refl; b_sent = refl; b_heard = refl }
ticks_count (suc n) p = subst (TalliesMoved (suc n) p) (settled_ticks (suc n) p (omega arith)) (along_counts (suc n) p)

-- so a run that is done, whatever it skips ..
pub run_counts_lem : (p : Pair) (n : ℕ) → n ≤ 65535 → TalliesMoved n p (run p n).pair
run_counts_lem p n h = subst (TalliesMoved n p) (sym (ap (λ (o : Ran). o.pair) (run_done p n h))) (ticks_count n p)

-- .. and a wait by as many as it spends, none where it is refused
pub wait_counts_lem : (p : Pair) (u : Unit) (limit : ℕ) → TalliesMoved (wait p u limit).count p (wait p u limit).pair
wait_counts_lem p u limit = subst (TalliesMoved (wait p u limit).count p) (wait_ticks p u limit) (ticks_count (wait p u limit).count p)
