-- Which number a line is given, that a refused line changes nothing, what the counts of N count, and that a session's lines are steps of the bench.
-- Assumes nothing.
use mathlib.Core.Path.{◌≡◌, refl, sym, ◌∙◌, ap}
use mathlib.Core.List.{List, [], ◌∷◌, ◌++◌}
use mathlib.Core.Bool.{Bool, true, false, cond, false≢true}
use Prim.Native.Nat.{ℕ, suc, ◌≤◌, ◌<◌}
use native.Mathlib.Omega.{arith}
use borrow.Author.Tests.{eqb-true, eqb-false, ne_eqb, ltb-true}
use lib.Dec.{ltb, eqb}
use lib.ListN.{length}
use Rattle.fields.specs.Parted.{fields_of}
use Rattle.ins2651_rules.specs.declared.Device.{Device}
use Rattle.ins2651_rules.specs.RegisterReads.{read_register, read}
use Rattle.ins2651_rules.specs.Stamps.{stamp}
use Rattle.ins2651_rules.specs.Runs as chip
use Rattle.ins2651_rules.proofs.Refused.{given_exactly, answers_refusal, refused_unchanged}
use Rattle.joined_rules.specs.declared.Pair.{Pair}
use Rattle.joined_rules.specs.Bench.{Step, At, moved, all_moved}
use Rattle.joined_rules.specs.Joining.{ticks}
use Rattle.joined_rules.specs.Waiting.{Waited, side_of, ticks_until, wait}
use Rattle.joined_rules.proofs.Promised.{ticks_are_the_run}
use Rattle.joined_rules.proofs.Waits.{wait_refused, wait_done, wait_number, wait_ticks}
use Rattle.records.specs.declared.Record.{Record}
use Rattle.records.specs.declared.Record.TheVariants.{Write, Read, Pins, Reset, Ticks, Wait}
use Rattle.line_rules.specs.declared.Unit.{Unit}
use Rattle.line_rules.specs.declared.Unit.TheVariants as unit
use Rattle.ins2651_rules.specs.Rows.{refusal}
use Rattle.std.specs.Prelude.{Option, None, Some, Ok, Err}
use Rattle.ins2651_rules.specs.Refusals.{row, told}
use Rattle.ins2651_rules.proofs.Told.{number_row}
use Rattle.joined_rules.specs.Refused as long
use Rattle.session_rules.specs.declared.Shown.{Shown}
use Rattle.session_rules.specs.declared.Shown.TheVariants as shows
use Rattle.records.specs.Records.{record_of}
use Rattle.session_rules.specs.Calls.{device_of, put_back, by_chip, by_pair, shown, shown_by, obey, obey_known, line_reply, number}
use Rattle.session_rules.specs.Rows.{shapeless, waits_too_long, own_refusal, overlong, line_refusal, Exactly, line_refusals, given}
use Rattle.session_rules.specs.Steps.{record_steps, line_steps, all_steps, pair_after}
use Rattle.session_rules.specs.Whole.{answers, refusals}

-- == a wait ==

-- within its limit it says the least number of joined ticks that brings a character, or the limit (`wait_least` of `joined_rules`), and does as many
pub wait_says :
    (p : Pair) (unit : Unit) (limit : ℕ) → limit ≤ 65535
    → obey p (Wait unit limit) ≡ record { pair = ticks (ticks_until p unit limit) p; said = Ok (Some (shows.Waited unit (ticks_until p unit limit))) }
unfolding obey
wait_says p unit.A limit h = rw (wait_done p unit.A limit h)
wait_says p unit.B limit h = rw (wait_done p unit.B limit h)

-- == which number ==

-- a read leaves the stamp, so that what it answers has it
pub shown_by_lem : (d : Device) (unit : Unit) (address : ℕ) → shown_by unit address (read d address) ≡ shown d unit address
unfolding read read_register stamp
shown_by_lem d unit address = go (eqb address 0) refl
  where
    go : (b : Bool) → eqb address 0 ≡ b
        → cond b (shows.Held unit (read d address).value (read d address).device.receiver.stamp) (shows.Value unit address (read d address).value)
        ≡ cond b (shows.Held unit (read d address).value (stamp d)) (shows.Value unit address (read d address).value)
    go true e = ap (λ (a : ℕ). shows.Held unit (read d address).value (read d a).device.receiver.stamp) (eqb-true address 0 e)
    go false e = refl

-- of a call of the chip that answers one of the table's numbers
number_chip : (n : ℕ) (s : Option Shown) → n ≤ 5 → number (by_chip (told n s)) ≡ n
number_chip n s h = go (eqb n 0) refl
  where
    go : (t : Bool) → eqb n 0 ≡ t → number (by_chip (cond t (Ok s) (Err (row n)))) ≡ n
    go true e = sym (eqb-true n 0 e)
    go false e = let some = eqb-false n 0 e in number_row n (omega arith) h

-- of a wait
number_wait : (t : Bool) (s : Option Shown) → number (by_pair (long.told (cond t 21 0) s)) ≡ cond t 21 0
number_wait true s = refl
number_wait false s = refl

-- of a call of the chip: its table's
call_number : (d : Device) (c : chip.Call) (s : Option Shown) → number (by_chip (told (chip.said d c).refusal s)) ≡ refusal d c
call_number d c s = number_chip (chip.said d c).refusal s (rw answers_refusal (given_exactly d c).most) ∙ answers_refusal d c

-- a record's number: 6 for no shape, else the call's own
record_number : (p : Pair) (r : Option Record) → number (obey_known p r).said ≡ cond (shapeless r) 6 (own_refusal p r)
unfolding obey
record_number p (Some (Write unit address v)) = call_number (device_of p unit) (chip.Write address v) None
record_number p (Some (Read unit address)) = call_number (device_of p unit) (chip.Read address) (Some (shown (device_of p unit) unit address))
record_number p (Some (Pins unit dsr dcd cts)) = call_number (device_of p unit) (chip.SetPins dsr dcd cts) None
record_number p (Some (Reset unit)) = refl
record_number p (Some (Ticks count)) = refl
record_number p (Some (Wait unit limit)) = rw wait_number (number_wait (ltb 65535 limit) _)
record_number p None = refl

pub line_number : (p : Pair) (l : List ℕ) → number (line_reply p l).said ≡ line_refusal p l
unfolding line_reply
line_number p l = go (overlong l) refl
  where
    go : (t : Bool) → overlong l ≡ t → number (line_reply p l).said ≡ line_refusal p l
    go true e = rw e
    go false e = rw e (record_number p (record_of (fields_of l)))

-- a call's own number is neither 7 nor 6, and 21 for a wait that is too long alone
abbrev Own : ℕ → Bool → Type 0
Own n above = (eqb n 7 ≡ false) × (eqb n 6 ≡ false) × (eqb n 21 ≡ above)

-- .. as one up to 5, of the device
own_device : (n : ℕ) → n ≤ 5 → Own n false
own_device n h = (ne_eqb n 7 (λ e. omega arith), ne_eqb n 6 (λ e. omega arith), ne_eqb n 21 (λ e. omega arith))

own_number : (p : Pair) (r : Option Record) → Own (own_refusal p r) (waits_too_long r)
own_number p (Some (Write unit address v)) = own_device _ (given_exactly (device_of p unit) (chip.Write address v)).most
own_number p (Some (Read unit address)) = own_device _ (given_exactly (device_of p unit) (chip.Read address)).most
own_number p (Some (Pins unit dsr dcd cts)) = own_device _ (given_exactly (device_of p unit) (chip.SetPins dsr dcd cts)).most
own_number p (Some (Reset unit)) = (refl, refl, refl)
own_number p (Some (Ticks count)) = (refl, refl, refl)
own_number p (Some (Wait unit limit)) = go (ltb 65535 limit)
  where
    go : (t : Bool) → Own (cond t 21 0) t
    go true = (refl, refl, refl)
    go false = (refl, refl, refl)
own_number p None = (refl, refl, refl)

-- no shape is no wait
none_waits : (r : Option Record) → shapeless r ≡ true → waits_too_long r ≡ false
none_waits (Some (Write unit address v)) e = refl
none_waits (Some (Read unit address)) e = refl
none_waits (Some (Pins unit dsr dcd cts)) e = refl
none_waits (Some (Reset unit)) e = refl
none_waits (Some (Ticks count)) e = refl
none_waits (Some (Wait unit limit)) e = absurd (false≢true e)
none_waits None e = refl

pub exactly :
    (p : Pair) (l : List ℕ)
    → Exactly (line_refusal p l) (own_refusal p (record_of (fields_of l))) (overlong l) (shapeless (record_of (fields_of l))) (waits_too_long (record_of (fields_of l)))
exactly p l = go (overlong l) (shapeless r) (waits_too_long r) (own_number p r) (none_waits r)
  where
    r : Option Record
    r = record_of (fields_of l)

    go : (t u v : Bool) → Own (own_refusal p r) v → (u ≡ true → v ≡ false) → Exactly (cond t 7 (cond u 6 (own_refusal p r))) (own_refusal p r) t u v
    go true u v h z = record { seven = refl; six = refl; twenty_one = refl; itself = λ e f. absurd (false≢true (sym e)) }
    go false true v h z = record { seven = refl; six = refl; twenty_one = sym (z refl); itself = λ e f. absurd (false≢true (sym f)) }
    go false false v h z = record { seven = h.0; six = h.1; twenty_one = h.2; itself = λ e f. refl }

-- == a refused line changes nothing ==

back : (p : Pair) (unit : Unit) {d : Device} → d ≡ device_of p unit → put_back p unit d ≡ p
back p unit.A e = rw e
back p unit.B e = rw e

record_keeps : (p : Pair) (r : Option Record) → (cond (shapeless r) 6 (own_refusal p r) ≡ 0 → ⊥) → (obey_known p r).pair ≡ p
unfolding obey
record_keeps p (Some (Write unit address v)) h = back p unit (refused_unchanged (device_of p unit) (chip.Write address v) h).device
record_keeps p (Some (Read unit address)) h = back p unit (refused_unchanged (device_of p unit) (chip.Read address) h).device
record_keeps p (Some (Pins unit dsr dcd cts)) h = back p unit (refused_unchanged (device_of p unit) (chip.SetPins dsr dcd cts) h).device
record_keeps p (Some (Reset unit)) h = absurd (h refl)
record_keeps p (Some (Ticks count)) h = absurd (h refl)
record_keeps p (Some (Wait unit limit)) h =
    ap (λ (w : Waited). w.pair) (wait_refused p unit limit (above (ltb 65535 limit) refl h))
  where
    above : (t : Bool) → ltb 65535 limit ≡ t → (◌≡◌ {A = ℕ} (cond t 21 0) 0 → ⊥) → 65535 < limit
    above true e h = ltb-true 65535 limit e
    above false e h = absurd (h refl)
record_keeps p None h = refl

pub refused_keeps : (p : Pair) (l : List ℕ) → (line_refusal p l ≡ 0 → ⊥) → (line_reply p l).pair ≡ p
unfolding line_reply
refused_keeps p l h = go (overlong l) refl
  where
    go : (t : Bool) → overlong l ≡ t → (line_reply p l).pair ≡ p
    go true e = rw e
    go false e = rw e (record_keeps p (record_of (fields_of l)) (rw e at h))

-- == the counts of N ==

-- the refusals are the lines that are given a number
pub refusals_given : (p : Pair) (ls : List (List ℕ)) → refusals (answers p ls) ≡ given (line_refusals p ls)
refusals_given p [] = refl
refusals_given p (l ∷ ls) = rw line_number (ap (λ (k : ℕ). cond (ltb 0 (line_refusal p l)) (suc k) k) (refusals_given (line_reply p l).pair ls))

pub as_many_answers : (p : Pair) (ls : List (List ℕ)) → length (answers p ls) ≡ length ls
as_many_answers p [] = refl
as_many_answers p (l ∷ ls) = ap suc (as_many_answers (line_reply p l).pair ls)

-- == steps of the bench ==

pub moved_append : (p : Pair) (ss ts : List Step) → all_moved p (ss ++ ts) ≡ all_moved (all_moved p ss) ts
moved_append p [] ts = refl
moved_append p (s ∷ ss) ts = moved_append (moved p s) ss ts

call_moves : (p : Pair) (unit : Unit) (c : chip.Call) → moved p (At (side_of unit) c) ≡ put_back p unit (chip.next (device_of p unit) c)
call_moves p unit.A c = refl
call_moves p unit.B c = refl

record_moves : (p : Pair) (r : Option Record) → all_moved p (record_steps p r) ≡ (obey_known p r).pair
unfolding obey
record_moves p (Some (Write unit address v)) = call_moves p unit (chip.Write address v)
record_moves p (Some (Read unit address)) = call_moves p unit (chip.Read address)
record_moves p (Some (Pins unit dsr dcd cts)) = call_moves p unit (chip.SetPins dsr dcd cts)
record_moves p (Some (Reset unit)) = call_moves p unit chip.Reset
record_moves p (Some (Ticks count)) = ticks_are_the_run count p
record_moves p (Some (Wait unit limit)) = ticks_are_the_run (wait p unit limit).count p ∙ wait_ticks p unit limit
record_moves p None = refl

pub line_moves : (p : Pair) (l : List ℕ) → all_moved p (line_steps p l) ≡ (line_reply p l).pair
unfolding line_reply
line_moves p l = go (overlong l) refl
  where
    go : (t : Bool) → overlong l ≡ t → all_moved p (line_steps p l) ≡ (line_reply p l).pair
    go true e = rw e
    go false e = rw e (record_moves p (record_of (fields_of l)))

-- the two devices after a session's lines are those after their steps: what demand 3 says of the steps it says of the lines
pub lines_are_steps : (p : Pair) (ls : List (List ℕ)) → all_moved p (all_steps p ls) ≡ pair_after p ls
lines_are_steps p [] = refl
lines_are_steps p (l ∷ ls) =
    let after : Pair = (line_reply p l).pair in
    moved_append p (line_steps p l) (all_steps after ls)
    ∙ ap (λ (q : Pair). all_moved q (all_steps after ls)) (line_moves p l)
    ∙ lines_are_steps after ls
