-- A wait is made of steps that are allowed on the way to its unit; and under demand 3's premises of that way, with a character written for the unit still
-- to come and a limit of L+D or more, it stops with a character after L+D joined ticks at most: request P12.
-- Assumes nothing.
use Prim.Native.Nat.{ℕ, ◌+◌, ◌≤◌}
use native.Mathlib.Omega.{arith}
use mathlib.Core.Path.{◌≡◌, refl, ap, sym, subst, ◌∙◌}
use mathlib.Core.Bool.{Bool, true, false, true≢false}
use mathlib.Core.List.{List, ◌++◌}
use lib.Dec.{ltb}
use lib.ListN.{replicate}
use borrow.Author.Tests.{ltb-true, ltb-false}
use Rattle.line_rules.specs.declared.Format.{Format}
use Rattle.line_rules.specs.Sending.{frame_length}
use Rattle.line_rules.proofs.Choice.{all}
use Rattle.way_rules.specs.Until.{LeastBelow}
use Rattle.ins2651_rules.specs.Modes.{send_format}
use Rattle.delivery.specs.OneWay.{Logged, no_log}
use Rattle.delivery.specs.OneWay as one_way
use Rattle.delivery.specs.Promise.{L, D, Promised, nothing}
use Rattle.delivery.specs.Joined.{Side, A, B}
use Rattle.delivery.proofs.Lists.{allowed_append, runs_append, written_by_now}
use Rattle.delivery.proofs.Awaited.{quiet_allowed, brings_one}
use Rattle.joined_rules.specs.declared.Pair.{Pair}
use Rattle.line_rules.specs.declared.Unit.{Unit}
use Rattle.line_rules.specs.declared.Unit.TheVariants as unit
use Rattle.joined_rules.specs.Joining.{tick, ticks}
use Rattle.joined_rules.specs.Bench.{device_at, Step, Tick, all_moved, way_from}
use Rattle.joined_rules.specs.Demand3.{Settings, settings_at, Proper, sends, Agree, FromReset, FreshlySetUp, fresh, all_allowed, Open}
use Rattle.joined_rules.specs.Waiting.{unread, ticks_until, waited, sender_to, StopsInTime, Stops}
use Rattle.joined_rules.proofs.Waits.{wait_done, wait_least}
use Rattle.joined_rules.proofs.Promised.{log_moved, ticks_are_the_run, one_way_right, sends_is, is_open, ok_each}

-- a joined tick is one on every way, and leaves it alone
tick_ticks : (s : Side) (p : Pair) → (way_from s).deed p Tick ≡ one_way.Ticks
tick_ticks A p = refl
tick_ticks B p = refl

tick_steady : (s : Side) (p : Pair) → (way_from s).steady p Tick ≡ true
tick_steady A p = refl
tick_steady B p = refl

-- what a way's log sees of the unit
sees : (u : Unit) (p : Pair) → (way_from (sender_to u)).unread p ≡ unread u p
sees unit.A p = refl
sees unit.B p = refl

module _ (u : Unit) (w : Logged Pair) where
  abbrev o : one_way.OneWay Pair Step
  o = way_from (sender_to u)

  -- the wait's test, by the log
  seen : (k : ℕ) → o.unread (one_way.runs o w (replicate k Tick)).bench ≡ unread u (ticks k w.bench)
  seen k = ap o.unread (log_moved (sender_to u) w (replicate k Tick) ∙ ticks_are_the_run k w.bench) ∙ sees u (ticks k w.bench)

  -- its ticks are allowed on the way to the unit, whatever the frame's length: before each of them nothing is unread
  pub wait_allowed : (l limit : ℕ) → one_way.all_allowed o l w (replicate (ticks_until w.bench u limit) Tick) ≡ true
  wait_allowed l limit =
      quiet_allowed o Tick (tick_ticks (sender_to u)) (tick_steady (sender_to u)) l (ticks_until w.bench u limit) w
      (λ k h. seen k ∙ (wait_least w.bench u limit).none_before k h)

  -- where one of the L+D next brings one, it stops there
  stops : (f : Format) (limit : ℕ) → L f + D f ≤ limit → (((k : ℕ) → k ≤ L f + D f → o.unread (one_way.runs o w (replicate k Tick)).bench ≡ false) → ⊥)
      → StopsInTime f u (waited w.bench u limit)
  stops f limit h brings = record { done = refl; in_time_lem = soon (ltb (L f + D f) c) refl; there = found (unread u (ticks c w.bench)) refl }
    where
      c : ℕ
      c = ticks_until w.bench u limit

      least : LeastBelow limit (λ k. unread u (ticks k w.bench)) c
      least = wait_least w.bench u limit

      soon : (b : Bool) → ltb (L f + D f) c ≡ b → c ≤ L f + D f
      soon true e = absurd (brings (λ k z. seen k ∙ least.none_before k (omega (arith, ltb-true (L f + D f) c e))))
      soon false e = ltb-false (L f + D f) c e

      -- one that it did not stop with was not there before either
      none : unread u (ticks c w.bench) ≡ false → (k : ℕ) (b : Bool) → ltb k c ≡ b → k ≤ L f + D f → unread u (ticks k w.bench) ≡ false
      none e k true t z = least.none_before k (ltb-true k c t)
      none e k false t z = ap (λ (m : ℕ). unread u (ticks m w.bench)) (last (ltb c limit) refl) ∙ e
        where
          last : (b : Bool) → ltb c limit ≡ b → k ≡ c
          last true l = absurd (true≢false (sym (least.there (ltb-true c limit l)) ∙ e))
          last false l = omega (arith, ltb-false c limit l, ltb-false k c t, h, z)

      found : (b : Bool) → unread u (ticks c w.bench) ≡ b → unread u (ticks c w.bench) ≡ true
      found true e = e
      found false e = absurd (brings (λ k z. seen k ∙ none e k (ltb k c) refl z))

-- after any set-up that leaves the way to the unit open, and any steps that are allowed on it
module _ (u : Unit) (p : Pair) (us : List Step) (up : FromReset us) (opened : Open (sender_to u) (all_moved p us)) (ss : List Step) where
  abbrev f : Format
  f = send_format (device_at (sender_to u) (all_moved p us)).registers

  abbrev way : one_way.OneWay Pair Step
  way = way_from (sender_to u)

  abbrev end : Logged Pair
  end = one_way.runs way (no_log (tick (all_moved p us)).pair) ss

  module _ (ok : one_way.all_allowed way (frame_length f) (no_log (tick (all_moved p us)).pair) ss ≡ true) where
    -- the promise holds behind every further list that is allowed
    further : (xs : List Step) → one_way.all_allowed way (frame_length f) end xs ≡ true → Promised way f (one_way.runs way end xs)
    further xs h =
        subst (Promised way f) (runs_append way (no_log (tick (all_moved p us)).pair) ss xs)
        (one_way_right (sender_to u) p us up opened (ss ++ xs) (allowed_append way (frame_length f) (no_log (tick (all_moved p us)).pair) ss xs ∙ all ok h))

    pub one_way_waits : Stops f u end
    one_way_waits awaited limit h most =
        subst (StopsInTime f u) (sym (wait_done end.bench u limit most))
        (stops u end f limit h
        (brings_one way Tick (tick_ticks (sender_to u)) (tick_steady (sender_to u)) f end further (written_by_now way (no_log (tick (all_moved p us)).pair) ss nothing) awaited))

-- both ways at once: demand 3's own premises
module _ (a b : Settings) (pa : Proper a) (pb : Proper b) (agree : Agree a b) (p : Pair) (us : List Step) (up : FreshlySetUp a b p us) (ss : List Step)
    (ok : all_allowed a b (fresh p us) ss ≡ true) (u : Unit) where
  abbrev then : Logged Pair
  then = one_way.runs (way_from (sender_to u)) (no_log (fresh p us).pair) ss

  pub demand_3_waits : Stops (sends (settings_at a b (sender_to u))) u then
  demand_3_waits =
      subst (λ (f : Format). Stops f u then) (sends_is a b pa pb agree p us up ss ok (sender_to u))
      (one_way_waits u p us up.from_reset (is_open a b pa pb agree p us up ss ok (sender_to u)) ss (ok_each a b pa pb agree p us up ss ok (sender_to u)))
