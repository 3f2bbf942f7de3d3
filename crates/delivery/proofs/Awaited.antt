-- A character that was written and has not come comes within L+D joined ticks, if nobody reads or writes meanwhile: request P12.
-- Assumes nothing.
use Prim.Native.Nat.{ℕ, zero, suc, ◌+◌, ◌≤◌, ◌<◌}
use native.Mathlib.Omega.{arith}
use mathlib.Core.Path.{◌≡◌, refl, ap, sym, subst, ◌∙◌}
use mathlib.Core.Bool.{true, false, not, ◌&&◌}
use mathlib.Core.List.{List, []}
use lib.ListN.{length, length-map, replicate}
use Rattle.line_rules.specs.declared.Format.{Format}
use Rattle.line_rules.specs.Sending.{frame_length}
use Rattle.line_rules.proofs.Choice.{all, either}
use Rattle.delivery.specs.Log.{Entry, Way}
use Rattle.delivery.specs.OneWay.{Deed, Ticks, OneWay, Logged, made, step, runs, permits, all_allowed}
use Rattle.delivery.specs.Promise.{L, D, Answered, nothing, one, Promised, ByNow, Awaited}
use Rattle.delivery.proofs.Order.{comes_in_time, all_fetched}

-- as many have come as were written
as_many : {f : Format} {ys xs : List Entry} → Answered f ys xs → length ys ≡ length xs
as_many nothing = refl
as_many (one a b) = ap suc (as_many b)

-- x is a joined tick, wherever it is done
module _ {W X : Type 0} (o : OneWay W X) (x : X) (ticking : (d : W) → o.deed d x ≡ Ticks) (steady : (d : W) → o.steady d x ≡ true) where
  -- the ticks
  abbrev pub run : ℕ → Logged W → Logged W
  run n w = runs o w (replicate n x)

  -- what one leaves: nothing is written and nothing read, and it counts
  record Quietly (n : ℕ) (w v : Logged W) : Type 0 where
    pub written : v.log.written ≡ w.log.written
    pub read : v.log.read ≡ w.log.read
    pub now : v.now ≡ w.now + n

  one_quietly : (w : Logged W) → Quietly 1 w (step o w x)
  one_quietly w =
      subst (λ (k : Deed). Quietly 1 w (made o w (o.next w.bench x) k)) (sym (ticking w.bench))
      (record {
        written = either (λ (l : Way). l.written ≡ w.log.written) (not (o.unread w.bench) && o.unread (o.next w.bench x)) refl refl;
        read = either (λ (l : Way). l.read ≡ w.log.read) (not (o.unread w.bench) && o.unread (o.next w.bench x)) refl refl;
        now = omega arith;
      })

  quietly : (n : ℕ) (w : Logged W) → Quietly n w (run n w)
  quietly zero w = record { written = refl; read = refl; now = omega arith }
  quietly (suc n) w =
      let a = one_quietly w in
      let b = quietly n (step o w x) in
      record { written = b.written ∙ a.written; read = b.read ∙ a.read; now = omega (arith, a.now, b.now) }

  -- ticks before which nothing is unread are allowed
  pub quiet_allowed : (l n : ℕ) (w : Logged W) → ((k : ℕ) → k < n → o.unread (run k w).bench ≡ false) → all_allowed o l w (replicate n x) ≡ true
  quiet_allowed l zero w h = refl
  quiet_allowed l (suc n) w h =
      all (all (steady w.bench) (subst (λ (k : Deed). permits o l w k ≡ true) (sym (ticking w.bench)) (rw (h zero (omega arith)))))
      (quiet_allowed l n (step o w x) (λ k z. h (suc k) (omega arith)))

  -- so one of the L+D next brings one
  module _ (f : Format) (w : Logged W) (right : (xs : List X) → all_allowed o (frame_length f) w xs ≡ true → Promised o f (runs o w xs)) (by : ByNow w.now w.log.written)
      (awaited : Awaited w) where
    pub brings_one : ((k : ℕ) → k ≤ L f + D f → o.unread (run k w).bench ≡ false) → ⊥
    brings_one none = omega (arith, awaited, came, later, same)
      where
        v : Logged W
        v = run (L f + D f) w

        q : Quietly (L f + D f) w v
        q = quietly (L f + D f) w

        promised : Promised o f v
        promised = right (replicate (L f + D f) x) (quiet_allowed (frame_length f) (L f + D f) w (λ k z. none k (omega arith)))

        -- all that came was read, now and then
        came : length w.log.read ≡ length w.log.came
        came = ap length (all_fetched (right [] refl).unread (none 0 (omega arith))) ∙ length-map w.log.came (λ (y : Entry). y.value)

        later : length w.log.read ≡ length v.log.came
        later = ap length (sym q.read ∙ all_fetched promised.unread (none (L f + D f) (omega arith))) ∙ length-map v.log.came (λ (y : Entry). y.value)

        same : length v.log.came ≡ length w.log.written
        same = as_many (comes_in_time w v by q.written (omega (arith, q.now)) promised) ∙ ap length q.written
