-- A way until a character is unread: ticks that are done at once bring none, and what a turn of the run leaves is to be waited for still.
-- And that the least number below a limit is that: it is the limit at most, no number below it passes the test, and it does where it is below the limit.
-- Assumes nothing.
use Prim.Native.Nat.{ℕ, zero, suc, ◌+◌, ◌-◌, ◌≤◌, ◌<◌}
use native.Mathlib.Nat.{zero-add, suc-add}
use native.Mathlib.Omega.{arith}
use mathlib.Core.Path.{◌≡◌, refl, ap, ap₂, sym, subst, ◌∙◌}
use mathlib.Core.Bool.{Bool, true, false, cond, not, ◌&&◌, true≢false}
use lib.Dec.{ltb}
use borrow.Author.Tests.{lt-ltb, ltb-true}
use Rattle.line_rules.specs.declared.Arrival.{Arrival}
use Rattle.line_rules.proofs.Choice.{either, not_so}
use Rattle.line_rules.proofs.Table.{both}
use Rattle.link_rules.specs.Hearing.{arrives}
use Rattle.link_rules.proofs.Halves.{unread_after}
use Rattle.way_rules.specs.declared.Ends.{Ends}
use Rattle.way_rules.specs.declared.Way.{Way}
use Rattle.way_rules.specs.Leap.{Moved}
use Rattle.way_rules.specs.Along.{sent, received, way_tick, way_ticks}
use Rattle.way_rules.specs.Calm.{way_calm, way_skipped}
use Rattle.way_rules.specs.Until.{least_below, unread, until_unread, done_until, LeastBelow}
use Rattle.way_rules.proofs.Ways.{skips, ticks_add}

-- == the least number below a limit ==

least_step : (n : ℕ) (t : ℕ → Bool) (m : ℕ) (b : Bool) → t zero ≡ b → LeastBelow n (λ k. t (suc k)) m → LeastBelow (suc n) t (cond b zero (suc m))
least_step n t m true e l = record { within = omega arith; none_before = λ k h. absurd (omega arith); there = λ h. e }
least_step n t m false e l = record { within = omega (arith, l.within); none_before = before; there = λ h. l.there (omega arith) }
  where
    before : (k : ℕ) → k < suc m → t k ≡ false
    before zero h = e
    before (suc k) h = l.none_before k (omega arith)

pub is_least : (n : ℕ) (t : ℕ → Bool) → LeastBelow n t (least_below n t)
is_least zero t = record { within = omega arith; none_before = λ k h. absurd (omega arith); there = λ h. absurd (omega arith) }
is_least (suc n) t = least_step n t (least_below n (λ k. t (suc k))) (t zero) refl (is_least n (λ k. t (suc k)))

-- tests that are alike have the same
pub same_below : (n : ℕ) (t s : ℕ → Bool) → ((k : ℕ) → t k ≡ s k) → least_below n t ≡ least_below n s
same_below zero t s h = refl
same_below (suc n) t s h = rw (h zero, same_below n (λ k. t (suc k)) (λ k. s (suc k)) (λ k. h (suc k)))

-- .. and where none passes it is the limit
pub none_below : (n : ℕ) (t : ℕ → Bool) → ((k : ℕ) → t k ≡ false) → least_below n t ≡ n
none_below zero t h = refl
none_below (suc n) t h = rw (h zero, none_below n (λ k. t (suc k)) (λ k. h (suc k)))

-- == what is unread stays so ==

tick_stays : (e : Ends) (w : Way) → unread w ≡ true → unread (way_tick e w) ≡ true
unfolding way_tick
tick_stays e w h =
    let x : Bool = (sent e w).level in
    unread_after w.receiver e.live e.hear x ∙ either (λ (b : Bool). b ≡ true) (arrives (λ (a : Arrival). true) (received e w x).heard) refl h

pub ticks_stay : (e : Ends) (k : ℕ) (w : Way) → unread w ≡ true → unread (way_ticks e k w) ≡ true
ticks_stay e zero w h = h
ticks_stay e (suc k) w h = ticks_stay e k (way_tick e w) (tick_stays e w h)

-- so none was before the last of ticks after which none is
none_yet : (watch : Bool) (e : Ends) (k : ℕ) (w : Way) → (watch && unread (way_ticks e k w)) ≡ false → (watch && unread w) ≡ false
none_yet false e k w h = refl
none_yet true e k w h = go (unread w) refl
  where
    go : (b : Bool) → unread w ≡ b → unread w ≡ false
    go true t = absurd (true≢false (sym (ticks_stay e k w t) ∙ h))
    go false t = t

-- == ticks that only count bring none ==

pub calm_brings_none : (e : Ends) (k : ℕ) (w : Way) → k ≤ way_calm e w → unread (way_ticks e k w) ≡ unread w
unfolding way_skipped
calm_brings_none e zero w h = refl
calm_brings_none e (suc k) w h = ap unread (sym (skips e (suc k) w (omega arith) h))

-- == the loop ==

module _ (e : Ends) (watch : Bool) where
  -- a turn does k ticks that bring none, and one more
  turn_on : (k n : ℕ) (w : Way) → (watch && unread (way_ticks e k w)) ≡ false → until_unread e watch (suc (k + n)) w ≡ suc (k + until_unread e watch n (way_tick e (way_ticks e k w)))
  turn_on zero n w u = rw (zero-add, zero-add, u)
  turn_on (suc k) n w u = rw (suc-add, suc-add, none_yet watch e (suc k) w u) (ap suc (turn_on k n (way_tick e w) u))

  turn_until : (k n : ℕ) (w : Way) → k < n → (watch && unread (way_ticks e k w)) ≡ false → until_unread e watch n w ≡ suc (k + until_unread e watch (n - k - 1) (way_tick e (way_ticks e k w)))
  turn_until k n w h u = ap (λ (m : ℕ). until_unread e watch m w) (let q : n ≡ suc (k + (n - k - 1)) = omega arith in q) ∙ turn_on k (n - k - 1) w u

  -- it goes on where a tick is left, and none is unread that is watched for ..
  pub goes_on : (n : ℕ) (w : Way) → (ltb 0 n && not (watch && unread w)) ≡ true → (0 < n) × ((watch && unread w) ≡ false)
  goes_on n w h =
      let t = both (ltb 0 n) (not (watch && unread w)) h in
      (ltb-true 0 n t.0, not_so (watch && unread w) t.1)

  -- .. and is over where neither is so
  pub over : (n : ℕ) (w : Way) → (ltb 0 n && not (watch && unread w)) ≡ false → until_unread e watch n w ≡ 0
  over zero w h = refl
  over (suc n) w h = go (watch && unread w) refl
    where
      go : (b : Bool) → (watch && unread w) ≡ b → until_unread e watch (suc n) w ≡ 0
      go true t = rw t
      go false t = absurd (true≢false (sym (rw (lt-ltb 0 (suc n) (omega arith), t)) ∙ h))

  -- what the turns so far have left: n - left ticks are done, and none of them was after the first that brought one
  pub record SoFar (n : ℕ) (w : Way) (left : ℕ) (v : Way) : Type 0 where
    pub no_more : left ≤ n
    pub way : v ≡ way_ticks e (n - left) w
    pub rest : until_unread e watch n w ≡ n - left + until_unread e watch left v

  pub begins : (n : ℕ) (w : Way) → SoFar n w n w
  begins n w =
      let z : n - n ≡ 0 = omega arith in
      record { no_more = omega arith; way = sym (ap (λ (k : ℕ). way_ticks e k w) z); rest = omega (arith, z) }

  pub turns : (n : ℕ) (w : Way) (left : ℕ) (v : Way) (k : ℕ) → SoFar n w left v → k < left → (watch && unread (way_ticks e k v)) ≡ false → SoFar n w (left - k - 1) (way_tick e (way_ticks e k v))
  turns n w left v k s h u =
      let m : ℕ = until_unread e watch (left - k - 1) (way_tick e (way_ticks e k v)) in
      record {
        no_more = omega (arith, s.no_more);
        way =
            sym (ticks_add e k 1 v)
            ∙ ap (way_ticks e (k + 1)) s.way
            ∙ sym (ticks_add e (n - left) (k + 1) w)
            ∙ ap (λ (j : ℕ). way_ticks e j w) (let q : n - left + (k + 1) ≡ n - (left - k - 1) = omega (arith, s.no_more) in q);
        rest = s.rest ∙ ap (λ (j : ℕ). n - left + j) (turn_until k left v h u) ∙ (let q : n - left + suc (k + m) ≡ n - (left - k - 1) + m = omega (arith, s.no_more) in q);
      }

  pub ends : (n : ℕ) (w : Way) (left : ℕ) (v : Way) → SoFar n w left v → until_unread e watch left v ≡ 0 → record { way = v; ticks = n - left } ≡ done_until e watch n w
  ends n w left v s z =
      let same : n - left ≡ until_unread e watch n w = omega (arith, s.rest, z) in
      ap₂ (λ (x : Way) (k : ℕ). record { way = x; ticks = k }) (s.way ∙ ap (λ (k : ℕ). way_ticks e k w) same) same

-- == by whether it is watched for ==

-- a run does all of its ticks
pub unwatched : (e : Ends) (n : ℕ) (w : Way) → done_until e false n w ≡ record { way = way_ticks e n w; ticks = n }
unwatched e n w = ap (λ (k : ℕ). record { way = way_ticks e k w; ticks = k }) (none_below n (λ k. false) (λ k. refl))

pub ran_all : (e : Ends) (n : ℕ) (w : Way) (r : Moved) → r ≡ done_until e false n w → r.way ≡ way_ticks e n w
ran_all e n w r h = ap (λ (m : Moved). m.way) (h ∙ unwatched e n w)

-- .. and a wait as many as it tells
pub watched : (e : Ends) (n : ℕ) (w : Way) (r : Moved) → r ≡ done_until e true n w → r.way ≡ way_ticks e r.ticks w
watched e n w r h = subst (λ (m : Moved). m.way ≡ way_ticks e m.ticks w) (sym h) refl
