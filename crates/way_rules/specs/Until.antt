-- A way until a character has come, request P12: the ticks up to the first after which one is unread, or as many as a limit has. A run, which does not
-- watch for one, does as many as its limit.
-- Assumes nothing.
use Rattle.std.specs.Prelude.{ℕ, zero, suc, ◌≤◌, ◌<◌, ◌≡◌, Bool, true, false, cond, ◌&&◌}
use Rattle.line_rules.specs.Sending.{on}
use Rattle.way_rules.specs.declared.Ends.{Ends}
use Rattle.way_rules.specs.declared.Way.{Way}
use Rattle.way_rules.specs.Leap.{Moved}
use Rattle.way_rules.specs.Along.{way_ticks}

-- the least number below a limit for which a test holds; the limit where there is none
abbrev pub least_below : ℕ → (ℕ → Bool) → ℕ
least_below zero t = zero
least_below (suc n) t = cond (t zero) zero (suc (least_below n (λ k. t (suc k))))

-- what that says: no number below it passes, and it passes itself where it is below the limit
pub record LeastBelow (n : ℕ) (t : ℕ → Bool) (m : ℕ) : Type 0 where
  pub within : m ≤ n
  pub none_before : (k : ℕ) → k < m → t k ≡ false
  pub there : m < n → t m ≡ true

-- its receiver holds an unread character
abbrev pub unread : Way → Bool
unread w = on w.receiver.unread

-- the least number of ticks after which it does, where that is watched for, or the limit
abbrev pub until_unread : Ends → Bool → ℕ → Way → ℕ
until_unread e watch n w = least_below n (λ k. watch && unread (way_ticks e k w))

-- .. and the way after them
abbrev pub done_until : Ends → Bool → ℕ → Way → Moved
done_until e watch n w = record { way = way_ticks e (until_unread e watch n w) w; ticks = until_unread e watch n w }
