-- Lists of steps, one after another, and the times in the log.
-- Assumes nothing.
use Prim.Native.Nat.{ℕ, suc}
use native.Mathlib.Omega.{arith}
use mathlib.Core.Path.{◌≡◌, refl, ap, sym, ◌∙◌}
use mathlib.Core.Bool.{Bool, true, false, not, ◌&&◌}
use mathlib.Core.List.{List, [], ◌∷◌, ◌++◌}
use Rattle.line_rules.proofs.Choice.{either}
use Rattle.line_rules.proofs.Table.{both}
use Rattle.delivery.specs.Log.{Entry, Way}
use Rattle.delivery.specs.OneWay.{Deed, Ticks, Writes, Reads, Passes, OneWay, Logged, made, step, runs, allowed, all_allowed}
use Rattle.delivery.specs.Promise.{ByNow, nothing, one}

and_assoc : (a b c : Bool) → (a && (b && c)) ≡ (a && b && c)
and_assoc true b c = refl
and_assoc false b c = refl

module _ {W X : Type 0} (o : OneWay W X) where
  -- a run over two lists is a run over the second behind the first
  pub runs_append : (w : Logged W) (xs ys : List X) → runs o w (xs ++ ys) ≡ runs o (runs o w xs) ys
  runs_append w [] ys = refl
  runs_append w (x ∷ xs) ys = runs_append (step o w x) xs ys

  -- two lists are allowed, one after the other, exactly where the second one is allowed behind the first
  pub allowed_append : (L : ℕ) (w : Logged W) (xs ys : List X) → all_allowed o L w (xs ++ ys) ≡ (all_allowed o L w xs && all_allowed o L (runs o w xs) ys)
  allowed_append L w [] ys = refl
  allowed_append L w (x ∷ xs) ys =
      ap (λ (b : Bool). allowed o L w x && b) (allowed_append L (step o w x) xs ys) ∙ and_assoc (allowed o L w x) (all_allowed o L (step o w x) xs) (all_allowed o L (runs o (step o w x) xs) ys)

  -- so a list is allowed up to any of its steps, and what holds after every such list holds all along
  pub prefix_allowed : (L : ℕ) (w : Logged W) (xs ys : List X) → all_allowed o L w (xs ++ ys) ≡ true → all_allowed o L w xs ≡ true
  prefix_allowed L w xs ys h = (both (all_allowed o L w xs) (all_allowed o L (runs o w xs) ys) (sym (allowed_append L w xs ys) ∙ h)).0

  -- == times ==

  still_by : {now : ℕ} {xs : List Entry} → ByNow now xs → ByNow (suc now) xs
  still_by nothing = nothing
  still_by (one {x = x} h b) = one {x = x} (omega arith) (still_by b)

  step_by : (w : Logged W) (e : W) (k : Deed) → ByNow w.now w.log.written → ByNow (made o w e k).now (made o w e k).log.written
  step_by w e Ticks h =
      either (λ (l : Way). ByNow (suc w.now) l.written) (not (o.unread w.bench) && o.unread e) (still_by h) (still_by h)
  step_by w e (Writes v) h = one {x = record { at = w.now; value = v }} (omega arith) h
  step_by w e Reads h = either (λ (l : Way). ByNow w.now l.written) (o.unread w.bench) h h
  step_by w e Passes h = h

  -- what is written is logged by now
  pub written_by_now : (w : Logged W) (xs : List X) → ByNow w.now w.log.written → ByNow (runs o w xs).now (runs o w xs).log.written
  written_by_now w [] h = h
  written_by_now w (x ∷ xs) h = written_by_now (step o w x) xs (step_by w (o.next w.bench x) (o.deed w.bench x) h)
