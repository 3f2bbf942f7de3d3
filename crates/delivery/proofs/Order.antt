-- What the log has of the writes and the reads is what the steps say, so that the promise speaks of the steps' own values, the first one first.
-- Assumes nothing.
use Prim.Native.Nat.{ℕ, suc, ◌+◌, ◌≤◌}
use native.Mathlib.Omega.{arith}
use mathlib.Core.Path.{◌≡◌, refl, ap, ap₂, sym, subst, ◌∙◌}
use mathlib.Core.Bool.{Bool, true, false, cond, not, ◌&&◌, false≢true}
use mathlib.Core.List.{List, [], ◌∷◌, ◌++◌, map, reverse, reverse_aux, reverse-append, reverse-reverse, map-append, map-map}
use Rattle.line_rules.specs.declared.Format.{Format}
use Rattle.line_rules.specs.Sending.{cut}
use Rattle.delivery.specs.Log.{Entry, Way, log_arrival, log_read}
use Rattle.delivery.specs.OneWay.{Deed, Ticks, Writes, Reads, Passes, OneWay, latest, Logged, no_log, putting, getting, made, step, runs, puts, gets}
use Rattle.delivery.specs.Promise.{L, D, Answered, nothing, one, Delivered, all, due, values, Fetched, but_one, FirstWrites, InOrder, Promised, Finished, ByNow}

-- == the log by the steps ==

module _ {W X : Type 0} (o : OneWay W X) where
  -- what an arrival leaves of the log
  arrival_kept : {A : Type 0} (k : Way → A) (now v : ℕ) (l : Way) (b : Bool) → k (log_arrival now v l) ≡ k l → k (cond b (log_arrival now v l) l) ≡ k l
  arrival_kept k now v l true e = e
  arrival_kept k now v l false e = refl

  put_logged : (w : Logged W) (e : W) (k : Deed) (vs : List ℕ) → reverse_aux vs (values (made o w e k).log.written) ≡ reverse_aux (putting k vs) (values w.log.written)
  put_logged w e Ticks vs =
      ap (reverse_aux vs) (arrival_kept (λ l. values l.written) (suc w.now) (o.character e) w.log (not (o.unread w.bench) && o.unread e) refl)
  put_logged w e (Writes v) vs = refl
  put_logged w e Reads vs = go (o.unread w.bench)
    where
      go : (b : Bool) → reverse_aux vs (values (cond b (log_read (o.character w.bench) w.log) w.log).written) ≡ reverse_aux vs (values w.log.written)
      go true = refl
      go false = refl
  put_logged w e Passes vs = refl

  get_logged : (w : Logged W) (e : W) (k : Deed) (vs : List ℕ)
      → reverse_aux vs (made o w e k).log.read ≡ reverse_aux (getting (o.unread w.bench) (o.character w.bench) k vs) w.log.read
  get_logged w e Ticks vs =
      ap (reverse_aux vs) (arrival_kept (λ l. l.read) (suc w.now) (o.character e) w.log (not (o.unread w.bench) && o.unread e) refl)
  get_logged w e (Writes v) vs = refl
  get_logged w e Reads vs = go (o.unread w.bench)
    where
      c : ℕ
      c = o.character w.bench

      go : (b : Bool) → reverse_aux vs (cond b (log_read c w.log) w.log).read ≡ reverse_aux (cond b (c ∷ vs) vs) w.log.read
      go true = refl
      go false = refl
  get_logged w e Passes vs = refl

  puts_logged : (w : Logged W) (xs : List X) → values (runs o w xs).log.written ≡ reverse_aux (puts o w.bench xs) (values w.log.written)
  puts_logged w [] = refl
  puts_logged w (x ∷ xs) =
      puts_logged (step o w x) xs ∙ put_logged w (o.next w.bench x) (o.deed w.bench x) (puts o (o.next w.bench x) xs)

  gets_logged : (w : Logged W) (xs : List X) → (runs o w xs).log.read ≡ reverse_aux (gets o w.bench xs) w.log.read
  gets_logged w [] = refl
  gets_logged w (x ∷ xs) =
      gets_logged (step o w x) xs ∙ get_logged w (o.next w.bench x) (o.deed w.bench x) (gets o (o.next w.bench x) xs)

-- == the first one first ==

map_reverse : (f : ℕ → ℕ) (xs ys : List ℕ) → map f (reverse_aux xs ys) ≡ reverse_aux (map f xs) (map f ys)
map_reverse f [] ys = refl
map_reverse f (x ∷ xs) ys = map_reverse f xs (x ∷ ys)

-- lists that are the latest first
module _ (f : Format) (read written : List ℕ) (xs : List Entry) {vs : List ℕ} (e : vs ≡ reverse read) (q : values xs ≡ reverse written) where
  all_turned : vs ≡ map (λ (x : Entry). cut f x.value) xs → map (cut f) written ≡ read
  all_turned h =
      sym (reverse-reverse (map (cut f) written))
      ∙ ap reverse (sym (map_reverse (cut f) written []) ∙ ap (map (cut f)) (sym q) ∙ map-map (cut f) (λ (x : Entry). x.value) xs ∙ sym h ∙ e)
      ∙ reverse-reverse read

  turned : {finished : Type 0} → FirstWrites f vs xs → (finished → vs ≡ map (λ (x : Entry). cut f x.value) xs) → InOrder f finished read written
  turned w h =
      record {
        later = reverse (map (cut f) (values w.later));
        begins =
            ap (map (cut f)) (sym (reverse-reverse written) ∙ ap reverse (sym q ∙ ap values w.written ∙ map-append (λ (x : Entry). x.value) w.later w.first))
            ∙ ap (map (cut f)) (reverse-append (values w.later) (values w.first))
            ∙ map-append (cut f) (reverse (values w.first)) (reverse (values w.later))
            ∙ ap₂ (λ (x y : List ℕ). x ++ y)
            (map_reverse (cut f) (values w.first) [] ∙ ap reverse (map-map (cut f) (λ (x : Entry). x.value) w.first ∙ sym w.read ∙ e) ∙ reverse-reverse read)
            (map_reverse (cut f) (values w.later) []);
        all = λ k. all_turned (h k);
      }

-- == all of it ==

-- a write that is not due any more has come, and all before it
all_came : {f : Format} {now : ℕ} {ys : List Entry} (xs : List Entry) → Delivered f now ys xs → latest xs + (L f + D f) ≤ now → Answered f ys xs
all_came xs (all a) h = a
all_came (x ∷ xs) (due n d) h = absurd (omega (arith, n, h))

latest_by : {now : ℕ} (xs : List Entry) → ByNow now xs → latest xs ≤ now
latest_by [] nothing = omega arith
latest_by (x ∷ xs) (one h b) = h

-- so once L+D more joined ticks have passed, and nothing was written meanwhile, all that was written has come
pub comes_in_time : {W X : Type 0} {o : OneWay W X} {f : Format} (w v : Logged W) → ByNow w.now w.log.written → v.log.written ≡ w.log.written
    → w.now + (L f + D f) ≤ v.now → Promised o f v → Answered f v.log.came v.log.written
comes_in_time {f = f} w v b e h p =
    let by : latest v.log.written ≤ w.now = subst (λ (xs : List Entry). latest xs ≤ w.now) (sym e) (latest_by w.log.written b) in
    let passed : latest v.log.written + (L f + D f) ≤ v.now = omega (arith, by, h) in
    all_came v.log.written p.delivered passed

came_cut : {f : Format} {ys xs : List Entry} → Answered f ys xs → values ys ≡ map (λ (x : Entry). cut f x.value) xs
came_cut nothing = refl
came_cut (one a b) = ap₂ (λ (v : ℕ) (vs : List ℕ). v ∷ vs) a.value (came_cut b)

pub all_fetched : {u : Bool} {ys : List Entry} {vs : List ℕ} → Fetched u ys vs → u ≡ false → vs ≡ values ys
all_fetched all e = refl
all_fetched but_one e = absurd (false≢true (sym e))

-- where L+D joined ticks have passed since the latest write, and nothing is unread, what was read is all that was written, cut
pub all_read : {W X : Type 0} {o : OneWay W X} {f : Format} {w : Logged W} → Promised o f w → Finished o f w
    → w.log.read ≡ map (λ (x : Entry). cut f x.value) w.log.written
all_read {f = f} {w = w} p h = all_fetched p.unread h.read ∙ came_cut (all_came w.log.written p.delivered h.passed)

-- what was read is a beginning of what was written, cut, and all of it where the run is finished
pub reads_in_order : {W X : Type 0} (o : OneWay W X) (f : Format) (w : W) (xs : List X) → Promised o f (runs o (no_log w) xs)
    → InOrder f (Finished o f (runs o (no_log w) xs)) (gets o w xs) (puts o w xs)
reads_in_order o f w xs p =
    turned f (gets o w xs) (puts o w xs) (runs o (no_log w) xs).log.written (gets_logged o (no_log w) xs) (puts_logged o (no_log w) xs) p.reads (λ h. all_read p h)
