-- What the reads of a run give, one after another; and of a way that flows the stamps: each step adds that of the character that it reads, and no
-- other. Request P4.
-- Assumes nothing.
use Prim.Native.Nat.{ℕ, suc, ◌+◌}
use native.Mathlib.Omega.{arith}
use mathlib.Core.Path.{◌≡◌, refl, ap, ◌∙◌}
use mathlib.Core.Bool.{Bool, true, false, cond, not, ◌&&◌}
use mathlib.Core.List.{List, [], ◌∷◌, map, reverse_aux}
use lib.ListN.{length, length-map}
use Rattle.line_rules.specs.declared.RxC.{RxC}
use Rattle.line_rules.specs.Sending.{bit}
use Rattle.delivery.specs.Log.{Entry, Way, log_arrival, log_read}
use Rattle.delivery.specs.OneWay.{Deed, Ticks, Writes, Reads, Passes, OneWay, Logged, getting, made, gets_of}
use Rattle.delivery.specs.Promise.{Fetched, all, but_one, Stamped, stamps_read}

-- whether one is unread is told by how many came and were read
counted : {u : Bool} {ys : List Entry} {vs : List ℕ} → Fetched u ys vs → length ys ≡ length vs + bit u
counted (all {ys}) = omega (arith, length-map ys (λ (y : Entry). y.value))
counted (but_one {ys = ys}) = omega (arith, length-map ys (λ (y : Entry). y.value))

same_bit : (u v : Bool) → bit u ≡ bit v → u ≡ v
same_bit true true e = refl
same_bit true false e = absurd (omega (arith, e))
same_bit false true e = absurd (omega (arith, e))
same_bit false false e = refl

same_unread : {u v : Bool} {ys : List Entry} {vs : List ℕ} → Fetched u ys vs → Fetched v ys vs → u ≡ v
same_unread {u} {v} a b = same_bit u v (omega (arith, counted a, counted b))

module _ (t : RxC) where
  passed : {u v : Bool} {ys : List Entry} {vs : List ℕ} → Fetched u ys vs → Fetched v ys vs → stamps_read t u ys ≡ stamps_read t v ys
  passed {ys = ys} a b = ap (λ (x : Bool). stamps_read t x ys) (same_unread a b)

  ticked : (u v : Bool) (now c : ℕ) (l : Way) → Fetched u l.came l.read → (let m = cond (not u && v) (log_arrival now c l) l in Fetched v m.came m.read)
      → stamps_read t u l.came ≡ stamps_read t v (cond (not u && v) (log_arrival now c l) l).came
  ticked true v now c l a b = passed a b
  ticked false true now c l a b = refl
  ticked false false now c l a b = refl

  -- a read of the one that is unread, the latest that came
  taken : (v : Bool) (s : RxC) (c : ℕ) (ys : List Entry) (vs : List ℕ) → Fetched true ys vs → Fetched v ys (c ∷ vs) → Stamped t s ys → s ∷ stamps_read t true ys ≡ stamps_read t v ys
  taken v s c [] vs a b h = absurd (omega (arith, counted a))
  taken true s c (y ∷ ys) vs a b h = absurd (omega (arith, counted a, counted b))
  taken false s c (y ∷ ys) vs a b h = ap (λ (r : RxC). r ∷ stamps_read t true (y ∷ ys)) h

  was_read : (u v : Bool) (s : RxC) (c : ℕ) (l : Way) → Fetched u l.came l.read → (let m = cond u (log_read c l) l in Fetched v m.came m.read) → Stamped t s l.came
      → cond u (s ∷ stamps_read t u l.came) (stamps_read t u l.came) ≡ stamps_read t v (cond u (log_read c l) l).came
  was_read true v s c l a b h = taken v s c l.came l.read a b h
  was_read false v s c l a b h = passed a b

  -- what the stamps of the reads are, by the log
  abbrev pub got : {W X : Type 0} → OneWay W X → Logged W → List RxC
  got o w = stamps_read t (o.unread w.bench) w.log.came

  module _ {W X : Type 0} (o : OneWay W X) (w : Logged W) (e : W) (h : Stamped t (o.stamp w.bench) w.log.came) where
    -- a step adds what it reads
    pub got_on : (k : Deed) → let v = made o w e k in
        Fetched (o.unread w.bench) w.log.came w.log.read → Fetched (o.unread e) v.log.came v.log.read
        → getting (o.unread w.bench) (o.stamp w.bench) k (got o w) ≡ got o v
    got_on Ticks a b = ticked (o.unread w.bench) (o.unread e) (suc w.now) (o.character e) w.log a b
    got_on (Writes x) a b = passed a b
    got_on Reads a b = was_read (o.unread w.bench) (o.unread e) (o.stamp w.bench) (o.character w.bench) w.log a b h
    got_on Passes a b = passed a b

-- == what reads give ==

-- a part of it
getting_map : {A B : Type 0} (g : A → B) (u : Bool) (c : A) (k : Deed) (vs : List A) → map g (getting u c k vs) ≡ getting u (g c) k (map g vs)
getting_map g u c Ticks vs = refl
getting_map g u c (Writes v) vs = refl
getting_map g true c Reads vs = refl
getting_map g false c Reads vs = refl
getting_map g u c Passes vs = refl

pub gets_map : {A B W X : Type 0} (o : OneWay W X) (g : A → B) (c : W → A) (w : W) (xs : List X) → map g (gets_of o c w xs) ≡ gets_of o (λ v. g (c v)) w xs
gets_map o g c w [] = refl
gets_map o g c w (x ∷ xs) = getting_map g (o.unread w) (c w) (o.deed w x) _ ∙ ap (getting (o.unread w) (g (c w)) (o.deed w x)) (gets_map o g c (o.next w x) xs)

-- what a step adds stands before what others add behind it
pub behind : {A : Type 0} (u : Bool) (c : A) (k : Deed) (vs ws : List A) → reverse_aux (getting u c k vs) ws ≡ reverse_aux vs (getting u c k ws)
behind u c Ticks vs ws = refl
behind u c (Writes v) vs ws = refl
behind true c Reads vs ws = refl
behind false c Reads vs ws = refl
behind u c Passes vs ws = refl
