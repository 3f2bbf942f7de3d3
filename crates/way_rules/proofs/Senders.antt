-- The sender: a tick that only counts does what skipping one does, and what is skipped in parts is skipped at once.
-- Assumes nothing.
use Prim.Native.Nat.{ℕ, suc, ◌+◌, ◌*◌, ◌-◌, ◌/◌, ◌%◌, ◌≤◌, ◌<◌}
use native.Mathlib.Nat.{mod-eq_of_lt, mul_comm, div-add-mod', mul-add-mod_self_left, div-eq_of_lt-le, le-div_iff_mul-le}
use native.Mathlib.Omega.{arith}
use mathlib.Core.Path.{◌≡◌, refl, ap, sym, ◌∙◌}
use mathlib.Core.Bool.{Bool, true, false, cond, ◌&&◌, true≢false}
use lib.Dec.{ltb, eqb}
use borrow.Author.Tests.{lt-ltb, ltb-true, ltb-false, le-leb, leb-true, eqb-true, ne_eqb}
use Rattle.line_rules.specs.declared.Format.{Format}
use Rattle.line_rules.specs.Sending.{bit, on, parity_bits, frame_length, level_of, level}
use Rattle.line_rules.proofs.Choice.{either, each, not_so}
use Rattle.line_rules.proofs.Frames.{level_stop}
use Rattle.line_rules.proofs.Table.{both}
use Rattle.link_rules.specs.declared.Frame.{Frame}
use Rattle.link_rules.specs.declared.SenderHalf.{SenderHalf}
use Rattle.link_rules.specs.Parts.{no_frame, with_frame, with_guard, sender_later}
use Rattle.link_rules.specs.Transmitting.{Sent, next_place, frame_at, frame_next, frame_tick, break_tick, mark_tick, transmit}
use Rattle.link_rules.proofs.Halves.{transmit_under}
use Rattle.way_rules.specs.declared.Ends.{Ends}
use Rattle.way_rules.specs.Calm.{endless, breaks, places_left, sender_calm, stopping, bit_left, frame_holds, sender_level, sender_holds, sender_keeps, sender_moved, sender_skipped}
use Rattle.way_rules.proofs.Branches.{Least, least_both}
use Rattle.way_rules.proofs.Later.{sender_next}

-- a count that is not 0
pub endless_so : (t : Bool) → 1 ≤ endless t → t ≡ true
endless_so true h = refl
endless_so false h = absurd (omega arith)

-- == within a frame ==

-- the frame at another place
abbrev pub at : SenderHalf → ℕ → SenderHalf
at s j = with_frame s (frame_at s.frame j)

-- a frame has the places that are left
module _ (g : Frame) (k : ℕ) (h : suc k ≤ places_left g) where
  pub within : Least (frame_length g.format) 65536 (suc (g.place + suc k))
  within =
      let b = least_both (frame_length g.format) 65536 in
      record { first = omega arith; second = omega arith }

  pub moves : (g.place + suc k) % 65536 ≡ g.place + suc k
  moves = mod-eq_of_lt (omega (arith, within.second))

-- the stop is at 1
pub stop_level : (g : Frame) → stopping g ≡ true → level g.format g.character g.place ≡ true
stop_level g e =
    let t = both (on g.format.factor) _ e in
    level_stop g.format g.character g.place (ltb-true 0 g.format.factor t.0) (omega (arith, leb-true (frame_length g.format) (g.place + g.format.stop) t.1))

module _ (s : SenderHalf) (h : 1 ≤ places_left s.frame) where
  abbrev i : ℕ
  i = s.frame.place

  abbrev f : Format
  f = s.frame.format

  next_is : next_place f i ≡ i + 1
  next_is =
      let w = within s.frame 0 h in
      rw (moves s.frame 0 h, lt-ltb (i + 1) (frame_length f) (omega (arith, w.first)))

  pub frame_is : frame_next s.frame ≡ frame_at s.frame (i + 1)
  frame_is = ap (λ (n : ℕ). cond (on n) (frame_at s.frame n) no_frame) next_is ∙ rw (lt-ltb 0 (i + 1) (omega arith))

  pub frame_stays : (frame_tick s s.frame false).drained ≡ false
  frame_stays = ap (λ (n : ℕ). eqb n 0 && eqb s.full 0) next_is ∙ rw (ne_eqb (i + 1) 0 (λ e. omega arith))

-- == what skipping is, and what is sent, by what the sender does ==

module _ (e : Ends) (s : SenderHalf) where
  pub skips_frame : (k : ℕ) → on s.frame.place ≡ true → sender_skipped e k s ≡ sender_later k (at s ((s.frame.place + k) % 65536))
  unfolding sender_skipped sender_moved
  skips_frame k t = rw t

  skips_break : (k : ℕ) → on s.frame.place ≡ false → breaks e ≡ true → sender_skipped e k s ≡ sender_later k s
  unfolding sender_skipped sender_moved
  skips_break k t b = rw (t, b)

  skips_mark : (k : ℕ) → on s.frame.place ≡ false → breaks e ≡ false → sender_skipped e k s ≡ sender_later k (with_guard s (s.guard - k))
  unfolding sender_skipped sender_moved
  skips_mark k t b = rw (t, b)

  pub frame_calm : on s.frame.place ≡ true → sender_calm e s ≡ places_left s.frame
  unfolding sender_calm
  frame_calm t = rw t

  guard_calm : on s.frame.place ≡ false → breaks e ≡ false → on s.guard ≡ true → sender_calm e s ≡ s.guard
  unfolding sender_calm
  guard_calm t b g = rw (t, b, g)

  pub frame_holds_lem : on s.frame.place ≡ true → sender_holds e s ≡ frame_holds s.frame
  unfolding sender_holds
  frame_holds_lem t = rw t

  pub break_holds : on s.frame.place ≡ false → breaks e ≡ true → sender_holds e s ≡ 65535
  unfolding sender_holds
  break_holds t b = rw (t, b)

  pub guard_holds : on s.frame.place ≡ false → breaks e ≡ false → on s.guard ≡ true → sender_holds e s ≡ s.guard
  unfolding sender_holds
  guard_holds t b g = rw (t, b, g)

  pub rest_holds : on s.frame.place ≡ false → breaks e ≡ false → on s.guard ≡ false → sender_holds e s ≡ 65535
  unfolding sender_holds
  rest_holds t b g = rw (t, b, g)

  frame_level : on s.frame.place ≡ true → sender_level e s ≡ level s.frame.format s.frame.character s.frame.place
  frame_level t = ap (λ (o : Sent). o.level) (transmit_under s e.ready e.broken e.send t)

  pub break_tick_lem : on s.frame.place ≡ false → breaks e ≡ true → transmit s e.ready e.broken e.send ≡ break_tick (sender_later 1 s) e.send
  unfolding transmit
  break_tick_lem t b = rw (t, b)

  pub guard_tick : on s.frame.place ≡ false → breaks e ≡ false → on s.guard ≡ true → transmit s e.ready e.broken e.send ≡ mark_tick (sender_later 1 s)
  unfolding transmit
  guard_tick t b g = rw (t, b, g)

  pub rest_tick : on s.frame.place ≡ false → breaks e ≡ false → on s.guard ≡ false → (e.ready && on s.full) ≡ false → transmit s e.ready e.broken e.send ≡ mark_tick (sender_later 1 s)
  unfolding transmit
  rest_tick t b g w = rw (t, b, g, w)

  -- the cases of a tick that only counts
  by_sender : {P : Type 0} → 1 ≤ sender_calm e s
      → (on s.frame.place ≡ true → 1 ≤ places_left s.frame → P)
      → (on s.frame.place ≡ false → breaks e ≡ true → s.guard ≡ e.send.factor → P)
      → (on s.frame.place ≡ false → breaks e ≡ false → on s.guard ≡ true → P)
      → (on s.frame.place ≡ false → breaks e ≡ false → on s.guard ≡ false → (e.ready && on s.full) ≡ false → P)
      → P
  unfolding sender_calm
  by_sender {P} h busy broken guarded rest = go (on s.frame.place) refl
    where
      by_guard : on s.frame.place ≡ false → breaks e ≡ false → (b : Bool) → on s.guard ≡ b → P
      by_guard t b true g = guarded t b g
      by_guard t b false g = rest t b g (not_so (e.ready && on s.full) (endless_so _ (rw (t, b, g) at h)))

      by_break : on s.frame.place ≡ false → (b : Bool) → breaks e ≡ b → P
      by_break t true b = broken t b (eqb-true _ _ (endless_so _ (rw (t, b) at h)))
      by_break t false b = by_guard t b (on s.guard) refl

      go : (b : Bool) → on s.frame.place ≡ b → P
      go true t = busy t (rw t at h)
      go false t = by_break t (breaks e) refl

-- == a tick ==

-- what a tick that only counts leaves
pub record Counted (e : Ends) (s : SenderHalf) (o : Sent) : Type 0 where
  pub half : o.half ≡ sender_skipped e 1 s
  pub drained : o.drained ≡ false

module _ (e : Ends) (s : SenderHalf) where
  mark_counts : on s.frame.place ≡ false → breaks e ≡ false → Counted e s (mark_tick (sender_later 1 s))
  mark_counts t b = record { half = sym (skips_mark e s 1 t b); drained = refl }

  pub sender_counts : 1 ≤ sender_calm e s → Counted e s (transmit s e.ready e.broken e.send)
  sender_counts h =
      by_sender e s h
      (λ t p.
      rw (transmit_under s e.ready e.broken e.send t)
      (record {
        half = ap (with_frame (sender_later 1 s)) (frame_is s p) ∙ sym (skips_frame e s 1 t ∙ ap (λ (j : ℕ). sender_later 1 (at s j)) (moves s.frame 0 p));
        drained = frame_stays s p;
      }))
      (λ t b g. rw (break_tick_lem e s t b) (record { half = ap (with_guard (sender_later 1 s)) (sym g) ∙ sym (skips_break e s 1 t b); drained = refl }))
      (λ t b g. rw (guard_tick e s t b g) (mark_counts t b))
      (λ t b g w. rw (rest_tick e s t b g w) (mark_counts t b))

  -- a line that is at a level for some ticks is at the one that it sends
  pub keeps_level : (p : ℕ) → 1 ≤ sender_keeps e s p → p ≡ bit (sender_level e s)
  unfolding sender_keeps
  keeps_level p h = go (eqb p (bit (sender_level e s))) refl
    where
      go : (b : Bool) → eqb p (bit (sender_level e s)) ≡ b → p ≡ bit (sender_level e s)
      go true q = eqb-true p _ q
      go false q = absurd (omega (arith, (let z : sender_keeps e s p ≡ 0 = rw q in z)))

-- == many ==

-- the level of the next tick stays but for the tick that passed
pub record Held (e : Ends) (s : SenderHalf) : Type 0 where
  pub ticks : sender_holds e s ≤ suc (sender_holds e (sender_skipped e 1 s))
  pub level : 2 ≤ sender_holds e s → sender_level e (sender_skipped e 1 s) ≡ sender_level e s

-- the next place of a frame is in the same bit, but for a bit's last
record BitOn (F i : ℕ) : Type 0 where
  ticks : F - i % F ≤ suc (F - (i + 1) % F)
  number : 2 ≤ F - i % F → (i + 1) / F ≡ i / F

bit_on : (F i : ℕ) → BitOn F i
bit_on F i = go (ltb (i % F + 1) F) refl
  where
    go : (b : Bool) → ltb (i % F + 1) F ≡ b → BitOn F i
    go true q =
        let l : i % F + 1 < F = ltb-true (i % F + 1) F q in
        let s : i + 1 ≡ F * (i / F) + (i % F + 1) = omega (arith, div-add-mod' i F, mul_comm F (i / F)) in
        let m : (i + 1) % F ≡ i % F + 1 = ap (λ (n : ℕ). n % F) s ∙ mul-add-mod_self_left F (i / F) (i % F + 1) ∙ mod-eq_of_lt l in
        let d : (i + 1) / F ≡ i / F = div-eq_of_lt-le F (omega (arith, div-add-mod' i F)) (omega (arith, div-add-mod' i F)) in
        record { ticks = omega (arith, m); number = λ h. d }
    go false q = record { ticks = omega (arith, ltb-false (i % F + 1) F q); number = λ h. absurd (omega (arith, ltb-false (i % F + 1) F q)) }

-- a frame a tick on
abbrev onward : Frame → Frame
onward g = frame_at g (g.place + 1)

-- its level stays but for the tick that passed
record FrameOn (g : Frame) : Type 0 where
  ticks : frame_holds g ≤ suc (frame_holds (onward g))
  level : 2 ≤ frame_holds g → level g.format g.character (g.place + 1) ≡ level g.format g.character g.place

module _ (g : Frame) where
  pub in_stop : stopping g ≡ true → frame_holds g ≡ places_left g
  in_stop x = rw x

  pub before_stop_lem : stopping g ≡ false → frame_holds g ≡ bit_left g.format g.place
  before_stop_lem x = rw x

  stops : 0 < g.format.factor → frame_length g.format ≤ g.place + g.format.stop → stopping g ≡ true
  stops F l = rw (lt-ltb 0 g.format.factor F, le-leb (frame_length g.format) (g.place + g.format.stop) l)

-- the next place is in the stop where this one is, or is a bit's last
stop_next : (g : Frame) → stopping g ≡ true → stopping (onward g) ≡ true
stop_next g x =
    let t = both (on g.format.factor) _ x in
    stops (onward g) (ltb-true 0 g.format.factor t.0) (omega (arith, leb-true (frame_length g.format) (g.place + g.format.stop) t.1))

stop_reached : (g : Frame) → stopping (onward g) ≡ true → 2 ≤ bit_left g.format g.place → stopping g ≡ true
stop_reached g y l =
    let F : ℕ = g.format.factor in
    let M : ℕ = suc (g.format.length + parity_bits g.format) in
    let t = both (on F) _ y in
    let p : 0 < F = ltb-true 0 F t.0 in
    let r : M * F ≤ g.place + 1 = omega (arith, leb-true (frame_length g.format) (g.place + 1 + g.format.stop) t.1, mul_comm F M) in
    let q : M ≤ (g.place + 1) / F = (le-div_iff_mul-le p).1 r in
    let b : M * F ≤ g.place = (le-div_iff_mul-le p).0 (omega (arith, (bit_on F g.place).number l)) in
    stops g p (omega (arith, mul_comm F M))

stop_starts : (g : Frame) → stopping g ≡ false → stopping (onward g) ≡ true → FrameOn g
stop_starts g x y = go (ltb 1 (frame_holds g)) refl
  where
    last : 2 ≤ frame_holds g → ⊥
    last h = true≢false (sym (stop_reached g y (omega (arith, before_stop_lem g x))) ∙ x)

    go : (b : Bool) → ltb 1 (frame_holds g) ≡ b → FrameOn g
    go true q = absurd (last (ltb-true 1 (frame_holds g) q))
    go false q = record { ticks = omega (arith, ltb-false 1 (frame_holds g) q); level = λ h. absurd (last h) }

frame_on : (g : Frame) → FrameOn g
frame_on g = go (stopping g) refl (stopping (onward g)) refl
  where
    b : BitOn g.format.factor g.place
    b = bit_on g.format.factor g.place

    go : (x : Bool) → stopping g ≡ x → (y : Bool) → stopping (onward g) ≡ y → FrameOn g
    go true x true y =
        record {
          ticks = omega (arith, in_stop g x, in_stop (onward g) y);
          level = λ h. stop_level (onward g) y ∙ sym (stop_level g x);
        }
    go true x false y = absurd (true≢false (sym (stop_next g x) ∙ y))
    go false x true y = stop_starts g x y
    go false x false y =
        record {
          ticks = omega (arith, b.ticks, before_stop_lem g x, before_stop_lem (onward g) y);
          level = λ h. ap (level_of g.format g.character) (b.number (omega (arith, before_stop_lem g x)));
        }

guard_ticks : (e : Ends) (s : SenderHalf) → on s.frame.place ≡ false → breaks e ≡ false → on s.guard ≡ true → sender_holds e s ≤ suc (sender_holds e (sender_skipped e 1 s))
guard_ticks e s t b g = go (on (s.guard - 1)) refl
  where
    go : (x : Bool) → on (s.guard - 1) ≡ x → sender_holds e s ≤ suc (sender_holds e (sender_skipped e 1 s))
    go true q = omega (arith, guard_holds e s t b g, ap (sender_holds e) (skips_mark e s 1 t b) ∙ guard_holds e (sender_later 1 (with_guard s (s.guard - 1))) t b q)
    go false q = omega (arith, guard_holds e s t b g, ltb-false 0 (s.guard - 1) q)

guard_levels : (e : Ends) (s : SenderHalf) → on s.frame.place ≡ false → breaks e ≡ false → on s.guard ≡ true → 2 ≤ s.guard → sender_level e (sender_skipped e 1 s) ≡ sender_level e s
guard_levels e s t b g h =
    ap (sender_level e) (skips_mark e s 1 t b)
    ∙ ap (λ (o : Sent). o.level) (guard_tick e (sender_later 1 (with_guard s (s.guard - 1))) t b (lt-ltb 0 (s.guard - 1) (omega arith)))
    ∙ sym (ap (λ (o : Sent). o.level) (guard_tick e s t b g))

-- what stays for some ticks stays for one less
level_again : (p : ℕ) (x y : Bool) (m n : ℕ) → m ≤ suc n → (2 ≤ m → y ≡ x) → cond (eqb p (bit x)) m 0 ≤ suc (cond (eqb p (bit y)) n 0)
level_again p x y m n h l = go (ltb 1 m) refl
  where
    go : (b : Bool) → ltb 1 m ≡ b → cond (eqb p (bit x)) m 0 ≤ suc (cond (eqb p (bit y)) n 0)
    go true q = rw (l (omega (arith, ltb-true 1 m q))) (each (λ (k : ℕ). k ≤ suc (cond (eqb p (bit x)) n 0)) (eqb p (bit x)) (λ e. rw e h) (λ e. omega arith))
    go false q = either (λ (k : ℕ). k ≤ suc (cond (eqb p (bit y)) n 0)) (eqb p (bit x)) (omega (arith, ltb-false 1 m q)) (omega arith)

-- a guard that falls, or has none to fall by
guard_left : (e : Ends) (s : SenderHalf) → on s.frame.place ≡ false → breaks e ≡ false → s.guard ≤ suc (sender_calm e (sender_later 1 (with_guard s (s.guard - 1))))
guard_left e s t b = go (on (s.guard - 1)) refl
  where
    go : (x : Bool) → on (s.guard - 1) ≡ x → s.guard ≤ suc (sender_calm e (sender_later 1 (with_guard s (s.guard - 1))))
    go true g = omega (arith, guard_calm e (sender_later 1 (with_guard s (s.guard - 1))) t b g)
    go false g = omega (arith, ltb-false 0 (s.guard - 1) g)

module _ (e : Ends) (s : SenderHalf) where
  pub unguarded : on s.guard ≡ false → with_guard s (s.guard - 1) ≡ s
  unguarded g = ap (with_guard s) (let q : s.guard - 1 ≡ s.guard = omega (arith, ltb-false 0 s.guard g) in q)

  moved : 1 ≤ places_left s.frame → on s.frame.place ≡ true → sender_skipped e 1 s ≡ sender_later 1 (at s (s.frame.place + 1))
  moved p t = skips_frame e s 1 t ∙ ap (λ (j : ℕ). sender_later 1 (at s j)) (moves s.frame 0 p)

  -- at rest only the tally moves
  rested : on s.frame.place ≡ false → breaks e ≡ false → on s.guard ≡ false → sender_skipped e 1 s ≡ sender_later 1 s
  rested t b g = skips_mark e s 1 t b ∙ ap (sender_later 1) (unguarded g)

  -- how long it is calm, and its level lasts, does not go by the tally
  calm_later : sender_calm e (sender_later 1 s) ≡ sender_calm e s
  unfolding sender_calm
  calm_later = refl

  holds_later : sender_holds e (sender_later 1 s) ≡ sender_holds e s
  unfolding sender_holds
  holds_later = refl

  under_way_lem : on (s.frame.place + 1) ≡ true
  under_way_lem = lt-ltb 0 (s.frame.place + 1) (omega arith)

  -- the calm lasts, but for the tick that passed
  pub sender_again : 1 ≤ sender_calm e s → sender_calm e s ≤ suc (sender_calm e (sender_skipped e 1 s))
  sender_again h =
      by_sender e s h
      (λ t p.
      let a = frame_calm e s t in
      let q = ap (sender_calm e) (moved p t) ∙ frame_calm e (sender_later 1 (at s (s.frame.place + 1))) under_way_lem in
      omega (arith, a, q))
      (λ t b g. omega (arith, ap (sender_calm e) (skips_break e s 1 t b), calm_later))
      (λ t b g. omega (arith, guard_calm e s t b g, ap (sender_calm e) (skips_mark e s 1 t b), guard_left e s t b))
      (λ t b g w. omega (arith, ap (sender_calm e) (rested t b g), calm_later))

  -- .. and so does its level
  pub holds_again : 1 ≤ sender_calm e s → Held e s
  holds_again h =
      by_sender e s h
      (λ t p. frame_held t p)
      (λ t b g. same_held (skips_break e s 1 t b) false (ap sends (break_tick_lem e s t b)) (ap sends (break_tick_lem e (sender_later 1 s) t b)))
      (λ t b g. guard_held t b g)
      (λ t b g w. same_held (rested t b g) true (ap sends (rest_tick e s t b g w)) (ap sends (rest_tick e (sender_later 1 s) t b g w)))
    where
      sends : Sent → Bool
      sends o = o.level

      same_held : sender_skipped e 1 s ≡ sender_later 1 s → (x : Bool) → sender_level e s ≡ x → sender_level e (sender_later 1 s) ≡ x → Held e s
      same_held q x a b = record { ticks = omega (arith, ap (sender_holds e) q, holds_later); level = λ l. ap (sender_level e) q ∙ b ∙ sym a }

      frame_held : on s.frame.place ≡ true → 1 ≤ places_left s.frame → Held e s
      frame_held t p =
          let b = frame_on s.frame in
          record {
            ticks = omega (arith, b.ticks, frame_holds_lem e s t, ap (sender_holds e) (moved p t) ∙ frame_holds_lem e (sender_later 1 (at s (s.frame.place + 1))) under_way_lem);
            level = λ l.
                ap (sender_level e) (moved p t)
                ∙ frame_level e (sender_later 1 (at s (s.frame.place + 1))) under_way_lem
                ∙ b.level (omega (arith, frame_holds_lem e s t))
                ∙ sym (frame_level e s t);
          }

      guard_held : on s.frame.place ≡ false → breaks e ≡ false → on s.guard ≡ true → Held e s
      guard_held t b g =
          record {
            ticks = guard_ticks e s t b g;
            level = λ l. guard_levels e s t b g (omega (arith, guard_holds e s t b g));
          }

  mark_then : (k : ℕ) → on s.frame.place ≡ false → breaks e ≡ false → sender_skipped e k (sender_skipped e 1 s) ≡ sender_skipped e (suc k) s
  mark_then k t b =
      ap (sender_skipped e k) (skips_mark e s 1 t b)
      ∙ skips_mark e (sender_later 1 (with_guard s (s.guard - 1))) k t b
      ∙ ap (λ (g : ℕ). sender_later k (sender_later 1 (with_guard s g))) (let q : s.guard - 1 - k ≡ s.guard - suc k = omega arith in q)
      ∙ sender_next k (with_guard s (s.guard - suc k))
      ∙ sym (skips_mark e s (suc k) t b)

  -- k ticks after the first are k + 1
  pub sender_then : (k : ℕ) → suc k ≤ sender_calm e s → sender_skipped e k (sender_skipped e 1 s) ≡ sender_skipped e (suc k) s
  sender_then k h =
      by_sender e s (omega arith)
      (λ t p.
      let l : suc k ≤ places_left s.frame = omega (arith, frame_calm e s t) in
      let w = within s.frame k l in
      let q : s.frame.place + 1 + k ≡ s.frame.place + suc k = omega arith in
      ap (sender_skipped e k) (moved p t)
      ∙ skips_frame e (sender_later 1 (at s (s.frame.place + 1))) k under_way_lem
      ∙ ap (λ (j : ℕ). sender_later k (sender_later 1 (at s (j % 65536)))) q
      ∙ sender_next k (at s ((s.frame.place + suc k) % 65536))
      ∙ sym (skips_frame e s (suc k) t))
      (λ t b g. ap (sender_skipped e k) (skips_break e s 1 t b) ∙ skips_break e (sender_later 1 s) k t b ∙ sender_next k s ∙ sym (skips_break e s (suc k) t b))
      (λ t b g. mark_then k t b)
      (λ t b g w. mark_then k t b)

module _ (e : Ends) (s : SenderHalf) (h : 1 ≤ sender_calm e s) where
  pub keeps_again : (p : ℕ) → sender_keeps e s p ≤ suc (sender_keeps e (sender_skipped e 1 s) p)
  unfolding sender_keeps
  keeps_again p = let k = holds_again e s h in level_again p (sender_level e s) (sender_level e (sender_skipped e 1 s)) (sender_holds e s) (sender_holds e (sender_skipped e 1 s)) k.ticks k.level
