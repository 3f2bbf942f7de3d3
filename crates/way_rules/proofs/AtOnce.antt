-- What is done at once is what as many ticks do: a leap to the last look that can be passed, or else the ticks that only count. And what the ways out
-- of the code are by the definitions.
-- Assumes nothing.
use Prim.Native.Nat.{ℕ, ◌+◌, ◌*◌, ◌-◌, ◌/◌, ◌≤◌, ◌<◌}
use native.Mathlib.Nat.{mul-le-mul_left, mul_comm, le-div_iff_mul-le}
use native.Mathlib.Omega.{arith}
use mathlib.Core.Path.{◌≡◌, refl, ap, ap₂, sym, subst, ◌∙◌}
use mathlib.Core.Bool.{Bool, true, false, cond, ◌&&◌}
use lib.Dec.{ltb, leb}
use borrow.Author.Tests.{ltb-true, ltb-false, leb-true, lt-ltb, le-ltb, le-leb, lt-leb}
use Rattle.line_rules.specs.Sending.{on, frame_length}
use Rattle.line_rules.proofs.Choice.{either, each}
use Rattle.line_rules.proofs.Table.{both}
use Rattle.way_rules.specs.declared.Ends.{Ends}
use Rattle.way_rules.specs.declared.Way.{Way}
use Rattle.way_rules.specs.Along.{way_ticks}
use Rattle.way_rules.specs.Calm.{least, places_left, way_calm}
use Rattle.way_rules.specs.Leap.{Moved, last_look, both_busy, in_step, fly_at, leap_ticks, Ahead, looks_ahead, leap_looks, at_once, done_at_once}
use Rattle.way_rules.proofs.Branches.{least_first, least_second, least_both, least_is}
use Rattle.way_rules.proofs.Flown.{leaps}

-- q looks ahead in x ticks or fewer
pub looks_fit : (F wait room x q : ℕ) → 0 < F → wait ≤ room → x ≡ (room - wait) / F → q ≤ x → wait + F * q ≤ room
looks_fit F wait room x q pos h e l =
    let d : q * F ≤ room - wait = (le-div_iff_mul-le pos).0 (omega arith) in
    omega (arith, mul_comm F q)

-- the looks ahead are looks of the character, in the room
ahead_is : (w : Way) (room q : ℕ) → q ≡ looks_ahead w room → 0 < q → Ahead w room q
unfolding looks_ahead
ahead_is w room q e z = go (on F && leb k room) refl
  where
    F : ℕ
    F = w.receiver.format.factor

    k : ℕ
    k = w.receiver.state.countdown

    go : (b : Bool) → (on F && leb k room) ≡ b → Ahead w room q
    go true b =
        let t = both (on F) _ b in
        let l = least_is ((room - k) / F) (last_look w.receiver.format - w.receiver.state.look) q (e ∙ rw b) in
        record {
          some = ltb-true 0 F t.0;
          looks = omega (arith, l.second);
          ticks = looks_fit F k room ((room - k) / F) q (ltb-true 0 F t.0) (leb-true k room t.1) refl l.first;
        }
    go false b = absurd (omega (arith, (let n : q ≡ 0 = e ∙ rw b in n)))

-- all that a leap rests on, and where it comes to
pub record Leap (e : Ends) (w : Way) (room q : ℕ) : Type 0 where
  pub live : e.live ≡ true
  pub busy : both_busy w ≡ true
  pub step : in_step w ≡ true
  pub ahead : Ahead w (places_left w.sender.frame) q
  pub in_room_lem : leap_ticks w q ≤ room
  pub placed : w.sender.frame.place + leap_ticks w q ≤ 65535

module _ (e : Ends) (w : Way) (room : ℕ) where
  pub leap_is : (q : ℕ) → q ≡ leap_looks e w room → 0 < q → Leap e w room q
  unfolding leap_looks
  leap_is q h z = go (e.live && both_busy w && in_step w) refl
    where
      left : ℕ
      left = places_left w.sender.frame

      leaping : (e.live && both_busy w && in_step w) ≡ true → Ahead w (least left room) q → Leap e w room q
      leaping b a =
          let t = both (e.live && both_busy w) (in_step w) b in
          let s = both e.live (both_busy w) t.0 in
          let l = least_both left room in
          let d = least_both (frame_length w.sender.frame.format) 65536 in
          let one : w.receiver.format.factor * 1 ≤ w.receiver.format.factor * q = mul-le-mul_left w.receiver.format.factor z in
          record {
            live = s.0;
            busy = s.1;
            step = t.1;
            ahead = record { some = a.some; looks = a.looks; ticks = omega (arith, a.ticks, l.first) };
            in_room_lem = omega (arith, a.ticks, l.second);
            placed = omega (arith, a.ticks, l.first, d.second, one, a.some);
          }

      go : (b : Bool) → (e.live && both_busy w && in_step w) ≡ b → Leap e w room q
      go true b = leaping b (ahead_is w (least left room) q (h ∙ rw b) z)
      go false b = absurd (omega (arith, (let n : q ≡ 0 = h ∙ rw b in n)))

  -- a leap is what is done at once
  pub leap_done : (q k : ℕ) (v : Way) → q ≡ leap_looks e w room → 0 < q → w.sender.frame.character < 256 → k ≡ leap_ticks w q
      → v ≡ fly_at w k (w.receiver.state.look + q) 0 → record { way = v; ticks = k } ≡ done_at_once e w room
  unfolding at_once
  leap_done q k v h z byte s f =
      let l = leap_is q h z in
      let once : k ≡ at_once e w room =
      s ∙ ap (leap_ticks w) h ∙ sym (ap (λ (b : Bool). cond b (leap_ticks w (leap_looks e w room)) (least (way_calm e w) room)) (ap on (sym h) ∙ lt-ltb 0 q z)) in
      ap₂ (λ (x : Way) (n : ℕ). record { way = x; ticks = n })
      (f
      ∙ ap (λ (j : ℕ). fly_at w j (w.receiver.state.look + q) 0) s
      ∙ sym (leaps e w q l.live byte l.busy l.step l.ahead)
      ∙ ap (λ (j : ℕ). way_ticks e j w) (sym s ∙ once))
      once

  -- .. and where there is none, the ticks that only count
  pub skip_done : (q k : ℕ) (v : Way) → q ≡ leap_looks e w room → q ≤ 0 → k ≡ least (way_calm e w) room → v ≡ way_ticks e k w → record { way = v; ticks = k } ≡ done_at_once e w room
  unfolding at_once
  skip_done q k v h z s f =
      let once : k ≡ at_once e w room =
      s ∙ sym (ap (λ (b : Bool). cond b (leap_ticks w (leap_looks e w room)) (least (way_calm e w) room)) (ap on (sym h) ∙ le-ltb 0 q z)) in
      ap₂ (λ (x : Way) (n : ℕ). record { way = x; ticks = n }) (f ∙ ap (λ (j : ℕ). way_ticks e j w) once) once

  within_room : at_once e w room ≤ room
  unfolding at_once
  within_room =
      each (λ (k : ℕ). k ≤ room) (on (leap_looks e w room))
      (λ t. (leap_is (leap_looks e w room) refl (ltb-true 0 (leap_looks e w room) t)).in_room_lem)
      (λ t. (least_both (way_calm e w) room).second)

  -- what a turn of the run makes of it
  pub record Moves (r : Moved) : Type 0 where
    pub in_room_lem : r.ticks ≤ room
    pub way : r.way ≡ way_ticks e r.ticks w

  pub moves_by : (k : ℕ) (v : Way) → k ≡ (done_at_once e w room).ticks → v ≡ (done_at_once e w room).way → Moves (record { way = v; ticks = k })
  moves_by k v t h = subst Moves (sym (ap₂ (λ (x : Way) (n : ℕ). record { way = x; ticks = n }) h t)) (record { in_room_lem = within_room; way = refl })

  -- with no room nothing is done
  pub none_done : room ≡ 0 → record { way = w; ticks = 0 } ≡ done_at_once e w room
  none_done z =
      let n : 0 ≡ at_once e w room = omega (arith, within_room) in
      ap (λ (k : ℕ). moved k) n
    where
      moved : ℕ → Moved
      moved k = record { way = way_ticks e k w; ticks = k }

-- == how many looks, by the code's tests ==

reached : (F x q : ℕ) → 0 < F → F * q ≤ x → q ≤ x / F
reached F x q f h = (le-div_iff_mul-le f).1 (omega (arith, mul_comm F q))

pub not_reached : (F x q : ℕ) → 0 < F → x < F * q → x / F < q
not_reached F x q f h = go (ltb (x / F) q) refl
  where
    go : (b : Bool) → ltb (x / F) q ≡ b → x / F < q
    go true e = ltb-true (x / F) q e
    go false e =
        let m : q * F ≤ x = (le-div_iff_mul-le f).0 (ltb-false (x / F) q e) in
        absurd (omega (arith, mul_comm F q))

module _ (w : Way) (room : ℕ) where
  pub no_factor : w.receiver.format.factor ≡ 0 → 0 ≡ looks_ahead w room
  unfolding looks_ahead
  no_factor e = rw (le-ltb 0 w.receiver.format.factor (omega arith))

  pub no_room : room < w.receiver.state.countdown → 0 ≡ looks_ahead w room
  unfolding looks_ahead
  no_room h = go (on w.receiver.format.factor) refl
    where
      go : (b : Bool) → on w.receiver.format.factor ≡ b → 0 ≡ looks_ahead w room
      go true t = rw (t, lt-leb w.receiver.state.countdown room h)
      go false t = rw t

  pub no_look : last_look w.receiver.format ≤ w.receiver.state.look → 0 ≡ looks_ahead w room
  unfolding looks_ahead
  no_look h =
      let x : ℕ = (room - w.receiver.state.countdown) / w.receiver.format.factor in
      let y : ℕ = last_look w.receiver.format - w.receiver.state.look in
      either (λ (k : ℕ). 0 ≡ k) (on w.receiver.format.factor && leb w.receiver.state.countdown room)
      (let q : 0 ≡ least x y = omega (arith, (least_both x y).second) in q) refl

  -- the last look is in reach, or those that are
  module _ (last : ℕ) (e : last ≡ last_look w.receiver.format) (f : 0 < w.receiver.format.factor) (k : w.receiver.state.countdown ≤ room) where
    some_looks : (q : ℕ) → q ≡ least ((room - w.receiver.state.countdown) / w.receiver.format.factor) (last - w.receiver.state.look) → q ≡ looks_ahead w room
    unfolding looks_ahead
    some_looks q h =
        h
        ∙ ap (λ (n : ℕ). least ((room - w.receiver.state.countdown) / w.receiver.format.factor) (n - w.receiver.state.look)) e
        ∙ rw (lt-ltb 0 w.receiver.format.factor f, le-leb w.receiver.state.countdown room k)

    pub to_the_last : w.receiver.format.factor * (last - w.receiver.state.look) ≤ room - w.receiver.state.countdown → last - w.receiver.state.look ≡ looks_ahead w room
    to_the_last h = some_looks _ (sym (least_second _ _ (reached w.receiver.format.factor _ _ f h)))

    pub in_reach : room - w.receiver.state.countdown < w.receiver.format.factor * (last - w.receiver.state.look)
        → (room - w.receiver.state.countdown) / w.receiver.format.factor ≡ looks_ahead w room
    in_reach h = some_looks _ (sym (least_first _ _ (not_reached w.receiver.format.factor _ _ f h)))

module _ (e : Ends) (w : Way) (room : ℕ) where
  pub leaps_none : (e.live && both_busy w && in_step w) ≡ false → 0 ≡ leap_looks e w room
  unfolding leap_looks
  leaps_none b = rw b

  pub leaps_some : (e.live && both_busy w && in_step w) ≡ true → looks_ahead w (least (places_left w.sender.frame) room) ≡ leap_looks e w room
  unfolding leap_looks
  leaps_some b = rw b
