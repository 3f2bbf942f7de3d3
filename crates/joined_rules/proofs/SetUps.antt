-- A set-up leaves two devices that have sent nothing and heard nothing, whatever they were. With its settings in place such a device is an end
-- of either kind.
-- Assumes nothing.
use Prim.Native.Nat.{ℕ, ◌/◌, ◌%◌}
use native.Mathlib.Omega.{arith}
use mathlib.Core.Path.{◌≡◌, refl, sym, ap, ap₂, subst, ◌∙◌}
use mathlib.Core.Bool.{Bool, true, false, cond, not, true≢false}
use mathlib.Core.List.{List, [], ◌∷◌, ◌++◌}
use lib.Dec.{eqb}
use borrow.Author.Tests.{eqb-true}
use Rattle.line_rules.specs.Sending.{on}
use Rattle.line_rules.proofs.Choice.{all, either}
use Rattle.line_rules.proofs.Table.{both}
use Rattle.ins2651_rules.specs.declared.Device.{Device}
use Rattle.ins2651_rules.specs.Modes.{has, format_of, send_format, receive_format}
use Rattle.ins2651_rules.specs.Conditions.{mode_set, may_start, break_on, listening}
use Rattle.ins2651_rules.specs.Ranges.{mode1_in_range, in_range}
use Rattle.ins2651_rules.specs.RegisterWrites.{stored}
use Rattle.ins2651_rules.specs.Runs.{Call, after}
use Rattle.ins2651_rules.proofs.Commands.{transmit_stored, receive_stored}
use Rattle.ins2651_rules.proofs.InRange.{parts}
use Rattle.ins2651_ends.specs.OnALine.{value_of, normal}
use Rattle.ins2651_rules.specs.History.{reads, writes_holding}
use Rattle.ins2651_ends.specs.Fresh.{quiet, all_quiet}
use Rattle.ins2651_ends.proofs.Untouched.{Untouched, none_unread, untouched_on, since_reset_untouched, quiet_writes_nothing}
use Rattle.delivery.specs.OneWay.{Deed, Ticks, Writes, Reads, Passes, putting, getting, puts, gets_of}
use Rattle.delivery.specs.Joined.{Side, A, B, other}
use Rattle.joined_rules.specs.declared.Pair.{Pair}
use Rattle.joined_rules.specs.Bench.{device_at, Step, Tick, At, moved, all_moved, deed_from, way_from}
use Rattle.joined_rules.specs.Demand3.{Settings, Proper, sends, receives, no_tick, calls_at, Quiet, FromReset, Holds, Normal}

-- == a reset of each side ==

-- a side has had its own calls and nothing else
side_after : (s : Side) (p : Pair) (us : List Step) → no_tick us ≡ true → device_at s (all_moved p us) ≡ after (device_at s p) (calls_at s us)
side_after s p [] q = refl
side_after s p (Tick ∷ us) q = absurd (true≢false (sym q))
side_after A p (At A c ∷ us) q = side_after A (moved p (At A c)) us q
side_after A p (At B c ∷ us) q = side_after A (moved p (At B c)) us q
side_after B p (At A c ∷ us) q = side_after B (moved p (At A c)) us q
side_after B p (At B c ∷ us) q = side_after B (moved p (At B c)) us q

pub set_up_untouched : (s : Side) (p : Pair) (us : List Step) → FromReset us → Untouched (device_at s (all_moved p us))
set_up_untouched A p us up = subst Untouched (sym (side_after A p us up.calls)) (since_reset_untouched p.a (calls_at A us) up.a_reset)
set_up_untouched B p us up = subst Untouched (sym (side_after B p us up.calls)) (since_reset_untouched p.b (calls_at B us) up.b_reset)

-- == what a set-up writes and reads ==

-- the first of them, and the rest
first_quiet : (s : Side) (c : Call) (us : List Step) → Quiet (At s c ∷ us) → (quiet c ≡ true) × Quiet us
first_quiet A c us q =
    let t = both (quiet c) (all_quiet (calls_at A us)) q.a_quiet in
    (t.0, record { calls = q.calls; a_quiet = t.1; b_quiet = q.b_quiet })
first_quiet B c us q =
    let t = both (quiet c) (all_quiet (calls_at B us)) q.b_quiet in
    (t.0, record { calls = q.calls; a_quiet = q.a_quiet; b_quiet = t.1 })

still_untouched : (s t : Side) (c : Call) (p : Pair) → quiet c ≡ true → Untouched (device_at s p) → Untouched (device_at s (moved p (At t c)))
still_untouched A A c p q h = untouched_on p.a h c q
still_untouched A B c p q h = h
still_untouched B A c p q h = h
still_untouched B B c p q h = untouched_on p.b h c q

-- nothing is written ..
unwritten : (c : Call) (vs : List ℕ) → quiet c ≡ true → putting (cond (writes_holding c) (Writes (value_of c)) Passes) vs ≡ vs
unwritten c vs q = rw (quiet_writes_nothing c q)

-- .. nor by a call at the other side
not_written : (c : Call) (vs : List ℕ) → putting (cond (reads 0 c) Reads Passes) vs ≡ vs
not_written c vs = either (λ (k : Deed). putting k vs ≡ vs) (reads 0 c) refl refl

puts_nothing : (s t : Side) (c : Call) (p : Pair) (vs : List ℕ) → quiet c ≡ true → putting (deed_from s p (At t c)) vs ≡ vs
puts_nothing A A c p vs q = unwritten c vs q
puts_nothing A B c p vs q = not_written c vs
puts_nothing B A c p vs q = not_written c vs
puts_nothing B B c p vs q = unwritten c vs q

-- and nothing is unread
gets_nothing : {A : Type 0} (c : A) (k : Deed) (vs : List A) {u : Bool} → u ≡ false → getting u c k vs ≡ vs
gets_nothing c Ticks vs e = refl
gets_nothing c (Writes v) vs e = refl
gets_nothing c Reads vs e = rw e
gets_nothing c Passes vs e = refl

-- so from two devices of which nothing was sent or heard, what a run writes and reads begins behind its set-up
pub set_up_puts : (s : Side) (p : Pair) (us ss : List Step) → Quiet us → puts (way_from s) p (us ++ ss) ≡ puts (way_from s) (all_moved p us) ss
set_up_puts s p [] ss q = refl
set_up_puts s p (Tick ∷ us) ss q = absurd (true≢false (sym q.calls))
set_up_puts s p (At t c ∷ us) ss q =
    let r = first_quiet t c us q in
    puts_nothing s t c p (puts (way_from s) (moved p (At t c)) (us ++ ss)) r.0 ∙ set_up_puts s (moved p (At t c)) us ss r.1

pub set_up_gets : {A : Type 0} (k : Pair → A) (s : Side) (p : Pair) (us ss : List Step) → Quiet us → Untouched (device_at (other s) p)
    → gets_of (way_from s) k p (us ++ ss) ≡ gets_of (way_from s) k (all_moved p us) ss
set_up_gets k s p [] ss q h = refl
set_up_gets k s p (Tick ∷ us) ss q h = absurd (true≢false (sym q.calls))
set_up_gets k s p (At t c ∷ us) ss q h =
    let r = first_quiet t c us q in
    gets_nothing (k p) (deed_from s p (At t c)) (gets_of (way_from s) k (moved p (At t c)) (us ++ ss)) (none_unread (device_at (other s) p) h)
    ∙ set_up_gets k s (moved p (At t c)) us ss r.1 (still_untouched (other s) t c p r.0 h)

-- == a side with its settings ==

-- in range, a mode 1 that is not 0 was accepted
was_accepted : (accepted m : ℕ) → mode1_in_range accepted m ≡ true → eqb (m % 4) 0 ≡ false → on accepted ≡ true
was_accepted accepted m h n = go (on accepted) refl
  where
    go : (b : Bool) → on accepted ≡ b → on accepted ≡ true
    go true e = e
    go false e = let z : m ≡ 0 = eqb-true m 0 (rw e at h) in absurd (true≢false (ap (λ (k : ℕ). eqb (k % 4) 0) (sym z) ∙ n))

module _ (s : Settings) (d : Device) (proper : Proper s) (within : in_range d ≡ true) (holds : Holds s d) where
  set : mode_set d ≡ true
  set =
      let r = (parts d within).registers in
      let k = (both _ _ (both _ _ (both _ _ r).0).0).0 in
      was_accepted d.registers.accepted d.registers.mode1 k (ap (λ (m : ℕ). eqb (m % 4) 0) holds.mode1 ∙ proper.asynchronous)

  pub starts : may_start d ≡ true
  starts = all (all (ap (has 1) holds.command ∙ transmit_stored s.command ∙ proper.transmits) (ap (λ (k : ℕ). eqb k 0) holds.cts)) set

  -- break is bit 3, and bit 4 alone is not stored
  pub no_break : break_on d ≡ false
  no_break =
      let kept : stored s.command / 8 % 2 ≡ s.command / 8 % 2 = omega arith in
      ap (has 8) holds.command ∙ ap (λ (k : ℕ). eqb k 1) kept ∙ proper.no_break

  -- bits 6 and 7 stand above bit 4
  pub is_normal : Normal d
  is_normal =
      let high : stored s.command / 32 ≡ s.command / 32 = omega arith in
      let echo : stored s.command / 64 ≡ s.command / 64 = omega (arith, high) in
      let loopback : stored s.command / 128 ≡ s.command / 128 = omega (arith, high) in
      record {
        asynchronous = ap (λ (m : ℕ). eqb (m % 4) 0) holds.mode1 ∙ proper.asynchronous;
        operation = ap normal holds.command
            ∙ all (ap (λ (k : ℕ). not (eqb (k % 2) 1)) echo ∙ ap not proper.no_echo) (ap (λ (k : ℕ). not (eqb (k % 2) 1)) loopback ∙ ap not proper.no_loopback);
      }

  pub listens : listening d ≡ true
  listens = all (all (ap (has 4) holds.command ∙ receive_stored s.command ∙ proper.receives) (ap (λ (k : ℕ). eqb k 0) holds.dcd)) set

  pub sends_so : send_format d.registers ≡ sends s
  sends_so = ap₂ (λ (m n : ℕ). format_of m (has 32 n)) holds.mode1 holds.mode2

  pub receives_so : receive_format d.registers ≡ receives s
  receives_so = ap₂ (λ (m n : ℕ). format_of m (has 16 n)) holds.mode1 holds.mode2
