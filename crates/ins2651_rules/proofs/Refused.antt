-- Each refusal number is given exactly when its row says, and a refused call changes nothing.
-- Assumes nothing.
use Prim.Native.Nat.{ℕ, ◌/◌, ◌%◌, ◌≤◌}
use native.Mathlib.Omega.{arith}
use mathlib.Core.Path.{◌≡◌, refl, sym, ap, ◌∙◌}
use mathlib.Core.Bool.{Bool, true, false, cond, not, ◌&&◌}
use mathlib.Core.List.{List, [], ◌∷◌}
use lib.Dec.{ltb, leb, eqb}
use borrow.Author.Tests.{ltb-true, ltb-false, eqb-true, eqb-false}
use Rattle.line_rules.specs.Sending.{bit}
use Rattle.line_rules.proofs.Choice.{each}
use Rattle.ins2651_rules.specs.declared.Registers.{Registers}
use Rattle.ins2651_rules.specs.declared.Device.{Device}
use Rattle.ins2651_rules.specs.Shape.{Outcome, Answer}
use Rattle.ins2651_rules.specs.Ranges.{settled}
use Rattle.ins2651_rules.specs.Refusals.{read_refusal, mode_refusal, command_refusal, write_refusal, pins_refusal, level_refusal}
use Rattle.ins2651_rules.specs.RegisterReads.{read}
use Rattle.ins2651_rules.specs.RegisterWrites.{write}
use Rattle.ins2651_rules.specs.Pinning.{set_pins}
use Rattle.ins2651_rules.specs.Ticks.{receive}
use Rattle.ins2651_rules.specs.Runs.{by_call, otherwise, at_read, Call, Reset, Read, Write, SetPins, Transmit, Receive, Outputs, next, said}
use Rattle.ins2651_rules.proofs.Done.{register_done}
use Rattle.ins2651_rules.specs.Rows.{refusal, address_above3, no_level, no_stop, synchronous, not_operating}

-- == the rows ==

-- each number exactly when its row says, and no number above 5
pub record Exactly (n : ℕ) (one two three four five : Bool) : Type 0 where
  pub address : eqb n 1 ≡ one
  pub level : eqb n 2 ≡ two
  pub stop : eqb n 3 ≡ three
  pub factor : eqb n 4 ≡ four
  pub command : eqb n 5 ≡ five
  pub most : n ≤ 5

-- a write: the address above 3, 2 or 3, of which one at most is so
write_rows : (above two three m z s l : Bool) → (above && two) ≡ false → (above && three) ≡ false → (two && three) ≡ false
    → Exactly (cond above 1 (cond two (cond m (cond z 4 (cond s 3 0)) 0) (cond three (cond l 0 5) 0)))
    above false (two && m && not z && s) (two && m && z) (three && not l)
write_rows true true three m z s l p q r = absurd (omega (arith, ap bit p))
write_rows true false true m z s l p q r = absurd (omega (arith, ap bit q))
write_rows true false false m z s l p q r = record { address = refl; level = refl; stop = refl; factor = refl; command = refl; most = omega arith }
write_rows false true true m z s l p q r = absurd (omega (arith, ap bit r))
write_rows false true false false z s l p q r = record { address = refl; level = refl; stop = refl; factor = refl; command = refl; most = omega arith }
write_rows false true false true true s l p q r = record { address = refl; level = refl; stop = refl; factor = refl; command = refl; most = omega arith }
write_rows false true false true false true l p q r = record { address = refl; level = refl; stop = refl; factor = refl; command = refl; most = omega arith }
write_rows false true false true false false l p q r = record { address = refl; level = refl; stop = refl; factor = refl; command = refl; most = omega arith }
write_rows false false true m z s true p q r = record { address = refl; level = refl; stop = refl; factor = refl; command = refl; most = omega arith }
write_rows false false true m z s false p q r = record { address = refl; level = refl; stop = refl; factor = refl; command = refl; most = omega arith }
write_rows false false false m z s l p q r = record { address = refl; level = refl; stop = refl; factor = refl; command = refl; most = omega arith }

read_rows : (above : Bool) → Exactly (cond above 1 0) above false false false false
read_rows true = record { address = refl; level = refl; stop = refl; factor = refl; command = refl; most = omega arith }
read_rows false = record { address = refl; level = refl; stop = refl; factor = refl; command = refl; most = omega arith }

level_rows : (levels : Bool) → Exactly (cond levels 0 2) false (not levels) false false false
level_rows true = record { address = refl; level = refl; stop = refl; factor = refl; command = refl; most = omega arith }
level_rows false = record { address = refl; level = refl; stop = refl; factor = refl; command = refl; most = omega arith }

no_number : Exactly 0 false false false false false
no_number = record { address = refl; level = refl; stop = refl; factor = refl; command = refl; most = omega arith }

apart : (a b : Bool) → (a ≡ true → b ≡ true → ⊥) → (a && b) ≡ false
apart true true h = absurd (h refl refl)
apart true false h = refl
apart false b h = refl

pub given_exactly : (d : Device) (c : Call) → Exactly (refusal d c) (address_above3 c) (no_level c) (no_stop d c) (synchronous d c) (not_operating c)
unfolding write_refusal
given_exactly d Reset = no_number
given_exactly d (Read address) = read_rows (ltb 3 address)
given_exactly d (Write address v) =
    write_rows (ltb 3 address) (eqb address 2) (eqb address 3) (eqb (settled d).registers.modes 0) (eqb (v % 4) 0) (eqb (v / 64) 0) (ltb v 64)
    (apart (ltb 3 address) (eqb address 2) (λ p q. omega (arith, ltb-true 3 address p, eqb-true address 2 q)))
    (apart (ltb 3 address) (eqb address 3) (λ p q. omega (arith, ltb-true 3 address p, eqb-true address 3 q)))
    (apart (eqb address 2) (eqb address 3) (λ p q. omega (arith, eqb-true address 2 p, eqb-true address 3 q)))
given_exactly d (SetPins dsr dcd cts) = level_rows (leb dsr 1 && leb dcd 1 && leb cts 1)
given_exactly d Transmit = no_number
given_exactly d (Receive x) = level_rows (leb x 1)
given_exactly d Outputs = no_number

-- == a read or a write that is not refused ==

pub read_address : (address : ℕ) → read_refusal address ≡ 0 → address ≤ 3
read_address address h = each (λ (n : ℕ). n ≡ 0 → address ≤ 3) (ltb 3 address) (λ t e. absurd (omega arith)) (λ t e. omega (arith, ltb-false 3 address t)) h

module _ (r : Registers) where
  pub write_address : (address v : ℕ) → write_refusal r address v ≡ 0 → address ≤ 3
  unfolding write_refusal
  write_address address v h = each (λ (n : ℕ). n ≡ 0 → address ≤ 3) (ltb 3 address) (λ t e. absurd (omega arith)) (λ t e. omega (arith, ltb-false 3 address t)) h

  -- the last address is the command's
  pub address_is_3 : (address v : ℕ) → write_refusal r address v ≡ 0 → eqb address 0 ≡ false → eqb address 1 ≡ false → eqb address 2 ≡ false → address ≡ 3
  address_is_3 address v h a b c = omega (arith, write_address address v h, eqb-false address 0 a, eqb-false address 1 b, eqb-false address 2 c)

  pub command_accepted : (v : ℕ) → write_refusal r 3 v ≡ 0 → command_refusal v ≡ 0
  unfolding write_refusal
  command_accepted v h = h

  pub mode_accepted : (v : ℕ) → write_refusal r 2 v ≡ 0 → mode_refusal r v ≡ 0
  unfolding write_refusal
  mode_accepted v h = h

-- pins and levels that are not refused are levels
pub levels_taken : (t : Bool) → ◌≡◌ {A = ℕ} (cond t 0 2) 0 → t ≡ true
levels_taken true e = refl
levels_taken false e = absurd (omega arith)

-- == what is answered ==

-- the number that a call answers is the table's
pub answers_refusal : (d : Device) (c : Call) → (said d c).refusal ≡ refusal d c
unfolding read write set_pins receive
answers_refusal d Reset = refl
answers_refusal d (Read address) =
    each (λ (o : Answer). o.refusal ≡ read_refusal address) (eqb (read_refusal address) 0) (λ t. register_done (settled d) address ∙ sym (eqb-true _ _ t)) (λ t. refl)
answers_refusal d (Write address v) =
    each (λ (o : Outcome). o.refusal ≡ write_refusal (settled d).registers address v) (eqb (write_refusal (settled d).registers address v) 0) (λ t. sym (eqb-true _ _ t)) (λ t. refl)
answers_refusal d (SetPins dsr dcd cts) =
    each (λ (o : Outcome). o.refusal ≡ pins_refusal dsr dcd cts) (eqb (pins_refusal dsr dcd cts) 0) (λ t. sym (eqb-true _ _ t)) (λ t. refl)
answers_refusal d Transmit = refl
answers_refusal d (Receive x) = each (λ (o : Outcome). o.refusal ≡ level_refusal x) (eqb (level_refusal x) 0) (λ t. sym (eqb-true _ _ t)) (λ t. refl)
answers_refusal d Outputs = refl

-- a refused read gives 0, no other refused call gives anything
abbrev pub nothing_given : Call → List ℕ
nothing_given c = by_call (at_read (λ address. 0 ∷ []) (otherwise [])) c

pub record Unchanged (d : Device) (c : Call) : Type 0 where
  pub device : next d c ≡ d
  pub given : (said d c).values ≡ nothing_given c

pub refused_unchanged : (d : Device) (c : Call) → (refusal d c ≡ 0 → ⊥) → Unchanged d c
unfolding read write set_pins receive
refused_unchanged d Reset h = absurd (h refl)
refused_unchanged d (Read address) h =
    record {
      device = each (λ (o : Answer). o.device ≡ d) (eqb (read_refusal address) 0) (λ t. absurd (h (eqb-true _ _ t))) (λ t. refl);
      given = each (λ (o : Answer). o.value ∷ [] ≡ 0 ∷ []) (eqb (read_refusal address) 0) (λ t. absurd (h (eqb-true _ _ t))) (λ t. refl);
    }
refused_unchanged d (Write address v) h =
    record { device = each (λ (o : Outcome). o.device ≡ d) (eqb (write_refusal (settled d).registers address v) 0) (λ t. absurd (h (eqb-true _ _ t))) (λ t. refl); given = refl }
refused_unchanged d (SetPins dsr dcd cts) h = record { device = each (λ (o : Outcome). o.device ≡ d) (eqb (pins_refusal dsr dcd cts) 0) (λ t. absurd (h (eqb-true _ _ t))) (λ t. refl); given = refl }
refused_unchanged d Transmit h = absurd (h refl)
refused_unchanged d (Receive x) h = record { device = each (λ (o : Outcome). o.device ≡ d) (eqb (level_refusal x) 0) (λ t. absurd (h (eqb-true _ _ t))) (λ t. refl); given = refl }
refused_unchanged d Outputs h = absurd (h refl)
