-- The number that C gets of a call's Result is the number that the call's definition answers.
-- Assumes nothing.
use Prim.Native.Nat.{ℕ, ◌≤◌}
use native.Mathlib.Omega.{arith}
use mathlib.Core.Path.{◌≡◌, refl, sym}
use mathlib.Core.Bool.{false}
use lib.Dec.{eqb}
use borrow.Author.Tests.{eqb-true, eqb-false}
use Rattle.std.specs.Prelude.{Result, ⊤}
use Rattle.line_rules.specs.Sending.{on}
use Rattle.line_rules.proofs.Choice.{each}
use Rattle.ins2651_rules.specs.declared.Device.{Device}
use Rattle.ins2651_rules.specs.declared.Refusal.{Refusal}
use Rattle.ins2651_rules.specs.Shape.{Answer, refused_read}
use Rattle.ins2651_rules.specs.Ranges.{settled}
use Rattle.ins2651_rules.specs.Refusals.{read_refusal, level_refusal, number, row, told}
use Rattle.ins2651_rules.specs.RegisterReads.{read_register, read}
use Rattle.ins2651_rules.specs.RegisterWrites.{write}
use Rattle.ins2651_rules.specs.Pinning.{set_pins}
use Rattle.ins2651_rules.specs.Ticks.{receive, both_ticks, sending, tick}
use Rattle.ins2651_rules.specs.Runs.{Call, Read, Write, SetPins, Receive, said}
use Rattle.ins2651_rules.proofs.Done.{register_done}
use Rattle.ins2651_rules.proofs.Refused.{given_exactly, answers_refusal}
use Rattle.ins2651_rules.proofs.Told.{number_row}
use Rattle.host.specs.Replies.{word, refusal_told, word_told}

-- a number of the table is that of its row
is_row : (n : ℕ) → n ≤ 5 → eqb n 0 ≡ false → number (row n) ≡ n
is_row n h t = number_row n (omega (arith, eqb-false n 0 t)) h

module _ (d : Device) where
  -- == a call whose answer is its refusal ==

  said_told : (c : Call) → refusal_told (told (said d c).refusal tt) ≡ (said d c).refusal
  said_told c =
      let n : ℕ = (said d c).refusal in
      each (λ (r : Result ⊤ Refusal). refusal_told r ≡ n) (eqb n 0) (λ t. sym (eqb-true n 0 t)) (λ t. is_row n (rw (answers_refusal d c) (given_exactly d c).most) t)

  pub write_told : (address v : ℕ) → refusal_told (told (write d address v).refusal tt) ≡ (write d address v).refusal
  write_told address v = said_told (Write address v)

  pub pins_told : (dsr dcd cts : ℕ) → refusal_told (told (set_pins d dsr dcd cts).refusal tt) ≡ (set_pins d dsr dcd cts).refusal
  pins_told dsr dcd cts = said_told (SetPins dsr dcd cts)

  pub receive_told : (x : ℕ) → refusal_told (told (receive d x).refusal tt) ≡ (receive d x).refusal
  receive_told x = said_told (Receive x)

  -- == one whose answer is a word ==

  abbrev Told : Answer → Type 0
  Told a = word_told (told a.refusal a.value) ≡ word a

  done_told : (a : Answer) → a.refusal ≡ 0 → Told a
  done_told a e = rw e (omega arith)

  refused_told : (n : ℕ) → n ≤ 5 → eqb n 0 ≡ false → Told (refused_read n d)
  refused_told n h t = rw (t, is_row n h t) (omega arith)

  pub read_told : (address : ℕ) → Told (read d address)
  unfolding read
  read_told address =
      each Told (eqb (read_refusal address) 0) (λ t. done_told (read_register (settled d) address) (register_done (settled d) address)) (λ t. refused_told (read_refusal address) (given_exactly d (Read address)).most t)

  pub tick_told : (x : ℕ) → Told (tick d x)
  unfolding tick
  tick_told x = each Told (eqb (level_refusal x) 0) (λ t. done_told (sending (both_ticks (settled d) (on x))) refl) (λ t. refused_told (level_refusal x) (given_exactly d (Receive x)).most t)
