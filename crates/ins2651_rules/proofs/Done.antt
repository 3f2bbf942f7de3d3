-- A call that is not refused is its act on the device settled, and on a device in range as it is.
-- Assumes nothing.
use Prim.Native.Nat.{ℕ}
use mathlib.Core.Path.{◌≡◌, refl, ap, ◌∙◌}
use mathlib.Core.Bool.{true}
use lib.Dec.{eqb}
use borrow.Author.Tests.{eq-eqb}
use Rattle.line_rules.specs.Sending.{on}
use Rattle.line_rules.proofs.Choice.{either}
use Rattle.ins2651_rules.specs.declared.Device.{Device}
use Rattle.ins2651_rules.specs.Shape.{Outcome, Answer, done}
use Rattle.ins2651_rules.specs.Ranges.{in_range, settled}
use Rattle.ins2651_rules.specs.Refusals.{read_refusal, write_refusal, pins_refusal, level_refusal}
use Rattle.ins2651_rules.specs.RegisterReads.{read_register, read}
use Rattle.ins2651_rules.specs.RegisterWrites.{write_register, write}
use Rattle.ins2651_rules.specs.Pinning.{pinned, set_pins}
use Rattle.ins2651_rules.specs.Ticks.{transmit_tick, transmit, receive_tick, receive, both_ticks, sending, tick}
use Rattle.ins2651_rules.proofs.Settled.{settled_is}

-- a register that is read is not refused
pub register_done : (d : Device) (address : ℕ) → (read_register d address).refusal ≡ 0
unfolding read_register
register_done d address =
    let Done : Answer → Type 0 = λ a. a.refusal ≡ 0 in
    either Done (eqb address 0) refl (either Done (eqb address 1) refl (either Done (eqb address 2) (either Done (eqb d.registers.modes 0) refl refl) refl))

module _ (d : Device) where
  pub done_read : (address : ℕ) → read_refusal address ≡ 0 → read d address ≡ read_register (settled d) address
  unfolding read
  done_read address h = rw (eq-eqb _ _ h)

  pub done_write : (address v : ℕ) → write_refusal (settled d).registers address v ≡ 0 → write d address v ≡ done (write_register (settled d) address v)
  unfolding write
  done_write address v h = rw (eq-eqb _ _ h)

  pub done_pins : (dsr dcd cts : ℕ) → pins_refusal dsr dcd cts ≡ 0 → set_pins d dsr dcd cts ≡ done (pinned (settled d) dsr dcd cts)
  unfolding set_pins
  done_pins dsr dcd cts h = rw (eq-eqb _ _ h)

  pub done_receive : (x : ℕ) → level_refusal x ≡ 0 → receive d x ≡ done (receive_tick (settled d) (on x))
  unfolding receive
  done_receive x h = rw (eq-eqb _ _ h)

  pub done_tick : (x : ℕ) → level_refusal x ≡ 0 → tick d x ≡ sending (both_ticks (settled d) (on x))
  unfolding tick
  done_tick x h = rw (eq-eqb _ _ h)

-- == a device in range ==

module _ (d : Device) (h : in_range d ≡ true) where
  pub does_read : (address : ℕ) → read_refusal address ≡ 0 → read d address ≡ read_register d address
  does_read address n = done_read d address n ∙ ap (λ (e : Device). read_register e address) (settled_is d h)

  pub does_write : (address v : ℕ) → write_refusal (settled d).registers address v ≡ 0 → (write d address v).device ≡ write_register d address v
  does_write address v n = ap (λ (o : Outcome). o.device) (done_write d address v n) ∙ ap (λ (e : Device). write_register e address v) (settled_is d h)

  pub does_pins : (dsr dcd cts : ℕ) → pins_refusal dsr dcd cts ≡ 0 → (set_pins d dsr dcd cts).device ≡ pinned d dsr dcd cts
  does_pins dsr dcd cts n = ap (λ (o : Outcome). o.device) (done_pins d dsr dcd cts n) ∙ ap (λ (e : Device). pinned e dsr dcd cts) (settled_is d h)

  pub does_transmit : transmit d ≡ transmit_tick d
  unfolding transmit
  does_transmit = ap transmit_tick (settled_is d h)

  pub does_receive : (x : ℕ) → level_refusal x ≡ 0 → (receive d x).device ≡ receive_tick d (on x)
  does_receive x n = ap (λ (o : Outcome). o.device) (done_receive d x n) ∙ ap (λ (e : Device). receive_tick e (on x)) (settled_is d h)
