-- The calls that are made of others: a tick is a receive tick and then a transmit tick, and a peek is the value that a status read would give. Both for any
-- device, in range or not.
-- Assumes nothing.
use Prim.Native.Nat.{ℕ}
use mathlib.Core.Path.{◌≡◌, refl, ap, sym, ◌∙◌}
use borrow.Author.Tests.{ne_eqb}
use Rattle.line_rules.specs.Sending.{on}
use Rattle.ins2651_rules.specs.declared.Device.{Device}
use Rattle.ins2651_rules.specs.Shape.{Outcome, refused_read}
use Rattle.ins2651_rules.specs.Ranges.{settled}
use Rattle.ins2651_rules.specs.Refusals.{level_refusal}
use Rattle.ins2651_rules.specs.Looks.{peek}
use Rattle.ins2651_rules.specs.RegisterReads.{read_register, read}
use Rattle.ins2651_rules.specs.Ticks.{transmit, receive_tick, receive, sending, tick}
use Rattle.ins2651_rules.proofs.Settled.{settled_in}
use Rattle.ins2651_rules.proofs.Done.{done_receive, done_tick, does_transmit}
use Rattle.ins2651_rules.proofs.InRange.{received_in}

module _ (d : Device) (x : ℕ) where
  -- the range is looked at once, as a receive tick stays in it
  pub tick_does_both : level_refusal x ≡ 0 → tick d x ≡ sending (transmit (receive d x).device)
  tick_does_both n =
      let heard : Device = receive_tick (settled d) (on x) in
      done_tick d x n ∙ ap sending (sym (ap (λ (o : Outcome). transmit o.device) (done_receive d x n) ∙ does_transmit heard (received_in (settled d) (on x) (settled_in d))))

  -- a level that is refused: neither tick is done
  pub tick_does_none : (level_refusal x ≡ 0 → ⊥) → tick d x ≡ refused_read (level_refusal x) d
  unfolding tick
  tick_does_none n = rw (ne_eqb (level_refusal x) 0 n)

pub peek_is_status : (d : Device) → peek d ≡ (read d 1).value
unfolding peek read read_register
peek_is_status d = refl
