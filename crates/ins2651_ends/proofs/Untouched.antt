-- A reset, and then neither a tick nor a character written: the device has sent nothing and heard nothing, whatever it was before, and is an end of
-- either kind where its registers and pins make it one.
-- Assumes nothing.
use Prim.Native.Nat.{ℕ, zero, suc}
use native.Mathlib.Omega.{arith}
use mathlib.Core.Path.{◌≡◌, refl, sym, ap, subst, ◌∙◌}
use mathlib.Core.Bool.{Bool, true, false, cond, ◌&&◌, ◌||◌, true≢false}
use mathlib.Core.List.{List, [], ◌∷◌}
use Rattle.line_rules.specs.declared.Format.{Format}
use Rattle.line_rules.specs.Sending.{on}
use Rattle.line_rules.specs.Sees.{Alike}
use Rattle.line_rules.proofs.Choice.{either}
use Rattle.line_rules.proofs.Ranges.{in_range_bounds}
use Rattle.line_rules.proofs.Table.{both}
use Rattle.link_rules.specs.declared.ReceiverHalf.{ReceiverHalf}
use Rattle.link_rules.specs.Parts.{idle_sender, idle_receiver, dropped, emptied, loaded}
use Rattle.ins2651_rules.specs.declared.Device.{Device}
use Rattle.ins2651_rules.specs.Shape.{reset_device}
use Rattle.ins2651_rules.specs.Modes.{has, receive_enable, send_format, receive_format}
use Rattle.ins2651_rules.specs.Conditions.{transmit_enabled, clear_to_send, mode_set, may_start, break_on, carrier, listening}
use Rattle.ins2651_rules.specs.Ranges.{in_range, settled}
use Rattle.ins2651_rules.specs.Refusals.{write_refusal}
use Rattle.ins2651_rules.specs.Runs.{Call, Reset, Read, Write, SetPins, Transmit, Receive, Outputs, next, after}
use Rattle.ins2651_rules.specs.Rows.{refusal}
use Rattle.ins2651_rules.specs.History.{reads, writes_holding, resets}
use Rattle.ins2651_rules.proofs.Settled.{settled_is, reset_in}
use Rattle.ins2651_rules.proofs.Refused.{write_address, refused_unchanged}
use Rattle.ins2651_rules.proofs.WritesLeave.{NoErrors, ModeWritten, mode_write_leaves, CommandWritten, command_write_leaves}
use Rattle.ins2651_rules.proofs.Rules.{off_command_drops}
use Rattle.ins2651_rules.proofs.Formats.{format_in}
use Rattle.ins2651_rules.proofs.InRange.{next_in}
use Rattle.delivery.specs.Ends.{Fit}
use Rattle.ins2651_ends.specs.OnALine.{unread, value_of}
use Rattle.ins2651_ends.specs.Fresh.{quiet, all_quiet, quiet_since_reset}
use Rattle.ins2651_ends.proofs.Calls.{unread_is, writes_is, by_refusal, none, same_none, command_sets_none, light, Light, light_leaves}
use Rattle.ins2651_ends.proofs.Sending.{Sending}
use Rattle.ins2651_ends.proofs.Hearing.{Hearing}

pub record Untouched (d : Device) : Type 0 where
  pub within : in_range d ≡ true
  pub sender : d.sender ≡ idle_sender
  pub receiver : d.receiver ≡ idle_receiver
  pub no_errors : NoErrors d.flags

pub reset_untouched : Untouched reset_device
reset_untouched = record { within = reset_in; sender = refl; receiver = refl; no_errors = record { framing = refl; overrun = refl; parity = refl } }

pub none_unread : (d : Device) → Untouched d → unread d ≡ false
none_unread d h = unread_is d h.within ∙ ap (λ (r : ReceiverHalf). on r.unread) h.receiver

-- == one call ==

module _ (d : Device) (h : Untouched d) where
  -- a call that changes little and writes nothing; a read finds nothing to empty
  lightly : (c : Call) → refusal d c ≡ 0 → light c ≡ true → writes_holding c ≡ false → Untouched (next d c)
  lightly c n l s =
      let w : Light d c = light_leaves d c h.within n l in
      record {
        within = next_in d c h.within;
        sender = w.sender ∙ ap (λ (b : Bool). cond b (loaded d.sender (value_of c)) d.sender) s ∙ h.sender;
        receiver = w.receiver ∙ ap (λ (r : ReceiverHalf). cond (reads 0 c) (emptied r) r) h.receiver ∙ either (λ (r : ReceiverHalf). r ≡ idle_receiver) (reads 0 c) refl refl;
        no_errors = same_none w.errors h.no_errors;
      }

  -- a mode
  moded : (v : ℕ) → refusal d (Write 2 v) ≡ 0 → Untouched (next d (Write 2 v))
  moded v n =
      let e : Device = next d (Write 2 v) in
      let w : ModeWritten v d e = subst (λ (k : Device). ModeWritten v k e) (settled_is d h.within) (mode_write_leaves d v n) in
      record {
        within = next_in d (Write 2 v) h.within;
        sender = w.others.sender ∙ h.sender;
        receiver = w.others.receiver ∙ h.receiver;
        no_errors = subst NoErrors (sym w.others.flags) h.no_errors;
      }

  -- a command, whatever it does to receive
  commanded : (v : ℕ) → refusal d (Write 3 v) ≡ 0 → Untouched (next d (Write 3 v))
  unfolding write_refusal
  commanded v n =
      record {
        within = next_in d (Write 3 v) h.within;
        sender = w.sender ∙ h.sender;
        receiver = received (has 4 v) refl;
        no_errors = command_sets_none v w.errors h.no_errors;
      }
    where
      e : Device
      e = next d (Write 3 v)

      w : CommandWritten v d e
      w = subst (λ (k : Device). CommandWritten v k e) (settled_is d h.within) (command_write_leaves d v n)

      received : (b : Bool) → has 4 v ≡ b → e.receiver ≡ idle_receiver
      received true q = w.receiver_kept q ∙ h.receiver
      received false q = off_command_drops d v h.within n q ∙ ap (λ (r : ReceiverHalf). emptied (dropped r)) h.receiver

  done_untouched : (c : Call) → refusal d c ≡ 0 → quiet c ≡ true → Untouched (next d c)
  done_untouched Reset n q = reset_untouched
  done_untouched (Read address) n q = lightly (Read address) n refl refl
  done_untouched (Write zero v) n q = absurd (true≢false (sym q))
  done_untouched (Write (suc zero) v) n q = lightly (Write 1 v) n refl refl
  done_untouched (Write (suc (suc zero)) v) n q = moded v n
  done_untouched (Write (suc (suc (suc zero))) v) n q = commanded v n
  done_untouched (Write (suc (suc (suc (suc i)))) v) n q = absurd (omega (arith, write_address (settled d).registers (suc (suc (suc (suc i)))) v n))
  done_untouched (SetPins dsr dcd cts) n q = lightly (SetPins dsr dcd cts) n refl refl
  done_untouched Transmit n q = absurd (true≢false (sym q))
  done_untouched (Receive x) n q = absurd (true≢false (sym q))
  done_untouched Outputs n q = h

  pub untouched_on : (c : Call) → quiet c ≡ true → Untouched (next d c)
  untouched_on c q = by_refusal d c (λ n. done_untouched c n q) (λ n. subst Untouched (sym (refused_unchanged d c n).device) h)

-- == many ==

untouched_along : (d : Device) (cs : List Call) → all_quiet cs ≡ true → Untouched d → Untouched (after d cs)
untouched_along d [] q h = h
untouched_along d (c ∷ cs) q h =
    let t = both (quiet c) (all_quiet cs) q in
    untouched_along (next d c) cs t.1 (untouched_on d h c t.0)

-- the device after a reset
resets_to : (d : Device) (c : Call) → resets c ≡ true → next d c ≡ reset_device
resets_to d Reset e = refl
resets_to d (Read address) e = absurd (true≢false (sym e))
resets_to d (Write address v) e = absurd (true≢false (sym e))
resets_to d (SetPins dsr dcd cts) e = absurd (true≢false (sym e))
resets_to d Transmit e = absurd (true≢false (sym e))
resets_to d (Receive x) e = absurd (true≢false (sym e))
resets_to d Outputs e = absurd (true≢false (sym e))

one_of : {P : Type 0} (a b : Bool) → (a || b) ≡ true → (a ≡ true → P) → (b ≡ true → P) → P
one_of true b e p q = p refl
one_of false b e p q = q e

pub since_reset_untouched : (d : Device) (cs : List Call) → quiet_since_reset cs ≡ true → Untouched (after d cs)
since_reset_untouched d [] q = absurd (true≢false (sym q))
since_reset_untouched d (c ∷ cs) q =
    one_of (resets c && all_quiet cs) (quiet_since_reset cs) q
    (λ e. let t = both (resets c) (all_quiet cs) e in
    untouched_along (next d c) cs t.1 (subst Untouched (sym (resets_to d c t.0)) reset_untouched))
    (λ e. since_reset_untouched (next d c) cs e)

-- a quiet call writes no character
pub quiet_writes_nothing : (c : Call) → quiet c ≡ true → writes_holding c ≡ false
quiet_writes_nothing c q = none (writes_holding c) (λ e. true≢false (sym q ∙ ap quiet (writes_is c e)))

-- == an end of a way that begins ==

-- where it may start a frame and has no break on it is ready to send ..
pub untouched_sends : (d : Device) → Untouched d → may_start d ≡ true → break_on d ≡ false → Sending (send_format d.registers) d
untouched_sends d h starts no_break =
    let t = both (transmit_enabled d && clear_to_send d) (mode_set d) starts in
    let u = both (transmit_enabled d) (clear_to_send d) t.0 in
    record { within = h.within; enabled = u.0; clear = u.1; set = t.1; no_break = no_break; format = refl }

-- .. and where it listens, to receive
pub untouched_hears : (d : Device) → Untouched d → listening d ≡ true → Hearing (receive_format d.registers) d
untouched_hears d h listens =
    let t = both (receive_enable d.registers.command && carrier d) (mode_set d) listens in
    let u = both (receive_enable d.registers.command) (carrier d) t.0 in
    record { within = h.within; enabled = u.0; carried = u.1; set = t.1; format = refl; no_errors = h.no_errors }

-- its format is one of document 01's, so that it fits any that is alike
pub sends_to : (d : Device) {g : Format} → Alike (send_format d.registers) g → Fit (send_format d.registers) g
sends_to d alike = record { bounds = in_range_bounds (send_format d.registers) (format_in d.registers.mode1 (has 32 d.registers.mode2)); alike = alike }
