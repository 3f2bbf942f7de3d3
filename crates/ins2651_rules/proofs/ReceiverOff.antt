-- A chip whose receive is off shows no error flag (P1), after any run of calls from reset.
-- Assumes nothing.
use Prim.Native.Nat.{ℕ, zero, suc, ◌≤◌}
use native.Mathlib.Omega.{arith}
use mathlib.Core.Path.{◌≡◌, refl, sym, ap, subst, ◌∙◌}
use mathlib.Core.Bool.{Bool, true, false, ◌&&◌}
use mathlib.Core.List.{List, []}
use Rattle.ins2651_rules.specs.declared.Flags.{Flags}
use Rattle.ins2651_rules.specs.declared.Device.{Device}
use Rattle.ins2651_rules.specs.Shape.{reset_device}
use Rattle.ins2651_rules.specs.Modes.{has}
use Rattle.ins2651_rules.specs.Conditions.{carrier, mode_set, listening}
use Rattle.ins2651_rules.specs.Ranges.{in_range, settled}
use Rattle.ins2651_rules.specs.Runs.{Call, Reset, Read, Write, SetPins, Transmit, Receive, Outputs, next, after}
use Rattle.ins2651_rules.specs.Rows.{refusal}
use Rattle.ins2651_rules.proofs.Settled.{settled_is, reset_in}
use Rattle.ins2651_rules.proofs.Refused.{write_address}
use Rattle.ins2651_rules.proofs.Commands.{receive_stored}
use Rattle.ins2651_rules.proofs.ReadByHistory.{command_put}
use Rattle.ins2651_rules.proofs.Leaves.{SameErrors, transmit_leaves, receive_leaves, pins_leave, read_leaves}
use Rattle.ins2651_rules.proofs.WritesLeave.{NoErrors, holding_write_leaves, syn_write_leaves, mode_write_leaves, command_write_leaves}
use Rattle.ins2651_rules.proofs.ByHistory.{along_history}
use Rattle.ins2651_rules.proofs.Rules.{off_tick_drops}

-- bit 2 of the command at 0: framing, overrun and parity are 0
abbrev pub QuietWhileOff : Device → Type 0
QuietWhileOff d = has 4 d.registers.command ≡ false → NoErrors d.flags

-- the command and the error flags as before
same_quiet : (d e : Device) → e.registers.command ≡ d.registers.command → SameErrors d.flags e.flags → QuietWhileOff d → QuietWhileOff e
same_quiet d e c s q t =
    let n : NoErrors d.flags = q (ap (has 4) (sym c) ∙ t) in
    record { framing = s.framing ∙ n.framing; overrun = s.overrun ∙ n.overrun; parity = s.parity ∙ n.parity }

same_flags : (f g : Flags) → g ≡ f → SameErrors f g
same_flags f g e = record { framing = ap (λ (k : Flags). k.framing) e; overrun = ap (λ (k : Flags). k.overrun) e; parity = ap (λ (k : Flags). k.parity) e }

reset_quiet : QuietWhileOff reset_device
reset_quiet t = record { framing = refl; overrun = refl; parity = refl }

module _ (d : Device) (q : QuietWhileOff (settled d)) where
  write_quiet : (address v : ℕ) → address ≤ 3 → refusal d (Write address v) ≡ 0 → QuietWhileOff (next d (Write address v))
  write_quiet zero v l n = let w = holding_write_leaves d v in same_quiet (settled d) (next d (Write 0 v)) (ap (λ r. r.command) w.registers) w.errors q
  write_quiet (suc zero) v l n =
      let w = syn_write_leaves d v in same_quiet (settled d) (next d (Write 1 v)) w.command (same_flags (settled d).flags (next d (Write 1 v)).flags w.others.flags) q
  write_quiet (suc (suc zero)) v l n =
      let w = mode_write_leaves d v n in same_quiet (settled d) (next d (Write 2 v)) w.command (same_flags (settled d).flags (next d (Write 2 v)).flags w.others.flags) q
  write_quiet (suc (suc (suc zero))) v l n = let w = command_write_leaves d v n in λ t. w.errors.receive_off_lem (sym (receive_stored v) ∙ ap (has 4) (command_put v ∙ sym w.command) ∙ t)
  write_quiet (suc (suc (suc (suc address)))) v l n = absurd (omega arith)

-- while receive is off no tick looks at its sample
off_is_deaf : (d : Device) → has 4 d.registers.command ≡ false → listening d ≡ false
off_is_deaf d t = ap (λ (b : Bool). b && carrier d && mode_set d) t

done_quiet : (d : Device) (c : Call) → in_range d ≡ true → refusal d c ≡ 0 → QuietWhileOff d → QuietWhileOff (next d c)
done_quiet d c h n q = by_call c n
  where
    s : QuietWhileOff (settled d)
    s = subst QuietWhileOff (sym (settled_is d h)) q

    by_call : (c : Call) → refusal d c ≡ 0 → QuietWhileOff (next d c)
    by_call Reset n = reset_quiet
    by_call (Read address) n = let w = read_leaves d address n in same_quiet (settled d) (next d (Read address)) w.command w.errors s
    by_call (Write address v) n = write_quiet d s address v (write_address (settled d).registers address v n) n
    by_call (SetPins dsr dcd cts) n =
        let w = pins_leave d dsr dcd cts n in same_quiet (settled d) (next d (SetPins dsr dcd cts)) (ap (λ r. r.command) w.registers) w.errors s
    by_call Transmit n = let w = transmit_leaves d in same_quiet (settled d) (next d Transmit) (ap (λ r. r.command) w.registers) w.errors s
    by_call (Receive x) n =
        let w = receive_leaves d x n in
        let c : (next d (Receive x)).registers.command ≡ d.registers.command = ap (λ r. r.command) w.registers ∙ ap (λ (e : Device). e.registers.command) (settled_is d h) in
        λ t.
        let off : has 4 d.registers.command ≡ false = ap (has 4) (sym c) ∙ t in
        same_quiet d (next d (Receive x)) c (same_flags d.flags (next d (Receive x)).flags (ap (λ (e : Device). e.flags) (off_tick_drops d x h (off_is_deaf d off) n))) q t
    by_call Outputs n = q

-- whatever was called since reset
pub off_shows_no_error : (cs : List Call) → QuietWhileOff (after reset_device cs)
off_shows_no_error cs =
    along_history (λ d es. QuietWhileOff d) (λ d h es q c n. done_quiet d c h n q) reset_device cs [] reset_in reset_quiet
