-- Document 01's own sequence, at one side and then at the other, is a set-up, whatever the devices were.
-- Assumes nothing.
use Prim.Native.Nat.{ℕ}
use mathlib.Core.Path.{◌≡◌, refl, sym, ap, subst, ◌∙◌}
use mathlib.Core.Bool.{Bool, true, cond, not}
use mathlib.Core.List.{List, [], ◌∷◌, ◌++◌, map}
use Rattle.line_rules.proofs.Choice.{either}
use Rattle.link_rules.specs.Parts.{idle_receiver}
use Rattle.ins2651_rules.specs.declared.Registers.{Registers}
use Rattle.ins2651_rules.specs.declared.Device.{Device}
use Rattle.ins2651_rules.specs.Shape.{reset_device, with_registers, with_pins, pin_levels, with_mode1, with_mode2, accepting, to_mode2, with_command, with_change}
use Rattle.ins2651_rules.specs.Modes.{transmit_enable, receive_enable, command_clears}
use Rattle.ins2651_rules.specs.Ranges.{in_range}
use Rattle.ins2651_rules.specs.Refusals.{write_refusal}
use Rattle.ins2651_rules.specs.RegisterWrites.{stored, write_register}
use Rattle.ins2651_rules.specs.Pinning.{pinned}
use Rattle.ins2651_rules.specs.Runs.{Call, Write, SetPins, next, after}
use Rattle.ins2651_rules.proofs.Settled.{settled_is, reset_in}
use Rattle.ins2651_rules.proofs.Done.{does_write, does_pins}
use Rattle.ins2651_rules.proofs.InRange.{next_in}
use Rattle.delivery.specs.Joined.{A, B}
use Rattle.joined_rules.specs.declared.Pair.{Pair}
use Rattle.joined_rules.specs.Bench.{Step, At}
use Rattle.joined_rules.specs.Demand3.{Settings, Proper, sequence, Holds, FreshlySetUp}

-- the registers just reset, but for an accepted mode 1 ..
abbrev with_first : ℕ → Registers
with_first m = accepting (with_mode1 reset_device.registers m)

-- .. and for both modes
abbrev with_both : Settings → Registers
with_both s = with_mode2 (with_first s.mode1) s.mode2

-- what the sequence leaves of any device
abbrev set_up_device : Settings → Device
set_up_device s =
    with_pins (with_registers reset_device (with_command (with_both s) (stored s.command))) (pin_levels 0 0 0) (with_change reset_device.flags 1)

-- a write that is not refused, to a device in range: the run goes on from what it leaves, and that is in range
writes : (d : Device) (address v : ℕ) (cs : List Call) {e : Device} → in_range d ≡ true → write_refusal d.registers address v ≡ 0
    → (in_range (write_register d address v) ≡ true → after (write_register d address v) cs ≡ e) → after d (Write address v ∷ cs) ≡ e
writes d address v cs h n rest =
    let is : next d (Write address v) ≡ write_register d address v =
    does_write d h address v (subst (λ (k : Device). write_refusal k.registers address v ≡ 0) (sym (settled_is d h)) n) in
    ap (λ (k : Device). after k cs) is ∙ rest (ap in_range (sym is) ∙ next_in d (Write address v) h)

-- a choice between equals
same : {X : Type 0} (t : Bool) (x : X) → cond t x x ≡ x
same t x = either (λ y. y ≡ x) t refl refl

-- a command finds nothing to clear, and the pins that go low set the change-mark
lowered : (s : Settings) → pinned (write_register (with_registers reset_device (with_both s)) 3 s.command) 0 0 0 ≡ set_up_device s
unfolding write_register pinned
lowered s = rw (same {X = ℕ} (command_clears s.command) 0, same {X = ℕ} (not (transmit_enable s.command)) 0, same (receive_enable s.command) idle_receiver)

sequence_leaves : (s : Settings) (d : Device) → Proper s → after d (sequence s) ≡ set_up_device s
unfolding write_refusal write_register
sequence_leaves s d p =
    writes reset_device 2 s.mode1 (Write 2 s.mode2 ∷ Write 3 s.command ∷ SetPins 0 0 0 ∷ []) reset_in p.mode1 λ h.
    writes (with_registers reset_device (to_mode2 (with_first s.mode1))) 2 s.mode2 (Write 3 s.command ∷ SetPins 0 0 0 ∷ []) h refl λ h.
    writes (with_registers reset_device (with_both s)) 3 s.command (SetPins 0 0 0 ∷ []) h p.command λ h.
    let e : Device = write_register (with_registers reset_device (with_both s)) 3 s.command in
    does_pins e h 0 0 0 refl ∙ lowered s

sequence_holds : (s : Settings) (d : Device) → Proper s → Holds s (after d (sequence s))
sequence_holds s d p = subst (Holds s) (sym (sequence_leaves s d p)) (record { mode1 = refl; mode2 = refl; command = refl; dsr = refl; dcd = refl; cts = refl })

-- one side and then the other
abbrev pub sequences : Settings → Settings → List Step
sequences a b = map (At A) (sequence a) ++ map (At B) (sequence b)

pub sequence_sets_up : (a b : Settings) (p : Pair) → Proper a → Proper b → FreshlySetUp a b p (sequences a b)
sequence_sets_up a b p pa pb =
    record {
      from_reset = record { calls = refl; a_reset = refl; b_reset = refl };
      a_holds = sequence_holds a p.a pa;
      b_holds = sequence_holds b p.b pb;
    }
