-- The two pointers move as document 01 says, at each call that is done; a refused one leaves them (refused-unchanged).
-- Assumes nothing.
use Prim.Native.Nat.{ℕ, zero, suc, ◌≤◌}
use native.Mathlib.Omega.{arith}
use mathlib.Core.Path.{◌≡◌, refl, sym, ap, subst, ◌∙◌}
use mathlib.Core.Bool.{Bool, true, cond}
use lib.Dec.{eqb}
use Rattle.line_rules.proofs.Choice.{each}
use Rattle.ins2651_rules.specs.declared.Registers.{Registers}
use Rattle.ins2651_rules.specs.declared.Device.{Device}
use Rattle.ins2651_rules.specs.Shape.{Outcome, Answer}
use Rattle.ins2651_rules.specs.Ranges.{in_range, settled}
use Rattle.ins2651_rules.specs.RegisterReads.{read_register}
use Rattle.ins2651_rules.specs.RegisterWrites.{write_register}
use Rattle.ins2651_rules.specs.Runs.{Call, Reset, Read, Write, SetPins, Transmit, Receive, Outputs, next}
use Rattle.ins2651_rules.specs.Rows.{refusal}
use Rattle.ins2651_rules.specs.Pointers.{mode_pointer, syn_pointer}
use Rattle.ins2651_rules.proofs.Settled.{settled_is}
use Rattle.ins2651_rules.proofs.Done.{done_read, done_write}
use Rattle.ins2651_rules.proofs.Refused.{read_address, write_address}
use Rattle.ins2651_rules.proofs.Leaves.{transmit_leaves, receive_leaves, pins_leave}

pub record Moved (c : Call) (r q : Registers) : Type 0 where
  pub modes : q.modes ≡ mode_pointer c r.modes
  pub syns : q.syns ≡ syn_pointer c r.syns

read_moves : (d : Device) (address : ℕ) → address ≤ 3 → Moved (Read address) d.registers (read_register d address).device.registers
unfolding read_register
read_moves d zero l = record { modes = refl; syns = refl }
read_moves d (suc zero) l = record { modes = refl; syns = refl }
read_moves d (suc (suc zero)) l =
    each (λ (o : Answer). Moved (Read 2) d.registers o.device.registers) (eqb d.registers.modes 0)
    (λ t. record { modes = sym (ap (λ (b : Bool). cond b 1 0) t); syns = refl })
    (λ t. record { modes = sym (ap (λ (b : Bool). cond b 1 0) t); syns = refl })
read_moves d (suc (suc (suc zero))) l = record { modes = refl; syns = refl }
read_moves d (suc (suc (suc (suc address)))) l = absurd (omega arith)

write_moves : (d : Device) (address v : ℕ) → address ≤ 3 → Moved (Write address v) d.registers (write_register d address v).registers
unfolding write_register
write_moves d zero v l = record { modes = refl; syns = refl }
write_moves d (suc zero) v l =
    each (λ (q : Registers). Moved (Write 1 v) d.registers q) (eqb d.registers.syns 0)
    (λ t. record { modes = refl; syns = sym (ap (λ (b : Bool). cond b 1 (cond (eqb d.registers.syns 1) 2 0)) t) }) λ t.
    each (λ (q : Registers). Moved (Write 1 v) d.registers q) (eqb d.registers.syns 1)
    (λ u. record { modes = refl; syns = sym (ap (λ (b : Bool). cond b 1 (cond (eqb d.registers.syns 1) 2 0)) t ∙ ap (λ (b : Bool). cond b 2 0) u) })
    (λ u. record { modes = refl; syns = sym (ap (λ (b : Bool). cond b 1 (cond (eqb d.registers.syns 1) 2 0)) t ∙ ap (λ (b : Bool). cond b 2 0) u) })
write_moves d (suc (suc zero)) v l =
    each (λ (q : Registers). Moved (Write 2 v) d.registers q) (eqb d.registers.modes 0)
    (λ t. record { modes = sym (ap (λ (b : Bool). cond b 1 0) t); syns = refl })
    (λ t. record { modes = sym (ap (λ (b : Bool). cond b 1 0) t); syns = refl })
write_moves d (suc (suc (suc zero))) v l = record { modes = refl; syns = refl }
write_moves d (suc (suc (suc (suc address)))) v l = absurd (omega arith)

same : (c : Call) (r q : Registers) → q ≡ r → Moved c r r → Moved c r q
same c r q e m = subst (Moved c r) (sym e) m

pub pointers_move : (d : Device) (c : Call) → in_range d ≡ true → refusal d c ≡ 0 → Moved c (settled d).registers (next d c).registers
pointers_move d Reset h n = record { modes = refl; syns = refl }
pointers_move d (Read address) h n =
    subst (λ (o : Answer). Moved (Read address) (settled d).registers o.device.registers) (sym (done_read d address n))
    (read_moves (settled d) address (read_address address n))
pointers_move d (Write address v) h n =
    subst (λ (o : Outcome). Moved (Write address v) (settled d).registers o.device.registers) (sym (done_write d address v n))
    (write_moves (settled d) address v (write_address (settled d).registers address v n))
pointers_move d (SetPins dsr dcd cts) h n = same (SetPins dsr dcd cts) (settled d).registers (next d (SetPins dsr dcd cts)).registers (pins_leave d dsr dcd cts n).registers (record { modes = refl; syns = refl })
pointers_move d Transmit h n = same Transmit (settled d).registers (next d Transmit).registers (transmit_leaves d).registers (record { modes = refl; syns = refl })
pointers_move d (Receive x) h n = same (Receive x) (settled d).registers (next d (Receive x)).registers (receive_leaves d x n).registers (record { modes = refl; syns = refl })
pointers_move d Outputs h n = same Outputs (settled d).registers d.registers (ap (λ (e : Device). e.registers) (sym (settled_is d h))) (record { modes = refl; syns = refl })
