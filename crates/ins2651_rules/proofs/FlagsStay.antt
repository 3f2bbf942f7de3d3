-- Framing, overrun and parity, once set, are set after every run of calls that has none of those that clear them.
-- Assumes nothing.
use Prim.Native.Nat.{ℕ}
use native.Mathlib.Omega.{arith}
use mathlib.Core.Path.{◌≡◌, refl, sym, ap, subst, ◌∙◌}
use mathlib.Core.Bool.{Bool, true, false, not, ◌&&◌}
use mathlib.Core.List.{List, [], ◌∷◌}
use lib.Dec.{eqb}
use borrow.Author.Tests.{eq-eqb, eqb-true, eqb-false}
use Rattle.std.specs.Prelude.{Option, None, Some}
use Rattle.line_rules.specs.declared.Arrival.{Arrival}
use Rattle.line_rules.specs.Sending.{bit, on, or_set}
use Rattle.line_rules.proofs.Table.{both}
use Rattle.line_rules.proofs.Choice.{either, each, not_so}
use Rattle.ins2651_rules.specs.declared.Flags.{Flags}
use Rattle.ins2651_rules.specs.declared.Device.{Device}
use Rattle.ins2651_rules.specs.Shape.{Outcome}
use Rattle.ins2651_rules.specs.Modes.{command_clears}
use Rattle.ins2651_rules.specs.Ranges.{in_range, settled}
use Rattle.ins2651_rules.specs.Refusals.{command_refusal, write_refusal}
use Rattle.ins2651_rules.specs.RegisterWrites.{unless, write_register}
use Rattle.ins2651_rules.specs.Ticks.{noted, received, receive_tick}
use Rattle.ins2651_rules.specs.Runs.{Call, Reset, Read, Write, SetPins, Transmit, Receive, Outputs, next, after, nowhere}
use Rattle.ins2651_rules.specs.Rows.{refusal}
use Rattle.ins2651_rules.specs.History.{clearing_command, clears_errors}
use Rattle.ins2651_rules.proofs.Settled.{settled_is}
use Rattle.ins2651_rules.proofs.Done.{done_write, done_receive}
use Rattle.ins2651_rules.proofs.Refused.{address_is_3, command_accepted, refused_unchanged}
use Rattle.ins2651_rules.proofs.InRange.{next_in}
use Rattle.ins2651_rules.proofs.Leaves.{SameErrors, transmit_leaves, pins_leave, read_leaves}

-- each flag that is set in f is set in g
pub record Stay (f g : Flags) : Type 0 where
  pub framing : on f.framing ≡ true → on g.framing ≡ true
  pub overrun : on f.overrun ≡ true → on g.overrun ≡ true
  pub parity : on f.parity ≡ true → on g.parity ≡ true

same_stay : (f g : Flags) → SameErrors f g → Stay f g
same_stay f g e = record { framing = λ h. ap on e.framing ∙ h; overrun = λ h. ap on e.overrun ∙ h; parity = λ h. ap on e.parity ∙ h }

stay : (f : Flags) → Stay f f
stay f = record { framing = λ h. h; overrun = λ h. h; parity = λ h. h }

then : (f g h : Flags) → Stay f g → Stay g h → Stay f h
then f g h a b = record { framing = λ e. b.framing (a.framing e); overrun = λ e. b.overrun (a.overrun e); parity = λ e. b.parity (a.parity e) }

-- an arrival sets flags and clears none
set_stays : (t : Bool) (x : ℕ) → on x ≡ true → on (or_set t x) ≡ true
set_stays t x h = either (λ (k : ℕ). on k ≡ true) t refl h

noted_stay : (f : Flags) (o : Bool) (h : Option Arrival) → Stay f (noted f o h)
noted_stay f o None = stay f
noted_stay f o (Some a) =
    record { framing = set_stays a.framing f.framing; overrun = set_stays o f.overrun; parity = set_stays a.parity f.parity }

-- an accepted command that does not say so clears none
module _ (d : Device) (address v : ℕ) (n : write_refusal d.registers address v ≡ 0) (k : clears_errors (Write address v) ≡ false) where
  clears_not : address ≡ 3 → command_refusal v ≡ 0 → command_clears v ≡ false
  clears_not e l = sym (ap (λ (b : Bool). b && clearing_command v) (eq-eqb address 3 e) ∙ ap (λ (b : Bool). b && command_clears v) (eq-eqb (command_refusal v) 0 l)) ∙ k

  write_stays : Stay d.flags (write_register d address v).flags
  unfolding write_register
  write_stays =
      let Stays : Device → Type 0 = λ e. Stay d.flags e.flags in
      each Stays (eqb address 0) (λ a. record { framing = λ h. h; overrun = λ h. h; parity = λ h. h }) λ a.
      each Stays (eqb address 1) (λ b. stay d.flags) λ b.
      each Stays (eqb address 2) (λ c. stay d.flags) λ c.
      let e : address ≡ 3 = address_is_3 d.registers address v n a b c in
      let off : command_clears v ≡ false = clears_not e (command_accepted d.registers v (subst (λ (j : ℕ). write_refusal d.registers j v ≡ 0) e n)) in
      record { framing = λ h. ap (λ (t : Bool). on (unless t d.flags.framing)) off ∙ h; overrun = λ h. ap (λ (t : Bool). on (unless t d.flags.overrun)) off ∙ h; parity = λ h. ap (λ (t : Bool). on (unless t d.flags.parity)) off ∙ h }

receive_stays : (d : Device) (x : Bool) → Stay d.flags (receive_tick d x).flags
unfolding receive_tick
receive_stays d x = noted_stay d.flags (received d x).overrun (received d x).heard

done_stays : (d : Device) (c : Call) → refusal d c ≡ 0 → clears_errors c ≡ false → in_range d ≡ true → Stay (settled d).flags (next d c).flags
done_stays d Reset n k h = absurd (let z : ◌≡◌ {A = ℕ} 1 0 = ap bit k in omega arith)
done_stays d (Read address) n k h = same_stay (settled d).flags (next d (Read address)).flags (read_leaves d address n).errors
done_stays d (Write address v) n k h = subst (λ (o : Outcome). Stay (settled d).flags o.device.flags) (sym (done_write d address v n)) (write_stays (settled d) address v n k)
done_stays d (SetPins dsr dcd cts) n k h = same_stay (settled d).flags (next d (SetPins dsr dcd cts)).flags (pins_leave d dsr dcd cts n).errors
done_stays d Transmit n k h = same_stay (settled d).flags (next d Transmit).flags (transmit_leaves d).errors
done_stays d (Receive x) n k h = subst (λ (o : Outcome). Stay (settled d).flags o.device.flags) (sym (done_receive d x n)) (receive_stays (settled d) (on x))
done_stays d Outputs n k h = subst (λ (e : Device). Stay e.flags d.flags) (sym (settled_is d h)) (stay d.flags)

-- one call that does not clear them
pub flags_stay_once : (d : Device) (c : Call) → in_range d ≡ true → clears_errors c ≡ false → Stay d.flags (next d c).flags
flags_stay_once d c h k = go (eqb (refusal d c) 0) refl
  where
    go : (b : Bool) → eqb (refusal d c) 0 ≡ b → Stay d.flags (next d c).flags
    go true e = subst (λ (s : Device). Stay s.flags (next d c).flags) (settled_is d h) (done_stays d c (eqb-true _ _ e) k h)
    go false e = subst (λ (s : Device). Stay d.flags s.flags) (sym (refused_unchanged d c (eqb-false _ _ e)).device) (stay d.flags)

-- a run of them
pub flags_stay : (d : Device) (cs : List Call) → in_range d ≡ true → nowhere clears_errors cs ≡ true → Stay d.flags (after d cs).flags
flags_stay d [] h k = stay d.flags
flags_stay d (c ∷ cs) h k =
    let q = both (not (clears_errors c)) (nowhere clears_errors cs) k in
    then d.flags (next d c).flags (after (next d c) cs).flags (flags_stay_once d c h (not_so (clears_errors c) q.0))
    (flags_stay (next d c) cs (next_in d c h) q.1)
