-- A wait behind lines that meet demand 3's premises, with a character written for its unit still to come and a limit of L+D or more: the line prints a
-- count of L+D at most, and the unit then holds an unread character. Request P12, carried to the session's text.
-- Assumes nothing.
use Prim.Native.Nat.{ℕ}
use mathlib.Core.Path.{◌≡◌, refl, sym, ap, subst, ◌∙◌}
use mathlib.Core.List.{List, ◌∷◌}
use Rattle.line_rules.specs.declared.Format.{Format}
use Rattle.delivery.specs.Joined.{Side}
use Rattle.joined_rules.specs.declared.Pair.{Pair}
use Rattle.line_rules.specs.declared.Unit.{Unit}
use Rattle.line_rules.specs.declared.Unit.TheVariants as unit
use Rattle.joined_rules.specs.Bench.{Tick, all_moved, just_reset}
use Rattle.joined_rules.specs.Demand3.{Settings, settings_at, Proper, sends, Agree}
use Rattle.joined_rules.specs.Waiting.{side_of, wait, sender_to, StopsInTime, Stops}
use Rattle.joined_rules.proofs.Promised.{log_moved}
use Rattle.joined_rules.proofs.Order.{resetting, from_reset, up}
use Rattle.joined_rules.proofs.Waits.{wait_done}
use Rattle.joined_rules.proofs.WaitsInTime.{one_way_waits, demand_3_waits}
use Rattle.std.specs.Prelude.{Some}
use Rattle.records.specs.Printed.{letter_of_unit}
use Rattle.records.specs.Records.{unit_named}
use Rattle.rows.specs.Text.{row_text}
use Rattle.session_rules.specs.Calls.{said_text}
use Rattle.session_rules.specs.Steps.{pair_after}
use Rattle.session_rules.specs.Delivered.{Parted, Meets, format_from, MeetsFrom, letter_at, end, TextStops}
use Rattle.session_rules.proofs.Lines.{moved_append, lines_are_steps, wait_says}
use Rattle.session_rules.proofs.Shapes.{printed_obeyed}

-- the two units behind the lines are those behind the run
end_is : {lines : List (List ℕ)} (s : Side) (l : Parted lines) → (end s l).bench ≡ pair_after just_reset lines
end_is {lines} s l =
    log_moved s _ l.after
    ∙ sym (moved_append just_reset l.set_up (Tick ∷ l.after))
    ∙ ap (all_moved just_reset) (sym l.steps)
    ∙ lines_are_steps just_reset lines

-- the letter of a unit names it, and is that of its side
pub names : (u : Unit) → unit_named (letter_of_unit u) ≡ Some u
names unit.A = refl
names unit.B = refl

named : (u : Unit) → letter_of_unit u ≡ letter_at (side_of u)
named unit.A = refl
named unit.B = refl

-- a line that is a wait, printed, shows one that stopped in time
module _ (f : Format) (u : Unit) {lines : List (List ℕ)} (l : Parted lines) (stops : Stops f u (end (sender_to u) l)) where
  abbrev p : Pair
  p = pair_after just_reset lines

  in_time_lem : TextStops f u lines (end (sender_to u) l)
  unfolding said_text row_text
  in_time_lem awaited limit line printed h most n =
      let s : StopsInTime f u (wait p u limit) = subst (λ (q : Pair). StopsInTime f u (wait q u limit)) (end_is (sender_to u) l) (stops awaited limit h most) in
      let e = printed_obeyed p printed ∙ wait_says p u limit most in
      record { waited = wait p u limit; shown = rw (e, wait_done p u limit most, named u); left = rw (e, wait_done p u limit most); stops = s }

-- one way, whatever happens on the other
pub one_way_text_waits : (u : Unit) (lines : List (List ℕ)) (m : MeetsFrom (sender_to u) lines) → TextStops (format_from (sender_to u) m.parted) u lines (end (sender_to u) m.parted)
one_way_text_waits u lines m =
    let l = m.parted in
    in_time_lem (format_from (sender_to u) l) u l (one_way_waits u just_reset (resetting l.set_up) (from_reset l.set_up l.quiet) m.opened l.after m.allowed)

-- both at once
pub text_waits : (a b : Settings) → Proper a → Proper b → Agree a b → (u : Unit) (lines : List (List ℕ)) (m : Meets a b lines)
    → TextStops (sends (settings_at a b (sender_to u))) u lines (end (sender_to u) m.parted)
text_waits a b pa pb agree u lines m =
    let l = m.parted in
    in_time_lem (sends (settings_at a b (sender_to u))) u l
    (demand_3_waits a b pa pb agree just_reset (resetting l.set_up) (up l.set_up l.quiet a b pa pb agree m.a_holds m.b_holds l.after m.allowed) l.after m.allowed u)
