-- After any run of calls from reset, a done read answers what the history of the run says.
-- Assumes nothing.
use Prim.Native.Nat.{ℕ, zero, suc, ◌≤◌}
use native.Mathlib.Omega.{arith}
use mathlib.Core.Path.{◌≡◌, refl, sym, ap, ap₂, subst, ◌∙◌}
use mathlib.Core.Bool.{Bool, true, cond, ◌||◌}
use mathlib.Core.List.{List, [], ◌∷◌}
use lib.Dec.{eqb}
use borrow.Author.Tests.{eq-eqb, ne_eqb}
use Rattle.line_rules.specs.Sending.{on}
use Rattle.line_rules.proofs.Choice.{either}
use Rattle.link_rules.specs.declared.ReceiverHalf.{ReceiverHalf}
use Rattle.link_rules.specs.Hearing.{arrived_or}
use Rattle.link_rules.proofs.Halves.{character_held}
use Rattle.ins2651_rules.specs.declared.Registers.{Registers}
use Rattle.ins2651_rules.specs.declared.Device.{Device}
use Rattle.ins2651_rules.specs.Shape.{Outcome, reset_device}
use Rattle.ins2651_rules.specs.Modes.{receive_format, receive_enable}
use Rattle.ins2651_rules.specs.Conditions.{listening}
use Rattle.ins2651_rules.specs.Ranges.{in_range, settled}
use Rattle.ins2651_rules.specs.RegisterReads.{read_register}
use Rattle.ins2651_rules.specs.RegisterWrites.{stored, modes_written, receiver_commanded, write_register}
use Rattle.ins2651_rules.specs.Ticks.{received, receive_tick}
use Rattle.ins2651_rules.specs.Runs.{Call, Reset, Read, Write, SetPins, Transmit, Receive, Outputs, next, after, said}
use Rattle.ins2651_rules.specs.Rows.{refusal}
use Rattle.ins2651_rules.specs.History.{reads, Happened, plainly, happened, history, status_by}
use Rattle.ins2651_rules.specs.Pointers.{writes_address, puts_back, mode_pointer}
use Rattle.ins2651_rules.specs.ReadHistory.{character_by, mode_turn, mode_by, without_bit4, command_by, byte_by}
use Rattle.ins2651_rules.proofs.Settled.{settled_is, reset_in}
use Rattle.ins2651_rules.proofs.Done.{done_write, done_receive}
use Rattle.ins2651_rules.proofs.Refused.{write_address}
use Rattle.ins2651_rules.proofs.Leaves.{transmit_leaves, pins_leave, read_leaves}
use Rattle.ins2651_rules.proofs.PointersMove.{pointers_move}
use Rattle.ins2651_rules.proofs.ByHistory.{along_history, read_says, stored_by_history}

-- == what is read back ==

-- RHR, the command, mode 1 and mode 2
record Back : Type 0 where
  character : ℕ
  command : ℕ
  mode1 : ℕ
  mode2 : ℕ

abbrev bytes : ℕ → ℕ → ℕ → ℕ → Back
bytes x c m n = record { character = x; command = c; mode1 = m; mode2 = n }

-- as a device has them ..
abbrev back_of : Registers → ReceiverHalf → Back
back_of r h = bytes h.holding r.command r.mode1 r.mode2

abbrev back : Device → Back
back d = back_of d.registers d.receiver

-- .. and as a history tells them
abbrev back_by : List Happened → Back
back_by es = bytes (character_by es) (command_by es) (mode_by 0 es) (mode_by 1 es)

-- the bytes that can be read back are what the history tells
record Shows (d : Device) (es : List Happened) : Type 0 where
  turn : d.registers.modes ≡ mode_turn es
  holds : back d ≡ back_by es

-- one of them is put there; of the two modes, the one whose turn it is at m
abbrev put_character : ℕ → Back → Back
put_character v b = bytes v b.command b.mode1 b.mode2

abbrev put_command : ℕ → Back → Back
put_command v b = bytes b.character v b.mode1 b.mode2

abbrev put_mode : ℕ → ℕ → Back → Back
put_mode m v b = bytes b.character b.command (cond (eqb m 0) v b.mode1) (cond (eqb m 1) v b.mode2)

-- == small steps ==

alike : {x y c e m k n l : ℕ} → x ≡ y → c ≡ e → m ≡ k → n ≡ l → bytes x c m n ≡ bytes y e k l
alike p q r s = rw (p, q, r, s)

-- the turn is mode 1's or mode 2's
turn_below : (es : List Happened) → mode_turn es ≤ 1
turn_below [] = omega arith
turn_below (e ∷ es) =
    let P : ℕ → Type 0 = λ m. m ≤ 1 in
    either P (puts_back e.call) (omega arith)
    (either P (reads 2 e.call || writes_address 2 e.call) (either P (eqb (mode_turn es) 0) (omega arith) (omega arith))
    (turn_below es))

-- a mode write goes to the register whose turn it is
mode_put : (r : Registers) (h : ReceiverHalf) (v m : ℕ) → m ≤ 1 → r.modes ≡ m → back_of (modes_written r v) h ≡ put_mode m v (back_of r h)
mode_put r h v zero l e = rw (eq-eqb r.modes 0 e)
mode_put r h v (suc zero) l e = rw (ne_eqb r.modes 0 (λ z. omega arith))
mode_put r h v (suc (suc m)) l e = absurd (omega arith)

-- a command is kept with its bit 4 at 0 ..
pub command_put : (v : ℕ) → stored v ≡ without_bit4 v
command_put v = omega arith

-- .. and where it leaves receive off, RHR still gives what it last held
command_keeps : (h : ReceiverHalf) (v : ℕ) → (receiver_commanded h v).holding ≡ h.holding
command_keeps h v = either (λ (k : ReceiverHalf). k.holding ≡ h.holding) (receive_enable v) refl refl

-- == a device that shows what happened before ==

module _ (d : Device) (es : List Happened) (a : Shows d es) where
  write_back : (address v : ℕ) → address ≤ 3 → back (write_register d address v) ≡ back_by (plainly (Write address v) ∷ es)
  unfolding write_register
  write_back zero v l = a.holds
  write_back (suc zero) v l =
      let P : Registers → Type 0 = λ r. back_of r d.receiver ≡ back_by es in
      either P (eqb d.registers.syns 0) a.holds (either P (eqb d.registers.syns 1) a.holds a.holds)
  write_back (suc (suc zero)) v l = mode_put d.registers d.receiver v (mode_turn es) (turn_below es) a.turn ∙ ap (put_mode (mode_turn es) v) a.holds
  write_back (suc (suc (suc zero))) v l = alike (command_keeps d.receiver v) (command_put v) refl refl ∙ ap (put_command (without_bit4 v)) a.holds
  write_back (suc (suc (suc (suc address)))) v l = absurd (omega arith)

  receive_back : (x : Bool) → back (receive_tick d x) ≡ put_character (arrived_or (character_by es) (received d x).heard) (back_by es)
  unfolding receive_tick
  receive_back x =
      alike (character_held d.receiver (listening d) (receive_format d.registers) x) refl refl refl
      ∙ ap (λ (b : Back). put_character (arrived_or b.character (received d x).heard) b) a.holds

  -- a mode read gives the register whose turn it is
  mode_given : (m : ℕ) → m ≤ 1 → d.registers.modes ≡ m → (read_register d 2).value ≡ mode_by m es
  unfolding read_register
  mode_given zero l e = rw (eq-eqb d.registers.modes 0 e) (ap (λ (b : Back). b.mode1) a.holds)
  mode_given (suc zero) l e = rw (ne_eqb d.registers.modes 0 (λ z. omega arith)) (ap (λ (b : Back). b.mode2) a.holds)
  mode_given (suc (suc m)) l e = absurd (omega arith)

  -- and any read what the history says, if a status read does
  byte_given : d.status ≡ status_by es → (address : ℕ) → address ≤ 3 → (read_register d address).value ≡ byte_by address es
  unfolding read_register byte_by
  byte_given s zero l = ap (λ (b : Back). b.character) a.holds
  byte_given s (suc zero) l = s
  byte_given s (suc (suc zero)) l = mode_given (mode_turn es) (turn_below es) a.turn
  byte_given s (suc (suc (suc zero))) l = ap (λ (b : Back). b.command) a.holds
  byte_given s (suc (suc (suc (suc address)))) l = absurd (omega arith)

-- == any call ==

-- what happened was the call
call_is : (d : Device) (c : Call) → (happened d c).call ≡ c
call_is d Reset = refl
call_is d (Read address) = refl
call_is d (Write address v) = refl
call_is d (SetPins dsr dcd cts) = refl
call_is d Transmit = refl
call_is d (Receive x) = refl
call_is d Outputs = refl

module _ (d : Device) (h : in_range d ≡ true) (es : List Happened) (a : Shows d es) where
  before : Shows (settled d) es
  before = subst (λ (e : Device). Shows e es) (sym (settled_is d h)) a

  done_back : (c : Call) → refusal d c ≡ 0 → back (next d c) ≡ back_by (happened d c ∷ es)
  done_back Reset n = refl
  done_back (Read address) n = let l = read_leaves d address n in alike l.holding l.command l.mode1 l.mode2 ∙ before.holds
  done_back (Write address v) n =
      ap (λ (o : Outcome). back o.device) (done_write d address v n)
      ∙ write_back (settled d) es before address v (write_address (settled d).registers address v n)
  done_back (SetPins dsr dcd cts) n = let l = pins_leave d dsr dcd cts n in ap₂ back_of l.registers l.receiver ∙ before.holds
  done_back Transmit n = let l = transmit_leaves d in ap₂ back_of l.registers l.receiver ∙ before.holds
  done_back (Receive x) n = ap (λ (o : Outcome). back o.device) (done_receive d x n) ∙ receive_back (settled d) es before (on x)
  done_back Outputs n = a.holds

  done_shows : (c : Call) → refusal d c ≡ 0 → Shows (next d c) (happened d c ∷ es)
  done_shows c n =
      record {
        turn = (pointers_move d c h n).modes ∙ ap₂ mode_pointer (sym (call_is d c)) before.turn;
        holds = done_back c n;
      }

-- == runs ==

-- after any run from reset, a read of an address up to 3 answers what the history says
pub read_by_history : (cs : List Call) (address : ℕ) → address ≤ 3
    → said (after reset_device cs) (Read address) ≡ record { refusal = 0; values = byte_by address (history reset_device cs []) ∷ [] }
read_by_history cs address l =
    let a : Shows (after reset_device cs) (history reset_device cs []) = along_history Shows done_shows reset_device cs [] reset_in (record { turn = refl; holds = refl }) in
    read_says cs address (byte_by address (history reset_device cs [])) l (byte_given (after reset_device cs) (history reset_device cs []) a (stored_by_history cs) address l)
