-- After any run of calls from reset, each status bit is what the history of the run says.
-- Assumes nothing.
use Prim.Native.Nat.{ℕ, zero, suc, ◌≤◌}
use native.Mathlib.Omega.{arith}
use mathlib.Core.Path.{◌≡◌, refl, sym, ap, ap₂, subst, ◌∙◌}
use mathlib.Core.Bool.{Bool, true, false, cond, not, ◌&&◌, ◌||◌}
use mathlib.Core.List.{List, [], ◌∷◌}
use lib.Dec.{leb, eqb}
use borrow.Author.Tests.{ltb-true, ltb-false, le-ltb, leb-true, eq-eqb, eqb-true, ne_eqb, eqb-false}
use Rattle.std.specs.Prelude.{Option, None, Some}
use Rattle.line_rules.specs.declared.Arrival.{Arrival}
use Rattle.line_rules.specs.Sending.{on, differ, or_set}
use Rattle.link_rules.specs.Parts.{dropped, emptied}
use Rattle.link_rules.specs.Hearing.{arrives}
use Rattle.line_rules.proofs.Choice.{either, each}
use Rattle.link_rules.proofs.Halves.{full_after, unread_after, overrun_told}
use Rattle.ins2651_rules.specs.declared.Device.{Device}
use Rattle.ins2651_rules.specs.Shape.{Outcome, Answer, reset_device, pin_levels}
use Rattle.ins2651_rules.specs.Modes.{send_format, receive_format, transmit_enable, receive_enable, command_clears}
use Rattle.ins2651_rules.specs.Conditions.{data_set_ready, carrier, transmit_enabled, may_start, break_on, listening, unread}
use Rattle.ins2651_rules.specs.Status.{status_byte}
use Rattle.ins2651_rules.specs.Ranges.{in_range, settled}
use Rattle.ins2651_rules.specs.Refusals.{read_refusal, command_refusal, write_refusal}
use Rattle.ins2651_rules.specs.RegisterReads.{read_register}
use Rattle.ins2651_rules.specs.RegisterWrites.{unless, write_register}
use Rattle.ins2651_rules.specs.Pinning.{changes, pinned}
use Rattle.ins2651_rules.specs.Ticks.{sent, transmit_tick, transmit, noted, received, receive_tick}
use Rattle.ins2651_rules.specs.Runs.{Call, Reset, Read, Write, SetPins, Transmit, Receive, Outputs, next, after, said}
use Rattle.ins2651_rules.specs.Rows.{refusal}
use Rattle.ins2651_rules.specs.History.{clearing_command, Happened, plainly, happened, history, dsr_low, dcd_low, unread_by, framing_by, parity_by, overrun_by, enabled_by, waiting_by, empty_by, change_by, status_by}
use Rattle.ins2651_rules.proofs.Settled.{settled_is, reset_in}
use Rattle.ins2651_rules.proofs.Done.{done_read, done_write, done_pins, done_receive, does_read}
use Rattle.ins2651_rules.proofs.Commands.{transmit_stored}
use Rattle.ins2651_rules.proofs.Refused.{read_address, write_address, command_accepted, levels_taken, answers_refusal, refused_unchanged}
use Rattle.ins2651_rules.proofs.InRange.{parts, pins_of, syns_command, modes_command, next_in, after_in, after_kept}

-- the device shows what happened
record Agrees (d : Device) (es : List Happened) : Type 0 where
  dsr : data_set_ready d ≡ dsr_low es
  dcd : carrier d ≡ dcd_low es
  framing : on d.flags.framing ≡ framing_by es
  overrun : on d.flags.overrun ≡ overrun_by es
  parity : on d.flags.parity ≡ parity_by es
  empty : on d.flags.empty ≡ empty_by es
  change : on d.flags.change ≡ change_by es
  unread : unread d ≡ unread_by es
  enabled : transmit_enabled d ≡ enabled_by es
  waiting : on d.sender.full ≡ waiting_by es

-- == small steps ==

itself : (b : Bool) → b ≡ cond b true false
itself true = refl
itself false = refl

-- a flag that an event sets, or that stays
set_or : (t u : Bool) (x : ℕ) (b : Bool) → t ≡ u → on x ≡ b → on (or_set t x) ≡ cond u true b
set_or t u x b e h = ap (λ (k : Bool). on (or_set k x)) e ∙ go u
  where
    go : (k : Bool) → on (or_set k x) ≡ cond k true b
    go true = refl
    go false = h

-- a flag that an event clears, or that stays
cleared_or : (t u : Bool) (x : ℕ) (b : Bool) → t ≡ u → on x ≡ b → on (unless t x) ≡ cond u false b
cleared_or t u x b e h = ap (λ (k : Bool). on (unless k x)) e ∙ go u
  where
    go : (k : Bool) → on (unless k x) ≡ cond k false b
    go true = refl
    go false = h

-- == each call, at a device that shows what happened before ==

module _ (d : Device) (es : List Happened) (a : Agrees d es) where
  abbrev After : Call → Device → Type 0
  After c e = Agrees e (plainly c ∷ es)

  read_shown : (address : ℕ) → address ≤ 3 → After (Read address) (read_register d address).device
  unfolding read_register
  read_shown zero l = record { dsr = a.dsr; dcd = a.dcd; framing = a.framing; overrun = a.overrun; parity = a.parity; empty = a.empty; change = a.change; unread = refl; enabled = a.enabled; waiting = a.waiting }
  read_shown (suc zero) l = record { dsr = a.dsr; dcd = a.dcd; framing = a.framing; overrun = a.overrun; parity = a.parity; empty = a.empty; change = refl; unread = a.unread; enabled = a.enabled; waiting = a.waiting }
  read_shown (suc (suc zero)) l =
      either (λ (o : Answer). After (Read 2) o.device) (eqb d.registers.modes 0)
      (record { dsr = a.dsr; dcd = a.dcd; framing = a.framing; overrun = a.overrun; parity = a.parity; empty = a.empty; change = a.change; unread = a.unread; enabled = a.enabled; waiting = a.waiting })
      (record { dsr = a.dsr; dcd = a.dcd; framing = a.framing; overrun = a.overrun; parity = a.parity; empty = a.empty; change = a.change; unread = a.unread; enabled = a.enabled; waiting = a.waiting })
  read_shown (suc (suc (suc zero))) l = record { dsr = a.dsr; dcd = a.dcd; framing = a.framing; overrun = a.overrun; parity = a.parity; empty = a.empty; change = a.change; unread = a.unread; enabled = a.enabled; waiting = a.waiting }
  read_shown (suc (suc (suc (suc address)))) l = absurd (omega arith)

  receive_off_lem : (v : ℕ) (t : Bool) → on (cond t d.receiver (emptied (dropped d.receiver))).unread ≡ cond (not t) false (unread_by es)
  receive_off_lem v true = a.unread
  receive_off_lem v false = refl

  write_shown : (address v : ℕ) → address ≤ 3 → (address ≡ 3 → command_refusal v ≡ 0) → After (Write address v) (write_register d address v)
  unfolding write_register
  write_shown zero v l k = record { dsr = a.dsr; dcd = a.dcd; framing = a.framing; overrun = a.overrun; parity = a.parity; empty = refl; change = a.change; unread = a.unread; enabled = a.enabled; waiting = refl }
  write_shown (suc zero) v l k = record { dsr = a.dsr; dcd = a.dcd; framing = a.framing; overrun = a.overrun; parity = a.parity; empty = a.empty; change = a.change; unread = a.unread; enabled = ap transmit_enable (syns_command d.registers v) ∙ a.enabled; waiting = a.waiting }
  write_shown (suc (suc zero)) v l k = record { dsr = a.dsr; dcd = a.dcd; framing = a.framing; overrun = a.overrun; parity = a.parity; empty = a.empty; change = a.change; unread = a.unread; enabled = ap transmit_enable (modes_command d.registers v) ∙ a.enabled; waiting = a.waiting }
  write_shown (suc (suc (suc zero))) v l k =
      let c : command_clears v ≡ clearing_command v = sym (ap (λ (b : Bool). b && command_clears v) (eq-eqb (command_refusal v) 0 (k refl))) in
      record {
        dsr = a.dsr;
        dcd = a.dcd;
        framing = cleared_or (command_clears v) (clearing_command v) d.flags.framing (framing_by es) c a.framing;
        overrun = cleared_or (command_clears v) (clearing_command v) d.flags.overrun (overrun_by es) c a.overrun;
        parity = cleared_or (command_clears v) (clearing_command v) d.flags.parity (parity_by es) c a.parity;
        empty = cleared_or (not (transmit_enable v)) (not (transmit_enable v)) d.flags.empty (empty_by es) refl a.empty;
        change = a.change;
        unread = receive_off_lem v (receive_enable v);
        enabled = transmit_stored v ∙ itself (transmit_enable v);
        waiting = a.waiting;
      }
  write_shown (suc (suc (suc (suc address)))) v l k = absurd (omega arith)

  -- of two levels, that they differ is that one is low and the other is not
  levels_differ : (x y : ℕ) → x ≤ 1 → y ≤ 1 → not (eqb x y) ≡ differ (eqb y 0) (eqb x 0)
  levels_differ zero zero p q = refl
  levels_differ zero (suc zero) p q = refl
  levels_differ zero (suc (suc y)) p q = absurd (omega arith)
  levels_differ (suc zero) zero p q = refl
  levels_differ (suc zero) (suc zero) p q = refl
  levels_differ (suc zero) (suc (suc y)) p q = absurd (omega arith)
  levels_differ (suc (suc x)) y p q = absurd (omega arith)

  pins_shown : (dsr dcd cts : ℕ) → d.pins.dsr ≤ 1 → d.pins.dcd ≤ 1 → dsr ≤ 1 → dcd ≤ 1 → After (SetPins dsr dcd cts) (pinned d dsr dcd cts)
  unfolding pinned
  pins_shown dsr dcd cts p q x y =
      let e : changes d.pins dsr dcd ≡ (differ (eqb dsr 0) (dsr_low es) || differ (eqb dcd 0) (dcd_low es)) =
      ap₂ ◌||◌ (levels_differ d.pins.dsr dsr p x ∙ ap (differ (eqb dsr 0)) a.dsr) (levels_differ d.pins.dcd dcd q y ∙ ap (differ (eqb dcd 0)) a.dcd) in
      record { dsr = itself (eqb dsr 0); dcd = itself (eqb dcd 0); framing = a.framing; overrun = a.overrun; parity = a.parity; empty = a.empty; change = set_or (changes d.pins dsr dcd) (differ (eqb dsr 0) (dsr_low es) || differ (eqb dcd 0) (dcd_low es)) d.flags.change (change_by es) e a.change; unread = a.unread; enabled = a.enabled; waiting = a.waiting }

  transmit_shown : Agrees (transmit_tick d).device (record { call = Transmit; heard = None; began = (sent d).began; drained = (sent d).drained } ∷ es)
  unfolding transmit_tick
  transmit_shown =
      record { dsr = a.dsr; dcd = a.dcd; framing = a.framing; overrun = a.overrun; parity = a.parity; empty = set_or ((sent d).drained && transmit_enabled d) ((sent d).drained && enabled_by es) d.flags.empty (empty_by es) (ap (λ (b : Bool). (sent d).drained && b) a.enabled) a.empty; change = a.change; unread = a.unread; enabled = a.enabled; waiting = ap on (full_after d.sender (may_start d) (break_on d) (send_format d.registers)) ∙ begins (sent d).began }
    where
      begins : (b : Bool) → on (cond b 0 d.sender.full) ≡ cond b false (waiting_by es)
      begins true = refl
      begins false = a.waiting

  -- what arrived sets the flags that it was bad by
  noted_framing : (o : Bool) (h : Option Arrival) → on (noted d.flags o h).framing ≡ cond (arrives (λ (x : Arrival). x.framing) h) true (framing_by es)
  noted_framing o None = a.framing
  noted_framing o (Some x) = set_or x.framing x.framing d.flags.framing (framing_by es) refl a.framing

  noted_parity : (o : Bool) (h : Option Arrival) → on (noted d.flags o h).parity ≡ cond (arrives (λ (x : Arrival). x.parity) h) true (parity_by es)
  noted_parity o None = a.parity
  noted_parity o (Some x) = set_or x.parity x.parity d.flags.parity (parity_by es) refl a.parity

  noted_overrun : (o : Bool) (h : Option Arrival) → o ≡ (arrives (λ (x : Arrival). true) h && unread_by es) → on (noted d.flags o h).overrun ≡ cond (arrives (λ (x : Arrival). true) h && unread_by es) true (overrun_by es)
  noted_overrun o None e = a.overrun
  noted_overrun o (Some x) e = set_or o (unread_by es) d.flags.overrun (overrun_by es) e a.overrun

  noted_empty : (o : Bool) (h : Option Arrival) → on (noted d.flags o h).empty ≡ empty_by es
  noted_empty o None = a.empty
  noted_empty o (Some x) = a.empty

  noted_change : (o : Bool) (h : Option Arrival) → on (noted d.flags o h).change ≡ change_by es
  noted_change o None = a.change
  noted_change o (Some x) = a.change

  receive_shown : (x : ℕ) → Agrees (receive_tick d (on x)) (record { call = Receive x; heard = (received d (on x)).heard; began = false; drained = false } ∷ es)
  unfolding receive_tick
  receive_shown x =
      let h : Option Arrival = (received d (on x)).heard in
      let o : Bool = (received d (on x)).overrun in
      let e : o ≡ (arrives (λ (y : Arrival). true) h && unread_by es) =
      overrun_told d.receiver (listening d) (receive_format d.registers) (on x) ∙ ap (λ (b : Bool). arrives (λ (y : Arrival). true) h && b) a.unread in
      record { dsr = a.dsr; dcd = a.dcd; framing = noted_framing o h; overrun = noted_overrun o h e; parity = noted_parity o h; empty = noted_empty o h; change = noted_change o h; unread = unread_after d.receiver (listening d) (receive_format d.registers) (on x) ∙ ap (λ (b : Bool). cond (arrives (λ (y : Arrival). true) h) true b) a.unread; enabled = a.enabled; waiting = a.waiting }

-- == any call ==

module _ (d : Device) (h : in_range d ≡ true) (es : List Happened) (a : Agrees d es) where
  abbrev Shown : Call → Type 0
  Shown c = Agrees (next d c) (happened d c ∷ es)

  settled_shown : Agrees (settled d) es
  settled_shown = subst (λ (e : Device). Agrees e es) (sym (settled_is d h)) a

  done_shown : (c : Call) → refusal d c ≡ 0 → Shown c
  unfolding transmit
  done_shown Reset n = record { dsr = refl; dcd = refl; framing = refl; overrun = refl; parity = refl; empty = refl; change = refl; unread = refl; enabled = refl; waiting = refl }
  done_shown (Read address) n =
      subst (λ (o : Answer). Agrees o.device (plainly (Read address) ∷ es)) (sym (done_read d address n))
      (read_shown (settled d) es settled_shown address (read_address address n))
  done_shown (Write address v) n =
      subst (λ (o : Outcome). Agrees o.device (plainly (Write address v) ∷ es)) (sym (done_write d address v n))
      (write_shown (settled d) es settled_shown address v
      (write_address (settled d).registers address v n)
      (λ e. command_accepted (settled d).registers v (subst (λ (k : ℕ). write_refusal (settled d).registers k v ≡ 0) e n)))
  done_shown (SetPins dsr dcd cts) n =
      let p = pins_of d.pins (parts d h).pins in
      let q = pins_of (pin_levels dsr dcd cts) (levels_taken (leb dsr 1 && leb dcd 1 && leb cts 1) n) in
      subst (λ (o : Outcome). Agrees o.device (plainly (SetPins dsr dcd cts) ∷ es)) (sym (done_pins d dsr dcd cts n))
      (subst (λ (e : Device). Agrees (pinned e dsr dcd cts) (plainly (SetPins dsr dcd cts) ∷ es)) (sym (settled_is d h))
      (pins_shown d es a dsr dcd cts (leb-true _ _ p.dsr) (leb-true _ _ p.dcd) (leb-true _ _ q.dsr) (leb-true _ _ q.dcd)))
  done_shown Transmit n = transmit_shown (settled d) es settled_shown
  done_shown (Receive x) n =
      subst (λ (o : Outcome). Agrees o.device (happened d (Receive x) ∷ es)) (sym (done_receive d x n)) (receive_shown (settled d) es settled_shown x)
  done_shown Outputs n = record { dsr = a.dsr; dcd = a.dcd; framing = a.framing; overrun = a.overrun; parity = a.parity; empty = a.empty; change = a.change; unread = a.unread; enabled = a.enabled; waiting = a.waiting }

-- == runs ==

-- what each done call keeps, as a refused one does, holds after any run
module _ (Holds : Device → List Happened → Type 0) (step : (d : Device) → in_range d ≡ true → (es : List Happened) → Holds d es → (c : Call) → refusal d c ≡ 0 → Holds (next d c) (happened d c ∷ es)) where
  pub along_history : (d : Device) (cs : List Call) (es : List Happened) → in_range d ≡ true → Holds d es → Holds (after d cs) (history d cs es)
  along_history d [] es h a = a
  along_history d (c ∷ cs) es h a =
      along_history (next d c) cs (cond (eqb (refusal d c) 0) (happened d c ∷ es) es) (next_in d c h)
      (each (Holds (next d c)) (eqb (refusal d c) 0) (λ t. step d h es a c (eqb-true _ _ t))
      (λ t. subst (λ (e : Device). Holds e es) (sym (refused_unchanged d c (eqb-false _ _ t)).device) a))

vacant_is : (x : ℕ) → eqb x 0 ≡ not (on x)
vacant_is x = go (on x) refl
  where
    go : (b : Bool) → on x ≡ b → eqb x 0 ≡ not b
    go true e = ne_eqb x 0 (λ z. omega (arith, ltb-true 0 x e))
    go false e = eq-eqb x 0 (omega (arith, ltb-false 0 x e))

status_is : (d : Device) (es : List Happened) → Agrees d es → status_byte d ≡ status_by es
unfolding status_byte status_by
status_is d es a =
    rw (vacant_is d.sender.full, a.dsr, a.dcd, a.framing, a.overrun, a.parity, a.empty, a.change, a.unread, a.enabled, a.waiting)

module _ (cs : List Call) where
  abbrev now : Device
  now = after reset_device cs

  agrees_now : Agrees now (history reset_device cs [])
  agrees_now = along_history Agrees done_shown reset_device cs [] reset_in (record { dsr = refl; dcd = refl; framing = refl; overrun = refl; parity = refl; empty = refl; change = refl; unread = refl; enabled = refl; waiting = refl })

  -- a read of an address up to 3 is done, and answers the register's value
  pub read_says : (address v : ℕ) → address ≤ 3 → (read_register now address).value ≡ v → said now (Read address) ≡ record { refusal = 0; values = v ∷ [] }
  read_says address v l e =
      let n : read_refusal address ≡ 0 = ap (λ (b : Bool). cond b 1 0) (le-ltb 3 address l) in
      ap₂ (λ (k : ℕ) (w : ℕ). record { refusal = k; values = w ∷ [] }) (answers_refusal now (Read address) ∙ n)
      (ap (λ (o : Answer). o.value) (does_read now (after_in reset_device cs reset_in) address n) ∙ e)

  -- the stored byte is what the history says (P7) ..
  pub stored_by_history : now.status ≡ status_by (history reset_device cs [])
  stored_by_history = after_kept reset_device cs reset_in ∙ status_is now (history reset_device cs []) agrees_now

  -- .. and a status read answers it, after any run from reset
  pub status_by_history : said now (Read 1) ≡ record { refusal = 0; values = status_by (history reset_device cs []) ∷ [] }
  unfolding read_register
  status_by_history = read_says 1 (status_by (history reset_device cs [])) (omega arith) stored_by_history
