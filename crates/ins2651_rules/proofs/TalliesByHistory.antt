-- After any run of calls from reset, the tallies and the stamps are what the history of the run says: request P4.
-- Assumes nothing.
use Prim.Native.Nat.{ℕ, suc, ◌+◌, ◌%◌}
use native.Mathlib.Nat.{mod-add-mod}
use native.Mathlib.Omega.{arith}
use mathlib.Core.Path.{◌≡◌, refl, sym, ap, ap₂, subst, ◌∙◌}
use mathlib.Core.Bool.{Bool, true, cond}
use mathlib.Core.List.{List, [], ◌∷◌}
use lib.Dec.{eqb}
use Rattle.std.specs.Prelude.{Option, None, Some}
use Rattle.line_rules.specs.declared.TxC.{TxC}
use Rattle.line_rules.specs.declared.RxC.{RxC}
use Rattle.line_rules.specs.declared.Arrival.{Arrival}
use Rattle.line_rules.specs.Sending.{on}
use Rattle.line_rules.specs.Clocks.{ticks_on, tx_later, rx_later}
use Rattle.line_rules.specs.Arrived.{stamped_or}
use Rattle.line_rules.proofs.Choice.{either}
use Rattle.link_rules.specs.declared.SenderHalf.{SenderHalf}
use Rattle.link_rules.specs.declared.ReceiverHalf.{ReceiverHalf}
use Rattle.link_rules.specs.Hearing.{arrives}
use Rattle.link_rules.proofs.Halves.{transmit_counts, start_after, receive_counts, stamp_held, stamp_now}
use Rattle.ins2651_rules.specs.declared.Device.{Device}
use Rattle.ins2651_rules.specs.Shape.{Outcome, reset_device}
use Rattle.ins2651_rules.specs.Modes.{send_format, receive_format, receive_enable}
use Rattle.ins2651_rules.specs.Conditions.{may_start, break_on, listening}
use Rattle.ins2651_rules.specs.Ranges.{in_range, settled}
use Rattle.ins2651_rules.specs.RegisterWrites.{write_register}
use Rattle.ins2651_rules.specs.Ticks.{sent, received, transmit_tick, transmit, receive_tick}
use Rattle.ins2651_rules.specs.Stamps.{stamp, start, transmit_tally, receive_tally}
use Rattle.ins2651_rules.specs.Runs.{Call, Reset, Read, Write, SetPins, Transmit, Receive, Outputs, next, after}
use Rattle.ins2651_rules.specs.Rows.{refusal}
use Rattle.ins2651_rules.specs.History.{Happened, happened, history}
use Rattle.ins2651_rules.specs.Line.{is_transmit}
use Rattle.ins2651_rules.specs.TallyHistory.{since, is_receive, transmit_tally_by, receive_tally_by, start_by, stamp_by}
use Rattle.ins2651_rules.proofs.Settled.{settled_is, reset_in}
use Rattle.ins2651_rules.proofs.Done.{done_write, done_receive}
use Rattle.ins2651_rules.proofs.InRange.{after_in}
use Rattle.ins2651_rules.proofs.Leaves.{pins_leave, read_leaves}
use Rattle.ins2651_rules.proofs.ByHistory.{along_history}

-- what the two halves have of them
pub record Clocks : Type 0 where
  pub transmitted : TxC
  pub started : TxC
  pub received : RxC
  pub stamped : RxC

abbrev clocks : TxC → TxC → RxC → RxC → Clocks
clocks t s r a = record { transmitted = t; started = s; received = r; stamped = a }

abbrev clocks_of : SenderHalf → ReceiverHalf → Clocks
clocks_of s r = clocks s.tally s.start r.tally r.stamp

abbrev shown : Device → Clocks
shown d = clocks_of d.sender d.receiver

abbrev told : List Happened → Clocks
told es = clocks (transmit_tally_by es) (start_by es) (receive_tally_by es) (stamp_by es)

alike : {t t' s s' : TxC} {r r' a a' : RxC} → t ≡ t' → s ≡ s' → r ≡ r' → a ≡ a' → clocks t s r a ≡ clocks t' s' r' a'
alike p q u v = rw (p, q, u, v)

record Shows (d : Device) (es : List Happened) : Type 0 where
  all_four : shown d ≡ told es

-- one tick more, wrapped or not
one_more : (n : ℕ) → ticks_on 1 (n % 4294967296) ≡ suc n % 4294967296
one_more n = mod-add-mod n 4294967296 1 ∙ ap (λ (k : ℕ). k % 4294967296) (let e : n + 1 ≡ suc n = omega arith in e)

-- no write touches them
write_leaves : (d : Device) (address v : ℕ) → shown (write_register d address v) ≡ shown d
unfolding write_register
write_leaves d address v =
    let P : Device → Type 0 = λ e. shown e ≡ shown d in
    either P (eqb address 0) refl
    (either P (eqb address 1) refl
    (either P (eqb address 2) refl
    (either (λ (r : ReceiverHalf). clocks_of d.sender r ≡ shown d) (receive_enable v) refl refl)))

-- what arrived with a tick is stamped with its tally
stamped_so : (before now : RxC) (h : Option Arrival) → ((a : Arrival) → h ≡ Some a → a.stamp ≡ now) → stamped_or before h ≡ cond (arrives (λ (a : Arrival). true) h) now before
stamped_so before now None e = refl
stamped_so before now (Some a) e = e a refl

module _ (d : Device) (es : List Happened) (a : Shows d es) where
  abbrev half_told : Bool → TxC → Clocks
  half_told began t = clocks t (cond began t (start_by es)) (receive_tally_by es) (stamp_by es)

  transmit_told : shown (transmit_tick d).device ≡ half_told (sent d).began (record { 0 = suc (since is_transmit es) % 4294967296 })
  unfolding transmit_tick
  transmit_told =
      let f = send_format d.registers in
      alike (transmit_counts d.sender (may_start d) (break_on d) f) (start_after d.sender (may_start d) (break_on d) f) refl refl
      ∙ ap (λ (c : Clocks). clocks (tx_later 1 c.transmitted) (cond (sent d).began (tx_later 1 c.transmitted) c.started) c.received c.stamped) a.all_four
      ∙ ap (λ (n : ℕ). half_told (sent d).began (record { 0 = n })) (one_more (since is_transmit es))

  abbrev heard_told : Bool → RxC → Clocks
  heard_told came r = clocks (transmit_tally_by es) (start_by es) r (cond came r (stamp_by es))

  receive_told : (x : Bool) → shown (receive_tick d x) ≡ heard_told (arrives (λ (a : Arrival). true) (received d x).heard) (record { 0 = suc (since is_receive es) % 4294967296 })
  unfolding receive_tick
  receive_told x =
      let f = receive_format d.registers in
      let came : Bool = arrives (λ (a : Arrival). true) (received d x).heard in
      let now : RxC = rx_later 1 d.receiver.tally in
      alike refl refl (receive_counts d.receiver (listening d) f x)
      (stamp_held d.receiver (listening d) f x ∙ stamped_so d.receiver.stamp now (received d x).heard (stamp_now d.receiver (listening d) f x))
      ∙ ap (λ (c : Clocks). clocks c.transmitted c.started (rx_later 1 c.received) (cond came (rx_later 1 c.received) c.stamped)) a.all_four
      ∙ ap (λ (n : ℕ). heard_told came (record { 0 = n })) (one_more (since is_receive es))

module _ (d : Device) (h : in_range d ≡ true) (es : List Happened) (a : Shows d es) where
  before : Shows (settled d) es
  before = subst (λ (e : Device). Shows e es) (sym (settled_is d h)) a

  by_call : (c : Call) → refusal d c ≡ 0 → shown (next d c) ≡ told (happened d c ∷ es)
  unfolding transmit
  by_call Reset n = refl
  by_call (Read address) n =
      let l = read_leaves d address n in
      alike (ap (λ (s : SenderHalf). s.tally) l.sender) (ap (λ (s : SenderHalf). s.start) l.sender) l.tally l.stamp ∙ before.all_four
  by_call (Write address v) n = ap (λ (o : Outcome). shown o.device) (done_write d address v n) ∙ write_leaves (settled d) address v ∙ before.all_four
  by_call (SetPins dsr dcd cts) n = let l = pins_leave d dsr dcd cts n in ap₂ clocks_of l.sender l.receiver ∙ before.all_four
  by_call Transmit n = transmit_told (settled d) es before
  by_call (Receive x) n = ap (λ (o : Outcome). shown o.device) (done_receive d x n) ∙ receive_told (settled d) es before (on x)
  by_call Outputs n = a.all_four

-- after any run from reset: the tallies count the ticks since the last reset, the start is the tally of the last tick that began a frame, the stamp that of the
-- last arrival
pub record TalliesTold (d : Device) (es : List Happened) : Type 0 where
  pub transmitted : transmit_tally d ≡ transmit_tally_by es
  pub received : receive_tally d ≡ receive_tally_by es
  pub started : start d ≡ start_by es
  pub stamped : stamp d ≡ stamp_by es

pub tallies_by_history : (cs : List Call) → TalliesTold (after reset_device cs) (history reset_device cs [])
unfolding stamp start transmit_tally receive_tally
tallies_by_history cs =
    let d : Device = after reset_device cs in
    let s : settled d ≡ d = settled_is d (after_in reset_device cs reset_in) in
    let a = (along_history Shows (λ d h es a c n. record { all_four = by_call d h es a c n }) reset_device cs [] reset_in (record { all_four = refl })).all_four in
    let all : shown (settled d) ≡ told (history reset_device cs []) = ap shown s ∙ a in
    record {
      transmitted = ap (λ (c : Clocks). c.transmitted) all;
      received = ap (λ (c : Clocks). c.received) all;
      started = ap (λ (c : Clocks). c.started) all;
      stamped = ap (λ (c : Clocks). c.stamped) all;
    }
