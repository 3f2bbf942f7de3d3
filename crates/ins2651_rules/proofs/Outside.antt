-- A device out of range is taken as one just reset: a done call is the same call on that one, and a refused one gets the same number.
-- With refused-unchanged a refused call hands the device back as given.
-- Assumes nothing.
use Prim.Native.Nat.{ℕ}
use native.Mathlib.Omega.{arith}
use mathlib.Core.Path.{◌≡◌, refl, sym, ap, ap₂, ◌∙◌}
use mathlib.Core.Bool.{Bool, true, false}
use mathlib.Core.List.{List, [], ◌∷◌}
use Rattle.line_rules.specs.Sending.{on}
use Rattle.line_rules.specs.Clocks.{no_txc, no_rxc}
use Rattle.ins2651_rules.specs.declared.Device.{Device}
use Rattle.ins2651_rules.specs.Shape.{Ticked, Outcome, Answer, reset_device, done}
use Rattle.ins2651_rules.specs.Status.{outputs_of}
use Rattle.ins2651_rules.specs.Looks.{outputs}
use Rattle.ins2651_rules.specs.Ranges.{in_range, settled}
use Rattle.ins2651_rules.specs.Stamps.{stamp, start, transmit_tally, receive_tally}
use Rattle.ins2651_rules.specs.Refusals.{write_refusal}
use Rattle.ins2651_rules.specs.RegisterReads.{read_register, read}
use Rattle.ins2651_rules.specs.RegisterWrites.{write_register, write}
use Rattle.ins2651_rules.specs.Pinning.{pinned, set_pins}
use Rattle.ins2651_rules.specs.Ticks.{transmit_tick, transmit, receive_tick, receive}
use Rattle.ins2651_rules.specs.Runs.{by_call, otherwise, at_outputs, Call, Reset, Read, Write, SetPins, Transmit, Receive, Outputs, next, after, Said, levels, said, answers}
use Rattle.ins2651_rules.specs.Rows.{refusal}
use Rattle.ins2651_rules.proofs.Settled.{settled_is, settled_out, reset_in}
use Rattle.ins2651_rules.proofs.Done.{done_read, done_write, done_pins, done_receive}

-- outputs gives five levels and no device
abbrev pub hands_back : Call → Bool
hands_back c = by_call (at_outputs false (otherwise true)) c

pub record AsReset (d : Device) (c : Call) : Type 0 where
  pub answer : said d c ≡ said reset_device c
  pub device : hands_back c ≡ true → next d c ≡ next reset_device c

module _ (d : Device) (out : in_range d ≡ false) where
  same : settled d ≡ settled reset_device
  same = settled_out d out ∙ sym (settled_is reset_device reset_in)

  -- its tallies and stamps are 0 (P4)
  pub outside_tallies : ((transmit_tally d ≡ no_txc) × (receive_tally d ≡ no_rxc)) × ((start d ≡ no_txc) × (stamp d ≡ no_rxc))
  unfolding stamp start transmit_tally receive_tally
  outside_tallies =
      let e : settled d ≡ reset_device = settled_out d out in
      ((ap (λ (s : Device). s.sender.tally) e, ap (λ (s : Device). s.receiver.tally) e), (ap (λ (s : Device). s.sender.start) e, ap (λ (s : Device). s.receiver.stamp) e))

  pub outside_refusal : (c : Call) → refusal d c ≡ refusal reset_device c
  outside_refusal Reset = refl
  outside_refusal (Read address) = refl
  outside_refusal (Write address v) = ap (λ (e : Device). write_refusal e.registers address v) same
  outside_refusal (SetPins dsr dcd cts) = refl
  outside_refusal Transmit = refl
  outside_refusal (Receive x) = refl
  outside_refusal Outputs = refl

  pub outside_done : (c : Call) → refusal d c ≡ 0 → AsReset d c
  unfolding transmit outputs
  outside_done Reset n = record { answer = refl; device = λ _. refl }
  outside_done (Read address) n =
      let e : read d address ≡ read reset_device address = done_read d address n ∙ ap (λ (s : Device). read_register s address) same ∙ sym (done_read reset_device address n) in
      record { answer = ap (λ (o : Answer). record { refusal = o.refusal; values = o.value ∷ [] }) e; device = λ _. ap (λ (o : Answer). o.device) e }
  outside_done (Write address v) n =
      let e : write d address v ≡ write reset_device address v =
      done_write d address v n ∙ ap (λ (s : Device). done (write_register s address v)) same ∙ sym (done_write reset_device address v (sym (outside_refusal (Write address v)) ∙ n)) in
      record { answer = ap (λ (o : Outcome). record { refusal = o.refusal; values = [] }) e; device = λ _. ap (λ (o : Outcome). o.device) e }
  outside_done (SetPins dsr dcd cts) n =
      let e : set_pins d dsr dcd cts ≡ set_pins reset_device dsr dcd cts =
      done_pins d dsr dcd cts n ∙ ap (λ (s : Device). done (pinned s dsr dcd cts)) same ∙ sym (done_pins reset_device dsr dcd cts n) in
      record { answer = ap (λ (o : Outcome). record { refusal = o.refusal; values = [] }) e; device = λ _. ap (λ (o : Outcome). o.device) e }
  outside_done Transmit n =
      let e : transmit_tick (settled d) ≡ transmit_tick (settled reset_device) = ap transmit_tick same in
      record { answer = ap (λ (o : Ticked). record { refusal = 0; values = o.level ∷ [] }) e; device = λ _. ap (λ (o : Ticked). o.device) e }
  outside_done (Receive x) n =
      let e : receive d x ≡ receive reset_device x = done_receive d x n ∙ ap (λ (s : Device). done (receive_tick s (on x))) same ∙ sym (done_receive reset_device x n) in
      record { answer = ap (λ (o : Outcome). record { refusal = o.refusal; values = [] }) e; device = λ _. ap (λ (o : Outcome). o.device) e }
  outside_done Outputs n =
      record { answer = ap (λ (s : Device). record { refusal = 0; values = levels (outputs_of s) }) same; device = λ h. absurd (let z : ◌≡◌ {A = ℕ} 0 1 = cc in omega arith) }

  pub record RunAsReset (cs : List Call) : Type 0 where
    pub answered : answers d cs ≡ answers reset_device cs
    pub left : after d cs ≡ after reset_device cs

  -- so a run whose first call is done and hands a device back is the same run from reset
  pub outside_run : (c : Call) (cs : List Call) → refusal d c ≡ 0 → hands_back c ≡ true → RunAsReset (c ∷ cs)
  outside_run c cs n h =
      let r = outside_done c n in
      record {
        answered = ap₂ (λ (a : Said) (as' : List Said). a ∷ as') r.answer (ap (λ (e : Device). answers e cs) (r.device h));
        left = ap (λ (e : Device). after e cs) (r.device h);
      }
