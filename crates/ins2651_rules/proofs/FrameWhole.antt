-- A frame is whole: once begun it sends its levels in turn, whatever calls but reset come between, and ends after L transmit ticks.
-- Assumes nothing.
use Prim.Native.Nat.{ℕ, suc, ◌+◌, ◌≤◌, ◌<◌}
use native.Mathlib.Nat.{add-zero}
use native.Mathlib.Omega.{arith}
use mathlib.Core.Path.{◌≡◌, refl, sym, ap, ap₂, subst, ◌∙◌}
use mathlib.Core.Bool.{Bool, true, false, cond, not, ◌&&◌, true≢false}
use mathlib.Core.List.{List, [], ◌∷◌, map}
use lib.Dec.{ltb, eqb}
use borrow.Author.Tests.{lt-ltb, le-ltb, ltb-true, ltb-false, eqb-true, eqb-false}
use Rattle.line_rules.specs.declared.Format.{Format}
use Rattle.line_rules.specs.Sending.{bit, on, frame_length, level, listed}
use Rattle.line_rules.proofs.Choice.{either, each, not_so}
use Rattle.line_rules.proofs.Table.{both}
use Rattle.link_rules.specs.declared.Frame.{Frame}
use Rattle.link_rules.specs.declared.SenderHalf.{SenderHalf}
use Rattle.link_rules.specs.Parts.{no_frame, sender_later}
use Rattle.link_rules.specs.Transmitting.{Sent, frame_next, frame_tick}
use Rattle.link_rules.proofs.Halves.{frame_of, transmit_under, frame_goes_on, frame_ends}
use Rattle.ins2651_rules.specs.declared.Device.{Device}
use Rattle.ins2651_rules.specs.Shape.{Outcome}
use Rattle.ins2651_rules.specs.Modes.{send_format}
use Rattle.ins2651_rules.specs.Conditions.{may_start, break_on}
use Rattle.ins2651_rules.specs.Ranges as range
use Rattle.ins2651_rules.specs.Ranges.{settled}
use Rattle.ins2651_rules.specs.RegisterWrites.{write_register}
use Rattle.ins2651_rules.specs.Ticks.{sent, transmit_tick, transmit}
use Rattle.ins2651_rules.specs.Runs.{Call, Reset, Read, Write, SetPins, Transmit, Receive, Outputs, next, after, nowhere}
use Rattle.ins2651_rules.specs.Rows.{refusal}
use Rattle.ins2651_rules.specs.History.{resets, writes_holding}
use Rattle.ins2651_rules.specs.Line.{if_transmit, is_transmit, transmits, levels_sent, begins, none_begins}
use Rattle.ins2651_rules.proofs.Settled.{settled_is}
use Rattle.ins2651_rules.proofs.Done.{done_write}
use Rattle.ins2651_rules.proofs.Refused.{refused_unchanged}
use Rattle.ins2651_rules.proofs.InRange.{next_in}
use Rattle.ins2651_rules.proofs.Leaves.{pins_leave, receive_leaves, read_leaves}

-- == calls that are no transmit tick ==

-- what holds of a transmit tick and of every other call holds of each
pub each_call : (P : Call → Type 0) → P Transmit → ((c : Call) → is_transmit c ≡ false → P c) → (c : Call) → P c
each_call P tick other Reset = other Reset refl
each_call P tick other (Read address) = other (Read address) refl
each_call P tick other (Write address v) = other (Write address v) refl
each_call P tick other (SetPins dsr dcd cts) = other (SetPins dsr dcd cts) refl
each_call P tick other Transmit = tick
each_call P tick other (Receive x) = other (Receive x) refl
each_call P tick other Outputs = other Outputs refl

pub at_other : {A : Type 0} (k : Call) (a b : A) → is_transmit k ≡ false → if_transmit k a b ≡ b
at_other Reset a b e = refl
at_other (Read address) a b e = refl
at_other (Write address v) a b e = refl
at_other (SetPins dsr dcd cts) a b e = refl
at_other Transmit a b e = absurd (true≢false e)
at_other (Receive x) a b e = refl
at_other Outputs a b e = refl

-- what is left of the sending half: the frame and the guard, and all of it where THR is not written
pub record SenderKept (written : Bool) (s q : SenderHalf) : Type 0 where
  pub frame : q.frame ≡ s.frame
  pub guard : q.guard ≡ s.guard
  pub unwritten : written ≡ false → q ≡ s

same : {written : Bool} {s q : SenderHalf} → q ≡ s → SenderKept written s q
same e = record { frame = ap (λ (h : SenderHalf). h.frame) e; guard = ap (λ (h : SenderHalf). h.guard) e; unwritten = λ _. e }

write_keeps : (d : Device) (address v : ℕ) → SenderKept (eqb address 0) d.sender (write_register d address v).sender
unfolding write_register
write_keeps d address v =
    let Kept : Device → Type 0 = λ e. SenderKept (eqb address 0) d.sender e.sender in
    each Kept (eqb address 0) (λ t. record { frame = refl; guard = refl; unwritten = λ n. absurd (true≢false (sym t ∙ n)) }) λ t.
    either Kept (eqb address 1) (same refl) (either Kept (eqb address 2) (same refl) (same refl))

done_keeps : (d : Device) (c : Call) → refusal d c ≡ 0 → resets c ≡ false → is_transmit c ≡ false → range.in_range d ≡ true
    → SenderKept (writes_holding c) (settled d).sender (next d c).sender
done_keeps d Reset n r t h = absurd (true≢false r)
done_keeps d (Read address) n r t h = same (read_leaves d address n).sender
done_keeps d (Write address v) n r t h =
    subst (λ (o : Outcome). SenderKept (eqb address 0) (settled d).sender o.device.sender) (sym (done_write d address v n)) (write_keeps (settled d) address v)
done_keeps d (SetPins dsr dcd cts) n r t h = same (pins_leave d dsr dcd cts n).sender
done_keeps d Transmit n r t h = absurd (true≢false t)
done_keeps d (Receive x) n r t h = same (receive_leaves d x n).sender
done_keeps d Outputs n r t h = same (ap (λ (e : Device). e.sender) (sym (settled_is d h)))

-- every call but a transmit tick and a reset leaves the frame and the guard alone, and THR too where that is not written
pub sender_kept : (d : Device) (c : Call) → range.in_range d ≡ true → resets c ≡ false → is_transmit c ≡ false → SenderKept (writes_holding c) d.sender (next d c).sender
sender_kept d c h r t = go (eqb (refusal d c) 0) refl
  where
    go : (b : Bool) → eqb (refusal d c) 0 ≡ b → SenderKept (writes_holding c) d.sender (next d c).sender
    go true e = subst (λ (k : Device). SenderKept (writes_holding c) k.sender (next d c).sender) (settled_is d h) (done_keeps d c (eqb-true _ _ e) r t h)
    go false e = same (ap (λ (k : Device). k.sender) (refused_unchanged d c (eqb-false _ _ e)).device)

-- the frame under way alone
pub frame_kept : (d : Device) (c : Call) → range.in_range d ≡ true → resets c ≡ false → is_transmit c ≡ false → (next d c).sender.frame ≡ d.sender.frame
frame_kept d c h r t = (sender_kept d c h r t).frame

-- == a transmit tick of a frame under way ==

module _ (d : Device) (h : range.in_range d ≡ true) (f : Format) (c i : ℕ) (under : d.sender.frame ≡ frame_of f c i) (begun : 0 < i) where
  goes_on : sent (settled d) ≡ frame_tick (sender_later 1 d.sender) (frame_of f c i) false
  goes_on =
      ap sent (settled_is d h)
      ∙ transmit_under d.sender (may_start d) (break_on d) (send_format d.registers) (ap (λ (g : Frame). on g.place) under ∙ lt-ltb 0 i begun)
      ∙ ap (λ (g : Frame). frame_tick (sender_later 1 d.sender) g false) under

  pub tick_level : (transmit d).level ≡ bit (level f c i)
  unfolding transmit transmit_tick
  tick_level = ap (λ (o : Sent). bit o.level) goes_on

  pub tick_frame : (next d Transmit).sender.frame ≡ frame_next (frame_of f c i)
  unfolding transmit transmit_tick
  tick_frame = ap (λ (o : Sent). o.half.frame) goes_on

  pub tick_guard : (next d Transmit).sender.guard ≡ d.sender.guard
  unfolding transmit transmit_tick
  tick_guard = ap (λ (o : Sent). o.half.guard) goes_on

  pub begins_none : begins d Transmit ≡ false
  begins_none = ap (λ (o : Sent). o.began) goes_on

-- == a run ==

-- the frame before its place i; none after the last
abbrev pub frame_before : Format → ℕ → ℕ → Frame
frame_before f c i = cond (ltb i (frame_length f)) (frame_of f c i) no_frame

-- from place i on the levels at the frame's places are sent in turn; no other frame begins meanwhile, and no guard is set
pub record Whole (f : Format) (c i : ℕ) (d : Device) (cs : List Call) : Type 0 where
  pub sends : levels_sent d cs ≡ map bit (listed (level f c) i (transmits cs))
  pub leaves : (after d cs).sender.frame ≡ frame_before f c (i + transmits cs)
  pub alone : none_begins d cs ≡ true
  pub guard : (after d cs).sender.guard ≡ d.sender.guard

-- with the last tick no frame is under way
pub whole_over : (f : Format) (c i : ℕ) (d : Device) (cs : List Call) → Whole f c i d cs → i + transmits cs ≡ frame_length f → (after d cs).sender.frame ≡ no_frame
whole_over f c i d cs w l = w.leaves ∙ ap (λ (b : Bool). cond b (frame_of f c (i + transmits cs)) no_frame) (le-ltb (i + transmits cs) (frame_length f) (omega (arith, l)))

module _ (f : Format) (c : ℕ) (fits : frame_length f ≤ 768) where
  pub frame_next_lem : (i : ℕ) → i < frame_length f → frame_next (frame_of f c i) ≡ frame_before f c (suc i)
  frame_next_lem i l = go (ltb (suc i) (frame_length f)) refl
    where
      go : (b : Bool) → ltb (suc i) (frame_length f) ≡ b → frame_next (frame_of f c i) ≡ frame_before f c (suc i)
      go true e = frame_goes_on f c i fits (ltb-true (suc i) (frame_length f) e) ∙ sym (ap (λ (b : Bool). cond b (frame_of f c (suc i)) no_frame) e)
      go false e = frame_ends f c i fits (omega (arith, ltb-false (suc i) (frame_length f) e)) ∙ sym (ap (λ (b : Bool). cond b (frame_of f c (suc i)) no_frame) e)

  -- what is known at place i, before the calls cs
  record At (i : ℕ) (d : Device) (cs : List Call) : Type 0 where
    begun : 0 < i
    within : range.in_range d ≡ true
    under : d.sender.frame ≡ frame_before f c i
    no_reset : nowhere resets cs ≡ true
    room : i + transmits cs ≤ frame_length f

  -- a call that is no transmit tick changes nothing of it
  passes : (i : ℕ) (d : Device) (k : Call) (cs : List Call) → is_transmit k ≡ false → At i d (k ∷ cs) → (At i (next d k) cs → Whole f c i (next d k) cs) → Whole f c i d (k ∷ cs)
  passes i d k cs e a rest =
      let q = both (not (resets k)) (nowhere resets cs) a.no_reset in
      let n : transmits (k ∷ cs) ≡ transmits cs = at_other k (suc (transmits cs)) (transmits cs) e in
      let s = sender_kept d k a.within (not_so (resets k) q.0) e in
      let w = rest (record {
        begun = a.begun;
        within = next_in d k a.within;
        under = s.frame ∙ a.under;
        no_reset = q.1;
        room = omega (arith, a.room, n);
      }) in
      record {
        sends = at_other k ((transmit d).level ∷ levels_sent (next d k) cs) (levels_sent (next d k) cs) e ∙ w.sends ∙ ap (λ (j : ℕ). map bit (listed (level f c) i j)) (sym n);
        leaves = w.leaves ∙ ap (λ (j : ℕ). frame_before f c (i + j)) (sym n);
        alone = ap (λ (b : Bool). not b && none_begins (next d k) cs) (at_other k (begins d Transmit) false e) ∙ w.alone;
        guard = w.guard ∙ s.guard;
      }

  -- a transmit tick sends the level at i, and goes on to the next place
  sends_one : (i : ℕ) (d : Device) (cs : List Call) → At i d (Transmit ∷ cs) → (At (suc i) (next d Transmit) cs → Whole f c (suc i) (next d Transmit) cs) → Whole f c i d (Transmit ∷ cs)
  sends_one i d cs a rest =
      let l : i < frame_length f = omega (arith, a.room) in
      let u : d.sender.frame ≡ frame_of f c i = a.under ∙ ap (λ (b : Bool). cond b (frame_of f c i) no_frame) (lt-ltb i (frame_length f) l) in
      let m : suc i + transmits cs ≡ i + suc (transmits cs) = omega arith in
      let w = rest (record {
        begun = omega arith;
        within = next_in d Transmit a.within;
        under = tick_frame d a.within f c i u a.begun ∙ frame_next_lem i l;
        no_reset = a.no_reset;
        room = omega (arith, a.room);
      }) in
      record {
        sends = ap₂ (λ (x : ℕ) (xs : List ℕ). x ∷ xs) (tick_level d a.within f c i u a.begun) w.sends;
        leaves = w.leaves ∙ ap (frame_before f c) m;
        alone = ap (λ (b : Bool). not b && none_begins (next d Transmit) cs) (begins_none d a.within f c i u a.begun) ∙ w.alone;
        guard = w.guard ∙ tick_guard d a.within f c i u a.begun;
      }

  run : (i : ℕ) (d : Device) (cs : List Call) → At i d cs → Whole f c i d cs
  run i d [] a = record { sends = refl; leaves = a.under ∙ ap (frame_before f c) (sym (add-zero i)); alone = refl; guard = refl }
  run i d (k ∷ cs) a =
      each_call (λ (j : Call). At i d (j ∷ cs) → Whole f c i d (j ∷ cs))
      (λ b. sends_one i d cs b (run (suc i) (next d Transmit) cs))
      (λ j e b. passes i d j cs e b (run i (next d j) cs)) k a

  -- from place i on, whatever calls but reset come between the ticks
  pub frame_whole : (i : ℕ) (d : Device) (cs : List Call) → 0 < i → range.in_range d ≡ true → d.sender.frame ≡ frame_before f c i
      → nowhere resets cs ≡ true → i + transmits cs ≤ frame_length f → Whole f c i d cs
  frame_whole i d cs pos h u r l = run i d cs (record { begun = pos; within = h; under = u; no_reset = r; room = l })
