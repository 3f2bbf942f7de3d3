-- A written character is sent: it waits in THR until a transmit tick may begin it, behind a frame too, and its frame is then whole.
-- Assumes nothing.
use Prim.Native.Nat.{ℕ, zero, suc, ◌+◌, ◌<◌}
use native.Mathlib.Nat.{add-zero, zero-add, suc-add}
use native.Mathlib.Omega.{arith}
use mathlib.Core.Path.{◌≡◌, refl, sym, ap, ap₂, subst, ◌∙◌}
use mathlib.Core.Bool.{Bool, true, false, cond, not, ◌&&◌}
use mathlib.Core.List.{List, [], ◌∷◌, ◌++◌, map, map-append}
use lib.Dec.{ltb, eqb}
use lib.ListN.{drop}
use borrow.Author.Tests.{lt-ltb, eq-eqb, eqb-true}
use Rattle.line_rules.specs.declared.Format.{Format}
use Rattle.line_rules.specs.Sending.{bit, on, frame_length, level, listed, frame}
use Rattle.line_rules.specs.Range as line-range
use Rattle.line_rules.specs.Range.{Bounds}
use Rattle.line_rules.proofs.Choice.{all, not_so, neither}
use Rattle.line_rules.proofs.Frames.{frame_levels}
use Rattle.line_rules.proofs.Ranges.{in_range_bounds}
use Rattle.line_rules.proofs.Table.{both}
use Rattle.link_rules.specs.declared.Frame.{Frame}
use Rattle.link_rules.specs.declared.SenderHalf.{SenderHalf}
use Rattle.link_rules.specs.Parts.{no_frame, sender_later}
use Rattle.link_rules.specs.Transmitting.{Sent, frame_next, begin_tick}
use Rattle.link_rules.specs.Within.{holding_in_range, busy_in_range, free_in_range, frame_in_range, sender_in_range}
use Rattle.link_rules.proofs.Halves.{frame_of, transmit_begins, full_after, holding_after, length_bound}
use Rattle.ins2651_rules.specs.declared.Device.{Device}
use Rattle.ins2651_rules.specs.Modes.{has, send_format}
use Rattle.ins2651_rules.specs.Conditions.{may_start, break_on}
use Rattle.ins2651_rules.specs.Ranges.{in_range, settled}
use Rattle.ins2651_rules.specs.Refusals.{write_refusal}
use Rattle.ins2651_rules.specs.RegisterWrites.{write_register}
use Rattle.ins2651_rules.specs.Ticks.{sent, transmit_tick, transmit}
use Rattle.ins2651_rules.specs.Runs.{Call, Write, Transmit, next, after, nowhere}
use Rattle.ins2651_rules.specs.History.{resets, writes_holding}
use Rattle.ins2651_rules.specs.Line.{transmits, levels_sent, sender_free, Waits, displaces, begins, none_begins}
use Rattle.ins2651_rules.proofs.Settled.{settled_is}
use Rattle.ins2651_rules.proofs.Done.{does_write}
use Rattle.ins2651_rules.proofs.Formats.{format_in}
use Rattle.ins2651_rules.proofs.InRange.{parts, next_in, after_in}
use Rattle.ins2651_rules.proofs.FrameWhole.{each_call, at_other, sender_kept, frame_before, Whole, whole_over, frame_next_lem, frame_whole}

-- == a character waits ==

same_waits : {v : ℕ} {d e : Device} → e.sender ≡ d.sender → Waits v d → Waits v e
same_waits q w = record { full = ap (λ (s : SenderHalf). s.full) q ∙ w.full; holding = ap (λ (s : SenderHalf). s.holding) q ∙ w.holding }

-- a tick that begins no frame leaves THR as it was
tick_waits : {v : ℕ} (d : Device) → begins d Transmit ≡ false → Waits v (settled d) → Waits v (next d Transmit)
unfolding transmit transmit_tick
tick_waits d n w =
    let s = settled d in
    record {
      full = full_after s.sender (may_start s) (break_on s) (send_format s.registers) ∙ ap (λ (b : Bool). cond b 0 s.sender.full) n ∙ w.full;
      holding = holding_after s.sender (may_start s) (break_on s) (send_format s.registers) ∙ ap (λ (b : Bool). cond b 0 s.sender.holding) n ∙ w.holding;
    }

waits_once : {v : ℕ} (d : Device) (c : Call) → in_range d ≡ true → displaces c ≡ false → begins d c ≡ false → Waits v d → Waits v (next d c)
waits_once {v = v} d c h k n w =
    each_call (λ (c : Call). displaces c ≡ false → begins d c ≡ false → Waits v (next d c))
    (λ k n. tick_waits d n (subst (Waits v) (sym (settled_is d h)) w))
    (λ c t k n. let q = neither (resets c) (writes_holding c) k in same_waits ((sender_kept d c h q.0 t).unwritten q.1) w) c k n

-- whatever calls come that neither reset nor write THR, until a frame begins
pub waits_on : (v : ℕ) (d : Device) (cs : List Call) → in_range d ≡ true → Waits v d → nowhere displaces cs ≡ true → none_begins d cs ≡ true → Waits v (after d cs)
waits_on v d [] h w k n = w
waits_on v d (c ∷ cs) h w k n =
    let p = both (not (displaces c)) (nowhere displaces cs) k in
    let q = both (not (begins d c)) (none_begins (next d c) cs) n in
    waits_on v (next d c) cs (next_in d c h) (waits_once d c h (not_so (displaces c) p.0) (not_so (begins d c) q.0) w) p.1 q.1

-- without a transmit tick no frame begins
pub no_ticks_none_begin : (d : Device) (cs : List Call) → transmits cs ≡ 0 → none_begins d cs ≡ true
no_ticks_none_begin d [] e = refl
no_ticks_none_begin d (c ∷ cs) e =
    each_call (λ (c : Call). transmits (c ∷ cs) ≡ 0 → none_begins d (c ∷ cs) ≡ true) (λ e. absurd (omega arith))
    (λ c t e.
    ap (λ (b : Bool). not b && none_begins (next d c) cs) (at_other c (begins d Transmit) false t)
    ∙ no_ticks_none_begin (next d c) cs (sym (at_other c (suc (transmits cs)) (transmits cs) t) ∙ e)) c e

-- == and begins ==

-- the sender is free and may start: the waiting character's frame begins at the next transmit tick, and is sent whole
module _ (d : Device) (v : ℕ) (h : in_range d ≡ true) (w : Waits v d) (may : may_start d ≡ true) (unbroken : break_on d ≡ false) (free : sender_free d ≡ true) where
  abbrev f : Format
  f = send_format d.registers

  fits : Bounds f
  fits = in_range_bounds f (format_in d.registers.mode1 (has 32 d.registers.mode2))

  begin_is : sent (settled d) ≡ begin_tick (sender_later 1 d.sender) f
  begin_is =
      let q = both (eqb d.sender.frame.place 0) (eqb d.sender.guard 0) free in
      ap sent (settled_is d h)
      ∙ transmit_begins d.sender (may_start d) (break_on d) f
      (ap on (eqb-true d.sender.frame.place 0 q.0)) may unbroken (ap on (eqb-true d.sender.guard 0 q.1)) (ap on w.full)

  -- its first tick sends the start bit ..
  pub first_level : (transmit d).level ≡ bit (level f v 0)
  unfolding transmit transmit_tick
  first_level = ap (λ (o : Sent). bit o.level) begin_is ∙ ap (λ (c : ℕ). bit (level f c 0)) w.holding

  -- .. and the frame goes on from place 1, in the format of now
  pub first_frame : (next d Transmit).sender.frame ≡ frame_before f v 1
  unfolding transmit transmit_tick
  first_frame = ap (λ (o : Sent). o.half.frame) begin_is ∙ ap (λ (c : ℕ). frame_next (frame_of f c 0)) w.holding ∙ frame_next_lem f v (length_bound f fits) 0 long
    where
      long : 0 < frame_length f
      long = omega (arith, fits.stops)

  module _ (cs : List Call) (r : nowhere resets cs ≡ true) (l : suc (transmits cs) ≡ frame_length f) where
    from_1 : Whole f v 1 (next d Transmit) cs
    from_1 = frame_whole f v (length_bound f fits) 1 (next d Transmit) cs (omega arith) (next_in d Transmit h) first_frame r (omega (arith, l))

    pub waiting_sent : levels_sent d (Transmit ∷ cs) ≡ map bit (frame f v)
    waiting_sent =
        ap₂ (λ (x : ℕ) (xs : List ℕ). x ∷ xs) first_level from_1.sends
        ∙ ap (λ (n : ℕ). map bit (listed (level f v) 0 n)) l
        ∙ ap (map bit) (sym (frame_levels f v fits.ticks))

    -- and with its last tick no frame is under way
    pub waiting_over : (after d (Transmit ∷ cs)).sender.frame ≡ no_frame
    waiting_over = whole_over f v 1 (next d Transmit) cs from_1 (omega (arith, l))

-- == from the write on ==

module _ (d : Device) (v : ℕ) (h : in_range d ≡ true) where
  abbrev written : Device
  written = next d (Write 0 v)

  written_is : written ≡ write_register d 0 v
  unfolding write_refusal
  written_is = does_write d h 0 v refl

  written_in : in_range written ≡ true
  written_in = next_in d (Write 0 v) h

  -- THR holds the character, full before or not
  pub written_waits : Waits v written
  unfolding write_register
  written_waits = subst (Waits v) (sym written_is) (record { full = refl; holding = refl })

  -- it is begun after some calls that leave it waiting: its frame is sent whole, in the format of then
  module _ (between : List Call) (kept : nowhere displaces between ≡ true) (none : none_begins written between ≡ true) where
    abbrev then : Device
    then = after written between

    still_waits : Waits v then
    still_waits = waits_on v written between written_in written_waits kept none

    module _ (may : may_start then ≡ true) (unbroken : break_on then ≡ false) (free : sender_free then ≡ true)
        (cs : List Call) (r : nowhere resets cs ≡ true) (l : suc (transmits cs) ≡ frame_length (send_format then.registers)) where
      pub written_sent : levels_sent then (Transmit ∷ cs) ≡ map bit (frame (send_format then.registers) v)
      written_sent = waiting_sent then v (after_in written between written_in) still_waits may unbroken free cs r l

      pub written_over : (after then (Transmit ∷ cs)).sender.frame ≡ no_frame
      written_over = waiting_over then v (after_in written between written_in) still_waits may unbroken free cs r l

  -- it is begun at once, in the format of now
  module _ (may : may_start d ≡ true) (unbroken : break_on d ≡ false) (free : sender_free d ≡ true)
      (cs : List Call) (r : nowhere resets cs ≡ true) (l : suc (transmits cs) ≡ frame_length (send_format d.registers)) where
    abbrev Sends : Device → Type 0
    Sends e = (levels_sent e (Transmit ∷ cs) ≡ map bit (frame (send_format d.registers) v)) × ((after e (Transmit ∷ cs)).sender.frame ≡ no_frame)

    at_once : Sends written
    unfolding write_register
    at_once =
        let i = subst (λ (e : Device). in_range e ≡ true) written_is written_in in
        let w = subst (Waits v) written_is written_waits in
        subst Sends (sym written_is) (waiting_sent (write_register d 0 v) v i w may unbroken free cs r l, waiting_over (write_register d 0 v) v i w may unbroken free cs r l)

    pub frame_sent : levels_sent written (Transmit ∷ cs) ≡ map bit (frame (send_format d.registers) v)
    frame_sent = at_once.0

    pub frame_over : (after written (Transmit ∷ cs)).sender.frame ≡ no_frame
    frame_over = at_once.1

-- == behind a frame ==

-- the levels of a run of two parts
sent_append : (d : Device) (cs more : List Call) → levels_sent d (cs ++ more) ≡ levels_sent d cs ++ levels_sent (after d cs) more
sent_append d [] more = refl
sent_append d (c ∷ cs) more =
    each_call (λ (c : Call). levels_sent d (c ∷ cs ++ more) ≡ levels_sent d (c ∷ cs) ++ levels_sent (after (next d c) cs) more)
    (ap (λ (xs : List ℕ). (transmit d).level ∷ xs) (sent_append (next d Transmit) cs more))
    (λ c t.
    at_other c ((transmit d).level ∷ levels_sent (next d c) (cs ++ more)) (levels_sent (next d c) (cs ++ more)) t
    ∙ sent_append (next d c) cs more
    ∙ ap (λ (xs : List ℕ). xs ++ levels_sent (after (next d c) cs) more) (sym (at_other c ((transmit d).level ∷ levels_sent (next d c) cs) (levels_sent (next d c) cs) t))) c

-- the levels from place i on
drop_listed : (g : ℕ → Bool) (j i k : ℕ) → drop i (listed g j (i + k)) ≡ listed g (j + i) k
drop_listed g j zero k = rw (zero-add, add-zero)
drop_listed g j (suc i) k = rw suc-add (drop_listed g (suc j) i k ∙ ap (λ (m : ℕ). listed g m k) (omega arith))

-- no reset is among calls that leave the waiting character
no_resets : (cs : List Call) → nowhere displaces cs ≡ true → nowhere resets cs ≡ true
no_resets [] k = refl
no_resets (c ∷ cs) k =
    let p = both (not (displaces c)) (nowhere displaces cs) k in
    all (ap not (neither (resets c) (writes_holding c) (not_so (displaces c) p.0)).0) (no_resets cs p.1)

-- what the range says while a frame is under way at its place i: no guard k stands
record Busy (f : Format) (i k : ℕ) : Type 0 where
  bounds : Bounds f
  place : ltb i (frame_length f) ≡ true
  guard : k ≡ 0

busy : (f : Format) (c i : ℕ) (s : SenderHalf) → sender_in_range s ≡ true → 0 < i → s.frame ≡ frame_of f c i → Busy f i s.guard
unfolding sender_in_range
busy f c i s h begun under =
    let k : ℕ = s.guard in
    let g = subst (λ (g : Frame). frame_in_range g k ≡ true) under (both (holding_in_range s.full s.holding) (frame_in_range s.frame k) h).1 in
    let b = sym (ap (λ (t : Bool). cond t (busy_in_range (frame_of f c i) k) (free_in_range (frame_of f c i) k)) (lt-ltb 0 i begun)) ∙ g in
    let p = both (line-range.in_range f && ltb i (frame_length f)) (eqb k 0) b in
    let q = both (line-range.in_range f) (ltb i (frame_length f)) p.0 in
    record { bounds = in_range_bounds f q.0; place = q.1; guard = eqb-true k 0 p.1 }

-- a frame of c is under way at its place i, and v waits: calls that neither reset nor write THR, with the ticks that are left of the frame
module _ (f : Format) (c i v : ℕ) (d : Device) (h : in_range d ≡ true) (begun : 0 < i) (under : d.sender.frame ≡ frame_of f c i) (w : Waits v d)
    (cs : List Call) (kept : nowhere displaces cs ≡ true) (l : i + transmits cs ≡ frame_length f) where
  abbrev freed : Device
  freed = after d cs

  held : Busy f i d.sender.guard
  held = busy f c i d.sender (parts d h).sender begun under

  rest : Whole f c i d cs
  rest =
      frame_whole f c (length_bound f held.bounds) i d cs begun h
      (under ∙ sym (ap (λ (b : Bool). cond b (frame_of f c i) no_frame) held.place)) (no_resets cs kept) (omega (arith, l))

  rest_sent : levels_sent d cs ≡ map bit (drop i (frame f c))
  rest_sent =
      rest.sends
      ∙ ap (map bit) (ap (λ (m : ℕ). listed (level f c) m (transmits cs)) (sym (zero-add i)) ∙ sym (drop_listed (level f c) 0 i (transmits cs))
      ∙ ap (λ (n : ℕ). drop i (listed (level f c) 0 n)) l ∙ ap (drop i) (sym (frame_levels f c held.bounds.ticks)))

  -- it waits still, and the sender is free
  pub waits_behind : Waits v freed
  waits_behind = waits_on v d cs h w kept rest.alone

  pub free_behind : sender_free freed ≡ true
  free_behind = all (ap (λ (g : Frame). eqb g.place 0) (whole_over f c i d cs rest l)) (eq-eqb freed.sender.guard 0 (rest.guard ∙ held.guard))

  -- the tick after the frame's last begins the character that waits, where it may start
  pub waiting_follows : may_start freed ≡ true → break_on freed ≡ false
      → (more : List Call) → nowhere resets more ≡ true → suc (transmits more) ≡ frame_length (send_format freed.registers)
      → levels_sent d (cs ++ Transmit ∷ more) ≡ map bit (drop i (frame f c) ++ frame (send_format freed.registers) v)
  waiting_follows may unbroken more r n =
      sent_append d cs (Transmit ∷ more)
      ∙ ap₂ (λ (xs : List ℕ) (ys : List ℕ). xs ++ ys) rest_sent (waiting_sent freed v (after_in d cs h) waits_behind may unbroken free_behind more r n)
      ∙ sym (map-append bit (drop i (frame f c)) (frame (send_format freed.registers) v))
