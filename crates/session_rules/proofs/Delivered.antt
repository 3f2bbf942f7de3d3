-- Demand 3 from a session's text: what is printed for the reads of address 0 made while bit 1 was 1 is what was written, cut, in order, each with the
-- stamp of its arrival.
-- Assumes nothing.
use Prim.Native.Nat.{ℕ, zero, suc}
use mathlib.Core.Path.{◌≡◌, refl, sym, ap, subst, ◌∙◌}
use mathlib.Core.Bool.{Bool, true, false, cond, ◌&&◌, false≢true}
use mathlib.Core.List.{List, [], ◌∷◌, ◌++◌, map, map-append}
use lib.Dec.{eqb}
use lib.ListN.{replicate}
use borrow.Author.Tests.{eqb-true}
use Rattle.line_rules.specs.declared.Format.{Format}
use Rattle.line_rules.specs.declared.RxC.{RxC}
use Rattle.line_rules.proofs.Choice.{either}
use Rattle.fields.specs.Parted.{fields_of}
use Rattle.ins2651_rules.specs.Runs as chip
use Rattle.ins2651_rules.specs.RegisterReads.{read_register, read}
use Rattle.ins2651_rules.specs.Stamps.{stamp}
use Rattle.ins2651_rules.specs.History.{reads, writes_holding}
use Rattle.ins2651_rules.specs.Line.{Held}
use Rattle.ins2651_rules.specs.declared.Device.{Device}
use Rattle.ins2651_ends.specs.OnALine.{unread, character}
use Rattle.delivery.specs.OneWay.{Deed, Ticks, Writes, Reads, Passes, getting, puts, gets_of, gets}
use Rattle.delivery.specs.Promise.{InOrder}
use Rattle.delivery.proofs.StampsRead.{gets_map}
use Rattle.delivery.specs.Joined.{Side, A, B, other}
use Rattle.joined_rules.specs.declared.Pair.{Pair}
use Rattle.joined_rules.specs.Bench.{device_at, Step, Tick, At, moved, all_moved, just_reset, deed_from, way_from}
use Rattle.joined_rules.specs.Demand3.{Settings, settings_at, Proper, sends, Agree}
use Rattle.joined_rules.specs.Waiting.{side_of, wait}
use Rattle.joined_rules.proofs.Order.{one_way_in_order, one_way_reads_stamped, run_in_order, run_reads_stamped}
use Rattle.records.specs.declared.Record.{Record}
use Rattle.records.specs.declared.Record.TheVariants.{Write, Read, Pins, Reset, Wait}
use Rattle.records.specs.declared.Record.TheVariants as kind
use Rattle.records.specs.Records.{record_of}
use Rattle.std.specs.Prelude.{Option, Some, None}
use Rattle.line_rules.specs.declared.Unit.{Unit}
use Rattle.line_rules.specs.declared.Unit.TheVariants as unit
use Rattle.rows.specs.Text.{row_text}
use Rattle.session_rules.specs.Calls.{Said, obey, obey_known, line_reply, said_text}
use Rattle.session_rules.specs.Rows.{overlong}
use Rattle.session_rules.specs.Steps.{record_steps, line_steps, all_steps}
use Rattle.session_rules.specs.Whole.{answers, line_texts}
use Rattle.session_rules.specs.Delivered.{Meets, format_from, MeetsFrom, letter_at, is_read, fetches, fetching, marked, printed, line, Shows, Delivers}
use Rattle.session_rules.proofs.Lines.{line_moves}

-- == what is read, with its stamp ==

abbrev held : Device → Held
held d = record { value = character d; stamp = stamp d }

abbrev held_at : Side → Pair → Held
held_at s p = held (device_at (other s) p)

abbrev takes : Side → Pair → List Step → List Held
takes s p xs = gets_of (way_from s) (held_at s) p xs

-- == one line ==

-- what the steps take before others
takes_append : (s : Side) (p : Pair) (xs ys : List Step) → takes s p (xs ++ ys) ≡ takes s p xs ++ takes s (all_moved p xs) ys
takes_append s p [] ys = refl
takes_append s p (x ∷ xs) ys = ap (getting (unread (device_at (other s) p)) h (deed_from s p x)) (takes_append s (moved p x) xs ys)
    ∙ taking_append (unread (device_at (other s) p)) (deed_from s p x)
  where
    vs : List Held
    vs = takes s (moved p x) xs

    ws : List Held
    ws = takes s (all_moved (moved p x) xs) ys

    h : Held
    h = held (device_at (other s) p)

    taking_append : (u : Bool) (k : Deed) → getting u h k (vs ++ ws) ≡ getting u h k vs ++ ws
    taking_append u Ticks = refl
    taking_append u (Writes v) = refl
    taking_append true Reads = refl
    taking_append false Reads = refl
    taking_append u Passes = refl

-- ticks take nothing
ticks_take : (s : Side) (n : ℕ) (p : Pair) → takes s p (replicate n Tick) ≡ []
ticks_take s zero p = refl
ticks_take A (suc n) p = ticks_take A n (moved p Tick)
ticks_take B (suc n) p = ticks_take B n (moved p Tick)

-- what is printed for a line of one step, where it is for a read that it prints the character
one_step : (unit : ℕ) (c : Held) (k : Deed) (u : Bool) (text : List ℕ) (rest : List (List ℕ)) → (is_read k ≡ true → text ≡ line unit c)
    → cond (is_read k && u) (text ∷ rest) rest ≡ map (line unit) (getting u c k []) ++ rest
one_step unit c Ticks u text rest h = refl
one_step unit c (Writes v) u text rest h = refl
one_step unit c Reads true text rest h = ap (λ (t : List ℕ). t ∷ rest) (h refl)
one_step unit c Reads false text rest h = refl
one_step unit c Passes u text rest h = refl

-- what is no read takes nothing
takes_none : (u : Bool) (c : Held) (k : Deed) → is_read k ≡ false → getting u c k [] ≡ []
takes_none u c Ticks h = refl
takes_none u c (Writes v) h = refl
takes_none u c Reads h = absurd (false≢true (sym h))
takes_none u c Passes h = refl

-- a read of address 0 prints what the device holds, with its stamp
read_said : (u : Unit) (n : ℕ) (p : Pair) → said_text n (obey p (Read u 0)).said ≡ line (letter_at (side_of u)) (held (device_at (side_of u) p))
unfolding obey said_text row_text read read_register
read_said unit.A n p = refl
read_said unit.B n p = refl

-- a read on the way from this side is one of address 0 at the other
at_read : (s : Side) (p : Pair) (u : Unit) (address : ℕ) → is_read (deed_from s p (At (side_of u) (chip.Read address))) ≡ true → (side_of u ≡ other s) × (address ≡ 0)
at_read s p u address r = by_unit s u r
  where
    zero_is : (t : Bool) → eqb address 0 ≡ t → is_read (cond t Reads Passes) ≡ true → address ≡ 0
    zero_is true e q = eqb-true address 0 e
    zero_is false e q = absurd (false≢true q)

    by_unit : (s : Side) (u : Unit) → is_read (deed_from s p (At (side_of u) (chip.Read address))) ≡ true → (side_of u ≡ other s) × (address ≡ 0)
    by_unit A unit.A q = absurd (false≢true q)
    by_unit A unit.B q = (refl, zero_is (eqb address 0) refl q)
    by_unit B unit.A q = (refl, zero_is (eqb address 0) refl q)
    by_unit B unit.B q = absurd (false≢true q)

-- no other call is a read
no_read : (s t : Side) (p : Pair) (c : chip.Call) → reads 0 c ≡ false → is_read (deed_from s p (At t c)) ≡ false
no_read A A p c h = either (λ (k : Deed). is_read k ≡ false) (writes_holding c) refl refl
no_read A B p c h = rw h
no_read B A p c h = rw h
no_read B B p c h = either (λ (k : Deed). is_read k ≡ false) (writes_holding c) refl refl

module _ (s : Side) (n : ℕ) (p : Pair) (rest : List (List ℕ)) where
  abbrev letter : ℕ
  letter = letter_at (other s)

  -- what is printed for these steps of a line that says so
  abbrev Prints : List Step → Said → Type 0
  Prints xs said = cond (fetches s p xs) (said_text n said ∷ rest) rest ≡ map (line letter) (takes s p xs) ++ rest

  -- a call that is no read
  silent : (t : Side) (c : chip.Call) (said : Said) → reads 0 c ≡ false → Prints (At t c ∷ []) said
  silent t c said h =
      let z = no_read s t p c h in
      rw z (ap (λ (hs : List Held). map (line letter) hs ++ rest) (sym (takes_none (unread (device_at (other s) p)) (held (device_at (other s) p)) (deed_from s p (At t c)) z)))

  ticks_print : (k : ℕ) (said : Said) → Prints (replicate k Tick) said
  ticks_print zero said = refl
  ticks_print (suc k) said = side_prints s
    where
      side_prints : (s : Side) → cond (fetches s p (Tick ∷ replicate k Tick)) (said_text n said ∷ rest) rest ≡ map (line (letter_at (other s))) (takes s p (replicate (suc k) Tick)) ++ rest
      side_prints A = rw (ticks_take A k (moved p Tick))
      side_prints B = rw (ticks_take B k (moved p Tick))

  record_prints : (r : Option Record) → Prints (record_steps p r) (obey_known p r).said
  record_prints (Some (Write u address v)) = silent (side_of u) (chip.Write address v) (obey p (Write u address v)).said refl
  record_prints (Some (Read u address)) =
      one_step letter (held (device_at (other s) p)) (deed_from s p (At (side_of u) (chip.Read address))) (unread (device_at (other s) p))
      (said_text n (obey p (Read u address)).said) rest
      (λ r. let e = at_read s p u address r in
      ap (λ (a : ℕ). said_text n (obey p (Read u a)).said) e.1
      ∙ read_said u n p
      ∙ ap (λ (t : Side). line (letter_at t) (held (device_at t p))) e.0)
  record_prints (Some (Pins u dsr dcd cts)) = silent (side_of u) (chip.SetPins dsr dcd cts) (obey p (Pins u dsr dcd cts)).said refl
  record_prints (Some (Reset u)) = silent (side_of u) chip.Reset (obey p (Reset u)).said refl
  record_prints (Some (kind.Ticks count)) = ticks_print count (obey p (kind.Ticks count)).said
  record_prints (Some (Wait u limit)) = ticks_print (wait p u limit).count (obey p (Wait u limit)).said
  record_prints None = refl

  line_prints : (l : List ℕ) → Prints (line_steps p l) (line_reply p l).said
  unfolding line_reply
  line_prints l = go (overlong l) refl
    where
      go : (t : Bool) → overlong l ≡ t → Prints (line_steps p l) (line_reply p l).said
      go true e = rw e
      go false e = rw e (record_prints (record_of (fields_of l)))

-- == all lines ==

marked_first : {X : Type 0} (t : Bool) (bs : List Bool) (x : X) (xs : List X) → marked (t ∷ bs) (x ∷ xs) ≡ cond t (x ∷ marked bs xs) (marked bs xs)
marked_first true bs x xs = refl
marked_first false bs x xs = refl

prints_taken : (s : Side) (n : ℕ) (p : Pair) (ls : List (List ℕ))
    → marked (fetching s p ls) (line_texts n (answers p ls)) ≡ map (line (letter_at (other s))) (takes s p (all_steps p ls))
prints_taken s n p [] = refl
prints_taken s n p (l ∷ ls) =
    let after : Pair = (line_reply p l).pair in
    let rest : List (List ℕ) = marked (fetching s after ls) (line_texts (suc n) (answers after ls)) in
    let here : List Held = takes s p (line_steps p l) in
    let later : List Held = takes s (all_moved p (line_steps p l)) (all_steps after ls) in
    marked_first (fetches s p (line_steps p l)) (fetching s after ls) (said_text n (line_reply p l).said) (line_texts (suc n) (answers after ls))
    ∙ line_prints s n p rest l
    ∙ ap (λ (ts : List (List ℕ)). map (line (letter_at (other s))) here ++ ts)
    (prints_taken s (suc n) after ls ∙ ap (λ (q : Pair). map (line (letter_at (other s))) (takes s q (all_steps after ls))) (sym (line_moves p l)))
    ∙ sym (map-append (line (letter_at (other s))) here later)
    ∙ ap (map (line (letter_at (other s)))) (sym (takes_append s p (line_steps p l) (all_steps after ls)))

-- what is read in order is shown in order, and with its stamps
shows : (s : Side) (f : Format) {finished : Type 0} (lines : List (List ℕ)) {xs : List Step} {stamps : List RxC} → all_steps just_reset lines ≡ xs
    → InOrder f finished (gets (way_from s) just_reset xs) (puts (way_from s) just_reset xs) → gets_of (way_from s) (way_from s).stamp just_reset xs ≡ stamps
    → Shows f finished (letter_at (other s)) (printed s lines) (puts (way_from s) just_reset (all_steps just_reset lines)) stamps
shows s f {finished} lines e h t =
    let ys : List Step = all_steps just_reset lines in
    record {
      characters = takes s just_reset ys;
      shown = prints_taken s 1 just_reset lines;
      in_order = subst (λ (vs : List ℕ). InOrder f finished vs (puts (way_from s) just_reset ys)) (sym (gets_map (way_from s) (λ (h : Held). h.value) (held_at s) just_reset ys))
          (subst (λ (zs : List Step). InOrder f finished (gets (way_from s) just_reset zs) (puts (way_from s) just_reset zs)) (sym e) h);
      stamped = gets_map (way_from s) (λ (h : Held). h.stamp) (held_at s) just_reset ys ∙ ap (gets_of (way_from s) (way_from s).stamp just_reset) e ∙ t;
    }

-- one way, whatever happens on the other
pub one_way_text_delivers : (s : Side) (lines : List (List ℕ)) (m : MeetsFrom s lines) → Delivers s (format_from s m.parted) m.parted
one_way_text_delivers s lines m =
    let l = m.parted in
    shows s (format_from s l) lines l.steps (one_way_in_order l.set_up l.quiet s m.opened l.after m.allowed)
    (one_way_reads_stamped l.set_up l.quiet s m.opened l.after m.allowed)

-- both at once
pub text_delivers : (a b : Settings) → Proper a → Proper b → Agree a b → (lines : List (List ℕ)) (m : Meets a b lines) (s : Side) → Delivers s (sends (settings_at a b s)) m.parted
text_delivers a b pa pb agree lines m s =
    let l = m.parted in
    shows s (sends (settings_at a b s)) lines l.steps (run_in_order l.set_up l.quiet a b pa pb agree m.a_holds m.b_holds l.after m.allowed s)
    (run_reads_stamped l.set_up l.quiet a b pa pb agree m.a_holds m.b_holds l.after m.allowed s)
