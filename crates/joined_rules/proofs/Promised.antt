-- Demand 3 holds, for one way by itself and for both at once: after every list of allowed steps from a fresh set-up.
-- The chip is an end of either kind, so that delivery from end to end is delivery between devices.
-- Assumes nothing.
use Prim.Native.Nat.{ℕ, zero, suc}
use native.Mathlib.Omega.{arith}
use mathlib.Core.Path.{◌≡◌, refl, ap, sym, subst, ◌∙◌}
use mathlib.Core.Bool.{Bool, true, false, cond, ◌&&◌, ◌||◌}
use mathlib.Core.List.{List, [], ◌∷◌, ◌++◌, reverse}
use lib.ListN.{replicate}
use lib.Dec.{eqb}
use borrow.Author.Tests.{ne_eqb}
use Rattle.line_rules.specs.declared.Format.{Format}
use Rattle.line_rules.specs.declared.RxC.{RxC}
use Rattle.line_rules.specs.Clocks.{rx_later}
use Rattle.ins2651_rules.specs.Stamps.{stamp}
use Rattle.line_rules.specs.Sending.{frame_length}
use Rattle.line_rules.specs.Sees.{Alike}
use Rattle.line_rules.proofs.Table.{both}
use Rattle.line_rules.proofs.Choice.{all, each, either, neither}
use Rattle.link_rules.specs.declared.SenderHalf.{SenderHalf}
use Rattle.link_rules.specs.declared.ReceiverHalf.{ReceiverHalf}
use Rattle.ins2651_rules.specs.declared.Device.{Device}
use Rattle.ins2651_rules.specs.Modes.{send_format, receive_format}
use Rattle.ins2651_rules.specs.Ranges.{in_range}
use Rattle.ins2651_rules.specs.Refusals.{write_refusal}
use Rattle.ins2651_rules.specs.Runs.{Call, Reset, Read, Write, SetPins, Transmit, Receive, Outputs}
use Rattle.ins2651_rules.specs.Rows.{refusal}
use Rattle.ins2651_rules.specs.History.{reads, writes_holding}
use Rattle.ins2651_ends.specs.OnALine.{flagged, status_bit, value_of, leaves_sending, leaves_receiving, refused_or}
use Rattle.ins2651_ends.proofs.Calls.{writes_is, refused_or_lem}
use Rattle.ins2651_ends.proofs.Sending.{Sending, sending_end}
use Rattle.ins2651_ends.proofs.Hearing.{Hearing, receiving_end}
use Rattle.ins2651_ends.proofs.Untouched.{Untouched, untouched_sends, untouched_hears, sends_to}
use Rattle.delivery.specs.OneWay.{Deed, Ticks, Writes, Reads, Passes, later, Logged, no_log, permits, gets_of}
use Rattle.delivery.specs.OneWay as one_way
use Rattle.delivery.specs.Promise.{Idles, Stamped, stamps_read, Promised}
use Rattle.delivery.specs.Joined.{Side, A, B, other}
use Rattle.delivery.specs.Ends.{Fit, Idle, Begins}
use Rattle.delivery.proofs.Joined.{line_begins, line_counts, line_delivers, line_stamps, line_reads_stamps, line_idles}
use Rattle.joined_rules.specs.declared.Pair.{Pair}
use Rattle.joined_rules.specs.Joining.{tick, ticks}
use Rattle.joined_rules.specs.Bench.{device_at, Step, Tick, At, all_moved, deed_from, way_from, Bench, seen_from, clock, step, runs}
use Rattle.joined_rules.specs.Demand3.{Settings, settings_at, Proper, sends, receives, Agree, FromReset, Holds, FreshlySetUp, fresh, harmless, allowed_call, allowed, all_allowed, NoFlag, Right, first_tally, StampedRight, Seen, Open}
use Rattle.joined_rules.proofs.SetUps.{set_up_untouched, is_normal, starts, no_break, listens, sends_so, receives_so}
use Rattle.joined_rules.proofs.Ways.{pair_joins}

-- == one way ==

-- after any set-up that leaves the way open
module _ (s : Side) (p : Pair) (us : List Step) (up : FromReset us) (opened : Open s (all_moved p us)) where
  abbrev set : Pair
  set = all_moved p us

  abbrev from : Device
  from = device_at s set

  abbrev to : Device
  to = device_at (other s) set

  abbrev f : Format
  f = send_format from.registers

  abbrev g : Format
  g = receive_format to.registers

  untouched : (t : Side) → Untouched (device_at t set)
  untouched t = set_up_untouched t p us up

  fit : Fit f g
  fit = sends_to from opened.alike

  -- the one joined tick
  abbrev start : Pair
  start = (tick set).pair

  idle : Idle from.sender
  idle =
      let e = (untouched s).sender in
      record { frame = ap (λ (h : SenderHalf). h.frame) e; empty = ap (λ (h : SenderHalf). h.full) e; guard = ap (λ (h : SenderHalf). h.guard) e }

  begins : Begins (λ p. Sending f (device_at s p)) (λ p. Hearing g (device_at (other s) p)) (λ p. (device_at s p).sender) (λ p. (device_at (other s) p).receiver) start
  begins =
      line_begins pair_joins s (sending_end f) (receiving_end g) set Tick refl (untouched_sends from (untouched s) opened.starts opened.no_break)
      (untouched_hears to (untouched (other s)) opened.listens) idle
      (ap (λ (r : ReceiverHalf). r.state) (untouched (other s)).receiver) (ap (λ (r : ReceiverHalf). r.unread) (untouched (other s)).receiver)

  -- which is the first of both tallies
  counted : (device_at (other s) start).receiver.tally ≡ first_tally
  counted =
      line_counts pair_joins s (sending_end f) (receiving_end g) set Tick refl (untouched_hears to (untouched (other s)) opened.listens)
      ∙ ap (λ (r : ReceiverHalf). rx_later 1 r.tally) (untouched (other s)).receiver

  -- then any steps that are allowed on this way: demand 3 for it, whatever happens on the other
  module _ (ss : List Step) (ok : one_way.all_allowed (way_from s) (frame_length f) (no_log start) ss ≡ true) where
    pub one_way_right : Promised (way_from s) f (one_way.runs (way_from s) (no_log start) ss)
    one_way_right = line_delivers pair_joins s (sending_end f) (receiving_end g) fit start begins ss ok

    -- a character's stamp is 1 plus the joined tick of its arrival
    pub one_way_stamps : let end = one_way.runs (way_from s) (no_log start) ss in Stamped first_tally (stamp (device_at (other s) end.bench)) end.log.came
    one_way_stamps =
        let end = one_way.runs (way_from s) (no_log start) ss in
        subst (λ (t : RxC). Stamped t (stamp (device_at (other s) end.bench)) end.log.came) counted
        (line_stamps pair_joins s (sending_end f) (receiving_end g) fit start begins ss ok)

    -- .. and a read gives it with its value
    pub one_way_reads_stamps : let end = one_way.runs (way_from s) (no_log start) ss in
        gets_of (way_from s) (way_from s).stamp start ss ≡ reverse (stamps_read first_tally ((way_from s).unread end.bench) end.log.came)
    one_way_reads_stamps =
        let end = one_way.runs (way_from s) (no_log start) ss in
        line_reads_stamps pair_joins s (sending_end f) (receiving_end g) fit start begins ss ok
        ∙ ap (λ (t : RxC). reverse (stamps_read t ((way_from s).unread end.bench) end.log.came)) counted

    -- 'idle', as the promise reads it from the log, is what it is in the device
    pub one_way_idles : let end = one_way.runs (way_from s) (no_log start) ss in Idles f (device_at s end.bench).sender end.now end.log.written
    one_way_idles = line_idles pair_joins s (sending_end f) (receiving_end g) fit start begins ss ok

-- == the bench as two ways ==

-- a call takes no time
call_now : (now v : ℕ) (b : Bool) → (later now (cond b (Writes v) Passes) ≡ now) × (later now (cond b Reads Passes) ≡ now)
call_now now v true = (refl, refl)
call_now now v false = (refl, refl)

time_is : (s : Side) (now : ℕ) (p : Pair) (x : Step) → later now (deed_from s p x) ≡ clock now x
time_is s now p Tick = refl
time_is A now p (At A c) = (call_now now (value_of c) (writes_holding c)).0
time_is A now p (At B c) = (call_now now 0 (reads 0 c)).1
time_is B now p (At A c) = (call_now now 0 (reads 0 c)).1
time_is B now p (At B c) = (call_now now (value_of c) (writes_holding c)).0

step_is : (s : Side) (w : Bench) (x : Step) → one_way.step (way_from s) (seen_from s w) x ≡ seen_from s (step w x)
step_is A w x = ap (λ (k : ℕ). record { bench = (step w x).pair; now = k; log = (step w x).there }) (time_is A w.now w.pair x)
step_is B w x = ap (λ (k : ℕ). record { bench = (step w x).pair; now = k; log = (step w x).back }) (time_is B w.now w.pair x)

-- a run of the bench is a run of each way
pub runs_is : (s : Side) (w : Bench) (ss : List Step) → one_way.runs (way_from s) (seen_from s w) ss ≡ seen_from s (runs w ss)
runs_is s w [] = refl
runs_is s w (x ∷ ss) = ap (λ (k : Logged Pair). one_way.runs (way_from s) k ss) (step_is s w x) ∙ runs_is s (step w x) ss

-- == what is allowed both ways is allowed each way ==

weaker : (p q : Call → Bool) (d : Device) (c : Call) → (p c ≡ true → q c ≡ true) → refused_or p d c ≡ true → refused_or q d c ≡ true
weaker p q d c h a = refused_or_lem p d c a (λ n t. rw n (h t)) (λ n. rw (ne_eqb (refusal d c) 0 n))

-- what is allowed both ways leaves alone what either way rests on
harmless_leaves : (d : Device) (c : Call) → harmless d c ≡ true → (leaves_sending c ≡ true) × (leaves_receiving c ≡ true)
harmless_leaves d Reset h = (h, h)
harmless_leaves d (Read address) h = (refl, refl)
harmless_leaves d (Write zero v) h = (refl, refl)
harmless_leaves d (Write (suc i) v) h =
    let z : eqb (suc i) 0 ≡ false = ne_eqb (suc i) 0 (λ e. omega arith) in
    rw z (rw (rw z at h) (refl, refl))
harmless_leaves d (SetPins dsr dcd cts) h = let t = both (eqb dsr 0 && eqb dcd 0) (eqb cts 0) h in (t.1, (both (eqb dsr 0) (eqb dcd 0) t.0).1)
harmless_leaves d Transmit h = (h, refl)
harmless_leaves d (Receive x) h = (refl, h)
harmless_leaves d Outputs h = (refl, refl)

-- a character is written only when it may be
may_be_written : (L : ℕ) (w : Logged Pair) (s : Side) (c : Call) → allowed_call (device_at s w.bench) c ≡ true → permits (way_from s) L w (cond (writes_holding c) (Writes (value_of c)) Passes) ≡ true
unfolding write_refusal
may_be_written L w s c a = each (λ (k : Deed). permits (way_from s) L w k ≡ true) (writes_holding c) (λ t. ap (allowed_call (device_at s w.bench)) (sym (writes_is c t)) ∙ a) (λ t. refl)

-- a call at the other side is always permitted
may_be_read : (L : ℕ) (w : Logged Pair) (s : Side) (c : Call) → permits (way_from s) L w (cond (reads 0 c) Reads Passes) ≡ true
may_be_read L w s c = either (λ (k : Deed). permits (way_from s) L w k ≡ true) (reads 0 c) refl refl

module _ (a b : Settings) where
  abbrev L : Side → ℕ
  L s = frame_length (sends (settings_at a b s))

  abbrev in_time_lem : Side → Bench → Bool
  in_time_lem s w = permits (way_from s) (L s) (seen_from s w) Ticks

  each_way : (s : Side) (w : Bench) (x : Step) → allowed a b w x ≡ true → one_way.allowed (way_from s) (L s) (seen_from s w) x ≡ true
  each_way A w Tick h = (both (in_time_lem A w) (in_time_lem B w) h).0
  each_way B w Tick h = (both (in_time_lem A w) (in_time_lem B w) h).1
  each_way A w (At A c) h =
      all (weaker (harmless w.pair.a) leaves_sending w.pair.a c (λ t. (harmless_leaves w.pair.a c t).0) h) (may_be_written (L A) (seen_from A w) A c h)
  each_way A w (At B c) h =
      all (weaker (harmless w.pair.b) leaves_receiving w.pair.b c (λ t. (harmless_leaves w.pair.b c t).1) h) (may_be_read (L A) (seen_from A w) A c)
  each_way B w (At A c) h =
      all (weaker (harmless w.pair.a) leaves_receiving w.pair.a c (λ t. (harmless_leaves w.pair.a c t).1) h) (may_be_read (L B) (seen_from B w) B c)
  each_way B w (At B c) h =
      all (weaker (harmless w.pair.b) leaves_sending w.pair.b c (λ t. (harmless_leaves w.pair.b c t).0) h) (may_be_written (L B) (seen_from B w) B c h)

  all_each_way : (s : Side) (w : Bench) (ss : List Step) → all_allowed a b w ss ≡ true → one_way.all_allowed (way_from s) (L s) (seen_from s w) ss ≡ true
  all_each_way s w [] h = refl
  all_each_way s w (x ∷ ss) h =
      let t = both (allowed a b w x) (all_allowed a b (step w x) ss) h in
      all (each_way s w x t.0)
      (ap (λ (k : Logged Pair). one_way.all_allowed (way_from s) (L s) k ss) (step_is s w x) ∙ all_each_way s (step w x) ss t.1)

-- == steps ==

-- a list of allowed steps is allowed up to any of them, so that what holds after every such list holds all along
pub prefix_allowed : (a b : Settings) (w : Bench) (ss ts : List Step) → all_allowed a b w (ss ++ ts) ≡ true → all_allowed a b w ss ≡ true
prefix_allowed a b w [] ts h = refl
prefix_allowed a b w (s ∷ ss) ts h =
    let p = both (allowed a b w s) (all_allowed a b (step w s) (ss ++ ts)) h in
    all p.0 (prefix_allowed a b (step w s) ss ts p.1)

-- the bench of a way's log after steps
pub log_moved : (s : Side) (w : Logged Pair) (xs : List Step) → (one_way.runs (way_from s) w xs).bench ≡ all_moved w.bench xs
log_moved s w [] = refl
log_moved s w (x ∷ xs) = log_moved s (one_way.step (way_from s) w x) xs

-- n steps that are ticks are the run of n
pub ticks_are_the_run : (n : ℕ) (p : Pair) → all_moved p (replicate n Tick) ≡ ticks n p
ticks_are_the_run zero p = refl
ticks_are_the_run (suc n) p = ticks_are_the_run n (tick p).pair

-- == the theorems ==

-- two devices, whatever they were, freshly set up in two ways that agree; then any steps that are allowed
module _ (a b : Settings) (pa : Proper a) (pb : Proper b) (agree : Agree a b) (p : Pair) (us : List Step) (up : FreshlySetUp a b p us) (ss : List Step)
    (ok : all_allowed a b (fresh p us) ss ≡ true) where
  abbrev end : Bench
  end = runs (fresh p us) ss

  abbrev after_set_up : Pair
  after_set_up = all_moved p us

  proper : (s : Side) → Proper (settings_at a b s)
  proper A = pa
  proper B = pb

  holds : (s : Side) → Holds (settings_at a b s) (device_at s after_set_up)
  holds A = up.a_holds
  holds B = up.b_holds

  agreed : (s : Side) → Alike (sends (settings_at a b s)) (receives (settings_at a b (other s)))
  agreed A = agree.there
  agreed B = agree.back

  within_range : (s : Side) → in_range (device_at s after_set_up) ≡ true
  within_range s = (set_up_untouched s p us up.from_reset).within

  pub sends_is : (s : Side) → send_format (device_at s after_set_up).registers ≡ sends (settings_at a b s)
  sends_is s = sends_so (settings_at a b s) (device_at s after_set_up) (proper s) (within_range s) (holds s)

  pub is_open : (s : Side) → Open s after_set_up
  is_open s =
      let d : Device = device_at s after_set_up in
      let e : Device = device_at (other s) after_set_up in
      record {
        from_normal = is_normal (settings_at a b s) d (proper s) (within_range s) (holds s);
        to_normal = is_normal (settings_at a b (other s)) e (proper (other s)) (within_range (other s)) (holds (other s));
        starts = starts (settings_at a b s) d (proper s) (within_range s) (holds s);
        no_break = no_break (settings_at a b s) d (proper s) (within_range s) (holds s);
        listens = listens (settings_at a b (other s)) e (proper (other s)) (within_range (other s)) (holds (other s));
        alike = subst (λ (f : Format). Alike f (receive_format e.registers)) (sym (sends_is s))
            (subst (Alike (sends (settings_at a b s))) (sym (receives_so (settings_at a b (other s)) e (proper (other s)) (within_range (other s)) (holds (other s)))) (agreed s));
      }

  pub ok_each : (s : Side) → one_way.all_allowed (way_from s) (frame_length (send_format (device_at s after_set_up).registers)) (no_log (fresh p us).pair) ss ≡ true
  ok_each s = ap (λ (f : Format). one_way.all_allowed (way_from s) (frame_length f) (no_log (fresh p us).pair) ss) (sends_is s) ∙ side s
    where
      side : (s : Side) → one_way.all_allowed (way_from s) (L a b s) (no_log (fresh p us).pair) ss ≡ true
      side A = all_each_way a b A (fresh p us) ss ok
      side B = all_each_way a b B (fresh p us) ss ok

  ends_as : (s : Side) → one_way.runs (way_from s) (no_log (fresh p us).pair) ss ≡ seen_from s end
  ends_as A = runs_is A (fresh p us) ss
  ends_as B = runs_is B (fresh p us) ss

  -- demand 3 is two one_way promises ..
  pub each_way_right : (s : Side) → Promised (way_from s) (sends (settings_at a b s)) (one_way.runs (way_from s) (no_log (fresh p us).pair) ss)
  each_way_right s =
      subst (λ (f : Format). Promised (way_from s) f (one_way.runs (way_from s) (no_log (fresh p us).pair) ss)) (sends_is s)
      (one_way_right s p us up.from_reset (is_open s) ss (ok_each s))

  -- .. by the bench's own logs
  bench_right : (s : Side) → Promised (way_from s) (sends (settings_at a b s)) (seen_from s end)
  bench_right s = subst (Promised (way_from s) (sends (settings_at a b s))) (ends_as s) (each_way_right s)

  -- 'idle', as the promise reads it from the log, is what it is in the device
  pub each_way_idles : (s : Side) → let w = seen_from s end in Idles (sends (settings_at a b s)) (device_at s w.bench).sender w.now w.log.written
  each_way_idles s =
      subst (λ (w : Logged Pair). Idles (sends (settings_at a b s)) (device_at s w.bench).sender w.now w.log.written) (ends_as s)
      (subst (λ (f : Format). let w = one_way.runs (way_from s) (no_log (fresh p us).pair) ss in Idles f (device_at s w.bench).sender w.now w.log.written) (sends_is s)
      (one_way_idles s p us up.from_reset (is_open s) ss (ok_each s)))

  -- no flag is shown
  clean : (d : Device) → flagged d ≡ false → NoFlag d
  clean d h =
      let t = neither (status_bit 32 d || status_bit 16 d) (status_bit 8 d) h in
      let u = neither (status_bit 32 d) (status_bit 16 d) t.0 in
      record { framing = u.0; overrun = u.1; parity = t.1 }

  -- demand 3
  pub demand_3 : Right a b end
  demand_3 =
      record {
        there = (bench_right A).delivered;
        back = (bench_right B).delivered;
        a_clean = clean end.pair.a (bench_right B).no_flag;
        b_clean = clean end.pair.b (bench_right A).no_flag;
      }

  -- and its stamps
  bench_stamps : (s : Side) → let w = seen_from s end in Stamped first_tally (stamp (device_at (other s) w.bench)) w.log.came
  bench_stamps s =
      subst (λ (w : Logged Pair). Stamped first_tally (stamp (device_at (other s) w.bench)) w.log.came) (ends_as s)
      (one_way_stamps s p us up.from_reset (is_open s) ss (ok_each s))

  pub demand_3_stamps : StampedRight end
  demand_3_stamps = record { there = bench_stamps A; back = bench_stamps B }

  -- what the bench sees of it
  pub bench_sees : Seen a b end
  bench_sees =
      record {
        b_unread = (bench_right A).unread;
        a_unread = (bench_right B).unread;
        b_reads = (bench_right A).reads;
        a_reads = (bench_right B).reads;
        a_may = (bench_right A).permission;
        b_may = (bench_right B).permission;
      }
