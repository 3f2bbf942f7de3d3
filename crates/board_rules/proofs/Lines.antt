-- Demand 3 for two channels joined by a line, of one board or of two: they run as the pair of `joined_rules`, so that what holds of it holds of them.
-- Assumes nothing.
use Prim.Native.Nat.{ℕ, suc, ◌<◌}
use native.Mathlib.Omega.{arith}
use mathlib.Core.Path.{◌≡◌, refl, sym, ap, ap₂, subst, ◌∙◌}
use mathlib.Core.Bool.{Bool, true, false, cond, ◌&&◌, ◌||◌, true≢false, and-false, or-true}
use mathlib.Core.List.{List, [], ◌∷◌, ◌++◌, map, append_assoc}
use lib.Dec.{eqb, ltb}
use lib.ListN.{length}
use borrow.Author.Tests.{eqb-false, le-ltb}
use Rattle.line_rules.specs.declared.Format.{Format}
use Rattle.line_rules.specs.Sending.{frame_length}
use Rattle.line_rules.proofs.Choice.{either, each}
use Rattle.line_rules.proofs.Table.{both}
use Rattle.ins2651_rules.specs.declared.Device.{Device}
use Rattle.ins2651_rules.specs.Modes.{send_format}
use Rattle.ins2651_rules.specs.RegisterReads.{read}
use Rattle.ins2651_rules.specs.Ticks.{transmit}
use Rattle.ins2651_rules.specs.Runs as chip
use Rattle.ins2651_rules.proofs.Refused.{given_exactly, answers_refusal}
use Rattle.delivery.specs.Log.{nothing_yet}
use Rattle.delivery.specs.OneWay.{Logged, no_log}
use Rattle.delivery.specs.OneWay as one_way
use Rattle.delivery.specs.Promise.{Promised}
use Rattle.delivery.specs.Joined.{Side, A, B}
use Rattle.delivery.proofs.Lists.{allowed_append}
use Rattle.joined_rules.specs.declared.Pair.{Pair}
use Rattle.joined_rules.specs.Joining as joining
use Rattle.joined_rules.specs.Bench.{way_from, Bench}
use Rattle.joined_rules.specs.Bench as bench
use Rattle.joined_rules.specs.Demand3.{Settings, Proper, Agree, FromReset, Holds, FreshlySetUp, all_allowed, Right, StampedRight, Seen, Open}
use Rattle.joined_rules.specs.Demand3 as demand
use Rattle.joined_rules.proofs.Promised.{log_moved, one_way_right, demand_3, demand_3_stamps, bench_sees}
use Rattle.board_rules.specs.declared.Board.{Board}
use Rattle.board_rules.specs.Ports.{Call, In, Out, Reset, Transmit, Receive, Interrupts, channel_of, selected, in_refusal, room_refusal, Deed, Refused, Shows, Sets, At, ResetsAll, unless, named, deed}
use Rattle.board_rules.specs.Runs.{device_at, as_bits, said_by, said}
use Rattle.board_rules.specs.Channels.{reaches, calls_by}
use Rattle.board_rules.specs.About.{about}
use Rattle.board_rules.specs.Lines.{Boards, Which, One, Two, same, cabinet, called, told, deed_of, Spot, Spots, spot_at, is_at, device_of, pair_of, Joined, Aside, all_called, Between, Place, First, Second, Third, asides_at, reset_of, Step, Tick, On, sends, sent, hears, one_sent, both_sent, one_heard, ticked, moved, all_moved, reaches_spot, made_at, call_steps, none, aside_steps, aloof, one_by_one, steps_of, steps_at, begun, fresh}
use Rattle.board_rules.proofs.Channels.{channel_after, room_stays, unreached, one_shown, read_reaches, write_reaches}
use Rattle.board_rules.proofs.Alone.{about_one}
use Rattle.board_rules.proofs.Sides.{same_itself, side_steps}
use Rattle.board_rules.proofs.Within.{second_hears}

-- == the boards after a call ==

eight_called : (j k : Which) (c : Call) (w : Boards) → length (cabinet j w).room ≡ 8 → length (cabinet j (called k c w)).room ≡ 8
eight_called One One c w q = room_stays w.one.board w.one.room c ∙ q
eight_called One Two c w q = q
eight_called Two One c w q = q
eight_called Two Two c w q = room_stays w.two.board w.two.room c ∙ q

called_device : (p : Spot) (k : Which) (c : Call) (w : Boards) → device_of p (called k c w) ≡ chip.after (device_of p w) (made_at p k (deed_of k c w))
called_device p k c w = go p.which k
  where
    go : (j k : Which) → device_at (cabinet j (called k c w)).room p.channel
        ≡ chip.after (device_at (cabinet j w).room p.channel) (cond (same k j) (calls_by p.channel (deed_of k c w)) [])
    go One One = channel_after w.one.board w.one.room c p.channel
    go One Two = refl
    go Two One = refl
    go Two Two = channel_after w.two.board w.two.room c p.channel

pub still_joined : (l : Spots) (w : Boards) (k : Which) (c : Call) → Joined l w → Joined l (called k c w)
still_joined l w k c j = record { apart = j.apart; there = j.there; rooms = λ s. eight_called (spot_at s l).which k c w (j.rooms s) }

-- == as the pair ==

b_moved : (p : Pair) (ds : List chip.Call) → bench.all_moved p (map (bench.At B) ds) ≡ record { a = p.a; b = chip.after p.b ds }
b_moved p [] = refl
b_moved p (c ∷ ds) = b_moved (bench.moved p (bench.At B c)) ds

both_moved : (p : Pair) (cs ds : List chip.Call) → bench.all_moved p (map (bench.At A) cs ++ map (bench.At B) ds) ≡ record { a = chip.after p.a cs; b = chip.after p.b ds }
both_moved p [] ds = b_moved p ds
both_moved p (c ∷ cs) ds = both_moved (bench.moved p (bench.At A c)) cs ds

pub pair_append : (p : Pair) (xs ys : List bench.Step) → bench.all_moved p (xs ++ ys) ≡ bench.all_moved (bench.all_moved p xs) ys
pair_append p [] ys = refl
pair_append p (x ∷ xs) ys = pair_append (bench.moved p x) xs ys

-- a call moves the two as the chip calls that it makes at them
pub call_as_pair : (l : Spots) (w : Boards) (k : Which) (c : Call) → pair_of l (called k c w) ≡ bench.all_moved (pair_of l w) (call_steps l k (deed_of k c w))
call_as_pair l w k c =
    ap₂ (λ (d e : Device). record { a = d; b = e }) (called_device l.a k c w) (called_device l.b k c w)
    ∙ sym (both_moved (pair_of l w) (made_at l.a k (deed_of k c w)) (made_at l.b k (deed_of k c w)))

-- == a call at one of the two channels ==

module _ (l : Spots) (w : Boards) (j : Joined l w) where
  -- a call that names its channel is not refused by the board
  side_named : (s : Side) (c : chip.Call) → named (cabinet (spot_at s l).which w).room (spot_at s l).channel c ≡ At (spot_at s l).channel c
  side_named s c =
      let z : ltb 7 (spot_at s l).channel ≡ false = le-ltb 7 (spot_at s l).channel (omega (arith, j.there s)) in
      rw (j.rooms s, z)

  side_called : (s : Side) (c : Call) (d : chip.Call) → deed_of (spot_at s l).which c w ≡ At (spot_at s l).channel d
      → pair_of l (called (spot_at s l).which c w) ≡ bench.moved (pair_of l w) (bench.At s d)
  side_called s c d e =
      call_as_pair l w (spot_at s l).which c ∙ ap (λ (k : Deed). bench.all_moved (pair_of l w) (call_steps l (spot_at s l).which k)) e
      ∙ ap (bench.all_moved (pair_of l w)) (side_steps l w j s d)

  side_sends : (s : Side) → pair_of l (sends l s w) ≡ bench.moved (pair_of l w) (bench.At s chip.Transmit)
  side_sends s = side_called s (Transmit (spot_at s l).channel) chip.Transmit (side_named s chip.Transmit)

  side_hears : (s : Side) (x : ℕ) → pair_of l (hears l s x w) ≡ bench.moved (pair_of l w) (bench.At s (chip.Receive x))
  side_hears s x = side_called s (Receive (spot_at s l).channel x) (chip.Receive x) (side_named s (chip.Receive x))

  -- what the board answers is what the chip does
  side_told : (s : Side) (c : Call) (d : chip.Call) → deed_of (spot_at s l).which c w ≡ At (spot_at s l).channel d
      → told (spot_at s l).which c w ≡ as_bits (chip.said (bench.device_at s (pair_of l w)) d).values
  unfolding said
  side_told s c d e = ap (λ (k : Deed). (said_by (cabinet (spot_at s l).which w).room k).value) e ∙ shown s
    where
      shown : (s : Side) → as_bits (chip.said (device_of (spot_at s l) w) d).values ≡ as_bits (chip.said (bench.device_at s (pair_of l w)) d).values
      shown A = refl
      shown B = refl

  level_sent : (s : Side) → sent l s w ≡ (transmit (bench.device_at s (pair_of l w))).level
  level_sent s = side_told s (Transmit (spot_at s l).channel) chip.Transmit (side_named s chip.Transmit) ∙ one_shown (transmit (bench.device_at s (pair_of l w))).level

  -- while a channel is selected, the ports 0 to 3 are its registers
  module _ (s : Side) (on : selected (cabinet (spot_at s l).which w).board ≡ true) (here : channel_of (cabinet (spot_at s l).which w).board ≡ (spot_at s l).channel)
      (port : ℕ) (low : port < 4) where
    abbrev b : Board
    b = (cabinet (spot_at s l).which w).board

    abbrev room : List Device
    room = (cabinet (spot_at s l).which w).room

    in_deed : deed b room (In port) ≡ At (spot_at s l).channel (chip.Read port)
    in_deed = read_reaches b room (j.rooms s) on port low ∙ ap (λ (k : ℕ). At k (chip.Read port)) here

    out_deed : (v : ℕ) → deed b room (Out port v) ≡ At (spot_at s l).channel (chip.Write port v)
    out_deed v = write_reaches b room (j.rooms s) on port low v ∙ ap (λ (k : ℕ). At k (chip.Write port v)) here

    pub selected_reads : steps_of l w (On (spot_at s l).which (In port)) ≡ bench.At s (chip.Read port) ∷ []
    selected_reads = ap (call_steps l (spot_at s l).which) in_deed ∙ side_steps l w j s (chip.Read port)

    pub selected_writes : (v : ℕ) → steps_of l w (On (spot_at s l).which (Out port v)) ≡ bench.At s (chip.Write port v) ∷ []
    selected_writes v = ap (call_steps l (spot_at s l).which) (out_deed v) ∙ side_steps l w j s (chip.Write port v)

    pub selected_told : told (spot_at s l).which (In port) w ≡ (read (bench.device_at s (pair_of l w)) port).value
    selected_told = side_told s (In port) (chip.Read port) in_deed ∙ one_shown (read (bench.device_at s (pair_of l w)) port).value

-- == a joined tick ==

asides_joined : (l : Spots) (xs : List Aside) (w : Boards) → Joined l w → Joined l (all_called xs w)
asides_joined l [] w j = j
asides_joined l (x ∷ xs) w j = asides_joined l xs (called x.which x.call w) (still_joined l w x.which x.call j)

-- one list of steps behind another
onward : (p : Pair) {q r : Pair} (xs ys : List bench.Step) → q ≡ bench.all_moved p xs → r ≡ bench.all_moved q ys → r ≡ bench.all_moved p (xs ++ ys)
onward p xs ys e f = f ∙ ap (λ (q : Pair). bench.all_moved q ys) e ∙ sym (pair_append p xs ys)

asides_as_pair : (l : Spots) (xs : List Aside) (w : Boards) → pair_of l (all_called xs w) ≡ bench.all_moved (pair_of l w) (aside_steps l xs w)
asides_as_pair l [] w = refl
asides_as_pair l (x ∷ xs) w =
    onward (pair_of l w) (call_steps l x.which (deed_of x.which x.call w)) (aside_steps l xs (called x.which x.call w)) (call_as_pair l w x.which x.call)
    (asides_as_pair l xs (called x.which x.call w))

none_is : (ss : List bench.Step) → none ss ≡ true → ss ≡ []
none_is [] h = refl
none_is (x ∷ ss) h = absurd (true≢false (sym h))

module _ (l : Spots) (m : Between) (w : Boards) (j : Joined l w) where
  abbrev one : Boards
  one = one_sent l m w

  abbrev two : Boards
  two = both_sent l m w

  abbrev three : Boards
  three = one_heard l m w

  abbrev x : ℕ
  x = second_hears l m w

  abbrev y : ℕ
  y = sent l B one

  abbrev first : List bench.Step
  first = aside_steps l m.first (sends l A w)

  abbrev second : List bench.Step
  second = aside_steps l m.second (sends l B one)

  abbrev third : List bench.Step
  third = aside_steps l m.third (hears l A y two)

  joined_sent : Joined l (sends l A w)
  joined_sent = still_joined l w l.a.which (Transmit l.a.channel) j

  joined_one : Joined l one
  joined_one = asides_joined l m.first (sends l A w) joined_sent

  joined_both : Joined l (sends l B one)
  joined_both = still_joined l one l.b.which (Transmit l.b.channel) joined_one

  joined_two : Joined l two
  joined_two = asides_joined l m.second (sends l B one) joined_both

  joined_heard : Joined l (hears l A y two)
  joined_heard = still_joined l two l.a.which (Receive l.a.channel y) joined_two

  joined_three : Joined l three
  joined_three = asides_joined l m.third (hears l A y two) joined_heard

  tick_joined : Joined l (ticked l m w)
  tick_joined = still_joined l three l.b.which (Receive l.b.channel x) joined_three

  -- each of the four calls with what comes behind it
  one_is : pair_of l one ≡ bench.all_moved (pair_of l w) (bench.At A chip.Transmit ∷ first)
  one_is = onward (pair_of l w) (bench.At A chip.Transmit ∷ []) first (side_sends l w j A) (asides_as_pair l m.first (sends l A w))

  two_is : pair_of l two ≡ bench.all_moved (pair_of l one) (bench.At B chip.Transmit ∷ second)
  two_is = onward (pair_of l one) (bench.At B chip.Transmit ∷ []) second (side_sends l one joined_one B) (asides_as_pair l m.second (sends l B one))

  three_is : pair_of l three ≡ bench.all_moved (pair_of l two) (bench.At A (chip.Receive y) ∷ third)
  three_is = onward (pair_of l two) (bench.At A (chip.Receive y) ∷ []) third (side_hears l two joined_two A y) (asides_as_pair l m.third (hears l A y two))

  one_by_one_lem : pair_of l (ticked l m w) ≡ bench.all_moved (pair_of l w) (one_by_one l m w)
  one_by_one_lem =
      let first' : List bench.Step = bench.At A chip.Transmit ∷ first in
      let second' : List bench.Step = bench.At B chip.Transmit ∷ second in
      let third' : List bench.Step = bench.At A (chip.Receive y) ∷ third in
      onward (pair_of l w) (first' ++ second' ++ third') (bench.At B (chip.Receive x) ∷ [])
      (onward (pair_of l w) (first' ++ second') third' (onward (pair_of l w) first' second' one_is two_is) three_is)
      (side_hears l three joined_three B x)

  -- with nothing to the two between, a joined tick
  pub tick_as_pair : aloof l m w ≡ true → pair_of l (ticked l m w) ≡ (joining.tick (pair_of l w)).pair
  unfolding joining.tick
  tick_as_pair h =
      let p : Pair = pair_of l w in
      let t = both (none first && none second) (none third) h in
      let u = both (none first) (none second) t.0 in
      let no_first : first ≡ [] = none_is first u.0 in
      one_by_one_lem
      ∙ ap (λ (ss : List bench.Step). bench.all_moved p ((bench.At A chip.Transmit ∷ ss) ++ (bench.At B chip.Transmit ∷ second) ++ (bench.At A (chip.Receive y) ∷ third) ++ (bench.At B (chip.Receive x) ∷ []))) no_first
      ∙ ap₂ (λ (ss ts : List bench.Step). bench.all_moved p ((bench.At A chip.Transmit ∷ []) ++ (bench.At B chip.Transmit ∷ ss) ++ (bench.At A (chip.Receive y) ∷ ts) ++ (bench.At B (chip.Receive x) ∷ [])))
      (none_is second u.1) (none_is third t.1)
      ∙ ap₂ (λ (m n : ℕ). bench.all_moved p (bench.At A chip.Transmit ∷ bench.At B chip.Transmit ∷ bench.At A (chip.Receive n) ∷ bench.At B (chip.Receive m) ∷ []))
      (level_sent l w j A)
      (level_sent l one joined_one B ∙ ap (λ (q : Pair). (transmit q.b).level) (one_is ∙ ap (λ (ss : List bench.Step). bench.all_moved p (bench.At A chip.Transmit ∷ ss)) no_first))

-- == runs ==

pub moved_joined : (l : Spots) (w : Boards) (x : Step) → Joined l w → Joined l (moved l w x)
moved_joined l w (Tick m) j = tick_joined l m w j
moved_joined l w (On k c) j = still_joined l w k c j

pub step_as_pair : (l : Spots) (w : Boards) (x : Step) → Joined l w → pair_of l (moved l w x) ≡ bench.all_moved (pair_of l w) (steps_of l w x)
step_as_pair l w (Tick m) j =
    each (λ (ss : List bench.Step). pair_of l (ticked l m w) ≡ bench.all_moved (pair_of l w) ss) (aloof l m w) (tick_as_pair l m w j) (λ t. one_by_one_lem l m w j)
step_as_pair l w (On k c) j = call_as_pair l w k c

-- after any list of steps, the two channels are the pair after what the steps are to it
pub runs_as_pair : (l : Spots) (w : Boards) (xs : List Step) → Joined l w → pair_of l (all_moved l w xs) ≡ bench.all_moved (pair_of l w) (steps_at l w xs)
runs_as_pair l w [] j = refl
runs_as_pair l w (x ∷ xs) j =
    onward (pair_of l w) (steps_of l w x) (steps_at l (moved l w x) xs) (step_as_pair l w x j) (runs_as_pair l (moved l w x) xs (moved_joined l w x j))

pub still_joined_after : (l : Spots) (w : Boards) (xs : List Step) → Joined l w → Joined l (all_moved l w xs)
still_joined_after l w [] j = j
still_joined_after l w (x ∷ xs) j = still_joined_after l (moved l w x) xs (moved_joined l w x j)

pub boards_append : (l : Spots) (w : Boards) (xs ys : List Step) → all_moved l w (xs ++ ys) ≡ all_moved l (all_moved l w xs) ys
boards_append l w [] ys = refl
boards_append l w (x ∷ xs) ys = boards_append l (moved l w x) xs ys

pub steps_append : (l : Spots) (w : Boards) (xs ys : List Step) → steps_at l w (xs ++ ys) ≡ steps_at l w xs ++ steps_at l (all_moved l w xs) ys
steps_append l w [] ys = refl
steps_append l w (x ∷ xs) ys =
    ap (λ (ss : List bench.Step). steps_of l w x ++ ss) (steps_append l (moved l w x) xs ys)
    ∙ sym (append_assoc (steps_of l w x) (steps_at l (moved l w x) xs) (steps_at l (all_moved l (moved l w x) xs) ys))

-- == what may come between ==

-- a call that makes no chip call at either channel is no step of theirs
none_made : (l : Spots) (k : Which) (e : Deed) → made_at l.a k e ≡ [] → made_at l.b k e ≡ [] → call_steps l k e ≡ []
none_made l k e p q = rw (p, q)

none_at : (p : Spot) (k : Which) (e : Deed) → reaches_spot p k e ≡ false → made_at p k e ≡ []
none_at p k e h = each (λ (cs : List chip.Call). cs ≡ []) (same k p.which) (λ t. unreached p.channel e (rw t at h)) (λ t. refl)

-- the chip's own refusals end at 5
refused_none : (room : List Device) (e : Deed) (n : ℕ) → 5 < (said_by room e).refusal → reaches n e ≡ false
refused_none room (Refused r) n h = refl
refused_none room (Shows v) n h = refl
refused_none room (Sets b) n h = refl
refused_none room (At m c) n h =
    absurd (omega (arith, h, answers_refusal (device_at room m) c, (given_exactly (device_at room m) c).most))
refused_none room ResetsAll n h = absurd (omega arith)

module _ (l : Spots) (w : Boards) where
  -- a call that makes none of the chip's at either of the two: one to a board that has neither of them, a reset too, is such a call ..
  pub unreached_no_step : (k : Which) (c : Call) → reaches_spot l.a k (deed_of k c w) ≡ false → reaches_spot l.b k (deed_of k c w) ≡ false → steps_of l w (On k c) ≡ []
  unreached_no_step k c p q = none_made l k (deed_of k c w) (none_at l.a k (deed_of k c w) p) (none_at l.b k (deed_of k c w) q)

  -- .. and so is one about another channel, refused or not
  pub others_no_step : (k : Which) (c : Call) (n : ℕ) → about (cabinet k w).board c n ≡ true → is_at k n l.a ≡ false → is_at k n l.b ≡ false → steps_of l w (On k c) ≡ []
  others_no_step k c n h p q = unreached_no_step k c (at l.a p) (at l.b q)
    where
      at : (p : Spot) → is_at k n p ≡ false → reaches_spot p k (deed_of k c w) ≡ false
      at p = go (same k p.which)
        where
          go : (t : Bool) → (t && eqb n p.channel) ≡ false → (t && reaches p.channel (deed_of k c w)) ≡ false
          go true d = about_one (cabinet k w).board (cabinet k w).room c n p.channel h (eqb-false n p.channel d)
          go false d = refl

  nowhere : (k : Which) (c : Call) → ((n : ℕ) → reaches n (deed_of k c w) ≡ false) → steps_of l w (On k c) ≡ []
  nowhere k c h = unreached_no_step k c (at l.a) (at l.b)
    where
      at : (p : Spot) → reaches_spot p k (deed_of k c w) ≡ false
      at p = rw (h p.channel) (and-false (same k p.which))

  -- what is of the board alone is about every channel
  of_the_board : (k : Which) (c : Call) → ((n : ℕ) → about (cabinet k w).board c n ≡ true) → steps_of l w (On k c) ≡ []
  of_the_board k c h = nowhere k c (λ n. about_one (cabinet k w).board (cabinet k w).room c (suc n) n (h (suc n)) (λ e. omega arith))

  pub select_no_step : (k : Which) (v : ℕ) → steps_of l w (On k (Out 7 v)) ≡ []
  select_no_step k v = of_the_board k (Out 7 v) (λ n. refl)

  pub masks_no_step : (k : Which) (v : ℕ) → (steps_of l w (On k (Out 4 v)) ≡ []) × (steps_of l w (On k (Out 5 v)) ≡ [])
  masks_no_step k v = (of_the_board k (Out 4 v) (λ n. refl), of_the_board k (Out 5 v) (λ n. refl))

  pub interrupts_no_step : (k : Which) → (steps_of l w (On k (In 4)) ≡ []) × (steps_of l w (On k (In 5)) ≡ []) × (steps_of l w (On k Interrupts) ≡ [])
  interrupts_no_step k =
      let b : Board = (cabinet k w).board in
      let n : ℕ = length (cabinet k w).room in (
        nowhere k (In 4) (λ i. either (λ (e : Deed). reaches i e ≡ false) (eqb (in_refusal b n 4) 0) refl refl),
        nowhere k (In 5) (λ i. either (λ (e : Deed). reaches i e ≡ false) (eqb (in_refusal b n 5) 0) refl refl),
        nowhere k Interrupts (λ i. either (λ (e : Deed). reaches i e ≡ false) (eqb (room_refusal n) 0) refl refl),
      )

  -- a call refused with 8, 9 or 10, wherever it was for
  pub refused_no_step : (k : Which) (c : Call) → 5 < (said (cabinet k w).board (cabinet k w).room c).refusal → steps_of l w (On k c) ≡ []
  unfolding said
  refused_no_step k c h = nowhere k c (λ n. refused_none (cabinet k w).room (deed_of k c w) n h)

  -- so it is allowed wherever it comes, behind any steps xs, both ways and one way, where the rest is, ys from the boards that it leaves; and the two stay as they were
  module _ (xs : List Step) (x : Step) (ys : List Step) (no_step : steps_of l (all_moved l w xs) x ≡ []) where
    abbrev left : Boards
    left = moved l (all_moved l w xs) x

    between : steps_at l w (xs ++ x ∷ ys) ≡ steps_at l w xs ++ steps_at l left ys
    between = steps_append l w xs (x ∷ ys) ∙ ap (λ (ss : List bench.Step). steps_at l w xs ++ (ss ++ steps_at l left ys)) no_step

    pub may_come_between : (a b : Settings) (e : Bench) → all_allowed a b e (steps_at l w (xs ++ x ∷ ys)) ≡ all_allowed a b e (steps_at l w xs ++ steps_at l left ys)
    may_come_between a b e = ap (all_allowed a b e) between

    pub may_come_between_one_way : (s : Side) (L : ℕ) (e : Logged Pair)
        → one_way.all_allowed (way_from s) L e (steps_at l w (xs ++ x ∷ ys)) ≡ one_way.all_allowed (way_from s) L e (steps_at l w xs ++ steps_at l left ys)
    may_come_between_one_way s L e = ap (one_way.all_allowed (way_from s) L e) between

    pub between_changes_neither : Joined l w → pair_of l left ≡ pair_of l (all_moved l w xs)
    between_changes_neither j =
        step_as_pair l (all_moved l w xs) x (still_joined_after l w xs j) ∙ ap (bench.all_moved (pair_of l (all_moved l w xs))) no_step

-- nor do such calls take a joined tick apart that they come into
pub aside_none : (l : Spots) (x : Aside) (xs : List Aside) (w : Boards) → steps_of l w (On x.which x.call) ≡ [] → aside_steps l xs (called x.which x.call w) ≡ []
    → aside_steps l (x ∷ xs) w ≡ []
aside_none l x xs w p q = rw (p, q)

-- == a board reset may not ==

abbrev Heads : List bench.Step → Type 0
Heads ss = (t : Side) × ((ys : List bench.Step) × (ss ≡ bench.At t chip.Reset ∷ ys))

-- of one of the two, or of both
one_heads : (x y : Bool) (rest : List bench.Step) → (x || y) ≡ true
    → Heads ((map (bench.At A) (cond x (chip.Reset ∷ []) []) ++ map (bench.At B) (cond y (chip.Reset ∷ []) [])) ++ rest)
one_heads true y rest h = (A, (map (bench.At B) (cond y (chip.Reset ∷ []) []) ++ rest, refl))
one_heads false true rest h = (B, (rest, refl))
one_heads false false rest h = absurd (true≢false (sym h))

of_one : (l : Spots) (s : Side) → (same (spot_at s l).which l.a.which || same (spot_at s l).which l.b.which) ≡ true
of_one l A = rw (same_itself l.a.which)
of_one l B = rw (same_itself l.b.which) (or-true (same l.b.which l.a.which))

-- the first that a reset of the board of either channel is to the two is a chip reset
resets_first : (l : Spots) (w : Boards) → Joined l w → (s : Side) (rest : List bench.Step) → Heads (steps_of l w (On (spot_at s l).which Reset) ++ rest)
resets_first l w j s rest =
    let k : Which = (spot_at s l).which in
    subst (λ (n : ℕ). Heads (call_steps l k (unless (room_refusal n) ResetsAll) ++ rest)) (sym (j.rooms s))
    (one_heads (same k l.a.which) (same k l.b.which) rest (of_one l s))

-- where the last steps are not allowed, wherever they begin, no steps with these at their end are
stops : (a b : Settings) (e : Bench) (ss ts : List bench.Step) → ((e : Bench) → all_allowed a b e ts ≡ false) → all_allowed a b e (ss ++ ts) ≡ false
stops a b e [] ts h = h e
stops a b e (x ∷ ss) ts h = rw (stops a b (bench.step e x) ss ts h) (and-false (demand.allowed a b e x))

stops_one_way : (s : Side) (L : ℕ) (e : Logged Pair) (ss ts : List bench.Step) → ((e : Logged Pair) → one_way.all_allowed (way_from s) L e ts ≡ false)
    → one_way.all_allowed (way_from s) L e (ss ++ ts) ≡ false
stops_one_way s L e ss ts h = allowed_append (way_from s) L e ss ts ∙ rw (h (one_way.runs (way_from s) e ss)) (and-false (one_way.all_allowed (way_from s) L e ss))

-- a reset of the board of either channel is not allowed, behind any steps xs
module _ (l : Spots) (w : Boards) (j : Joined l w) (xs : List Step) (s : Side) (ys : List Step) where
  abbrev k : Which
  k = (spot_at s l).which

  abbrev v : Boards
  v = all_moved l w xs

  abbrev resetting : List bench.Step
  resetting = steps_at l v (On k Reset ∷ ys)

  first_is : Heads resetting
  first_is = resets_first l v (still_joined_after l w xs j) s (steps_at l (called k Reset v) ys)

  refused_head : (f : List bench.Step → Bool) → ((t : Side) (ss : List bench.Step) → f (bench.At t chip.Reset ∷ ss) ≡ false) → f resetting ≡ false
  refused_head f h = ap f first_is.1.1 ∙ h first_is.0 first_is.1.0

  pub reset_may_not : (a b : Settings) (e : Bench) → all_allowed a b e (steps_at l w (xs ++ On k Reset ∷ ys)) ≡ false
  reset_may_not a b e =
      ap (all_allowed a b e) (steps_append l w xs (On k Reset ∷ ys)) ∙ stops a b e (steps_at l w xs) resetting (λ e. refused_head (all_allowed a b e) (never e))
    where
      never : (e : Bench) (t : Side) (ss : List bench.Step) → all_allowed a b e (bench.At t chip.Reset ∷ ss) ≡ false
      never e A ss = refl
      never e B ss = refl

  pub reset_may_not_one_way : (t : Side) (L : ℕ) (e : Logged Pair) → one_way.all_allowed (way_from t) L e (steps_at l w (xs ++ On k Reset ∷ ys)) ≡ false
  reset_may_not_one_way t L e =
      ap (one_way.all_allowed (way_from t) L e) (steps_append l w xs (On k Reset ∷ ys))
      ∙ stops_one_way t L e (steps_at l w xs) resetting (λ e. refused_head (one_way.all_allowed (way_from t) L e) (never t e))
    where
      never : (t : Side) (e : Logged Pair) (u : Side) (ss : List bench.Step) → one_way.all_allowed (way_from t) L e (bench.At u chip.Reset ∷ ss) ≡ false
      never A e A ss = refl
      never A e B ss = refl
      never B e A ss = refl
      never B e B ss = refl

-- == nor may a call that takes a joined tick apart ==

-- on the way from the second chip a single transmit tick of it is not allowed, whatever comes before it. (As `stops_one_way`, but what comes behind it stands in
-- parts that are appended one after the other.)
second_stops : (L : ℕ) (e : Logged Pair) (ss ts us vs ws : List bench.Step) → one_way.all_allowed (way_from B) L e (ss ++ (bench.At B chip.Transmit ∷ ts) ++ us ++ vs ++ ws) ≡ false
second_stops L e [] ts us vs ws = refl
second_stops L e (x ∷ ss) ts us vs ws = rw (second_stops L (one_way.step (way_from B) e x) ss ts us vs ws) (and-false (one_way.allowed (way_from B) L e x))

-- a joined tick behind any steps xs, with something to the two between its four calls: then each of these is a call for itself
module _ (l : Spots) (w : Boards) (xs : List Step) (m : Between) (ys : List Step) (torn : aloof l m (all_moved l w xs) ≡ false) where
  abbrev parts : List bench.Step
  parts = one_by_one l m (all_moved l w xs) ++ steps_at l (ticked l m (all_moved l w xs)) ys

  parts_are : steps_at l w (xs ++ Tick m ∷ ys) ≡ steps_at l w xs ++ parts
  parts_are =
      steps_append l w xs (Tick m ∷ ys)
      ∙ ap (λ (t : Bool). steps_at l w xs ++ (cond t (bench.Tick ∷ []) (one_by_one l m (all_moved l w xs)) ++ steps_at l (ticked l m (all_moved l w xs)) ys)) torn

  pub torn_tick_may_not : (a b : Settings) (e : Bench) → all_allowed a b e (steps_at l w (xs ++ Tick m ∷ ys)) ≡ false
  torn_tick_may_not a b e = ap (all_allowed a b e) parts_are ∙ stops a b e (steps_at l w xs) parts (λ e. refl)

  pub torn_tick_may_not_one_way : (t : Side) (L : ℕ) (e : Logged Pair) → one_way.all_allowed (way_from t) L e (steps_at l w (xs ++ Tick m ∷ ys)) ≡ false
  torn_tick_may_not_one_way t L e = ap (one_way.all_allowed (way_from t) L e) parts_are ∙ stops_one_way t L e (steps_at l w xs) parts (never t)
    where
      -- the transmit tick of the end that sends
      never : (t : Side) (e : Logged Pair) → one_way.all_allowed (way_from t) L e parts ≡ false
      never A e = refl
      never B e = second_stops L e (bench.At A chip.Transmit ∷ aside_steps l m.first (sends l A (all_moved l w xs))) _ _ _ _

-- steps with some at their end are some
none_behind : (ss ts : List bench.Step) → none ts ≡ false → none (ss ++ ts) ≡ false
none_behind [] ts h = h
none_behind (x ∷ ss) ts h = refl

-- calls with a reset of the board of either channel among them, wherever it stands, are something to the two
pub reset_among : (l : Spots) (s : Side) (us vs : List Aside) (w : Boards) → Joined l w → none (aside_steps l (us ++ reset_of l s ∷ vs) w) ≡ false
reset_among l s [] vs w j = ap none (resets_first l w j s (aside_steps l vs (called (spot_at s l).which Reset w))).1.1
reset_among l s (x ∷ us) vs w j =
    let u : Boards = called x.which x.call w in
    none_behind (call_steps l x.which (deed_of x.which x.call w)) (aside_steps l (us ++ reset_of l s ∷ vs) u) (reset_among l s us vs u (still_joined l w x.which x.call j))

-- so between the four calls of a joined tick, at any of the three places, it takes the tick apart
pub reset_tears : (l : Spots) (m : Between) (w : Boards) → Joined l w → (i : Place) (s : Side) (us vs : List Aside) → asides_at i m ≡ us ++ reset_of l s ∷ vs → aloof l m w ≡ false
reset_tears l m w j i s us vs = at i
  where
    among : {zs : List Aside} (v : Boards) → Joined l v → zs ≡ us ++ reset_of l s ∷ vs → none (aside_steps l zs v) ≡ false
    among v j e = ap (λ (zs : List Aside). none (aside_steps l zs v)) e ∙ reset_among l s us vs v j

    at : (i : Place) → asides_at i m ≡ us ++ reset_of l s ∷ vs → aloof l m w ≡ false
    at First e = rw (among (sends l A w) (joined_sent l m w j) e)
    at Second e = rw (among (sends l B (one_sent l m w)) (joined_both l m w j) e, and-false)
    at Third e = rw (among (hears l A (sent l B (one_sent l m w)) (both_sent l m w)) (joined_heard l m w j) e, and-false)

-- so a reset of the board of either channel is not allowed within a joined tick, behind any steps xs
module _ (l : Spots) (w : Boards) (j : Joined l w) (xs : List Step) (m : Between) (i : Place) (s : Side) (us vs : List Aside)
    (within : asides_at i m ≡ us ++ reset_of l s ∷ vs) (ys : List Step) where
  torn_so : aloof l m (all_moved l w xs) ≡ false
  torn_so = reset_tears l m (all_moved l w xs) (still_joined_after l w xs j) i s us vs within

  pub reset_within_may_not : (a b : Settings) (e : Bench) → all_allowed a b e (steps_at l w (xs ++ Tick m ∷ ys)) ≡ false
  reset_within_may_not = torn_tick_may_not l w xs m ys torn_so

  pub reset_within_may_not_one_way : (t : Side) (L : ℕ) (e : Logged Pair) → one_way.all_allowed (way_from t) L e (steps_at l w (xs ++ Tick m ∷ ys)) ≡ false
  reset_within_may_not_one_way = torn_tick_may_not_one_way l w xs m ys torn_so

-- == demand 3 ==

bench_pair : (e : Bench) (ss : List bench.Step) → (bench.runs e ss).pair ≡ bench.all_moved e.pair ss
bench_pair e [] = refl
bench_pair e (x ∷ ss) = bench_pair (bench.step e x) ss

-- two channels of any boards, any steps us and a joined tick; then any steps xs
module _ (l : Spots) (w : Boards) (j : Joined l w) (us : List Step) (m : Between) (alone : aloof l m (all_moved l w us) ≡ true) (xs : List Step) where
  abbrev p : Pair
  p = pair_of l w

  abbrev ups : List bench.Step
  ups = steps_at l w us

  abbrev ready : Pair
  ready = pair_of l (all_moved l w us)

  abbrev start : Pair
  start = pair_of l (begun l w us m)

  abbrev ss : List bench.Step
  ss = steps_at l (begun l w us m) xs

  ready_is : ready ≡ bench.all_moved p ups
  ready_is = runs_as_pair l w us j

  start_is : start ≡ (joining.tick (bench.all_moved p ups)).pair
  start_is = tick_as_pair l m (all_moved l w us) (still_joined_after l w us j) alone ∙ ap (λ (q : Pair). (joining.tick q).pair) ready_is

  -- where the bench ends, the boards are
  end_is : bench.all_moved start ss ≡ pair_of l (all_moved l w (us ++ Tick m ∷ xs))
  end_is =
      sym (runs_as_pair l (begun l w us m) xs (moved_joined l (all_moved l w us) (Tick m) (still_joined_after l w us j)))
      ∙ ap (pair_of l) (sym (boards_append l w us (Tick m ∷ xs)))

  pub channels_end : (bench.runs (fresh l w us m) ss).pair ≡ pair_of l (all_moved l w (us ++ Tick m ∷ xs))
  channels_end = bench_pair (fresh l w us m) ss ∙ end_is

  pub channels_end_one_way : (s : Side) → (one_way.runs (way_from s) (no_log start) ss).bench ≡ pair_of l (all_moved l w (us ++ Tick m ∷ xs))
  channels_end_one_way s = log_moved s (no_log start) ss ∙ end_is

  -- one way, whatever happens on the other
  module _ (s : Side) where
    abbrev sent_in : Pair → Format
    sent_in q = send_format (bench.device_at s q).registers

    abbrev OneWayRight : Pair → Pair → Type 0
    OneWayRight m q = Open s m → one_way.all_allowed (way_from s) (frame_length (sent_in m)) (no_log q) ss ≡ true → Promised (way_from s) (sent_in m) (one_way.runs (way_from s) (no_log q) ss)

    pub channels_one_way : FromReset ups → Open s ready → one_way.all_allowed (way_from s) (frame_length (sent_in ready)) (no_log start) ss ≡ true
        → Promised (way_from s) (sent_in ready) (one_way.runs (way_from s) (no_log start) ss)
    channels_one_way up =
        subst (λ (m : Pair). OneWayRight m start) (sym ready_is)
        (subst (OneWayRight (bench.all_moved p ups)) (sym start_is) (λ opened ok. one_way_right s p ups up opened ss ok))

  -- both ways
  module _ (a b : Settings) (pa : Proper a) (pb : Proper b) (agree : Agree a b) (up : FromReset ups)
      (a_holds : Holds a (device_of l.a (all_moved l w us))) (b_holds : Holds b (device_of l.b (all_moved l w us)))
      (ok : all_allowed a b (fresh l w us m) ss ≡ true) where
    set_up : FreshlySetUp a b p ups
    set_up = record { from_reset = up; a_holds = subst (λ (q : Pair). Holds a q.a) ready_is a_holds; b_holds = subst (λ (q : Pair). Holds b q.b) ready_is b_holds }

    fresh_is : fresh l w us m ≡ demand.fresh p ups
    fresh_is = ap (λ (q : Pair). record { pair = q; now = 0; there = nothing_yet; back = nothing_yet }) start_is

    allowed_so : all_allowed a b (demand.fresh p ups) ss ≡ true
    allowed_so = ap (λ (e : Bench). all_allowed a b e ss) (sym fresh_is) ∙ ok

    pub channels_demand_3 : Right a b (bench.runs (fresh l w us m) ss)
    channels_demand_3 = subst (λ (e : Bench). Right a b (bench.runs e ss)) (sym fresh_is) (demand_3 a b pa pb agree p ups set_up ss allowed_so)

    -- and its stamps (request P4)
    pub channels_stamps : StampedRight (bench.runs (fresh l w us m) ss)
    channels_stamps = subst (λ (e : Bench). StampedRight (bench.runs e ss)) (sym fresh_is) (demand_3_stamps a b pa pb agree p ups set_up ss allowed_so)

    pub channels_see : Seen a b (bench.runs (fresh l w us m) ss)
    channels_see = subst (λ (e : Bench). Seen a b (bench.runs e ss)) (sym fresh_is) (bench_sees a b pa pb agree p ups set_up ss allowed_so)
