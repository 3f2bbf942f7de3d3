-- What the calls of the board promise, and that it is what their plans, the chip's calls and the summaries come to.
-- Assumes nothing.
use mathlib.Core.Path.{◌≡◌, refl, ap, ap₂, sym, subst, ◌∙◌}
use Prim.Native.Nat.{ℕ, suc, ◌<◌, ◌≤◌, ◌+◌, ◌*◌, ◌/◌, ◌%◌}
use mathlib.Core.Bool.{Bool, true, false, cond, not, ◌&&◌, ◌||◌, true≢false}
use mathlib.Core.List.{[], ◌∷◌, List}
use native.Mathlib.Omega.{arith}
use lib.Dec.{eqb, ltb}
use lib.ListN.{length, set, replicate}
use borrow.Author.Tests.{eqb-true, eqb-false, ltb-true, ltb-false, eq-eqb, ne_eqb, not-true, not-false}
use Rattle.line_rules.proofs.Choice.{neither}
use Rattle.ins2651_rules.specs.declared.Device.{Device}
use Rattle.ins2651_rules.specs.Shape.{reset_device}
use Rattle.ins2651_rules.specs.Status.{weigh}
use Rattle.ins2651_rules.specs.Looks.{peek, outputs}
use Rattle.ins2651_rules.specs.RegisterReads.{read}
use Rattle.ins2651_rules.specs.Runs as chip
use Rattle.ins2651_rules.proofs.Refused.{given_exactly, answers_refusal}
use Rattle.board_rules.specs.declared.Board.{Board}
use Rattle.board_rules.proofs.Bits.{shown_bit}
use Rattle.board_rules.specs.Interrupts.{by_channel, sends_next, holds_one, transmit_status, receive_status, transmit_lines, receive_lines, both_bytes}
use Rattle.board_rules.specs.Ports.{Call, In, Out, Reset, Pins, Transmit, Receive, Outputs, Interrupts, channel_of, refusal, in_refusal, out_refusal, named_refusal, room_refusal, with_transmit_mask, with_receive_mask, with_select, reset_board, Deed, Refused, Shows, Sets, At, ResetsAll, reading, writing, named, deed}
use Rattle.board_rules.specs.Runs.{device_at, board_by, room_by, said_by, weight, word, board_after, room_after, said, answer}
use Rattle.board_walks.specs.declared.Plan.{Plan}
use Rattle.board_walks.specs.Plans.{plan_at, plan_in, plan_taken, plan_out, plan_named, plan_interrupts, plan_reset, written, low_bits, interrupt_status, enabled, interrupt_lines}
use Rattle.host.proofs.Calls.{Bytes, past}
use Rattle.host.proofs.Calls as host
use Rattle.host.proofs.Promises.{reads, writes, sets_pins, transmits, receives, tells_outputs, peeks, resets}
use Rattle.board_walks.proofs.Calls.{Plans, Summaries, Promise, Says}
use Rattle.board_walks.proofs.Sweep.{swept, told}
use Rattle.board_walks.proofs.Raises.{StopsWide}
use Rattle.board_walks.proofs.Shapes.{Stops, Single, Whole, always}

-- == by what a call comes to ==

-- a call does what `board_rules` says
abbrev pub does : (n : ℕ) → (Bytes n → Call) → Promise n
does n c = record { answers = λ b ys xs. answer b ys (c xs); board = λ b ys xs. board_after b ys (c xs); room = λ b ys xs. room_after b ys (c xs) }

by_deed : (n : ℕ) (c : Bytes n → Call) (b : Board) (ys : List Device) (xs : Bytes n) (e : Deed) {r : ℕ} {d : Board} {zs : List Device} → deed b ys (c xs) ≡ e
    → r ≡ word (weight (c xs)) (said_by ys e) → d ≡ board_by b e → zs ≡ room_by ys e → Says n (does n c) b ys xs r d zs
unfolding answer said board_after room_after
by_deed n c b ys xs e is p q s = (p ∙ ap (λ (k : Deed). word (weight (c xs)) (said_by ys k)) (sym is), (q ∙ ap (board_by b) (sym is), s ∙ ap (room_by ys) (sym is)))

alone : (n : ℕ) → n ≡ n + 0
alone n = omega arith

-- a value beside no refusal
shown : (w v : ℕ) → v ≡ 0 * w + v
shown w v = let none : 0 * w ≡ 0 = omega arith in omega (arith, none)

-- a refused one
by_refusal : (n : ℕ) (c : Bytes n → Call) (b : Board) (ys : List Device) (xs : Bytes n) (r : ℕ) (e : Deed) → deed b ys (c xs) ≡ cond (eqb r 0) e (Refused r) → eqb r 0 ≡ false
    → Says n (does n c) b ys xs (r * weight (c xs)) b ys
by_refusal n c b ys xs r e is z = by_deed n c b ys xs (Refused r) (is ∙ ap (λ (t : Bool). cond t e (Refused r)) z) (alone (r * weight (c xs))) refl refl

-- one that is not
taken : (r : ℕ) (e : Deed) {x : Deed} → x ≡ cond (eqb r 0) e (Refused r) → eqb r 0 ≡ true → x ≡ e
taken r e is z = is ∙ ap (λ (t : Bool). cond t e (Refused r)) z

-- nothing is refused: the room has eight channels, and what is asked for is there
pub record Admitted (channels : ℕ) (absent : Bool) : Type 0 where
  pub eight : channels ≡ 8
  pub there : absent ≡ false

pub admitted : (channels : ℕ) (absent elsewhere : Bool) → eqb (refusal channels absent elsewhere) 0 ≡ true → Admitted channels absent
admitted channels absent elsewhere h = go (eqb channels 8) absent elsewhere refl h
  where
    go : (t a z : Bool) → eqb channels 8 ≡ t → eqb (cond t (cond a 8 (cond z 9 0)) 10) 0 ≡ true → Admitted channels a
    go false a z e h = absurd (true≢false (sym h))
    go true true z e h = absurd (true≢false (sym h))
    go true false z e h = record { eight = eqb-true channels 8 e; there = refl }

-- == the calls that name a channel ==

abbrev pub named_plan : (k : ℕ) → Plans (suc k)
named_plan k b channels xs = plan_named b channels xs.0

module _ (k : ℕ) (c : Bytes (suc k) → Call) (a : Bytes k → chip.Call) (is : (b : Board) (ys : List Device) (xs : Bytes (suc k)) → deed b ys (c xs) ≡ named ys xs.0 (a xs.1)) (weighs : (xs : Bytes (suc k)) → weight (c xs) ≡ 256) where
  pub named_stops : Stops (suc k) (named_plan k) (does (suc k) c)
  named_stops b ys xs ends =
      let r : ℕ = named_refusal (length ys) xs.0 in
      let said = by_refusal (suc k) c b ys xs r (At xs.0 (a xs.1)) (is b ys xs) (not-true (eqb r 0) ends) in
      (ap (λ (w : ℕ). r * w) (sym (weighs xs)) ∙ said.0, said.1)

  -- the chip's call is P, and its answer times u is how the board tells it
  pub record Chip (u : ℕ) (P : host.Promise k) : Type 0 where
    pub tells : (d : Device) (xs : Bytes k) → P.answers d xs * u ≡ word 256 (said_by (d ∷ []) (At 0 (a xs)))
    pub leaves : (d : Device) (xs : Bytes k) → P.leaves d xs ≡ chip.next d (a xs)

  pub named_single : (u : ℕ) (P : host.Promise k) → Chip u P → Single 1 k u (named_plan k) P (does (suc k) c) always
  named_single u P same = record {
    inside = λ b ys xs on one.
        let in_room_lem = admitted (length ys) (ltb 7 xs.0) false (not-false _ on) in
        let low : xs.0 ≤ 7 = ltb-false 7 xs.0 in_room_lem.there in
        omega (arith, low, in_room_lem.eight);
    says = λ b ys xs on one.
        by_deed (suc k) c b ys xs (At xs.0 (a xs.1)) (taken (named_refusal (length ys) xs.0) (At xs.0 (a xs.1)) (is b ys xs) (not-false _ on))
        (same.tells (device_at ys xs.0) xs.1 ∙ ap (λ (w : ℕ). word w (said_by ys (At xs.0 (a xs.1)))) (sym (weighs xs))) refl (ap (set ys xs.0) (same.leaves (device_at ys xs.0) xs.1));
  }

-- a refusal fits in a byte
small_refusal : (d : Device) (c : chip.Call) → (chip.said d c).refusal < 256
small_refusal d c = let most = (given_exactly d c).most in omega (arith, most, answers_refusal d c)

abbrev pub transmit_call : Bytes 1 → Call
transmit_call xs = Transmit xs.0

abbrev pub outputs_call : Bytes 1 → Call
outputs_call xs = Outputs xs.0

abbrev pub receive_call : Bytes 2 → Call
receive_call xs = Receive xs.0 xs.1.0

abbrev pub pins_call : Bytes 4 → Call
pins_call xs = Pins xs.0 xs.1.0 xs.1.1.0 xs.1.1.1.0

once_more : (r v : ℕ) → (r * 256 + v) * 1 ≡ r * 256 + (v + 2 * 0)
once_more r v = omega arith

level_told : (x : ℕ) → x * 1 ≡ 0 * 256 + (x + 2 * 0)
level_told x = omega arith

levels_told : (t r e d s : ℕ) → (t + r * 2 + e * 4 + d * 8 + s * 16) * 1 ≡ 0 * 256 + (t + 2 * (r + 2 * (e + 2 * (d + 2 * (s + 2 * 0)))))
levels_told t r e d s = omega arith

pub transmit_stops : Stops 1 (named_plan 0) (does 1 transmit_call)
transmit_stops = named_stops 0 transmit_call (λ xs. chip.Transmit) (λ b ys xs. refl) (λ xs. refl)

pub transmit_single : Single 1 0 1 (named_plan 0) transmits (does 1 transmit_call) always
transmit_single = named_single 0 transmit_call (λ xs. chip.Transmit) (λ b ys xs. refl) (λ xs. refl) 1 transmits (record { tells = λ d xs. level_told (transmits.answers d xs); leaves = λ d xs. refl })

pub outputs_stops : Stops 1 (named_plan 0) (does 1 outputs_call)
outputs_stops = named_stops 0 outputs_call (λ xs. chip.Outputs) (λ b ys xs. refl) (λ xs. refl)

pub outputs_single : Single 1 0 1 (named_plan 0) tells_outputs (does 1 outputs_call) always
outputs_single = named_single 0 outputs_call (λ xs. chip.Outputs) (λ b ys xs. refl) (λ xs. refl) 1 tells_outputs (record { tells = λ d xs. let o = outputs d in levels_told o.txrdy o.rxrdy o.txemt o.dtr o.rts; leaves = λ d xs. refl })

pub receive_stops : Stops 2 (named_plan 1) (does 2 receive_call)
receive_stops = named_stops 1 receive_call (λ xs. chip.Receive xs.0) (λ b ys xs. refl) (λ xs. refl)

pub receive_single : Single 1 1 256 (named_plan 1) receives (does 2 receive_call) always
receive_single = named_single 1 receive_call (λ xs. chip.Receive xs.0) (λ b ys xs. refl) (λ xs. refl) 256 receives (record { tells = λ d xs. alone (receives.answers d xs * 256); leaves = λ d xs. refl })

pub receive_small : (d : Device) (xs : Bytes 1) → receives.answers d xs < 256
receive_small d xs = small_refusal d (chip.Receive xs.0)

pub pins_stops : Stops 4 (named_plan 3) (does 4 pins_call)
pins_stops = named_stops 3 pins_call (λ xs. chip.SetPins xs.0 xs.1.0 xs.1.1.0) (λ b ys xs. refl) (λ xs. refl)

pub pins_single : Single 1 3 256 (named_plan 3) sets_pins (does 4 pins_call) always
pins_single =
    named_single 3 pins_call (λ xs. chip.SetPins xs.0 xs.1.0 xs.1.1.0) (λ b ys xs. refl) (λ xs. refl) 256 sets_pins (record { tells = λ d xs. alone (sets_pins.answers d xs * 256); leaves = λ d xs. refl })

pub pins_small : (d : Device) (xs : Bytes 3) → sets_pins.answers d xs < 256
pins_small d xs = small_refusal d (chip.SetPins xs.0 xs.1.0 xs.1.1.0)

-- == a port is written ==

abbrev pub out_call : Bytes 2 → Call
out_call xs = Out xs.0 xs.1.0

abbrev pub out_plan : Plans 2
out_plan b channels xs = plan_out b channels xs.0 xs.1.0

-- above n, and not the one above it
above : (port n : ℕ) → n < port → eqb port (suc n) ≡ false → suc n < port
above port n l e = let other = eqb-false port (suc n) e in omega (arith, l, other)

-- where the write is taken, the plan is so
module _ (b : Board) (ys : List Device) (port v : ℕ) where
  abbrev out_refused : ℕ
  out_refused = out_refusal b (length ys) port

  out_taken : eqb out_refused 0 ≡ true → plan_out b (length ys) port v ≡ plan_taken b port v
  unfolding plan_out
  out_taken z = ap (λ (t : Bool). cond t (plan_taken b port v) (plan_at b out_refused (channel_of b))) z

  out_not_taken : eqb out_refused 0 ≡ false → plan_out b (length ys) port v ≡ plan_at b out_refused (channel_of b)
  unfolding plan_out
  out_not_taken z = ap (λ (t : Bool). cond t (plan_taken b port v) (plan_at b out_refused (channel_of b))) z

  out_deed : eqb out_refused 0 ≡ true → deed b ys (Out port v) ≡ writing b port v
  out_deed z = taken out_refused (writing b port v) refl z

  out_there : eqb out_refused 0 ≡ true → (eqb port 6 || ltb 7 port) ≡ false
  out_there z = (admitted (length ys) (eqb port 6 || ltb 7 port) (ltb port 6 && not (eqb (b.select / 8 % 4) b.number)) z).there

  -- ports 4, 5 and 7 are the board's own
  own_port : ltb 3 port ≡ true → (eqb port 6 || ltb 7 port) ≡ false → writing b port v ≡ Sets (written b port v)
  own_port high there = go (eqb port 4) (eqb port 5) (eqb port 7) refl refl refl
    where
      go : (s t u : Bool) → eqb port 4 ≡ s → eqb port 5 ≡ t → eqb port 7 ≡ u
          → cond s (Sets (with_transmit_mask b v)) (cond t (Sets (with_receive_mask b v)) (cond u (Sets (with_select b v)) (At (channel_of b) (chip.Write port v))))
          ≡ Sets (cond s (with_transmit_mask b v) (cond t (with_receive_mask b v) (cond u (with_select b v) b)))
      go true t u p q r = refl
      go false true u p q r = refl
      go false false true p q r = refl
      go false false false p q r =
          let low : port ≤ 7 = ltb-false 7 port (neither (eqb port 6) (ltb 7 port) there).1 in
          let over4 = above port 3 (ltb-true 3 port high) p in
          let over6 = above port 5 (above port 4 over4 q) (neither (eqb port 6) (ltb 7 port) there).0 in
          absurd (omega (arith, low, above port 6 over6 r))

  -- and those below 4 the channel's
  low_port : ltb 3 port ≡ false → (writing b port v ≡ At (channel_of b) (chip.Write port v)) × (written b port v ≡ b)
  low_port low =
      let below : port ≤ 3 = ltb-false 3 port low in
      let no4 : eqb port 4 ≡ false = ne_eqb port 4 (λ e. omega (arith, below, e)) in
      let no5 : eqb port 5 ≡ false = ne_eqb port 5 (λ e. omega (arith, below, e)) in
      let no7 : eqb port 7 ≡ false = ne_eqb port 7 (λ e. omega (arith, below, e)) in
      (rw no4 (rw no5 (rw no7 refl)), rw no4 (rw no5 (rw no7 refl)))

module _ (b : Board) (ys : List Device) (xs : Bytes 2) where
  abbrev port : ℕ
  port = xs.0

  abbrev v : ℕ
  v = xs.1.0

  abbrev refused : ℕ
  refused = out_refusal b (length ys) port

  abbrev plan : Plan
  plan = out_plan b (length ys) xs

  out_ends : (t : Bool) → eqb refused 0 ≡ t → plan.ends ≡ true → Says 2 (does 2 out_call) b ys xs plan.answer plan.board ys
  out_ends false z ends =
      subst (λ (k : Plan). Says 2 (does 2 out_call) b ys xs k.answer k.board ys) (sym (out_not_taken b ys port v z)) (by_refusal 2 out_call b ys xs refused (writing b port v) refl z)
  out_ends true z ends =
      let high : ltb 3 port ≡ true = ap (λ (k : Plan). k.ends) (sym (out_taken b ys port v z)) ∙ ends in
      subst (λ (k : Plan). Says 2 (does 2 out_call) b ys xs k.answer k.board ys) (sym (out_taken b ys port v z))
      (by_deed 2 out_call b ys xs (Sets (written b port v)) (out_deed b ys port v z ∙ own_port b ys port v high (out_there b ys port v z)) refl refl refl)

  -- where it does not end there, the write is taken, to a port below 4
  out_open : (t : Bool) → eqb refused 0 ≡ t → plan.ends ≡ false → (t ≡ true) × (ltb 3 port ≡ false)
  out_open false z open-still = absurd (true≢false (sym (ap (λ (u : Bool). not u) z) ∙ ap (λ (k : Plan). k.ends) (sym (out_not_taken b ys port v z)) ∙ open-still))
  out_open true z open-still = (refl, ap (λ (k : Plan). k.ends) (sym (out_taken b ys port v z)) ∙ open-still)

  out_goes : plan.ends ≡ false → (eqb refused 0 ≡ true) × (ltb 3 port ≡ false)
  out_goes open-still = out_open (eqb refused 0) refl open-still

  out_says : plan.ends ≡ false
      → Says 2 (does 2 out_call) b ys xs (writes.answers (device_at ys plan.channel) xs * 256) plan.board (set ys plan.channel (writes.leaves (device_at ys plan.channel) xs))
  out_says open-still =
      let z = out_goes open-still in
      subst (λ (k : Plan). Says 2 (does 2 out_call) b ys xs (writes.answers (device_at ys k.channel) xs * 256) k.board (set ys k.channel (writes.leaves (device_at ys k.channel) xs)))
      (sym (out_taken b ys port v z.0))
      (by_deed 2 out_call b ys xs (At (channel_of b) (chip.Write port v)) (out_deed b ys port v z.0 ∙ (low_port b ys port v z.1).0)
      (alone (writes.answers (device_at ys (channel_of b)) xs * 256)) (low_port b ys port v z.1).1 refl)

pub out_stops : Stops 2 out_plan (does 2 out_call)
out_stops b ys xs ends = out_ends b ys xs (eqb (out_refusal b (length ys) xs.0) 0) refl ends

-- the selected channel is one of eight
eighth : (b : Board) (channels : ℕ) → channels ≡ 8 → channel_of b < channels
eighth b channels e = omega (arith, e)

pub out_single : Single 0 2 256 out_plan writes (does 2 out_call) always
out_single = record {
  inside = λ b ys xs on one.
      let z = out_goes b ys xs on in
      subst (λ (k : Plan). k.channel < length ys) (sym (out_taken b ys xs.0 xs.1.0 z.0))
      (eighth b (length ys) (admitted (length ys) (eqb xs.0 6 || ltb 7 xs.0) (ltb xs.0 6 && not (eqb (b.select / 8 % 4) b.number)) z.0).eight);
  says = λ b ys xs on one. out_says b ys xs on;
}

pub out_small : (d : Device) (xs : Bytes 2) → writes.answers d xs < 256
out_small d xs = small_refusal d (chip.Write xs.0 xs.1.0)

-- == eight channels ==

pub of_eight : (P : List Device → Type 0) → ((a b c d e f g h : Device) → P (a ∷ b ∷ c ∷ d ∷ e ∷ f ∷ g ∷ h ∷ [])) → (ys : List Device) → length ys ≡ 8 → P ys
of_eight P k [] n = absurd (omega (arith, n))
of_eight P k (a ∷ []) n = absurd (omega (arith, n))
of_eight P k (a ∷ b ∷ []) n = absurd (omega (arith, n))
of_eight P k (a ∷ b ∷ c ∷ []) n = absurd (omega (arith, n))
of_eight P k (a ∷ b ∷ c ∷ d ∷ []) n = absurd (omega (arith, n))
of_eight P k (a ∷ b ∷ c ∷ d ∷ e ∷ []) n = absurd (omega (arith, n))
of_eight P k (a ∷ b ∷ c ∷ d ∷ e ∷ f ∷ []) n = absurd (omega (arith, n))
of_eight P k (a ∷ b ∷ c ∷ d ∷ e ∷ f ∷ g ∷ []) n = absurd (omega (arith, n))
of_eight P k (a ∷ b ∷ c ∷ d ∷ e ∷ f ∷ g ∷ h ∷ []) n = k a b c d e f g h
of_eight P k (a ∷ b ∷ c ∷ d ∷ e ∷ f ∷ g ∷ h ∷ i ∷ ys) n = absurd (omega (arith, n))

-- looked at, they stay; reset, they are eight just reset
peeked_stay : (ys : List Device) → length ys ≡ 8 → ys ≡ swept peeks 8 0 ys
peeked_stay = of_eight (λ ys. ys ≡ swept peeks 8 0 ys) (λ a b c d e f g h. refl)

pub all_resets : (ys : List Device) → length ys ≡ 8 → swept resets 8 0 ys ≡ replicate 8 reset_device
all_resets = of_eight (λ ys. swept resets 8 0 ys ≡ replicate 8 reset_device) (λ a b c d e f g h. refl)

low_bits_so : (a b c d e f g h : ℕ) → low_bits a b c d e f g h ≡ a % 2 + 2 * (b % 2 + 2 * (c % 2 + 2 * (d % 2 + 2 * (e % 2 + 2 * (f % 2 + 2 * (g % 2 + 2 * (h % 2 + 2 * 0)))))))
unfolding low_bits
low_bits_so a b c d e f g h = omega arith

-- of eight statuses, what `bit` makes of each
abbrev bits_of : (ℕ → ℕ) → Bytes 8 → ℕ
bits_of bit v =
    low_bits (bit v.0) (bit v.1.0) (bit v.1.1.0) (bit v.1.1.1.0) (bit v.1.1.1.1.0) (bit v.1.1.1.1.1.0) (bit v.1.1.1.1.1.1.0) (bit v.1.1.1.1.1.1.1.0)

-- the channels' bits, each by its status
by_status : (p : Device → Bool) (bit : ℕ → ℕ) → ((d : Device) → bit (peek d) % 2 ≡ weigh (p d) 1) → (ys : List Device) → length ys ≡ 8 → bits_of bit (told peeks 8 0 ys) ≡ by_channel p ys
by_status p bit same =
    of_eight (λ ys. bits_of bit (told peeks 8 0 ys) ≡ by_channel p ys) (λ a b c d e f g h.
    low_bits_so (bit (peek a)) (bit (peek b)) (bit (peek c)) (bit (peek d)) (bit (peek e)) (bit (peek f)) (bit (peek g)) (bit (peek h))
    ∙ step a (step b (step c (step d (step e (step f (step g (step h none))))))))
  where
    none : ◌≡◌ {A = ℕ} 0 0
    none = refl

    step : (d : Device) {x y : ℕ} → x ≡ y → bit (peek d) % 2 + 2 * x ≡ weigh (p d) 1 + 2 * y
    step d e = ap₂ (λ (i j : ℕ). i + 2 * j) (same d) e

-- port 4 and port 5
abbrev pub status_of : Bytes 8 → ℕ → ℕ
status_of v port = interrupt_status v.0 v.1.0 v.1.1.0 v.1.1.1.0 v.1.1.1.1.0 v.1.1.1.1.1.0 v.1.1.1.1.1.1.0 v.1.1.1.1.1.1.1.0 port

status_4 : (ys : List Device) → length ys ≡ 8 → status_of (told peeks 8 0 ys) 4 ≡ transmit_status ys
unfolding interrupt_status
status_4 ys n = by_status sends_next (λ v. v) (λ d. (let e : peek d % 2 ≡ peek d / 1 % 2 = omega arith in e) ∙ shown_bit 1 (peek d)) ys n

status_5 : (ys : List Device) → length ys ≡ 8 → status_of (told peeks 8 0 ys) 5 ≡ receive_status ys
unfolding interrupt_status
status_5 ys n = by_status holds_one (λ v. v / 2) (λ d. shown_bit 2 (peek d)) ys n

-- == a port is read ==

abbrev pub in_call : Bytes 1 → Call
in_call xs = In xs.0

abbrev pub in_plan : Plans 1
in_plan b channels xs = plan_in b channels xs.0

abbrev pub status_sum : Summaries 8 1
status_sum b v xs = status_of v xs.0

pub in_stops : Stops 1 in_plan (does 1 in_call)
in_stops b ys xs ends = by_refusal 1 in_call b ys xs (in_refusal b (length ys) xs.0) (reading b ys xs.0) refl (not-true _ ends)

module _ (b : Board) (ys : List Device) (port : ℕ) (on : not (eqb (in_refusal b (length ys) port) 0) ≡ false) where
  pub in_room_lem : Admitted (length ys) (ltb 5 port)
  in_room_lem = admitted (length ys) (ltb 5 port) (not (eqb (b.select / 8 % 4) b.number)) (not-false _ on)

  in_deed : deed b ys (In port) ≡ reading b ys port
  in_deed = taken (in_refusal b (length ys) port) (reading b ys port) refl (not-false _ on)

  reads_channel : ltb port 4 ≡ true → deed b ys (In port) ≡ At (channel_of b) (chip.Read port)
  reads_channel low =
      let below : port < 4 = ltb-true port 4 low in
      let no4 : eqb port 4 ≡ false = ne_eqb port 4 (λ e. omega (arith, below, e)) in
      let no5 : eqb port 5 ≡ false = ne_eqb port 5 (λ e. omega (arith, below, e)) in
      in_deed ∙ rw no4 (rw no5 refl)

  -- port 4 or 5
  shows_status : ltb port 4 ≡ false → (t : Bool) → eqb port 4 ≡ t
      → (deed b ys (In port) ≡ Shows (status_of (told peeks 8 0 ys) port))
  shows_status high true e =
      let is : port ≡ 4 = eqb-true port 4 e in
      in_deed ∙ rw e (ap Shows (sym (status_4 ys in_room_lem.eight) ∙ ap (status_of (told peeks 8 0 ys)) (sym is)))
  shows_status high false e =
      let up : 4 ≤ port = ltb-false port 4 high in
      let low : port ≤ 5 = ltb-false 5 port in_room_lem.there in
      let other = eqb-false port 4 e in
      let is : port ≡ 5 = omega (arith, up, low, other) in
      in_deed ∙ rw e (rw (eq-eqb port 5 is) (ap Shows (sym (status_5 ys in_room_lem.eight) ∙ ap (status_of (told peeks 8 0 ys)) (sym is))))

pub in_single : Single 0 1 1 in_plan reads (does 1 in_call) (λ s. s.single)
in_single = record {
  inside = λ b ys xs on one. eighth b (length ys) (in_room_lem b ys xs.0 on).eight;
  says = λ b ys xs on one. by_deed 1 in_call b ys xs (At (channel_of b) (chip.Read xs.0)) (reads_channel b ys xs.0 on one)
      (let a = read (device_at ys (channel_of b)) xs.0 in once_more a.refusal a.value) refl refl;
}

pub in_whole : Whole 1 8 in_plan peeks status_sum (does 1 in_call) (λ s. not s.single)
in_whole = record {
  enough = λ b ys xs on all. let eight = (in_room_lem b ys xs.0 on).eight in omega (arith, eight);
  says = λ b ys xs on all.
      by_deed 1 in_call b ys xs (Shows (status_sum b (told peeks 8 0 ys) xs)) (shows_status b ys xs.0 on (not-true _ all) (eqb xs.0 4) refl) (shown 256 (status_sum b (told peeks 8 0 ys) xs)) refl (sym (peeked_stay ys (in_room_lem b ys xs.0 on).eight));
}

-- == reset ==

abbrev pub reset_call : Bytes 0 → Call
reset_call xs = Reset

abbrev pub reset_plan : Plans 0
reset_plan b channels xs = plan_reset b channels

abbrev pub no_sum : Summaries 8 0
no_sum b v xs = 0

module _ (b : Board) (ys : List Device) where
  abbrev room_refused : ℕ
  room_refused = room_refusal (length ys)

  reset_taken : (t : Bool) → eqb room_refused 0 ≡ t → plan_reset b (length ys) ≡ cond t (plan_at (reset_board b) 0 0) (plan_at b room_refused 0)
  unfolding plan_reset
  reset_taken t z = ap (λ (u : Bool). cond u (plan_at (reset_board b) 0 0) (plan_at b room_refused 0)) z

  reset_refused : (t : Bool) → eqb room_refused 0 ≡ t → (plan_reset b (length ys)).ends ≡ true → t ≡ false
  reset_refused false z ends = refl
  reset_refused true z ends = absurd (true≢false (sym ends ∙ ap (λ (k : Plan). k.ends) (reset_taken true z)))

  reset_open : (t : Bool) → eqb room_refused 0 ≡ t → (plan_reset b (length ys)).ends ≡ false → t ≡ true
  reset_open true z on = refl
  reset_open false z on = absurd (true≢false (sym (ap not z) ∙ ap (λ (k : Plan). k.ends) (sym (reset_taken false z)) ∙ on))

  reset_eight : (plan_reset b (length ys)).ends ≡ false → length ys ≡ 8
  reset_eight on = (admitted (length ys) false false (reset_open (eqb room_refused 0) refl on)).eight

pub reset_stops : Stops 0 reset_plan (does 0 reset_call)
reset_stops b ys xs ends =
    let z = reset_refused b ys (eqb (room_refusal (length ys)) 0) refl ends in
    subst (λ (k : Plan). Says 0 (does 0 reset_call) b ys xs k.answer k.board ys) (sym (reset_taken b ys false z)) (by_refusal 0 reset_call b ys xs (room_refusal (length ys)) ResetsAll refl z)

pub reset_whole : Whole 0 8 reset_plan resets no_sum (does 0 reset_call) always
reset_whole = record {
  enough = λ b ys xs on all. let eight = reset_eight b ys on in omega (arith, eight);
  says = λ b ys xs on all.
      let z = reset_open b ys (eqb (room_refusal (length ys)) 0) refl on in
      subst (λ (k : Plan). Says 0 (does 0 reset_call) b ys xs 0 k.board (swept resets 8 0 ys)) (sym (reset_taken b ys true z))
      (by_deed 0 reset_call b ys xs ResetsAll (taken (room_refusal (length ys)) ResetsAll refl z) refl refl (all_resets ys (reset_eight b ys on)));
}

-- == the interrupt lines ==

abbrev pub lines_call : Bytes 0 → Call
lines_call xs = Interrupts

abbrev pub lines_plan : Plans 0
lines_plan b channels xs = plan_interrupts b channels

abbrev pub lines_sum : Summaries 8 0
lines_sum b v xs = interrupt_lines b v.0 v.1.0 v.1.1.0 v.1.1.1.0 v.1.1.1.1.0 v.1.1.1.1.1.0 v.1.1.1.1.1.1.0 v.1.1.1.1.1.1.1.0

abbrev pub raise : ℕ → ℕ
raise r = r * 256

twice_raised : (r : ℕ) → r * 256 * 256 ≡ r * 65536
twice_raised r = omega arith

pub lines_stop : StopsWide 0 lines_plan raise (does 0 lines_call)
lines_stop b ys xs ends =
    let r : ℕ = room_refusal (length ys) in
    let said = by_refusal 0 lines_call b ys xs r (Shows (both_bytes (transmit_lines b ys) (receive_lines b ys))) refl (not-true _ ends) in
    (twice_raised r ∙ said.0, said.1)

lines_so : (b : Board) (ys : List Device) → length ys ≡ 8 → lines_sum b (told peeks 8 0 ys) tt ≡ both_bytes (transmit_lines b ys) (receive_lines b ys)
unfolding interrupt_lines
lines_so b ys n =
    ap₂ (λ (t r : ℕ). enabled t b.transmit_mask + enabled r b.receive_mask * 256) (status_4 ys n) (status_5 ys n) ∙ swap (transmit_lines b ys) (receive_lines b ys)
  where
    swap : (t r : ℕ) → t + r * 256 ≡ r * 256 + t
    swap t r = omega arith

pub lines_whole : Whole 0 8 lines_plan peeks lines_sum (does 0 lines_call) always
lines_whole = record {
  enough = λ b ys xs on all. let eight = (admitted (length ys) false false (not-false _ on)).eight in omega (arith, eight);
  says = λ b ys xs on all.
      let eight = (admitted (length ys) false false (not-false _ on)).eight in
      by_deed 0 lines_call b ys xs (Shows (both_bytes (transmit_lines b ys) (receive_lines b ys))) (taken (room_refusal (length ys)) (Shows (both_bytes (transmit_lines b ys) (receive_lines b ys))) refl (not-false _ on))
      (lines_so b ys eight ∙ shown 65536 (both_bytes (transmit_lines b ys) (receive_lines b ys))) refl (sym (peeked_stay ys eight));
}
