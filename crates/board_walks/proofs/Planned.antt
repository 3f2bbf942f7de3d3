-- Each call of the board goes by its plan: what `board_rules` says of it, which the contracts of `board` cite, is what the plan, the chip's call and the
-- summaries come to.
-- Assumes nothing.
use mathlib.Core.Path.{◌≡◌, refl, ap, sym}
use Prim.Native.Nat.{ℕ, ◌*◌}
use mathlib.Core.Bool.{Bool, true, false, cond, not}
use mathlib.Core.List.{List}
use lib.Dec.{eqb}
use lib.ListN.{length}
use Rattle.ins2651_rules.specs.declared.Device.{Device}
use Rattle.ins2651_rules.specs.Looks.{peek}
use Rattle.board_rules.specs.declared.Board.{Board}
use Rattle.board_rules.specs.Ports.{channel_of, out_refusal, Call, In, Out, Reset, Pins, Transmit, Receive, Outputs, Interrupts}
use Rattle.board_rules.specs.Runs.{device_at, board_after, room_after, answer}
use Rattle.board_walks.specs.declared.Plan.{Plan}
use Rattle.board_walks.specs.Plans.{plan_at, plan_taken, plan_in, plan_out, plan_named, plan_interrupts, plan_reset}
use Rattle.board_walks.specs.Planned.{Planned, AboutOne, OneOrAll, status_shown, lines_shown}
use Rattle.host.proofs.Calls.{Bytes}
use Rattle.host.proofs.Calls as host
use Rattle.host.proofs.Promises.{transmits, tells_outputs, receives, sets_pins, writes}
use Rattle.board_walks.proofs.Calls.{Plans, Promise}
use Rattle.board_walks.proofs.Shapes.{Stops, Single, always}
use Rattle.board_walks.proofs.Promises.{does, named_plan, in_stops, in_single, in_whole, out_call, out_plan, out_stops, out_single, reset_stops, reset_whole, lines_stop, lines_whole, transmit_call, transmit_stops, transmit_single, outputs_call, outputs_stops, outputs_single, receive_call, receive_stops, receive_single, pins_call, pins_stops, pins_single}
use Rattle.board_walks.proofs.Eight.{Polled, in_answers, lines_answer}

-- == a call goes by its plan p: where p ends it, it is what p says; where it goes on, it leaves p's board ==

module _ (p : Plan) {a r : ℕ} {b : Board} {ys zs : List Device} (ends : p.ends ≡ true → (a ≡ r) × ((p.board ≡ b) × (ys ≡ zs))) (on : p.ends ≡ false → p.board ≡ b) where
  planned_by : Planned p a r b ys zs
  planned_by = record { stored = sym (left p.ends refl); ended = λ h. let q = ends h in (sym q.0, sym q.1.1) }
    where
      left : (e : Bool) → p.ends ≡ e → p.board ≡ b
      left true h = (ends h).1.0
      left false h = on h

-- == a call about one channel, whatever its plan ==

module _ (l k u : ℕ) (S : Plans (host.past l k)) (P : host.Promise k) (Q : Promise (host.past l k)) (stops : Stops (host.past l k) S Q) (single : Single l k u S P Q always) (b : Board) (ys : List Device) (xs : Bytes (host.past l k)) where
  abbrev p : Plan
  p = S b (length ys) xs

  pub planned : Planned p p.answer (Q.answers b ys xs) (Q.board b ys xs) ys (Q.room b ys xs)
  planned = planned_by p (stops b ys xs) (λ h. (single.says b ys xs h refl).1.0)

  pub by_plan : p.single ≡ true → AboutOne p (Q.answers b ys xs) (Q.board b ys xs) ys (Q.room b ys xs)
  by_plan one = (planned, (one, λ h. (_, sym (single.says b ys xs h refl).1.1)))

-- == the calls ==

module _ (b : Board) (ys : List Device) where
  -- what the plan p comes to of the call c
  abbrev Comes : Plan → Call → Type 0
  Comes p c = AboutOne p (answer b ys c) (board_after b ys c) ys (room_after b ys c)

  pub transmit_by_plan : (channel : ℕ) → Comes (plan_named b (length ys) channel) (Transmit channel)
  transmit_by_plan channel = by_plan 1 0 1 (named_plan 0) transmits (does 1 transmit_call) transmit_stops transmit_single b ys (channel, tt) refl

  pub outputs_by_plan : (channel : ℕ) → Comes (plan_named b (length ys) channel) (Outputs channel)
  outputs_by_plan channel = by_plan 1 0 1 (named_plan 0) tells_outputs (does 1 outputs_call) outputs_stops outputs_single b ys (channel, tt) refl

  pub receive_by_plan : (channel level : ℕ) → Comes (plan_named b (length ys) channel) (Receive channel level)
  receive_by_plan channel level = by_plan 1 1 256 (named_plan 1) receives (does 2 receive_call) receive_stops receive_single b ys (channel, (level, tt)) refl

  pub pins_by_plan : (channel dsr dcd cts : ℕ) → Comes (plan_named b (length ys) channel) (Pins channel dsr dcd cts)
  pins_by_plan channel dsr dcd cts = by_plan 1 3 256 (named_plan 3) sets_pins (does 4 pins_call) pins_stops pins_single b ys (channel, (dsr, (dcd, (cts, tt)))) refl

  out_one : (port v : ℕ) → (plan_out b (length ys) port v).single ≡ true
  unfolding plan_out
  out_one port v = one (eqb (out_refusal b (length ys) port) 0)
    where
      one : (t : Bool) → (cond t (plan_taken b port v) (plan_at b (out_refusal b (length ys) port) (channel_of b))).single ≡ true
      one true = refl
      one false = refl

  pub out_by_plan : (port v : ℕ) → Comes (plan_out b (length ys) port v) (Out port v)
  out_by_plan port v = by_plan 0 2 256 out_plan writes (does 2 out_call) out_stops out_single b ys (port, (v, tt)) (out_one port v)

  -- all eight, each as it stands in the room
  looked : Polled ys (peek (device_at ys 0)) (peek (device_at ys 1)) (peek (device_at ys 2)) (peek (device_at ys 3)) (peek (device_at ys 4)) (peek (device_at ys 5)) (peek (device_at ys 6)) (peek (device_at ys 7))
  looked = record { at_0 = refl; at_1 = refl; at_2 = refl; at_3 = refl; at_4 = refl; at_5 = refl; at_6 = refl; at_7 = refl }

  -- a port is read: a channel's, or one made of all eight
  module _ (port : ℕ) where
    abbrev reads_by : Plan
    reads_by = plan_in b (length ys) port

    in_left : (s : Bool) → reads_by.single ≡ s → reads_by.ends ≡ false → reads_by.board ≡ board_after b ys (In port)
    in_left true one h = (in_single.says b ys (port, tt) h one).1.0
    in_left false all h = (in_whole.says b ys (port, tt) h (ap not all)).1.0

    pub in_by_plan : OneOrAll reads_by (answer b ys (In port)) (board_after b ys (In port)) ys (room_after b ys (In port))
    in_by_plan = (planned_by reads_by (in_stops b ys (port, tt)) (in_left reads_by.single refl), λ h one. (_, sym (in_single.says b ys (port, tt) h one).1.1))

    pub in_by_all : reads_by.ends ≡ false → reads_by.single ≡ false → answer b ys (In port) ≡ status_shown ys port
    in_by_all h all = sym (in_answers b ys reads_by h looked port refl all)

  pub reset_by_plan : let p = plan_reset b (length ys) in Planned p p.answer (answer b ys Reset) (board_after b ys Reset) ys (room_after b ys Reset)
  reset_by_plan = planned_by (plan_reset b (length ys)) (reset_stops b ys tt) (λ h. (reset_whole.says b ys tt h refl).1.0)

  pub lines_by_plan : let p = plan_interrupts b (length ys) in Planned p (p.answer * 256) (answer b ys Interrupts) (board_after b ys Interrupts) ys (room_after b ys Interrupts)
  lines_by_plan = planned_by (plan_interrupts b (length ys)) (lines_stop b ys tt) (λ h. (lines_whole.says b ys tt h refl).1.0)

  pub lines_by_all : (plan_interrupts b (length ys)).ends ≡ false → answer b ys Interrupts ≡ lines_shown b ys
  lines_by_all h = sym (lines_answer b ys (plan_interrupts b (length ys)) h looked refl)
