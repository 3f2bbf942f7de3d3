-- What the check's own walk of the calls leaves open: eight channels reset or looked at in turn.
-- Assumes nothing.
use borrow.Author.Tests.{not-false}
use Rattle.std.proofs.Common.{◌≡◌, ℕ, false, not, List, length, get_or, slice_set, refl, sym, ap, ◌∙◌}
use Rattle.std.specs.Prelude.{replicate}
use Rattle.ins2651_rules.specs.declared.Device.{Device}
use Rattle.ins2651_rules.specs.Shape.{reset_device}
use Rattle.ins2651_rules.specs.Looks.{peek}
use Rattle.board_rules.specs.declared.Board.{Board}
use Rattle.board_rules.specs.Ports.{In, Interrupts}
use Rattle.board_rules.specs.Runs.{device_at, answer}
use Rattle.host.proofs.Calls.{Bytes}
use Rattle.host.proofs.Promises.{peeks}
use Rattle.board_walks.specs.declared.Plan.{Plan}
use Rattle.board_walks.specs.Plans.{plan_in, plan_interrupts, interrupt_status, interrupt_lines}
use Rattle.board_walks.proofs.Sweep.{told}
use Rattle.board_walks.proofs.Promises.{of_eight, all_resets, in_whole, lines_whole, in_room_lem, admitted, status_of, lines_sum}

-- with each of eight reset in turn, nothing is left of the room before
pub room_reset : (ys : List Device) → length ys ≡ 8
    → slice_set (slice_set (slice_set (slice_set (slice_set (slice_set (slice_set (slice_set ys 0 reset_device) 1 reset_device) 2 reset_device) 3 reset_device) 4 reset_device) 5 reset_device) 6 reset_device) 7 reset_device
    ≡ replicate 8 reset_device
room_reset = all_resets

-- == the statuses of a room ==

-- of each channel
pub record Polled (ys : List Device) (a b c d e f g h : ℕ) : Type 0 where
  pub at_0 : a ≡ peek (device_at ys 0)
  pub at_1 : b ≡ peek (device_at ys 1)
  pub at_2 : c ≡ peek (device_at ys 2)
  pub at_3 : d ≡ peek (device_at ys 3)
  pub at_4 : e ≡ peek (device_at ys 4)
  pub at_5 : f ≡ peek (device_at ys 5)
  pub at_6 : g ≡ peek (device_at ys 6)
  pub at_7 : h ≡ peek (device_at ys 7)

-- each is looked at as the ones before it left the room
pub polled : {a b c d e f g h : ℕ} (z d0 d1 d2 d3 d4 d5 d6 : Device) (ys : List Device) → length ys ≡ 8
    → a ≡ peek (get_or ys 0 z)
    → b ≡ peek (get_or (slice_set ys 0 d0) 1 z)
    → c ≡ peek (get_or (slice_set (slice_set ys 0 d0) 1 d1) 2 z)
    → d ≡ peek (get_or (slice_set (slice_set (slice_set ys 0 d0) 1 d1) 2 d2) 3 z)
    → e ≡ peek (get_or (slice_set (slice_set (slice_set (slice_set ys 0 d0) 1 d1) 2 d2) 3 d3) 4 z)
    → f ≡ peek (get_or (slice_set (slice_set (slice_set (slice_set (slice_set ys 0 d0) 1 d1) 2 d2) 3 d3) 4 d4) 5 z)
    → g ≡ peek (get_or (slice_set (slice_set (slice_set (slice_set (slice_set (slice_set ys 0 d0) 1 d1) 2 d2) 3 d3) 4 d4) 5 d5) 6 z)
    → h ≡ peek (get_or (slice_set (slice_set (slice_set (slice_set (slice_set (slice_set (slice_set ys 0 d0) 1 d1) 2 d2) 3 d3) 4 d4) 5 d5) 6 d6) 7 z)
    → Polled ys a b c d e f g h
polled z d0 d1 d2 d3 d4 d5 d6 =
    of_eight _ (λ _ _ _ _ _ _ _ _. λ q0 q1 q2 q3 q4 q5 q6 q7. record { at_0 = q0; at_1 = q1; at_2 = q2; at_3 = q3; at_4 = q4; at_5 = q5; at_6 = q6; at_7 = q7 })

module _ (ys : List Device) (n : length ys ≡ 8) {a b c d e f g h : ℕ} (p : Polled ys a b c d e f g h) where
  abbrev statuses : Bytes 8
  statuses = (a, (b, (c, (d, (e, (f, (g, (h, tt))))))))

  -- they are what the looks at all of them tell
  told_so : statuses ≡ told peeks 8 0 ys
  told_so =
      rw (p.at_0, p.at_1, p.at_2, p.at_3, p.at_4, p.at_5, p.at_6, p.at_7)
      (of_eight
      (λ ys.
      (peek (device_at ys 0), (peek (device_at ys 1), (peek (device_at ys 2), (peek (device_at ys 3), (peek (device_at ys 4), (peek (device_at ys 5), (peek (device_at ys 6), (peek (device_at ys 7), tt))))))))
      ≡ told peeks 8 0 ys) (λ a b c d e f g h. refl) ys n)

-- == what the calls answer of them ==

module _ (board : Board) (ys : List Device) (p : Plan) (on : p.ends ≡ false) where
  pub in_eight : (port : ℕ) → p ≡ plan_in board (length ys) port → length ys ≡ 8
  in_eight port is = (in_room_lem board ys port (sym (ap (λ (k : Plan). k.ends) is) ∙ on)).eight

  pub lines_eight : p ≡ plan_interrupts board (length ys) → length ys ≡ 8
  lines_eight is = (admitted (length ys) false false (not-false _ (sym (ap (λ (k : Plan). k.ends) is) ∙ on))).eight

  module _ {a b c d e f g h : ℕ} (polled : Polled ys a b c d e f g h) where
    pub in_answers : (port : ℕ) → p ≡ plan_in board (length ys) port → p.single ≡ false → interrupt_status a b c d e f g h port ≡ answer board ys (In port)
    in_answers port is all =
        ap (λ (v : Bytes 8). status_of v port) (told_so ys (in_eight port is) polled)
        ∙ (in_whole.says board ys (port, tt) (sym (ap (λ (k : Plan). k.ends) is) ∙ on) (ap not (sym (ap (λ (k : Plan). k.single) is) ∙ all))).0

    pub lines_answer : p ≡ plan_interrupts board (length ys) → interrupt_lines p.board a b c d e f g h ≡ answer board ys Interrupts
    lines_answer is =
        ap (λ (k : Board). lines_sum k (statuses ys (lines_eight is) polled) tt) (ap (λ (k : Plan). k.board) is)
        ∙ ap (λ (v : Bytes 8). lines_sum (plan_interrupts board (length ys)).board v tt) (told_so ys (lines_eight is) polled)
        ∙ (lines_whole.says board ys tt (sym (ap (λ (k : Plan). k.ends) is) ∙ on) refl).0
