-- Each refusal of a board is given exactly when its row says, in their order, and a refused call changes nothing.
-- Assumes nothing.
use Prim.Native.Nat.{ℕ, ◌≤◌}
use native.Mathlib.Omega.{arith}
use mathlib.Core.Path.{◌≡◌, refl, sym, ap, subst, ◌∙◌}
use mathlib.Core.Bool.{Bool, true, false, cond, not, ◌&&◌, true≢false}
use mathlib.Core.List.{List}
use lib.Dec.{eqb, ltb}
use lib.ListN.{set}
use lib.Seq.{set-get_or}
use borrow.Author.Tests.{ne_eqb}
use Rattle.line_rules.proofs.Choice.{either}
use Rattle.ins2651_rules.specs.declared.Device.{Device}
use Rattle.ins2651_rules.specs.Shape.{reset_device}
use Rattle.ins2651_rules.specs.Runs as chip
use Rattle.ins2651_rules.proofs.Refused.{given_exactly, answers_refusal, refused_unchanged, nothing_given}
use Rattle.board_rules.specs.declared.Board.{Board}
use Rattle.board_rules.specs.Ports.{Call, In, Out, Reset, Pins, Transmit, Receive, Outputs, Interrupts, Deed, Refused, Shows, Sets, At, ResetsAll, channel_of, deed}
use Rattle.board_rules.specs.Runs.{device_at, board_by, room_by, as_bits, said_by, board_after, room_after, said}
use Rattle.board_rules.specs.Rows.{no_room, absent, elsewhere, own}
use Rattle.board_rules.proofs.ByRows.{answers_by_rows}

-- == the rows ==

-- n is the number that is given, by the rows of 10, 8 and 9 and the channel's own number
pub record Exactly (n : ℕ) (ten eight nine : Bool) (other : ℕ) : Type 0 where
  pub room : eqb n 10 ≡ ten
  pub absent : eqb n 8 ≡ (not ten && eight)
  pub elsewhere : eqb n 9 ≡ (not ten && not eight && nine)
  pub own : ten ≡ false → eight ≡ false → nine ≡ false → n ≡ other

in_order : (ten eight nine : Bool) (n : ℕ) → n ≤ 5 → Exactly (cond ten 10 (cond eight 8 (cond nine 9 n))) ten eight nine n
in_order true eight nine n l = record { room = refl; absent = refl; elsewhere = refl; own = λ x. absurd (true≢false x) }
in_order false true nine n l = record { room = refl; absent = refl; elsewhere = refl; own = λ x y. absurd (true≢false y) }
in_order false false true n l = record { room = refl; absent = refl; elsewhere = refl; own = λ x y z. absurd (true≢false z) }
in_order false false false n l =
    record { room = ne_eqb n 10 (λ e. omega arith); absent = ne_eqb n 8 (λ e. omega arith); elsewhere = ne_eqb n 9 (λ e. omega arith); own = λ x y z. refl }

-- == the number that is given ==

module _ (b : Board) (room : List Device) where
  -- a channel's own numbers are the chip's: none is above 5
  pub own_most : (c : Call) → own b room c ≤ 5
  own_most (In port) = either (λ (n : ℕ). n ≤ 5) (ltb port 4) (given_exactly (device_at room (channel_of b)) (chip.Read port)).most (omega arith)
  own_most (Out port v) = either (λ (n : ℕ). n ≤ 5) (ltb port 4) (given_exactly (device_at room (channel_of b)) (chip.Write port v)).most (omega arith)
  own_most Reset = omega arith
  own_most (Pins channel dsr dcd cts) = (given_exactly (device_at room channel) (chip.SetPins dsr dcd cts)).most
  own_most (Transmit channel) = omega arith
  own_most (Receive channel x) = (given_exactly (device_at room channel) (chip.Receive x)).most
  own_most (Outputs channel) = omega arith
  own_most Interrupts = omega arith

  -- each number exactly when its row says, and none before it does
  pub refused_exactly : (c : Call) → Exactly (said b room c).refusal (no_room room) (absent c) (elsewhere b c) (own b room c)
  refused_exactly c =
      subst (λ (n : ℕ). Exactly n (no_room room) (absent c) (elsewhere b c) (own b room c)) (sym (answers_by_rows b room c))
      (in_order (no_room room) (absent c) (elsewhere b c) (own b room c) (own_most c))

-- == a refused call ==

pub record Unchanged (b : Board) (r : List Device) (c : Call) : Type 0 where
  pub board : board_after b r c ≡ b
  pub room : room_after b r c ≡ r
  pub value : (said b r c).value ≡ 0

-- what a refused call of the chip gives is shown as 0
nothing_shown : (c : chip.Call) → as_bits (nothing_given c) ≡ 0
nothing_shown chip.Reset = refl
nothing_shown (chip.Read address) = refl
nothing_shown (chip.Write address v) = refl
nothing_shown (chip.SetPins dsr dcd cts) = refl
nothing_shown chip.Transmit = refl
nothing_shown (chip.Receive x) = refl
nothing_shown chip.Outputs = refl

refused_by : (b : Board) (r : List Device) (e : Deed) → ((said_by r e).refusal ≡ 0 → ⊥) → (board_by b e ≡ b) × (room_by r e ≡ r) × ((said_by r e).value ≡ 0)
refused_by b r (Refused n) h = (refl, refl, refl)
refused_by b r (Shows v) h = absurd (h refl)
refused_by b r (Sets c) h = absurd (h refl)
refused_by b r (At k c) h =
    let u = refused_unchanged (device_at r k) c (λ z. h (answers_refusal (device_at r k) c ∙ z)) in
    (refl, ap (set r k) u.device ∙ set-get_or r k reset_device, ap as_bits u.given ∙ nothing_shown c)
refused_by b r ResetsAll h = absurd (h refl)

-- the channel's own refusals included: board and room are as they were, and 0 is shown
pub refused_leaves : (b : Board) (r : List Device) (c : Call) → ((said b r c).refusal ≡ 0 → ⊥) → Unchanged b r c
unfolding board_after room_after said
refused_leaves b r c h = let u = refused_by b r (deed b r c) h in record { board = u.0; room = u.1; value = u.2 }
