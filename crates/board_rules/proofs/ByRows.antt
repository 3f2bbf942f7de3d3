-- The number that a board gives, by its rows.
-- Assumes nothing.
use Prim.Native.Nat.{ℕ}
use native.Mathlib.Omega.{arith}
use mathlib.Core.Path.{◌≡◌, refl, sym, ap, ◌∙◌}
use mathlib.Core.Bool.{Bool, true, false, cond, not, ◌&&◌, ◌||◌}
use mathlib.Core.List.{List}
use lib.Dec.{eqb, ltb}
use borrow.Author.Tests.{ltb-true, ltb-false, lt-ltb, le-ltb, eqb-true, eqb-false}
use Rattle.line_rules.proofs.Choice.{each, neither}
use Rattle.ins2651_rules.specs.declared.Device.{Device}
use Rattle.ins2651_rules.specs.Runs as chip
use Rattle.ins2651_rules.specs.Rows as chip-rows
use Rattle.ins2651_rules.proofs.Refused.{answers_refusal}
use Rattle.board_rules.specs.declared.Board.{Board}
use Rattle.board_rules.specs.Interrupts.{transmit_lines, receive_lines, both_bytes}
use Rattle.board_rules.specs.Ports.{Call, In, Out, Reset, Pins, Transmit, Receive, Outputs, Interrupts, Deed, Shows, At, ResetsAll, channel_of, selected, reading, writing, named}
use Rattle.board_rules.specs.Runs.{device_at, said_by, said}
use Rattle.board_rules.specs.Rows.{no_room, absent, another, elsewhere, own}
use Rattle.board_rules.proofs.ByTests.{by_tests}

-- == the number that is given ==

module _ (room : List Device) where
  at_channel : (k : ℕ) (c : chip.Call) → (said_by room (At k c)).refusal ≡ chip-rows.refusal (device_at room k) c
  at_channel k c = answers_refusal (device_at room k) c

  -- a call that names a channel
  named_given : (channel : ℕ) (c : chip.Call) → (said_by room (named room channel c)).refusal ≡ cond (no_room room) 10 (cond (ltb 7 channel) 8 (chip-rows.refusal (device_at room channel) c))
  named_given channel c = by_tests room (ltb 7 channel) (ltb 7 channel) false false (At channel c) (chip-rows.refusal (device_at room channel) c) refl (λ a. refl) (λ a. at_channel channel c)

in_absent : (port : ℕ) → ltb 5 port ≡ absent (In port)
in_absent port = go (eqb port 6) refl (eqb port 7) refl (ltb 7 port) refl
  where
    go : (x : Bool) → eqb port 6 ≡ x → (y : Bool) → eqb port 7 ≡ y → (z : Bool) → ltb 7 port ≡ z → ltb 5 port ≡ (x || y || z)
    go true e y f z g = lt-ltb 5 port (omega (arith, eqb-true port 6 e))
    go false e true f z g = lt-ltb 5 port (omega (arith, eqb-true port 7 f))
    go false e false f true g = lt-ltb 5 port (omega (arith, ltb-true 7 port g))
    go false e false f false g = le-ltb 5 port (omega (arith, eqb-false port 6 e, eqb-false port 7 f, ltb-false 7 port g))

module _ (b : Board) (room : List Device) where
  register : (port : ℕ) (c : chip.Call) → ltb port 4 ≡ true → (said_by room (At (channel_of b) c)).refusal ≡ cond (ltb port 4) (chip-rows.refusal (device_at room (channel_of b)) c) 0
  register port c l = at_channel room (channel_of b) c ∙ sym (ap (λ (t : Bool). cond t (chip-rows.refusal (device_at room (channel_of b)) c) 0) l)

  -- a port above 3 has no number of its own
  no_register : (port k n : ℕ) → ltb k 4 ≡ false → eqb port k ≡ true → 0 ≡ cond (ltb port 4) n 0
  no_register port k n f t = sym (ap (λ (i : ℕ). cond (ltb i 4) n 0) (eqb-true port k t) ∙ ap (λ (x : Bool). cond x n 0) f)

  read_own : (port : ℕ) → ltb 5 port ≡ false → (said_by room (reading b room port)).refusal ≡ own b room (In port)
  read_own port a =
      let n : ℕ = chip-rows.refusal (device_at room (channel_of b)) (chip.Read port) in
      let P : Deed → Type 0 = λ e. (said_by room e).refusal ≡ cond (ltb port 4) n 0 in
      each P (eqb port 4) (no_register port 4 n refl) λ x.
      each P (eqb port 5) (no_register port 5 n refl) λ y.
      register port (chip.Read port) (lt-ltb port 4 (omega (arith, ltb-false 5 port a, eqb-false port 4 x, eqb-false port 5 y)))

  write_own : (port v : ℕ) → (eqb port 6 || ltb 7 port) ≡ false → (said_by room (writing b port v)).refusal ≡ own b room (Out port v)
  write_own port v a =
      let n : ℕ = chip-rows.refusal (device_at room (channel_of b)) (chip.Write port v) in
      let P : Deed → Type 0 = λ e. (said_by room e).refusal ≡ cond (ltb port 4) n 0 in
      let q = neither (eqb port 6) (ltb 7 port) a in
      each P (eqb port 4) (no_register port 4 n refl) λ x.
      each P (eqb port 5) (no_register port 5 n refl) λ y.
      each P (eqb port 7) (no_register port 7 n refl) λ z.
      register port (chip.Write port v) (lt-ltb port 4 (omega (arith, ltb-false 7 port q.1, eqb-false port 6 q.0, eqb-false port 4 x, eqb-false port 5 y, eqb-false port 7 z)))

  -- the number that a call answers, by the rows
  pub answers_by_rows : (c : Call) → (said b room c).refusal ≡ cond (no_room room) 10 (cond (absent c) 8 (cond (elsewhere b c) 9 (own b room c)))
  unfolding said
  answers_by_rows (In port) =
      by_tests room (ltb 5 port) (absent (In port)) (not (selected b)) (elsewhere b (In port)) (reading b room port) (own b room (In port))
      (in_absent port) (λ a. sym (ap (λ (t : Bool). t && another b) (lt-ltb port 6 (omega (arith, ltb-false 5 port a))))) (read_own port)
  answers_by_rows (Out port v) =
      by_tests room (eqb port 6 || ltb 7 port) (absent (Out port v)) (ltb port 6 && not (selected b)) (elsewhere b (Out port v)) (writing b port v) (own b room (Out port v))
      refl (λ a. refl) (write_own port v)
  answers_by_rows Reset = by_tests room false false false false ResetsAll 0 refl (λ a. refl) (λ a. refl)
  answers_by_rows (Pins channel dsr dcd cts) = named_given room channel (chip.SetPins dsr dcd cts)
  answers_by_rows (Transmit channel) = named_given room channel chip.Transmit
  answers_by_rows (Receive channel x) = named_given room channel (chip.Receive x)
  answers_by_rows (Outputs channel) = named_given room channel chip.Outputs
  answers_by_rows Interrupts = by_tests room false false false false (Shows (both_bytes (transmit_lines b room) (receive_lines b room))) 0 refl (λ a. refl) (λ a. refl)
