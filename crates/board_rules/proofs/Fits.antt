-- What a call comes to stands in the room that it is made in, which has as many channels after it as before.
-- Assumes nothing.
use Prim.Native.Nat.{ℕ}
use native.Mathlib.Omega.{arith}
use mathlib.Core.Path.{◌≡◌, refl, sym, ap, ◌∙◌}
use mathlib.Core.Bool.{Bool, true, false, cond, not, ◌&&◌, ◌||◌}
use mathlib.Core.List.{List}
use lib.Dec.{eqb, ltb}
use lib.ListN.{length, length-set}
use borrow.Author.Tests.{ltb-false, lt-ltb, eqb-true}
use Rattle.line_rules.proofs.Choice.{either}
use Rattle.ins2651_rules.specs.declared.Device.{Device}
use Rattle.ins2651_rules.specs.Runs as chip
use Rattle.board_rules.specs.declared.Board.{Board}
use Rattle.board_rules.specs.Interrupts.{transmit_lines, receive_lines, both_bytes}
use Rattle.board_rules.specs.Ports.{Call, In, Out, Reset, Pins, Transmit, Receive, Outputs, Interrupts, Deed, Refused, Shows, Sets, At, ResetsAll, channel_of, selected, refusal, unless, reading, writing, named, deed}
use Rattle.board_rules.specs.Runs.{device_at, room_by}

-- == what a call comes to stands in its room ==

-- a call at a channel is at one that is there, and everything is reset in a room of eight alone
abbrev pub fits : ℕ → Deed → Bool
fits n (Refused m) = true
fits n (Shows v) = true
fits n (Sets b) = true
fits n (At k c) = ltb k n
fits n ResetsAll = eqb n 8

-- what is let through fits where it fits a room of eight
let_through : (n : ℕ) (absent elsewhere : Bool) (e : Deed) → (absent ≡ false → fits 8 e ≡ true) → fits n (unless (refusal n absent elsewhere) e) ≡ true
let_through n absent elsewhere e h = go (eqb n 8) refl absent elsewhere h
  where
    go : (b : Bool) → eqb n 8 ≡ b → (absent elsewhere : Bool) → (absent ≡ false → fits 8 e ≡ true) → fits n (unless (cond b (cond absent 8 (cond elsewhere 9 0)) 10) e) ≡ true
    go true t true z h = refl
    go true t false true h = refl
    go true t false false h = ap (λ (m : ℕ). fits m e) (eqb-true n 8 t) ∙ h refl
    go false t a z h = refl

channel_there : (b : Board) → ltb (channel_of b) 8 ≡ true
channel_there b = lt-ltb (channel_of b) 8 (omega arith)

named_fits : (room : List Device) (channel : ℕ) (x : chip.Call) → fits (length room) (named room channel x) ≡ true
named_fits room channel x = let_through (length room) (ltb 7 channel) false (At channel x) λ a. lt-ltb channel 8 (omega (arith, ltb-false 7 channel a))

pub deed_fits : (b : Board) (room : List Device) (c : Call) → fits (length room) (deed b room c) ≡ true
deed_fits b room (In port) =
    let_through (length room) (ltb 5 port) (not (selected b)) (reading b room port) λ a.
    either (λ (e : Deed). fits 8 e ≡ true) (eqb port 4) refl (either (λ (e : Deed). fits 8 e ≡ true) (eqb port 5) refl (channel_there b))
deed_fits b room (Out port v) =
    let_through (length room) (eqb port 6 || ltb 7 port) (ltb port 6 && not (selected b)) (writing b port v) λ a.
    either (λ (e : Deed). fits 8 e ≡ true) (eqb port 4) refl
    (either (λ (e : Deed). fits 8 e ≡ true) (eqb port 5) refl
    (either (λ (e : Deed). fits 8 e ≡ true) (eqb port 7) refl (channel_there b)))
deed_fits b room Reset = let_through (length room) false false ResetsAll λ a. refl
deed_fits b room (Pins channel dsr dcd cts) = named_fits room channel (chip.SetPins dsr dcd cts)
deed_fits b room (Transmit channel) = named_fits room channel chip.Transmit
deed_fits b room (Receive channel x) = named_fits room channel (chip.Receive x)
deed_fits b room (Outputs channel) = named_fits room channel chip.Outputs
deed_fits b room Interrupts = let_through (length room) false false (Shows (both_bytes (transmit_lines b room) (receive_lines b room))) λ a. refl

-- == how many channels there are ==

pub length_by : (room : List Device) (e : Deed) → fits (length room) e ≡ true → length (room_by room e) ≡ length room
length_by room (Refused n) h = refl
length_by room (Shows v) h = refl
length_by room (Sets b) h = refl
length_by room (At k c) h = length-set room k (chip.next (device_at room k) c)
length_by room ResetsAll h = sym (eqb-true (length room) 8 h)
