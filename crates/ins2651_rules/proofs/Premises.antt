-- Devices set up by document 01's calls meet the premises of the theorems over runs: none of those is empty. And a history computes.
-- Assumes nothing.
use Prim.Native.Nat.{ℕ}
use native.Mathlib.Omega.{arith}
use mathlib.Core.Path.{◌≡◌, refl}
use mathlib.Core.Bool.{true}
use mathlib.Core.List.{List, [], ◌∷◌, ◌++◌, map}
use lib.ListN.{drop}
use Rattle.line_rules.specs.Sending.{bit, frame, part}
use Rattle.line_rules.specs.Range as line-range
use Rattle.line_rules.specs.Clocks.{no_rxc}
use Rattle.line_rules.specs.Reading.{reading}
use Rattle.line_rules.specs.Receiving.{sample}
use Rattle.link_rules.specs.Transmitting as link-transmitting
use Rattle.link_rules.specs.Hearing as link-hearing
use Rattle.link_rules.specs.Within.{sender_in_range, receiver_in_range}
use Rattle.ins2651_rules.specs.declared.Device.{Device}
use Rattle.ins2651_rules.specs.Shape.{reset_device}
use Rattle.ins2651_rules.specs.Modes.{format_of, receive_format}
use Rattle.ins2651_rules.specs.Conditions.{listening}
use Rattle.ins2651_rules.specs.Status.{status_byte}
use Rattle.ins2651_rules.specs.Ranges.{in_range, settled}
use Rattle.ins2651_rules.specs.Refusals.{write_refusal}
use Rattle.ins2651_rules.specs.RegisterReads.{read_register, read}
use Rattle.ins2651_rules.specs.RegisterWrites.{write_register, write}
use Rattle.ins2651_rules.specs.Pinning.{pinned, set_pins}
use Rattle.ins2651_rules.specs.Ticks.{transmit_tick, transmit, receive_tick, receive}
use Rattle.ins2651_rules.specs.Runs.{Call, Read, Write, SetPins, Transmit, Receive, Outputs, next, after}
use Rattle.ins2651_rules.specs.History.{history, status_by}
use Rattle.ins2651_rules.specs.ReadHistory.{byte_by}
use Rattle.ins2651_rules.specs.Line.{levels_sent, samples, arrived_in, Listens}
use Rattle.ins2651_rules.specs.BenchCases.{chip_with, external_format}
use Rattle.ins2651_rules.proofs.CharacterSent.{frame_sent, written_sent, waiting_follows}
use Rattle.ins2651_rules.proofs.Arrives.{arrivals_are_the_reading}

-- 77 is 8 bits at one tick a bit: the ten levels of 65, with a mode written, a break commanded and CTS raised inside the frame
abbrev between : List Call
between = Write 2 78 ∷ Transmit ∷ Transmit ∷ Write 3 9 ∷ Transmit ∷ Transmit ∷ SetPins 0 0 1 ∷ Transmit ∷ Transmit ∷ Write 3 0 ∷ Transmit ∷ Transmit ∷ Read 1 ∷ Transmit ∷ Receive 0 ∷ Outputs ∷ []

sends_65 : levels_sent (next (chip_with 77) (Write 0 65)) (Transmit ∷ between) ≡ map bit (frame (external_format 77) 65)
unfolding line-range.in_range sender_in_range receiver_in_range format_of status_byte in_range settled write_refusal write_register write pinned set_pins
sends_65 = frame_sent (chip_with 77) 65 refl refl refl refl between refl refl

-- the same, where between the write and the first level CTS is high for two ticks and status is read
abbrev late : List Call
late = SetPins 0 0 1 ∷ Transmit ∷ Read 1 ∷ Transmit ∷ SetPins 0 0 0 ∷ []

sends_late : levels_sent (after (next (chip_with 77) (Write 0 65)) late) (Transmit ∷ between) ≡ map bit (frame (external_format 77) 65)
unfolding link-transmitting.transmit line-range.in_range sender_in_range receiver_in_range format_of status_byte in_range settled write_refusal read_register read write_register write pinned set_pins transmit_tick transmit
sends_late = written_sent (chip_with 77) 65 refl late refl refl refl refl refl between refl refl

-- 66 is written after the first level of 65, and transmit is disabled for a while: the other nine levels of 65, then the ten of 66
abbrev two_written : Device
two_written = after (chip_with 77) (Write 0 65 ∷ Transmit ∷ Write 0 66 ∷ [])

abbrev nine_left : List Call
nine_left = Transmit ∷ Transmit ∷ Transmit ∷ Write 3 4 ∷ Transmit ∷ Transmit ∷ Read 1 ∷ Transmit ∷ Transmit ∷ Write 3 5 ∷ Transmit ∷ Transmit ∷ []

sends_both : levels_sent two_written (nine_left ++ Transmit ∷ between) ≡ map bit (drop 1 (frame (external_format 77) 65) ++ frame (external_format 77) 66)
unfolding link-transmitting.transmit line-range.in_range sender_in_range receiver_in_range format_of status_byte in_range settled write_refusal read_register read write_register write pinned set_pins transmit_tick transmit
sends_both = waiting_follows (external_format 77) 65 1 66 two_written refl (omega arith) refl (record { full = refl; holding = refl }) nine_left refl refl refl refl between refl refl

-- 65 is 5 bits at one tick a bit: a mark, a start, the data of 3 and a stop, with other calls between, some of them refused
abbrev heard : List Call
heard = Receive 1 ∷ Read 1 ∷ Receive 0 ∷ Transmit ∷ Receive 2 ∷ Receive 1 ∷ Write 3 7 ∷ Read 4 ∷ SetPins 1 0 0 ∷ Receive 1 ∷ Receive 0 ∷ Receive 0 ∷ Receive 0 ∷ Receive 1 ∷ []

hears : arrived_in (chip_with 65) 0 heard ≡ reading (external_format 65) no_rxc (samples heard)
unfolding part sample link-transmitting.transmit link-hearing.receive line-range.in_range sender_in_range receiver_in_range format_of status_byte in_range settled write_refusal read_register read write_register write pinned set_pins transmit_tick transmit receive_tick receive
hears =
    let on : (d : Device) → listening d ≡ true → receive_format d.registers ≡ external_format 65 → Listens (external_format 65) d = λ d l f. record { live = l; format = f } in
    arrivals_are_the_reading (external_format 65) (chip_with 65) heard refl refl
    (on _ refl refl, (on _ refl refl, (on _ refl refl, (on _ refl refl, (on _ refl refl, (on _ refl refl, (on _ refl refl, (on _ refl refl, (on _ refl refl, (on _ refl refl, (on _ refl refl, (on _ refl refl, (on _ refl refl, (on _ refl refl, on _ refl refl))))))))))))))

-- a command with bit 4, a mode 2 with bits 7-6, the character 5 that comes and is read, a mode read, and two calls that are refused
abbrev spoken : List Call
spoken = Write 2 65 ∷ Write 2 192 ∷ Write 3 55 ∷ SetPins 0 0 0 ∷ Receive 1 ∷ Receive 0 ∷ Receive 1 ∷ Receive 0 ∷ Write 3 64 ∷ Receive 1 ∷ Receive 0 ∷ Receive 0 ∷ Receive 1 ∷ Read 0 ∷ Read 2 ∷ Read 4 ∷ []

-- what the history tells of the four addresses
tells : map (λ (address : ℕ). byte_by address (history reset_device spoken [])) (0 ∷ 1 ∷ 2 ∷ 3 ∷ []) ≡ 5 ∷ 197 ∷ 192 ∷ 39 ∷ []
unfolding part sample link-transmitting.transmit link-hearing.receive line-range.in_range sender_in_range receiver_in_range format_of status_byte in_range settled write_refusal read_register read write_register write pinned set_pins transmit_tick transmit receive_tick receive status_by byte_by
tells = refl
