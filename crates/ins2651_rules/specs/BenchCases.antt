-- Document 01's starred bench cases, by mode bytes, as rows of one table: what is asked of the chip, and its answer (proofs/Bench.antt).
-- Assumes nothing.
use Rattle.std.specs.Prelude.{ℕ, ◌+◌, ◌*◌, Bool, true, false, List, [], ◌∷◌, ◌++◌, map, replicate}
use Rattle.line_rules.specs.declared.Format.{Format}
use Rattle.line_rules.specs.Sending.{bit, frame, frame_length, stop_sample}
use Rattle.line_rules.specs.Arrived.{Arrived}
use Rattle.ins2651_rules.specs.declared.Device.{Device}
use Rattle.ins2651_rules.specs.Shape.{reset_device}
use Rattle.ins2651_rules.specs.Modes.{format_of}
use Rattle.ins2651_rules.specs.RegisterReads.{read}
use Rattle.ins2651_rules.specs.Runs.{Call, Read, Write, SetPins, Transmit, Receive, next, after}
use Rattle.ins2651_rules.specs.Line.{levels_sent, arrived_in}

-- reset, mode 1, mode 2 of 0 (external clocks), transmit and receive enabled, pins low
abbrev pub chip_with : ℕ → Device
chip_with mode1 = after reset_device (Write 2 mode1 ∷ Write 2 0 ∷ Write 3 5 ∷ SetPins 0 0 0 ∷ [])

-- its format: no clock is internal
abbrev pub external_format : ℕ → Format
external_format mode1 = format_of mode1 false

-- == what is asked ==

-- which levels a written character sends; L and D; what recordings bring, one after another
pub data Question : Type 0 where
  Sends : (mode1 character : ℕ) → Question
  Lasts : (mode1 : ℕ) → Question
  Hears : (mode1 : ℕ) → (recordings : List (List Bool)) → Question

-- == what is answered ==

-- a character that came: the number of its stop sample in its recording, its stamp, which counts the samples of the recordings before too, its value,
-- and its flags, 32 for framing plus 8 for parity
pub record Came : Type 0 where
  pub at : ℕ
  pub stamp : ℕ
  pub value : ℕ
  pub flags : ℕ

-- of a recording: what came, what a status read shows then, and what a read of RHR gives after it
pub record Recorded : Type 0 where
  pub came : List Came
  pub status : ℕ
  pub rhr : ℕ

pub data Finding : Type 0 where
  Levels : List ℕ → Finding
  Ticks : (L D : ℕ) → Finding
  Recordings : List Recorded → Finding

-- == the chip's answer ==

abbrev pub receive_ticks : List Bool → List Call
receive_ticks xs = map (λ (x : Bool). Receive (bit x)) xs

abbrev pub as_came : Arrived → Came
as_came a = record { at = a.at; stamp = a.arrival.stamp.0; value = a.arrival.value; flags = 32 * bit a.arrival.framing + 8 * bit a.arrival.parity }

abbrev pub recorded : Device → List Bool → Recorded
recorded d xs =
    record {
      came = map as_came (arrived_in d 0 (receive_ticks xs));
      status = (read (after d (receive_ticks xs)) 1).value;
      rhr = (read (next (after d (receive_ticks xs)) (Read 1)) 0).value;
    }

-- each recording after the one before, with both reads between
abbrev pub in_turn : Device → List (List Bool) → List Recorded
in_turn d [] = []
in_turn d (xs ∷ more) = recorded d xs ∷ in_turn (after (after d (receive_ticks xs)) (Read 1 ∷ Read 0 ∷ [])) more

abbrev pub found : Question → Finding
found (Sends mode1 c) = Levels (levels_sent (after (chip_with mode1) (Write 0 c ∷ [])) (replicate (frame_length (external_format mode1)) Transmit))
found (Lasts mode1) = Ticks (frame_length (external_format mode1)) (stop_sample (external_format mode1))
found (Hears mode1 recordings) = Recordings (in_turn (chip_with mode1) recordings)

-- == the table ==

pub record Row : Type 0 where
  pub asked : Question
  pub answer : Finding

abbrev row : Question → Finding → Row
row q a = record { asked = q; answer = a }

-- mark, some zeros, then ones
abbrev pulse : ℕ → List Bool
pulse k = true ∷ replicate k false ++ replicate 160 true

abbrev pub table : List Row
table =
    -- 8 bits, no parity, 1 stop, F = 1
    row (Sends 77 65) (Levels (0 ∷ 1 ∷ 0 ∷ 0 ∷ 0 ∷ 0 ∷ 0 ∷ 1 ∷ 0 ∷ 1 ∷ []))
    -- 7 bits, odd, 1 stop, F = 1
    ∷ row (Sends 89 65) (Levels (0 ∷ 1 ∷ 0 ∷ 0 ∷ 0 ∷ 0 ∷ 0 ∷ 1 ∷ 1 ∷ 1 ∷ []))
    -- 5 bits, no parity, 1 stop, F = 1
    ∷ row (Sends 65 255) (Levels (0 ∷ 1 ∷ 1 ∷ 1 ∷ 1 ∷ 1 ∷ 1 ∷ []))
    ∷ row (Lasts 65) (Ticks 7 6)
    -- the table makes it two stop bits
    ∷ row (Lasts 206) (Ticks 176 152)
    ∷ row (Lasts 126) (Ticks 176 168)
    -- 8, even, 2 stop, F = 64
    ∷ row (Lasts 255) (Ticks 768 672)
    -- 8 bits, no parity, 1 stop, F = 16: 8 zeros, 9 zeros, 200 zeros. 197 is DSR, DCD, the change-mark of the set-up and bit 0
    ∷ row (Hears 78 (pulse 8 ∷ [])) (Recordings (record { came = []; status = 197; rhr = 0 } ∷ []))
    ∷ row (Hears 78 (pulse 9 ∷ []))
    (Recordings (record { came = record { at = 154; stamp = 154; value = 255; flags = 0 } ∷ []; status = 199; rhr = 255 } ∷ []))
    ∷ row (Hears 78 ((true ∷ replicate 200 false) ∷ []))
    (Recordings (record { came = record { at = 154; stamp = 154; value = 0; flags = 32 } ∷ []; status = 231; rhr = 0 } ∷ []))
    -- 255 sent under 126 and received under 94 (odd), then a good character: the flag stays
    ∷ row (Hears 94 ((true ∷ frame (external_format 126) 255) ∷ frame (external_format 94) 100 ∷ []))
    (Recordings
    (record { came = record { at = 170; stamp = 170; value = 255; flags = 8 } ∷ []; status = 207; rhr = 255 }
    ∷ record { came = record { at = 169; stamp = 346; value = 100; flags = 0 } ∷ []; status = 203; rhr = 100 }
    ∷ []))
    ∷ []
