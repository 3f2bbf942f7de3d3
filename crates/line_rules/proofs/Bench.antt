-- Document 01's bench cases of frames and recordings, computed on the definitions.
-- Assumes nothing.
use Prim.Native.Nat.{ℕ, ◌*◌, ◌/◌}
use mathlib.Core.Path.{◌≡◌, refl}
use mathlib.Core.Bool.{Bool, true, false}
use mathlib.Core.List.{List, [], ◌∷◌, ◌++◌, map}
use lib.ListN.{replicate}
use Rattle.line_rules.specs.declared.Format.{Format}
use Rattle.line_rules.specs.declared.RxC.{RxC}
use Rattle.line_rules.specs.Sending.{on, odd_ones, parity_bit, frame, frame_length, stop_sample}
use Rattle.line_rules.specs.Range.{in_range}
use Rattle.line_rules.specs.Clocks.{no_rxc}
use Rattle.line_rules.specs.Reading.{reading}
use Rattle.line_rules.specs.Arrived.{Arrived}

-- factor, length, parity, even, stop ticks
abbrev format : ℕ → ℕ → ℕ → ℕ → ℕ → Format
format F n p e s = record { factor = F; length = n; parity = p; even = e; stop = s }

-- stamp, sample number, value, parity, framing
abbrev stamped : ℕ → ℕ → ℕ → Bool → Bool → Arrived
stamped t k v p e = record { at = k; arrival = record { value = v; parity = p; framing = e; stamp = record { 0 = t } } }

-- from a tally of 0 the stamp is the sample's number
abbrev arrived : ℕ → ℕ → Bool → Bool → Arrived
arrived k v p e = stamped k k v p e

abbrev levels : List ℕ → List Bool
levels xs = map on xs

-- mark, some zeros, then ones
abbrev pulse : ℕ → List Bool
pulse k = true ∷ replicate k false ++ replicate 160 true

-- == which formats there are ==

-- what g makes of each number, one after the other
abbrev pub for_each : List ℕ → (ℕ → List Format) → List Format
for_each [] g = []
for_each (x ∷ xs) g = g x ++ for_each xs g

-- mode register 1's, with an internal clock's factor among them
abbrev formats : List Format
formats =
    for_each (1 ∷ 16 ∷ 64 ∷ []) λ (F : ℕ).
    for_each (5 ∷ 6 ∷ 7 ∷ 8 ∷ []) λ (n : ℕ).
    for_each (0 ∷ 1 ∷ []) λ (p : ℕ).
    for_each (0 ∷ 1 ∷ []) λ (e : ℕ).
    for_each (F ∷ 3 * F / 2 ∷ 2 * F ∷ []) λ (s : ℕ).
    format F n p e s ∷ []

formats_in_range : map in_range formats ≡ replicate 144 true
unfolding in_range
formats_in_range = refl

-- == what is sent ==

sends_65 : frame (format 1 8 0 0 1) 65 ≡ levels (0 ∷ 1 ∷ 0 ∷ 0 ∷ 0 ∷ 0 ∷ 0 ∷ 1 ∷ 0 ∷ 1 ∷ [])
sends_65 = refl

sends_65_odd : frame (format 1 7 1 0 1) 65 ≡ levels (0 ∷ 1 ∷ 0 ∷ 0 ∷ 0 ∷ 0 ∷ 0 ∷ 1 ∷ 1 ∷ 1 ∷ [])
unfolding odd_ones parity_bit
sends_65_odd = refl

sends_255_short : frame (format 1 5 0 0 1) 255 ≡ levels (0 ∷ 1 ∷ 1 ∷ 1 ∷ 1 ∷ 1 ∷ 1 ∷ [])
sends_255_short = refl

-- the parity is that of the five bits sent: 1 has one, 33 has one more above them
sends_33_even : frame (format 1 5 1 1 1) 33 ≡ levels (0 ∷ 1 ∷ 0 ∷ 0 ∷ 0 ∷ 0 ∷ 1 ∷ 1 ∷ [])
unfolding odd_ones parity_bit
sends_33_even = refl

-- each of eight bits counts
sends_128_even : frame (format 1 8 1 1 1) 128 ≡ levels (0 ∷ 0 ∷ 0 ∷ 0 ∷ 0 ∷ 0 ∷ 0 ∷ 0 ∷ 1 ∷ 1 ∷ 1 ∷ [])
unfolding odd_ones parity_bit
sends_128_even = refl

-- == L and D ==

abbrev lasts : Format → ℕ → ℕ → Type 0
lasts f l d = (frame_length f ≡ l) × (stop_sample f ≡ d)

lasts_short : lasts (format 1 5 0 0 1) 7 6
lasts_short = (refl, refl)

lasts_206 : lasts (format 16 8 0 0 32) 176 152
lasts_206 = (refl, refl)

lasts_126 : lasts (format 16 8 1 1 16) 176 168
lasts_126 = (refl, refl)

lasts_64 : lasts (format 64 8 1 1 128) 768 672
lasts_64 = (refl, refl)

-- == what is read ==

reads_8_zeros : reading (format 16 8 0 0 16) no_rxc (pulse 8) ≡ []
unfolding reading
reads_8_zeros = refl

reads_9_zeros : reading (format 16 8 0 0 16) no_rxc (pulse 9) ≡ arrived 154 255 false false ∷ []
unfolding reading
reads_9_zeros = refl

-- the 1 of a false start serves as the mark
reads_after_false_start : reading (format 16 8 0 0 16) no_rxc (true ∷ replicate 8 false ++ pulse 9) ≡ arrived 163 255 false false ∷ []
unfolding reading
reads_after_false_start = refl

reads_a_break : reading (format 16 8 0 0 16) no_rxc (true ∷ replicate 200 false) ≡ arrived 154 0 false true ∷ []
unfolding reading
reads_a_break = refl

-- sent under 126, received under 94
reads_255_wrong : reading (format 16 8 1 0 16) no_rxc (true ∷ frame (format 16 8 1 1 16) 255) ≡ arrived 170 255 true false ∷ []
unfolding reading odd_ones parity_bit
reads_255_wrong = refl

-- a wrong parity and a stop of 0 of one character are told independently
reads_both_wrong : reading (format 1 5 1 1 1) no_rxc (levels (1 ∷ 0 ∷ 1 ∷ 0 ∷ 0 ∷ 0 ∷ 0 ∷ 0 ∷ 0 ∷ [])) ≡ arrived 9 1 true true ∷ []
unfolding reading odd_ones parity_bit
reads_both_wrong = refl

-- == stamps: the tally before the levels plus the number of the stop sample, from 1, modulo 4,294,967,296 ==

abbrev tally : ℕ → RxC
tally t = record { 0 = t }

-- two characters of seven samples behind a mark: each has its own
reads_two_stamps : reading (format 1 5 0 0 1) (tally 100) (levels (1 ∷ 0 ∷ 1 ∷ 0 ∷ 0 ∷ 0 ∷ 0 ∷ 1 ∷ 0 ∷ 0 ∷ 1 ∷ 0 ∷ 0 ∷ 0 ∷ 1 ∷ []))
    ≡ stamped 108 8 1 false false ∷ stamped 115 15 2 false false ∷ []
unfolding reading
reads_two_stamps = refl

-- the tally wraps at the stop sample's tick, and behind it
reads_stamp_0 : reading (format 1 5 0 0 1) (tally 4294967288) (levels (1 ∷ 0 ∷ 1 ∷ 0 ∷ 0 ∷ 0 ∷ 0 ∷ 1 ∷ 0 ∷ 0 ∷ 1 ∷ 0 ∷ 0 ∷ 0 ∷ 1 ∷ []))
    ≡ stamped 0 8 1 false false ∷ stamped 7 15 2 false false ∷ []
unfolding reading
reads_stamp_0 = refl
