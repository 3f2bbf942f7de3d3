-- What a frame is, level by level: document 01, "Sending, by transmit ticks". A level is true for 1 and false for 0.
-- Assumes nothing.
use Rattle.std.specs.Prelude.{ℕ, zero, suc, ◌+◌, ◌*◌, ◌^◌, ◌/◌, ◌%◌, Bool, true, false, cond, not, List, [], ◌∷◌, ◌++◌, ltb, eqb, replicate}
use Rattle.std.specs.Bool.{beq}
use Rattle.line_rules.specs.declared.Format.{Format}

-- a level or a yes as a number
abbrev pub bit : Bool → ℕ
bit true = 1
bit false = 0

-- a number that stands for yes: any but 0
abbrev pub on : ℕ → Bool
on x = ltb 0 x

-- a mark that is set where t is so, and otherwise stays as it is
abbrev pub or_set : Bool → ℕ → ℕ
or_set t x = cond t 1 x

-- F, n and S are the fields factor, length and stop; p is 1 with parity, else 0
abbrev pub parity_bits : Format → ℕ
parity_bits f = bit (on f.parity)

-- h = F/2 rounded down
abbrev pub half : Format → ℕ
half f = f.factor / 2

-- the ticks before the stop: F(1+n+p)
abbrev pub before_stop : Format → ℕ
before_stop f = f.factor * suc (f.length + parity_bits f)

-- L = F(1+n+p)+S
abbrev pub frame_length : Format → ℕ
frame_length f = before_stop f + f.stop

-- D = h+F(n+p+1): the tick of the stop sample, counted from the start bit's first
abbrev pub stop_sample : Format → ℕ
stop_sample f = half f + before_stop f

-- higher bits of the written byte are dropped
abbrev pub cut : Format → ℕ → ℕ
cut f c = c % 2 ^ f.length

abbrev pub differ : Bool → Bool → Bool
differ x y = not (beq x y)

-- whether the lowest k bits of c hold an odd number of ones: the lowest is one, or the others are odd, and not both
unfoldable pub odd_ones : ℕ → ℕ → Bool
odd_ones zero c = false
odd_ones (suc k) c = differ (eqb (c % 2) 1) (odd_ones k (c / 2))

-- the parity bit of a byte: with it the number of ones is even, or odd
unfoldable pub parity_bit : Format → ℕ → Bool
parity_bit f c = cond (on f.even) (odd_ones 8 c) (not (odd_ones 8 c))

-- bit m of a number, counted from the lowest
abbrev pub bit_at : ℕ → ℕ → Bool
bit_at c m = eqb (c / 2 ^ m % 2) 1

-- what follows the start, by its number from 0: n data bits, the parity bit if there is one, then the stop
unfoldable pub part : {A : Type 0} → Format → ℕ → A → A → A → A
part f i inData inParity inStop = cond (ltb i f.length) inData (cond (ltb i (f.length + parity_bits f)) inParity inStop)

-- data bit i of a character: the lowest first
abbrev pub data_level : ℕ → ℕ → Bool
data_level c i = bit_at c i

-- the parity is that of the bits that are sent
abbrev pub parity_level : Format → ℕ → Bool
parity_level f c = parity_bit f (cut f c)

-- bit number m of a frame of c: the start is 0, then the data, the parity, and a stop of 1
abbrev pub level_of : Format → ℕ → ℕ → Bool
level_of f c zero = false
level_of f c (suc i) = part f i (data_level c i) (parity_level f c) true

-- the level at a place of a frame of c: each bit lasts F ticks
abbrev pub level : Format → ℕ → ℕ → Bool
level f c place = level_of f c (place / f.factor)

-- == the same as a list ==

-- g i, g (i + 1), ..: k of them
abbrev pub listed : (ℕ → Bool) → ℕ → ℕ → List Bool
listed g i zero = []
listed g i (suc k) = g i ∷ listed g (suc i) k

-- each of the levels for k ticks
abbrev pub held : ℕ → List Bool → List Bool
held k [] = []
held k (x ∷ xs) = replicate k x ++ held k xs

abbrev pub data_part : Format → ℕ → List Bool
data_part f c = listed (data_level c) 0 f.length

abbrev pub parity_part : Format → ℕ → List Bool
parity_part f c = cond (on f.parity) (parity_level f c ∷ []) []

-- a frame of c: the start F times, each data bit F times, the parity F times, the stop S times
abbrev pub frame : Format → ℕ → List Bool
frame f c = held f.factor (false ∷ data_part f c ++ parity_part f c) ++ replicate f.stop true
