-- The refusal numbers 1 to 5, each with its condition: document 01, "Refusal numbers". 0 is done. The address is checked first.
-- Assumes nothing.
use Rattle.std.specs.Prelude.{ℕ, ◌/◌, ◌%◌, cond, ◌&&◌, ltb, leb, eqb, Result, Ok, Err}
use Rattle.ins2651_rules.specs.declared.Registers.{Registers}
use Rattle.ins2651_rules.specs.declared.Refusal.{Refusal}
use Rattle.ins2651_rules.specs.declared.Refusal.TheVariants.{NoSuchAddress, NoSuchLevel, NoStopLength, Synchronous, NotNormalOperation}

-- 1: a register address above 3
abbrev pub read_refusal : ℕ → ℕ
read_refusal address = cond (ltb 3 address) 1 0

-- mode register 1: 4 with factor 00, 3 with another factor and stop length 00
abbrev pub mode1_refusal : ℕ → ℕ
mode1_refusal v = cond (eqb (v % 4) 0) 4 (cond (eqb (v / 64) 0) 3 0)

-- mode register 2 refuses nothing
abbrev pub mode_refusal : Registers → ℕ → ℕ
mode_refusal r v = cond (eqb r.modes 0) (mode1_refusal v) 0

-- 5: a command with bits 7-6 not 00
abbrev pub command_refusal : ℕ → ℕ
command_refusal v = cond (ltb v 64) 0 5

unfoldable pub write_refusal : Registers → ℕ → ℕ → ℕ
write_refusal r address v =
    cond (ltb 3 address) 1
    (cond (eqb address 2) (mode_refusal r v)
    (cond (eqb address 3) (command_refusal v)
    0))

-- 2: a pin level neither 0 nor 1 ..
abbrev pub pins_refusal : ℕ → ℕ → ℕ → ℕ
pins_refusal dsr dcd cts = cond (leb dsr 1 && leb dcd 1 && leb cts 1) 0 2

-- .. or a line level
abbrev pub level_refusal : ℕ → ℕ
level_refusal x = cond (leb x 1) 0 2

-- == as the calls answer ==

-- the number of a row ..
abbrev pub number : Refusal → ℕ
number NoSuchAddress = 1
number NoSuchLevel = 2
number NoStopLength = 3
number Synchronous = 4
number NotNormalOperation = 5

-- .. and the row of a number, of 1 to 5
abbrev pub row : ℕ → Refusal
row n =
    cond (eqb n 1) NoSuchAddress
    (cond (eqb n 2) NoSuchLevel
    (cond (eqb n 3) NoStopLength
    (cond (eqb n 4) Synchronous
    NotNormalOperation)))

-- a call's number with the value that it gives where it is done: that value where nothing is refused, and else the row
abbrev pub told : {A : Type 0} → ℕ → A → Result A Refusal
told n x = cond (eqb n 0) (Ok x) (Err (row n))
