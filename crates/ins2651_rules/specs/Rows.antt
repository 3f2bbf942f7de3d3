-- The refusal table of document 01, row by row, over calls. Each number is given exactly when its row says (proofs/Refused.antt).
-- Assumes nothing.
use Rattle.std.specs.Prelude.{ℕ, ◌/◌, ◌%◌, Bool, false, not, ◌&&◌, ltb, leb, eqb}
use Rattle.ins2651_rules.specs.declared.Device.{Device}
use Rattle.ins2651_rules.specs.Ranges.{settled}
use Rattle.ins2651_rules.specs.Refusals.{read_refusal, write_refusal, pins_refusal, level_refusal}
use Rattle.ins2651_rules.specs.Runs.{Call, by_call, otherwise, at_read, at_write, at_pins, at_receive}

-- the number that a call is given; 0 is done. A reset, a transmit tick and a look at the outputs are never refused
abbrev pub refusal : Device → Call → ℕ
refusal d c = by_call (at_read read_refusal (at_write (write_refusal (settled d).registers) (at_pins pins_refusal (at_receive level_refusal (otherwise 0))))) c

-- a register address above 3
abbrev pub address_above3 : Call → Bool
address_above3 c = by_call (at_read (λ address. ltb 3 address) (at_write (λ address v. ltb 3 address) (otherwise false))) c

-- a pin or line level neither 0 nor 1
abbrev pub no_level : Call → Bool
no_level c = by_call (at_pins (λ dsr dcd cts. not (leb dsr 1 && leb dcd 1 && leb cts 1)) (at_receive (λ x. not (leb x 1)) (otherwise false))) c

-- a write whose address and value are so
abbrev pub writes : (ℕ → ℕ → Bool) → Call → Bool
writes p c = by_call (at_write p (otherwise false)) c

-- mode register 1 is the one that address 2 points at
abbrev pub at_mode1 : Device → Bool
at_mode1 d = eqb (settled d).registers.modes 0

-- mode register 1 with a clock factor of 01, 10 or 11 and stop length 00
abbrev pub no_stop : Device → Call → Bool
no_stop d c = writes (λ (address : ℕ) (v : ℕ). eqb address 2 && at_mode1 d && not (eqb (v % 4) 0) && eqb (v / 64) 0) c

-- mode register 1 with factor 00
abbrev pub synchronous : Device → Call → Bool
synchronous d c = writes (λ (address : ℕ) (v : ℕ). eqb address 2 && at_mode1 d && eqb (v % 4) 0) c

-- a command with bits 7-6 not 00
abbrev pub not_operating : Call → Bool
not_operating c = writes (λ (address : ℕ) (v : ℕ). eqb address 3 && not (ltb v 64)) c
