-- The mode pointer and the SYN pointer, by call: document 01, "Registers". 0 is the first register.
-- Assumes nothing.
use Rattle.std.specs.Prelude.{ℕ, Bool, cond, ◌||◌, eqb}
use Rattle.ins2651_rules.specs.Runs.{Call}
use Rattle.ins2651_rules.specs.Rows.{writes}
use Rattle.ins2651_rules.specs.History.{resets, reads}

abbrev pub writes_address : ℕ → Call → Bool
writes_address a c = writes (λ (address : ℕ) (v : ℕ). eqb address a) c

-- reset or a command read puts both back, nothing else does
abbrev pub puts_back : Call → Bool
puts_back c = resets c || reads 3 c

-- it moves at each mode read or accepted write, and wraps
abbrev pub mode_pointer : Call → ℕ → ℕ
mode_pointer c m = cond (puts_back c) 0 (cond (reads 2 c || writes_address 2 c) (cond (eqb m 0) 1 0) m)

-- it moves at each SYN write, and wraps
abbrev pub syn_pointer : Call → ℕ → ℕ
syn_pointer c s = cond (puts_back c) 0 (cond (writes_address 1 c) (cond (eqb s 0) 1 (cond (eqb s 1) 2 0)) s)
