-- The byte of a done read by history: each address from what has happened since reset, the latest first. No field of the device is named here.
-- Assumes nothing.
use Rattle.std.specs.Prelude.{ℕ, ◌+◌, ◌*◌, ◌/◌, ◌%◌, Bool, cond, ◌&&◌, List, [], ◌∷◌, eqb}
use Rattle.link_rules.specs.Hearing.{arrived_or}
use Rattle.ins2651_rules.specs.Runs.{Call, by_call, otherwise, at_reset, at_write}
use Rattle.ins2651_rules.specs.History.{resets, Happened, status_by}
use Rattle.ins2651_rules.specs.Pointers.{mode_pointer}

-- == address 0 ==

-- RHR gives again the character it last held, read or not, 0 after reset: the last arrival
abbrev pub character_by : List Happened → ℕ
character_by [] = 0
character_by (e ∷ es) = cond (resets e.call) 0 (arrived_or (character_by es) e.heard)

-- == writes ==

-- the value of a write of an address that is so; reset clears every register; any other call leaves it as before
abbrev pub written_or : ℕ → (ℕ → Bool) → Call → ℕ
written_or before so c = by_call (at_reset 0 (at_write (λ address v. cond (so address) v before) (otherwise before))) c

-- the value last accepted where the address, after what happened before, is so; 0 where there is none
abbrev pub last_written : (List Happened → ℕ → Bool) → List Happened → ℕ
last_written so [] = 0
last_written so (e ∷ es) = written_or (last_written so es) (so es) e.call

-- == address 2 ==

-- the register that address 2 is: 0 mode 1, 1 mode 2
abbrev pub mode_turn : List Happened → ℕ
mode_turn [] = 0
mode_turn (e ∷ es) = mode_pointer e.call (mode_turn es)

-- mode 1 where m is 0, mode 2 where it is 1: what was last accepted in its turn, all bits as written
abbrev pub mode_by : ℕ → List Happened → ℕ
mode_by m es = last_written (λ (before : List Happened) (address : ℕ). eqb address 2 && eqb (mode_turn before) m) es

-- == address 3 ==

-- bit 4 at 0: the bits above it, and those below
abbrev pub without_bit4 : ℕ → ℕ
without_bit4 v = v / 32 * 32 + v % 16

-- the last accepted command; bit 4 reads back as 0
abbrev pub command_by : List Happened → ℕ
command_by es = without_bit4 (last_written (λ (before : List Happened) (address : ℕ). eqb address 3) es)

-- == any address ==

-- 0: RHR; 1: status; 2: mode 1, then mode 2; 3: command
unfoldable pub byte_by : ℕ → List Happened → ℕ
byte_by address es =
    cond (eqb address 0) (character_by es)
    (cond (eqb address 1) (status_by es)
    (cond (eqb address 2) (mode_by (mode_turn es) es)
    (command_by es)))
