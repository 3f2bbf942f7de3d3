-- What makes a device fresh: a reset, and then neither a tick nor a character written.
-- Assumes nothing.
use Rattle.std.specs.Prelude.{Bool, true, false, not, ◌&&◌, ◌||◌, List, [], ◌∷◌, eqb}
use Rattle.ins2651_rules.specs.Runs.{Call, by_call, otherwise, at_write, at_transmit, at_receive}
use Rattle.ins2651_rules.specs.History.{resets}

-- any call but a tick and a write of address 0
abbrev pub quiet : Call → Bool
quiet c = by_call (at_write (λ address v. not (eqb address 0)) (at_transmit false (at_receive (λ x. false) (otherwise true)))) c

abbrev pub all_quiet : List Call → Bool
all_quiet [] = true
all_quiet (c ∷ cs) = quiet c && all_quiet cs

-- a reset is among the calls, with such calls alone behind it
abbrev pub quiet_since_reset : List Call → Bool
quiet_since_reset [] = false
quiet_since_reset (c ∷ cs) = (resets c && all_quiet cs) || quiet_since_reset cs
