-- The tallies and stamps by history, request P4: each from what has happened since reset, the latest first. No field of the device is named here.
-- Assumes nothing.
use Rattle.std.specs.Prelude.{ℕ, suc, ◌%◌, Bool, true, false, cond, List, [], ◌∷◌}
use Rattle.line_rules.specs.declared.TxC.{TxC}
use Rattle.line_rules.specs.declared.RxC.{RxC}
use Rattle.line_rules.specs.Clocks.{no_txc, no_rxc}
use Rattle.ins2651_rules.specs.Runs.{Call, by_call, otherwise, at_receive}
use Rattle.ins2651_rules.specs.History.{resets, Happened, any_arrival}
use Rattle.ins2651_rules.specs.Line.{is_transmit}

-- how many calls since the last reset were so; only calls that were done have happened
abbrev pub since : (Call → Bool) → List Happened → ℕ
since so [] = 0
since so (e ∷ es) = cond (resets e.call) 0 (let before = since so es in cond (so e.call) (suc before) before)

abbrev pub is_receive : Call → Bool
is_receive c = by_call (at_receive (λ x. true) (otherwise false)) c

-- the tallies: transmit ticks, and done receive ticks, modulo 4,294,967,296
abbrev pub transmit_tally_by : List Happened → TxC
transmit_tally_by es = record { 0 = since is_transmit es % 4294967296 }

abbrev pub receive_tally_by : List Happened → RxC
receive_tally_by es = record { 0 = since is_receive es % 4294967296 }

-- the transmit tally at the last tick that began a frame; 0 where none did since reset
abbrev pub start_by : List Happened → TxC
start_by [] = no_txc
start_by (e ∷ es) = cond (resets e.call) no_txc (cond e.began (transmit_tally_by (e ∷ es)) (start_by es))

-- the receive tally at the last arrival; 0 where nothing came since reset
abbrev pub stamp_by : List Happened → RxC
stamp_by [] = no_rxc
stamp_by (e ∷ es) = cond (resets e.call) no_rxc (cond (any_arrival e) (receive_tally_by (e ∷ es)) (stamp_by es))
