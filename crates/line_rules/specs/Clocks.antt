-- The two tallies of request P4, "When did it arrive?": the ticks of the transmit clock and of the receive clock since reset. Both wrap at 4,294,967,296.
-- Assumes nothing.
use Rattle.std.specs.Prelude.{ℕ, zero, suc, ◌+◌, ◌%◌}
use Rattle.line_rules.specs.declared.TxC.{TxC}
use Rattle.line_rules.specs.declared.RxC.{RxC}

-- a tally's number n ticks on
abbrev pub ticks_on : ℕ → ℕ → ℕ
ticks_on zero x = x
ticks_on (suc n) x = (x + suc n) % 4294967296

abbrev pub tx_later : ℕ → TxC → TxC
tx_later n t = record { 0 = ticks_on n t.0 }

abbrev pub rx_later : ℕ → RxC → RxC
rx_later n t = record { 0 = ticks_on n t.0 }

-- as reset leaves them: no tick yet
abbrev pub no_txc : TxC
no_txc = record { 0 = 0 }

abbrev pub no_rxc : RxC
no_rxc = record { 0 = 0 }
