-- The two halves with one of their parts replaced, and the halves in which nothing is under way: those fields are 0.
-- Assumes nothing.
use Rattle.std.specs.Prelude.{ℕ}
use Rattle.line_rules.specs.declared.Format.{Format}
use Rattle.line_rules.specs.declared.RxC.{RxC}
use Rattle.line_rules.specs.Clocks.{tx_later, rx_later, no_txc, no_rxc}
use Rattle.line_rules.specs.Receiving.{at_rest, waiting}
use Rattle.link_rules.specs.declared.Frame.{Frame}
use Rattle.link_rules.specs.declared.SenderHalf.{SenderHalf}
use Rattle.link_rules.specs.declared.ReceiverHalf.{ReceiverHalf}

abbrev pub no_format : Format
no_format = record { factor = 0; length = 0; parity = 0; even = 0; stop = 0 }

abbrev pub no_frame : Frame
no_frame = record { character = 0; format = no_format; place = 0 }

-- == the sender ==

-- as reset leaves it: nothing waits, nothing is under way, no tick was counted
abbrev pub idle_sender : SenderHalf
idle_sender = record { frame = no_frame; holding = 0; full = 0; guard = 0; start = no_txc; tally = no_txc }

abbrev pub with_frame : SenderHalf → Frame → SenderHalf
with_frame s g = record { frame = g; holding = s.holding; full = s.full; guard = s.guard; start = s.start; tally = s.tally }

abbrev pub with_guard : SenderHalf → ℕ → SenderHalf
with_guard s k = record { frame = s.frame; holding = s.holding; full = s.full; guard = k; start = s.start; tally = s.tally }

-- a character is written: a full holding register takes it in place of the one that waits
abbrev pub loaded : SenderHalf → ℕ → SenderHalf
loaded s v = record { frame = s.frame; holding = v; full = 1; guard = s.guard; start = s.start; tally = s.tally }

-- the waiting character has left the holding register
abbrev pub unloaded : SenderHalf → SenderHalf
unloaded s = record { frame = s.frame; holding = 0; full = 0; guard = s.guard; start = s.start; tally = s.tally }

-- its tally n ticks on
abbrev pub sender_later : ℕ → SenderHalf → SenderHalf
sender_later n s = record { frame = s.frame; holding = s.holding; full = s.full; guard = s.guard; start = s.start; tally = tx_later n s.tally }

-- a frame begins with the tick that the tally has just counted
abbrev pub started : SenderHalf → SenderHalf
started s = record { frame = s.frame; holding = s.holding; full = s.full; guard = s.guard; start = s.tally; tally = s.tally }

-- == the receiver ==

-- no character is under way: in a phase, with what it last held, unread or not, that character's stamp, and the tally
abbrev pub resting : ℕ → ℕ → ℕ → RxC → RxC → ReceiverHalf
resting p v u stamp tally = record { state = at_rest p; format = no_format; holding = v; unread = u; stamp = stamp; tally = tally }

-- as reset leaves it: nothing has come, it waits for a 1, and no tick was counted
abbrev pub idle_receiver : ReceiverHalf
idle_receiver = resting 0 0 0 no_rxc no_rxc

-- the character under way is dropped, and the receiver waits for a 1; the holding register stays
abbrev pub dropped : ReceiverHalf → ReceiverHalf
dropped r = record { state = waiting; format = no_format; holding = r.holding; unread = r.unread; stamp = r.stamp; tally = r.tally }

-- the holding register is read or emptied: it still gives what it last held, with its stamp
abbrev pub emptied : ReceiverHalf → ReceiverHalf
emptied r = record { state = r.state; format = r.format; holding = r.holding; unread = 0; stamp = r.stamp; tally = r.tally }

-- its tally n ticks on
abbrev pub receiver_later : ℕ → ReceiverHalf → ReceiverHalf
receiver_later n r = record { state = r.state; format = r.format; holding = r.holding; unread = r.unread; stamp = r.stamp; tally = rx_later n r.tally }
