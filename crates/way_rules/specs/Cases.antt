-- Runs of a way, each with what it leaves: five bits, one tick a bit, so that a frame has seven ticks. What the two ends make of a frame is document
-- 01's, and its start and stamp request P4's; that the definitions of specs/Along.antt say it is computed (proofs/Computed.antt).
-- Assumes nothing.
use Rattle.std.specs.Prelude.{ℕ, Bool, true, false, List, [], ◌∷◌}
use Rattle.line_rules.specs.declared.Format.{Format}
use Rattle.line_rules.specs.declared.TxC.{TxC}
use Rattle.line_rules.specs.declared.RxC.{RxC}
use Rattle.link_rules.specs.declared.SenderHalf.{SenderHalf}
use Rattle.link_rules.specs.declared.ReceiverHalf.{ReceiverHalf}
use Rattle.link_rules.specs.Parts.{no_frame, resting}
use Rattle.way_rules.specs.declared.Ends.{Ends}
use Rattle.way_rules.specs.declared.Way.{Way}
use Rattle.way_rules.specs.Along.{way_ticks}

pub record Case : Type 0 where
  pub ends : Ends
  pub before : Way
  pub ticks : ℕ
  pub after : Way

-- a case with what its ticks leave in the place of what it says they do
abbrev pub run : Case → Case
run c = record { ends = c.ends; before = c.before; ticks = c.ticks; after = way_ticks c.ends c.ticks c.before }

-- == the parts ==

-- parity on or not, and whether it is even
abbrev five : ℕ → ℕ → Format
five parity even = record { factor = 1; length = 5; parity = parity; even = even; stop = 1 }

abbrev plain : Format
plain = five 0 0

-- both ends on; whether break is on, whether transmit is enabled, and the formats
abbrev ends : Bool → Bool → Format → Format → Ends
ends broken enabled send hear = record { ready = true; broken = broken; enabled = enabled; live = true; send = send; hear = hear }

-- the tallies
abbrev tx : ℕ → TxC
tx n = record { 0 = n }

abbrev rx : ℕ → RxC
rx n = record { 0 = n }

-- nothing under way: the character that waits, or none, and the guard; the start of its last frame, and the transmit tally
abbrev waits : ℕ → ℕ → ℕ → ℕ → ℕ → SenderHalf
waits c full guard start tally = record { frame = no_frame; holding = c; full = full; guard = guard; start = tx start; tally = tx tally }

-- the last tick of a frame's stop comes next
abbrev ending : ℕ → ℕ → ℕ → SenderHalf
ending full start tally =
    record { frame = record { character = 21; format = plain; place = 6 }; holding = 0; full = full; guard = 0; start = tx start; tally = tx tally }

-- no character under way: its phase, what it last held, unread or not, and the stamp of that; and the receive tally
abbrev rests : ℕ → ℕ → ℕ → ℕ → ℕ → ReceiverHalf
rests p v u stamp tally = resting p v u (rx stamp) (rx tally)

-- the faults by framing, overrun and parity
abbrev way : SenderHalf → ReceiverHalf → ℕ → ℕ → ℕ → ℕ → Way
way s r empty framing overrun parity = record { sender = s; receiver = r; empty = empty; faults = record { framing = framing; overrun = overrun; parity = parity } }

-- == the cases ==

abbrev good : Ends
good = ends false true plain plain

-- receive is off
abbrev deaf : Ends
deaf = record { ready = true; broken = false; enabled = true; live = false; send = plain; hear = plain }

-- each tick counts at both ends; the start is the transmit tally after the frame's first tick, the stamp the receive tally after the stop sample's
unfoldable pub cases : List Case
cases =
    -- a character goes over, and the frame ends with nothing waiting
    record { ends = good; before = way (waits 21 1 0 3 100) (rests 1 0 0 5 2000) 0 0 0 0; ticks = 7; after = way (waits 0 0 0 101 107) (rests 1 21 1 2007 2007) 1 0 0 0 }
    -- .. which found the one before it unread; both tallies wrap, and so do the start and the stamp
    ∷ record {
      ends = good;
      before = way (waits 21 1 0 4294967200 4294967295) (rests 1 10 1 4294967195 4294967290) 0 0 0 0;
      ticks = 7;
      after = way (waits 0 0 0 0 6) (rests 1 21 1 1 1) 1 0 1 0;
    }
    -- flags that are set stay through a good character
    ∷ record { ends = good; before = way (waits 21 1 0 33 40) (rests 1 10 0 6 7) 0 1 1 1; ticks = 7; after = way (waits 0 0 0 41 47) (rests 1 21 1 14 14) 1 1 1 1 }
    -- sent with even parity and heard with odd
    ∷ record {
      ends = ends false true (five 1 1) (five 1 0);
      before = way (waits 21 1 0 9 4294967292) (rests 1 0 0 290 300) 0 0 0 0;
      ticks = 8;
      after = way (waits 0 0 0 4294967293 4) (rests 1 21 1 308 308) 1 0 0 1;
    }
    -- a break is a character of zeros with a bad stop, stamped at that; a guard of F stands, and the receiver waits for a 1. A break has no start
    ∷ record { ends = ends true true plain plain; before = way (waits 0 0 0 11 500) (rests 1 9 0 20 60) 0 0 0 0; ticks = 12; after = way (waits 0 0 1 11 512) (rests 0 0 1 67 72) 0 1 0 0 }
    -- a frame that ends while transmit is disabled sets no mark
    ∷ record { ends = ends false false plain plain; before = way (ending 0 7 13) (rests 1 0 0 2 90) 0 0 0 0; ticks = 1; after = way (waits 0 0 0 7 14) (rests 1 0 0 2 91) 0 0 0 0 }
    -- nor does one that finds a character waiting
    ∷ record { ends = good; before = way (ending 1 8 14) (rests 1 0 0 3 91) 0 0 0 0; ticks = 1; after = way (waits 0 1 0 8 15) (rests 1 0 0 3 92) 0 0 0 0 }
    -- a receiver that is off hears nothing, and counts
    ∷ record { ends = deaf; before = way (waits 21 1 0 3 100) (rests 0 9 1 20 60) 0 0 0 0; ticks = 7; after = way (waits 0 0 0 101 107) (rests 0 9 1 20 67) 1 0 0 0 }
    ∷ []
