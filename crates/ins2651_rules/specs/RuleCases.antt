-- Rules of document 01 and of requests P1 and P4 as computed scripts, beside the starred bench cases: calls from reset, each with what it answers
-- where that can be seen (proofs/RuleRows.antt). They see the chip through its calls alone, so that a rule that is wrong in its one definition is
-- refused here. What a SYN write stores cannot be seen from outside yet: no call gives it.
-- Assumes nothing.
use Rattle.std.specs.Prelude.{ℕ, ◌+◌, ◌-◌, ◌*◌, cond, List, [], ◌∷◌, ◌++◌, map, eqb, length, replicate}
use Rattle.ins2651_rules.specs.declared.Device.{Device}
use Rattle.ins2651_rules.specs.RegisterReads.{read}
use Rattle.ins2651_rules.specs.Stamps.{stamp, start, transmit_tally, receive_tally}
use Rattle.ins2651_rules.specs.Runs.{Call, Reset, Read, Write, SetPins, Transmit, Receive, after, said}
use Rattle.ins2651_rules.specs.Line.{levels_sent}

-- == a script ==

-- a call that is done, or refused with a number; transmit ticks, by the levels that they send; receive ticks, by the levels that they are given,
-- of which nothing is seen; a read of an address that is done, and its value; both tallies; the start of the last frame and the stamp of the held
-- character
pub data Step : Type 0 where
  Do : Call → Step
  Refused : Call → ℕ → Step
  TxD : List ℕ → Step
  RxD : List ℕ → Step
  Reads : (address value : ℕ) → Step
  Tallies : (transmit receive : ℕ) → Step
  Stamps : (start stamp : ℕ) → Step

abbrev pub calls : Step → List Call
calls (Do c) = c ∷ []
calls (Refused c n) = c ∷ []
calls (TxD xs) = replicate (length xs) Transmit
calls (RxD xs) = map Receive xs
calls (Reads address v) = Read address ∷ []
calls (Tallies t r) = []
calls (Stamps s a) = []

abbrev pub done_or : Call → ℕ → Step
done_or c n = cond (eqb n 0) (Do c) (Refused c n)

-- the step as the chip answers it
abbrev pub as_answered : Device → Step → Step
as_answered d (Do c) = done_or c (said d c).refusal
as_answered d (Refused c n) = done_or c (said d c).refusal
as_answered d (TxD xs) = TxD (levels_sent d (replicate (length xs) Transmit))
as_answered d (RxD xs) = RxD xs
as_answered d (Tallies t r) = Tallies (transmit_tally d).0 (receive_tally d).0
as_answered d (Stamps s a) = Stamps (start d).0 (stamp d).0
as_answered d (Reads address v) = cond (eqb (read d address).refusal 0) (Reads address (read d address).value) (Refused (Read address) (read d address).refusal)

abbrev pub played : Device → List Step → List Step
played d [] = []
played d (s ∷ ss) = let rest = played (after d (calls s)) ss in as_answered d s ∷ rest

-- == words ==

abbrev zeros : ℕ → List ℕ
zeros k = replicate k 0

abbrev ones : ℕ → List ℕ
ones k = replicate k 1

-- a status read, and the weights of the bits that it shows
abbrev Status : ℕ → Step
Status v = Reads 1 v

abbrev pins_low192 : ℕ
pins_low192 = 128 + 64

abbrev framing32 : ℕ
framing32 = 32

abbrev overrun16 : ℕ
overrun16 = 16

abbrev parity8 : ℕ
parity8 = 8

abbrev all_three56 : ℕ
all_three56 = framing32 + overrun16 + parity8

abbrev either_mark4 : ℕ
either_mark4 = 4

abbrev unread2 : ℕ
unread2 = 2

abbrev ready1 : ℕ
ready1 = 1

-- transmit and receive enabled, and with break
abbrev enabled : ℕ
enabled = 1 + 4

abbrev with_break : ℕ
with_break = enabled + 8

-- a character to send
abbrev thr : ℕ → Step
thr c = Do (Write 0 c)

abbrev command : ℕ → Step
command v = Do (Write 3 v)

abbrev lowers_all : Step
lowers_all = Do (SetPins 0 0 0)

-- both modes, transmit and receive enabled, pins low
abbrev prepared : ℕ → ℕ → List Step
prepared mode1 mode2 = Do (Write 2 mode1) ∷ Do (Write 2 mode2) ∷ command enabled ∷ lowers_all ∷ []

-- == sending ==

-- a break of 3 ticks sends 0, then come exactly F ticks of 1, then the start of the character that waits
abbrev after_break : ℕ → ℕ → List Step
after_break mode1 F =
    prepared mode1 0 ++ command with_break ∷ thr 0 ∷ TxD (zeros 3) ∷ command enabled ∷ TxD (ones F ++ zeros 1) ∷ []

-- a guard falls while CTS is high as well
abbrev guard_falls : List Step
guard_falls =
    prepared 78 0 ++ command with_break ∷ thr 0 ∷ TxD (zeros 1) ∷ command enabled
    ∷ Do (SetPins 0 0 1) ∷ TxD (ones 16) ∷ lowers_all ∷ TxD (zeros 1) ∷ []

-- a frame of 255 in 5 bits, no parity, lasts F(1+5)+S: right after that comes the start of the character that waits
abbrev lasts : ℕ → ℕ → ℕ → ℕ → List Step
lasts mode1 mode2 F S = prepared mode1 mode2 ++ thr 255 ∷ TxD (zeros 1) ∷ thr 0 ∷ TxD (zeros (F - 1) ++ ones (5 * F + S) ++ zeros 1) ∷ []

-- a character of 0 in n bits at one tick a bit: the start, n zeros, the stop
abbrev length_is : ℕ → ℕ → List Step
length_is mode1 n = prepared mode1 0 ++ thr 0 ∷ TxD (zeros (1 + n) ++ ones 1) ∷ []

-- a character waits, then break is on too, and 1 is sent; once it may start it does
abbrev nothing_starts : List Step → ℕ → List Step → List Step
nothing_starts before v opened =
    before ++ command v ∷ thr 0 ∷ TxD (ones 3) ∷ command (v + 8) ∷ TxD (ones 2) ∷ command v ∷ opened ++ TxD (zeros 1) ∷ []

-- the highest of n bits alone, at one tick a bit with even parity: the start, n - 1 zeros, that bit, the parity, the stop
abbrev highest_bit : ℕ → ℕ → ℕ → List Step
highest_bit mode1 n c = prepared mode1 0 ++ thr c ∷ TxD (zeros n ++ ones 3) ∷ []

abbrev sending_scripts : List (List Step)
sending_scripts =
    after_break 77 1 ∷ after_break 78 16 ∷ after_break 79 64 ∷ guard_falls
    -- 1, 1½ and 2 stop bits: at one tick a bit, where 1½ counts as one tick, at 16 and at 64
    ∷ lasts 65 0 1 1 ∷ lasts 129 0 1 1 ∷ lasts 193 0 1 2
    ∷ lasts 66 0 16 16 ∷ lasts 130 0 16 24 ∷ lasts 194 0 16 32
    ∷ lasts 67 0 64 64 ∷ lasts 131 0 64 96 ∷ lasts 195 0 64 128
    -- an internal transmit clock, bit 5 of mode 2, makes the factor 16, whatever mode 1 says; bit 4 does not
    ∷ lasts 129 32 16 24 ∷ lasts 131 32 16 24 ∷ lasts 65 16 1 1
    -- the four length codes
    ∷ length_is 65 5 ∷ length_is 69 6 ∷ length_is 73 7 ∷ length_is 77 8
    -- 5 bits with parity: 1 has one 1, so that odd parity sends 0 and even parity 1
    ∷ (prepared 81 0 ++ thr 1 ∷ TxD (0 ∷ 1 ∷ 0 ∷ 0 ∷ 0 ∷ 0 ∷ 0 ∷ 1 ∷ []) ∷ [])
    ∷ (prepared 113 0 ++ thr 1 ∷ TxD (0 ∷ 1 ∷ 0 ∷ 0 ∷ 0 ∷ 0 ∷ 1 ∷ 1 ∷ []) ∷ [])
    -- the parity counts each of the n bits
    ∷ highest_bit 117 6 32 ∷ highest_bit 121 7 64 ∷ highest_bit 125 8 128
    -- DSR, DCD and receive enable do not matter to a frame, nor to a break, which needs no character
    ∷ (Do (Write 2 65) ∷ command 1 ∷ Do (SetPins 1 1 0) ∷ thr 255 ∷ TxD (zeros 1 ++ ones 6) ∷ command (1 + 8) ∷ TxD (zeros 2) ∷ [])
    -- nothing starts while CTS is high, as a reset takes it, or mode unset, or transmit off
    ∷ nothing_starts (Do (Write 2 77) ∷ []) enabled (lowers_all ∷ [])
    ∷ nothing_starts (prepared 77 0 ++ Do (SetPins 0 0 1) ∷ []) enabled (lowers_all ∷ [])
    ∷ nothing_starts (lowers_all ∷ []) enabled (Do (Write 2 77) ∷ [])
    ∷ nothing_starts (prepared 77 0) 4 (command enabled ∷ [])
    ∷ []

-- == the empty-mark ==

-- 5 bits at one tick a bit: L is 7. The change-mark of the pins is read away first
abbrev one_frame : List Step
one_frame = prepared 65 0 ++ Status (pins_low192 + either_mark4 + ready1) ∷ thr 255 ∷ TxD (zeros 1 ++ ones 2) ∷ []

abbrev empty_mark_scripts : List (List Step)
empty_mark_scripts =
    -- off after 6 ticks, on after 7; a status read leaves it, a write of THR clears it
    (one_frame ++ TxD (ones 3) ∷ Status (pins_low192 + ready1) ∷ TxD (ones 1) ∷ Status (pins_low192 + either_mark4 + ready1) ∷ Status (pins_low192 + either_mark4 + ready1)
    ∷ thr 255 ∷ Status pins_low192 ∷ [])
    -- a command that leaves transmit on leaves it, one that leaves transmit off clears it
    ∷ (one_frame ++ TxD (ones 4) ∷ command (enabled + 32) ∷ Status (pins_low192 + either_mark4 + ready1) ∷ command 4 ∷ Status pins_low192
    ∷ command enabled ∷ Status (pins_low192 + ready1) ∷ [])
    -- not set where THR was filled meanwhile, nor where transmit is off at the last tick
    ∷ (one_frame ++ thr 255 ∷ TxD (ones 4) ∷ Status pins_low192 ∷ [])
    ∷ (one_frame ++ command 4 ∷ TxD (ones 4) ∷ command enabled ∷ Status (pins_low192 + ready1) ∷ [])
    ∷ []

-- == permission ==

-- status bit 0 is 0 from a write of THR to the first tick of its frame, and 1 from then on: under the frame and behind it
abbrev permission_scripts : List (List Step)
permission_scripts =
    (prepared 65 0 ++ Status (pins_low192 + either_mark4 + ready1) ∷ thr 255 ∷ Status pins_low192 ∷ TxD (zeros 1) ∷ Status (pins_low192 + ready1)
    ∷ thr 255 ∷ Status pins_low192 ∷ TxD (ones 6) ∷ Status pins_low192 ∷ TxD (zeros 1) ∷ Status (pins_low192 + ready1) ∷ TxD (ones 6) ∷ Status (pins_low192 + either_mark4 + ready1) ∷ [])
    ∷ []

-- == registers read back ==

abbrev read_back_scripts : List (List Step)
read_back_scripts =
    -- mode 1, mode 2 with its bits 7-6, mode 1 again; the command with bit 4 at 0
    (Do (Write 2 77) ∷ Do (Write 2 255) ∷ command 55 ∷ Reads 2 77 ∷ Reads 2 255 ∷ Reads 2 77 ∷ Reads 3 39 ∷ [])
    -- a mode read moves the pointer, so that mode 2 is written first; a command read puts it back
    ∷ (Reads 2 0 ∷ Do (Write 2 255) ∷ Do (Write 2 78) ∷ Reads 3 0 ∷ Reads 2 78 ∷ Reads 2 255 ∷ Reads 2 78 ∷ Reads 3 0 ∷ Reads 2 78 ∷ [])
    -- what is refused leaves registers and pointer; a reset clears the registers and puts the pointer back
    ∷ (Refused (Read 4) 1 ∷ Refused (SetPins 0 2 0) 2 ∷ Refused (Write 2 1) 3 ∷ Refused (Write 2 76) 4 ∷ Do (Write 2 77) ∷ Do (Write 2 0) ∷ Refused (Write 2 0) 4 ∷ Reads 2 77 ∷ Do (Write 2 3)
    ∷ command 1 ∷ Refused (Write 3 64) 5 ∷ Reads 3 1 ∷ Do Reset ∷ Reads 2 0 ∷ Reads 2 0 ∷ Reads 3 0 ∷ [])
    ∷ []

-- == hearing: 5 bits, even parity, one tick a bit ==

abbrev hearing : List Step
hearing = prepared 113 0 ++ Status (pins_low192 + either_mark4 + ready1) ∷ []

-- a 1 to mark, then start, a character of 1, parity, stop
abbrev good : Step
good = RxD (1 ∷ 0 ∷ 1 ∷ 0 ∷ 0 ∷ 0 ∷ 0 ∷ 1 ∷ 1 ∷ [])

abbrev wrong_parity : Step
wrong_parity = RxD (1 ∷ 0 ∷ 1 ∷ 0 ∷ 0 ∷ 0 ∷ 0 ∷ 0 ∷ 1 ∷ [])

abbrev stop_of0 : Step
stop_of0 = RxD (1 ∷ 0 ∷ 1 ∷ 0 ∷ 0 ∷ 0 ∷ 0 ∷ 1 ∷ 0 ∷ [])

abbrev wrong_both : Step
wrong_both = RxD (1 ∷ 0 ∷ 1 ∷ 0 ∷ 0 ∷ 0 ∷ 0 ∷ 0 ∷ 0 ∷ [])

-- a character that sets parity, and a second that finds it unread and sets framing
abbrev bad_cell : List Step
bad_cell = hearing ++ wrong_parity ∷ stop_of0 ∷ Status (pins_low192 + all_three56 + unread2 + ready1) ∷ []

abbrev hearing_scripts : List (List Step)
hearing_scripts =
    -- a good character: unread until RHR is read, and given again after it
    (hearing ++ good ∷ Status (pins_low192 + unread2 + ready1) ∷ Reads 0 1 ∷ Status (pins_low192 + ready1) ∷ Reads 0 1 ∷ [])
    -- nothing is heard while receive is off, DCD high, or mode 1 unset, though mode 2 makes the factor 16
    ∷ (hearing ++ command 1 ∷ good ∷ Status (pins_low192 + ready1) ∷ Reads 0 0 ∷ [])
    ∷ (hearing ++ Do (SetPins 0 1 0) ∷ good ∷ Status (128 + either_mark4 + ready1) ∷ Reads 0 0 ∷ [])
    ∷ (Reads 2 0 ∷ Do (Write 2 16) ∷ command enabled ∷ lowers_all ∷ RxD (1 ∷ zeros 16 ++ ones 96) ∷ Status (pins_low192 + either_mark4 + ready1) ∷ [])
    -- one tick with DCD high drops the character under way, and its 1 is no mark: the 0 after it is no start
    ∷ (hearing ++ RxD (1 ∷ 0 ∷ 1 ∷ 0 ∷ []) ∷ Do (SetPins 0 1 0) ∷ RxD (1 ∷ []) ∷ lowers_all ∷ RxD (zeros 3 ++ ones 5) ∷ Status (pins_low192 + either_mark4 + ready1) ∷ [])
    -- a command that leaves receive off drops it too, empties RHR, and what that held is given again
    ∷ (hearing ++ good ∷ RxD (0 ∷ 1 ∷ 0 ∷ []) ∷ command 1 ∷ command enabled ∷ RxD (zeros 3 ++ ones 5) ∷ Status (pins_low192 + ready1) ∷ Reads 0 1 ∷ [])
    -- DSR, CTS, transmit enable and break do not matter to what is heard, nor does the transmit clock, bit 5 of mode 2
    ∷ (Do (Write 2 113) ∷ Do (Write 2 32) ∷ command (4 + 8) ∷ Do (SetPins 1 0 1) ∷ good ∷ Status (64 + either_mark4 + unread2) ∷ Reads 0 1 ∷ [])
    -- bits 3, 4 and 5
    ∷ (hearing ++ wrong_parity ∷ Status (pins_low192 + parity8 + unread2 + ready1) ∷ [])
    ∷ (hearing ++ good ∷ good ∷ Status (pins_low192 + overrun16 + unread2 + ready1) ∷ [])
    ∷ (hearing ++ stop_of0 ∷ Status (pins_low192 + framing32 + unread2 + ready1) ∷ [])
    -- a wrong parity and a stop of 0 of one character are told independently
    ∷ (hearing ++ wrong_both ∷ Status (pins_low192 + framing32 + parity8 + unread2 + ready1) ∷ [])
    -- commands that leave receive on with bit 4 at 0 leave all three, one with bit 4 at 1 clears all three
    ∷ (bad_cell ++ command enabled ∷ Status (pins_low192 + all_three56 + unread2 + ready1)
    ∷ command (enabled + 2 + 8 + 32) ∷ Status (pins_low192 + all_three56 + unread2 + ready1)
    ∷ command (enabled + 16) ∷ Status (pins_low192 + unread2 + ready1) ∷ [])
    -- P1: a command that leaves receive off clears all three at once, with bit 4 at 0 or 1, and once receive is on the next good character has no flag
    ∷ (bad_cell ++ command 1 ∷ Status (pins_low192 + ready1) ∷ command enabled ∷ good ∷ Status (pins_low192 + unread2 + ready1) ∷ Reads 0 1 ∷ [])
    ∷ (bad_cell ++ command (1 + 2 + 8 + 16 + 32) ∷ Status (pins_low192 + ready1) ∷ [])
    -- a refused command, ticks while DCD is high, a status read, a data read and a good character clear none
    ∷ (bad_cell ++ Refused (Write 3 (1 + 64)) 5 ∷ Do (SetPins 0 1 0) ∷ RxD (ones 2) ∷ lowers_all ∷ Status (pins_low192 + all_three56 + either_mark4 + unread2 + ready1)
    ∷ Reads 0 1 ∷ good ∷ Status (pins_low192 + all_three56 + unread2 + ready1) ∷ [])
    ∷ []

-- == tallies and stamps: request P4 ==

-- what both tallies and both stamps are as a script's calls leave them: `good` is nine samples, whose last is the stop's
abbrev stamp_scripts : List (List Step)
stamp_scripts =
    -- as reset leaves them, with the mode unset: a tick counts on its own clock alone, and a refused one counts nothing
    (Tallies 0 0 ∷ Stamps 0 0 ∷ TxD (ones 3) ∷ Tallies 3 0 ∷ RxD (ones 2) ∷ Tallies 3 2 ∷ Refused (Receive 2) 2 ∷ Refused (Receive 255) 2 ∷ Tallies 3 2 ∷ Stamps 0 0 ∷ Do Reset ∷ Tallies 0 0 ∷ [])
    -- receive off, DCD high, transmit off, CTS high: all count; no other call does
    ∷ (hearing ++ Tallies 0 0 ∷ command 0 ∷ RxD (zeros 2) ∷ TxD (ones 2) ∷ Tallies 2 2 ∷ command enabled ∷ Do (SetPins 1 1 1) ∷ RxD (ones 3) ∷ TxD (ones 1) ∷ Tallies 3 5
    ∷ Reads 0 0 ∷ Reads 2 113 ∷ Reads 2 0 ∷ Reads 3 enabled ∷ thr 7 ∷ Do (Write 1 5) ∷ Refused (Read 4) 1 ∷ Refused (Write 3 64) 5 ∷ Refused (SetPins 2 0 0) 2 ∷ Tallies 3 5 ∷ [])
    -- a character has the tally after its stop sample's tick: not that of the tick before it, nor of its start; samples behind it leave it
    ∷ (hearing ++ RxD (ones 4) ∷ good ∷ Tallies 0 13 ∷ Stamps 0 13 ∷ RxD (ones 6) ∷ Tallies 0 19 ∷ Stamps 0 13 ∷ [])
    -- a read, a second one, an RHR emptied by a command and ticks while receive is off leave it; the next arrival replaces it, read ..
    ∷ (hearing ++ good ∷ Reads 0 1 ∷ Stamps 0 9 ∷ Reads 0 1 ∷ Stamps 0 9 ∷ command 1 ∷ Stamps 0 9 ∷ RxD (ones 2) ∷ command enabled ∷ good ∷ Stamps 0 20 ∷ Reads 0 1 ∷ Stamps 0 20 ∷ [])
    -- .. or unread, with an overrun or with a bad stop
    ∷ (hearing ++ good ∷ good ∷ Stamps 0 18 ∷ stop_of0 ∷ Stamps 0 27 ∷ Reads 0 1 ∷ [])
    -- a frame's start is the transmit tally after its first tick, to the first tick of the next; a break, a guard and mark begin none
    ∷ (prepared 65 0 ++ TxD (ones 2) ∷ Stamps 0 0 ∷ thr 255 ∷ TxD (zeros 1) ∷ Stamps 3 0 ∷ TxD (ones 6) ∷ Tallies 9 0 ∷ Stamps 3 0 ∷ TxD (ones 2)
    ∷ command (enabled + 8) ∷ TxD (zeros 3) ∷ command enabled ∷ TxD (ones 1) ∷ Stamps 3 0 ∷ thr 255 ∷ Stamps 3 0 ∷ TxD (zeros 1) ∷ Stamps 16 0 ∷ Tallies 16 0 ∷ Do Reset ∷ Stamps 0 0 ∷ [])
    ∷ []

abbrev pub scripts : List (List Step)
scripts = sending_scripts ++ empty_mark_scripts ++ permission_scripts ++ read_back_scripts ++ hearing_scripts ++ stamp_scripts
