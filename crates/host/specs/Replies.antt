-- How C gets an answer as one number; and what a call on a lent device in range comes to where a tick may only count, or the call be refused.
-- Assumes nothing.
use Rattle.std.specs.Prelude.{ℕ, ◌+◌, ◌*◌, ◌/◌, ◌%◌, cond, Result, Ok, Err, ⊤}
use Rattle.line_rules.specs.Sending.{on}
use Rattle.ins2651_rules.specs.declared.Device.{Device}
use Rattle.ins2651_rules.specs.declared.OutputPins.{OutputPins}
use Rattle.ins2651_rules.specs.declared.Refusal.{Refusal}
use Rattle.ins2651_rules.specs.Shape.{Answer, hear_counted, device_later}
use Rattle.ins2651_rules.specs.Refusals.{read_refusal, write_refusal, pins_refusal, level_refusal, number}
use Rattle.ins2651_rules.specs.Ticks as Ticks
use Rattle.ins2651_rules.specs.Still.{searches, still}
use Rattle.host.specs.declared.Reply.{Reply}

-- a read as one number: 256 times the refusal, and the value; so a tick, whose value is the level sent
abbrev pub word : Answer → ℕ
word a = a.refusal * 256 + a.value

-- a call's Result so: the refusal's number, and 0 of what is done; ..
abbrev pub refusal_told : Result ⊤ Refusal → ℕ
refusal_told (Ok x) = 0
refusal_told (Err r) = number r

-- .. and of a read or a tick 256 times it, or the value
abbrev pub word_told : Result ℕ Refusal → ℕ
word_told (Ok v) = v
word_told (Err r) = number r * 256

-- the outputs as one number: TxRDY 1, RxRDY 2, TxEMT/DSCHG 4, DTR 8, RTS 16, each where its level is high
abbrev pub levels : OutputPins → ℕ
levels o = o.txrdy + o.rxrdy * 2 + o.txemt * 4 + o.dtr * 8 + o.rts * 16

-- == both ticks of a device in range: the answer, and the device after them ==

-- the level that the second sends
abbrev pub both_ticks : Device → ℕ → Reply
both_ticks d level = record { answer = (Ticks.both_ticks d (on level)).level; device = (Ticks.both_ticks d (on level)).device }

-- where both only count (P4) a 1 is sent
abbrev pub counted_both : Device → ℕ → Reply
counted_both d level = record { answer = 1; device = device_later 1 d }

-- a receive tick and both ticks that only count where their test holds: of a device in range nothing else comes of it (`heard_is_tick`, `ticked_is_both`)
abbrev pub heard : Device → ℕ → Device
heard d level = cond (searches d level) (hear_counted d) (Ticks.receive_tick d (on level))

abbrev pub ticked : Device → ℕ → Reply
ticked d level = cond (still d level) (counted_both d level) (both_ticks d level)

-- == what a refused call answers of a device in range; 0 where nothing is refused ==

abbrev pub read_refused : Device → ℕ → ℕ
read_refused d address = read_refusal address * 256

abbrev pub write_refused : Device → ℕ → ℕ → ℕ
write_refused d address value = write_refusal d.registers address value

abbrev pub pins_refused : Device → ℕ → ℕ → ℕ → ℕ
pins_refused d dsr dcd cts = pins_refusal dsr dcd cts

abbrev pub level_refused : Device → ℕ → ℕ
level_refused d level = level_refusal level

abbrev pub tick_refused : Device → ℕ → ℕ
tick_refused d level = level_refusal level * 256

-- == as C takes an answer apart ==

-- INS2651_REFUSAL and INS2651_VALUE
abbrev pub refusal_of : ℕ → ℕ
refusal_of w = w / 256

abbrev pub value_of : ℕ → ℕ
value_of w = w % 256

-- the bits INS2651_TXRDY, INS2651_RXRDY, INS2651_TXEMT, INS2651_DTR and INS2651_RTS
abbrev pub levels_of : ℕ → OutputPins
levels_of w = record { txrdy = w % 2; rxrdy = w / 2 % 2; txemt = w / 4 % 2; dtr = w / 8 % 2; rts = w / 16 % 2 }
