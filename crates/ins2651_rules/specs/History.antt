-- Status by history: each status bit from what has happened since reset, the latest first. No field of the device is named here.
-- Assumes nothing.
use Rattle.std.specs.Prelude.{ℕ, ◌+◌, Bool, true, false, cond, not, ◌&&◌, ◌||◌, List, [], ◌∷◌, eqb, Option, None}
use Rattle.line_rules.specs.declared.Arrival.{Arrival}
use Rattle.line_rules.specs.Sending.{on, differ}
use Rattle.link_rules.specs.Hearing.{arrives}
use Rattle.ins2651_rules.specs.declared.Device.{Device}
use Rattle.ins2651_rules.specs.Modes.{transmit_enable, receive_off, command_clears}
use Rattle.ins2651_rules.specs.Status.{weigh}
use Rattle.ins2651_rules.specs.Ranges.{settled}
use Rattle.ins2651_rules.specs.Refusals.{command_refusal}
use Rattle.ins2651_rules.specs.Ticks.{sent, received}
use Rattle.ins2651_rules.specs.Runs.{Call, next, by_call, otherwise, at_reset, at_read, at_pins, at_transmit, at_receive}
use Rattle.ins2651_rules.specs.Rows.{refusal, writes}

-- == which call it was ==

abbrev pub resets : Call → Bool
resets c = by_call (at_reset true (otherwise false)) c

abbrev pub reads : ℕ → Call → Bool
reads a c = by_call (at_read (λ address. eqb address a) (otherwise false)) c

-- a pin call whose DSR and DCD are so
abbrev pub pins : (ℕ → ℕ → Bool) → Call → Bool
pins p c = by_call (at_pins (λ dsr dcd cts. p dsr dcd) (otherwise false)) c

-- a write of THR
abbrev pub writes_holding : Call → Bool
writes_holding c = writes (λ (address : ℕ) (v : ℕ). eqb address 0) c

-- a command that is so
abbrev pub commands : (ℕ → Bool) → Call → Bool
commands p c = writes (λ (address : ℕ) (v : ℕ). eqb address 3 && p v) c

abbrev pub transmit_off : ℕ → Bool
transmit_off v = not (transmit_enable v)

abbrev pub any_command : ℕ → Bool
any_command v = true

-- an accepted command that clears framing, overrun and parity ..
abbrev pub clearing_command : ℕ → Bool
clearing_command v = eqb (command_refusal v) 0 && command_clears v

-- .. and a reset clear them
abbrev pub clears_errors : Call → Bool
clears_errors c = resets c || commands clearing_command c

-- conditions on the DSR and DCD of a pin call
abbrev pub dsr_is_low : ℕ → ℕ → Bool
dsr_is_low dsr dcd = eqb dsr 0

abbrev pub dcd_is_low : ℕ → ℕ → Bool
dcd_is_low dsr dcd = eqb dcd 0

abbrev pub any_levels : ℕ → ℕ → Bool
any_levels dsr dcd = true

-- == what happened ==

-- a call that was done; what arrived with it; whether it was a frame's first tick, and whether it ended one with THR empty
pub record Happened : Type 0 where
  pub call : Call
  pub heard : Option Arrival
  pub began : Bool
  pub drained : Bool

abbrev pub plainly : Call → Happened
plainly c = record { call = c; heard = None; began = false; drained = false }

abbrev pub happened : Device → Call → Happened
happened d c =
    by_call
    (at_transmit (record { call = c; heard = None; began = (sent (settled d)).began; drained = (sent (settled d)).drained })
    (at_receive (λ x. record { call = c; heard = (received (settled d) (on x)).heard; began = false; drained = false })
    (otherwise (plainly c)))) c

-- after what happened before, es; a refused call leaves no trace
abbrev pub history : Device → List Call → List Happened → List Happened
history d [] es = es
history d (c ∷ cs) es = history (next d c) cs (cond (eqb (refusal d c) 0) (happened d c ∷ es) es)

-- == the bits ==

-- a bit after an event: one that sets it, one that clears it, or as before
abbrev pub told : Bool → Bool → Bool → Bool
told sets clears before = cond sets true (cond clears false before)

-- a character arrived
abbrev pub any_arrival : Happened → Bool
any_arrival e = arrives (λ (a : Arrival). true) e.heard

-- bits 7 and 6: the levels of the last pin call; a reset takes them as high
abbrev pub dsr_low : List Happened → Bool
dsr_low [] = false
dsr_low (e ∷ es) = told (pins dsr_is_low e.call) (resets e.call || pins any_levels e.call) (dsr_low es)

abbrev pub dcd_low : List Happened → Bool
dcd_low [] = false
dcd_low (e ∷ es) = told (pins dcd_is_low e.call) (resets e.call || pins any_levels e.call) (dcd_low es)

-- bit 1: an arrival later than the last read of RHR, command that leaves receive off, and reset
abbrev pub unread_by : List Happened → Bool
unread_by [] = false
unread_by (e ∷ es) = told (any_arrival e) (resets e.call || reads 0 e.call || commands receive_off e.call) (unread_by es)

-- bits 5, 3 and 4: an arrival since the last call that clears errors had a stop of 0, had a wrong parity, or found bit 1 set
abbrev pub framing_by : List Happened → Bool
framing_by [] = false
framing_by (e ∷ es) = told (arrives (λ (a : Arrival). a.framing) e.heard) (clears_errors e.call) (framing_by es)

abbrev pub parity_by : List Happened → Bool
parity_by [] = false
parity_by (e ∷ es) = told (arrives (λ (a : Arrival). a.parity) e.heard) (clears_errors e.call) (parity_by es)

abbrev pub overrun_by : List Happened → Bool
overrun_by [] = false
overrun_by (e ∷ es) = told (any_arrival e && unread_by es) (clears_errors e.call) (overrun_by es)

-- bit 0: transmit enabled by the last command ..
abbrev pub enabled_by : List Happened → Bool
enabled_by [] = false
enabled_by (e ∷ es) = told (commands transmit_enable e.call) (resets e.call || commands any_command e.call) (enabled_by es)

-- .. and no character waits; one waits that was written since reset and since the last frame began
abbrev pub waiting_by : List Happened → Bool
waiting_by [] = false
waiting_by (e ∷ es) = told (writes_holding e.call) (resets e.call || e.began) (waiting_by es)

-- bit 2: the empty-mark, set where a frame ends with THR empty and transmit enabled ..
abbrev pub empty_by : List Happened → Bool
empty_by [] = false
empty_by (e ∷ es) = told (e.drained && enabled_by es) (resets e.call || writes_holding e.call || commands transmit_off e.call) (empty_by es)

-- .. or the change-mark, set where a pin call changes DSR or DCD, cleared by a status read
abbrev pub change_by : List Happened → Bool
change_by [] = false
change_by (e ∷ es) =
    told (pins (λ (dsr : ℕ) (dcd : ℕ). differ (dsr_is_low dsr dcd) (dsr_low es) || differ (dcd_is_low dsr dcd) (dcd_low es)) e.call)
    (resets e.call || reads 1 e.call) (change_by es)

unfoldable pub status_by : List Happened → ℕ
status_by es =
    weigh (dsr_low es) 128 + weigh (dcd_low es) 64
    + (weigh (framing_by es) 32 + weigh (overrun_by es) 16 + weigh (parity_by es) 8)
    + (weigh (empty_by es || change_by es) 4 + weigh (unread_by es) 2 + weigh (enabled_by es && not (waiting_by es)) 1)
