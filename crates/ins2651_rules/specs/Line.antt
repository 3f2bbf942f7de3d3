-- What a run of calls puts on the line, and what it takes from it.
-- Assumes nothing.
use Rattle.std.specs.Prelude.{ℕ, suc, ◌≡◌, Bool, true, false, cond, not, ◌&&◌, ◌||◌, List, [], ◌∷◌, leb, eqb}
use Rattle.line_rules.specs.declared.Format.{Format}
use Rattle.line_rules.specs.declared.RxC.{RxC}
use Rattle.line_rules.specs.Sending.{on}
use Rattle.line_rules.specs.Arrived.{Arrived}
use Rattle.line_rules.specs.Receiving.{tell}
use Rattle.link_rules.specs.declared.ReceiverHalf.{ReceiverHalf}
use Rattle.ins2651_rules.specs.declared.Device.{Device}
use Rattle.ins2651_rules.specs.Modes.{receive_format}
use Rattle.ins2651_rules.specs.Conditions.{listening}
use Rattle.ins2651_rules.specs.Ranges.{settled}
use Rattle.ins2651_rules.specs.Ticks.{sent, transmit, received}
use Rattle.ins2651_rules.specs.Runs.{Call, next, by_call, otherwise, at_transmit, at_receive}
use Rattle.ins2651_rules.specs.History.{resets, writes_holding}

-- == sent ==

-- the first of two where the call is a transmit tick
abbrev pub if_transmit : {A : Type 0} → Call → A → A → A
if_transmit c a b = by_call (at_transmit a (otherwise b)) c

abbrev pub is_transmit : Call → Bool
is_transmit c = if_transmit c true false

-- how many transmit ticks a list has
abbrev pub transmits : List Call → ℕ
transmits [] = 0
transmits (c ∷ cs) = let rest = transmits cs in if_transmit c (suc rest) rest

-- the levels that they send
abbrev pub levels_sent : Device → List Call → List ℕ
levels_sent d [] = []
levels_sent d (c ∷ cs) = let rest = levels_sent (next d c) cs in if_transmit c ((transmit d).level ∷ rest) rest

-- no frame is under way and no guard stands
abbrev pub sender_free : Device → Bool
sender_free d = eqb d.sender.frame.place 0 && eqb d.sender.guard 0

-- THR holds the character v
pub record Waits (v : ℕ) (d : Device) : Type 0 where
  pub full : d.sender.full ≡ 1
  pub holding : d.sender.holding ≡ v

-- a reset drops the character that waits, a write of THR replaces it
abbrev pub displaces : Call → Bool
displaces c = resets c || writes_holding c

-- a transmit tick that is a frame's first
abbrev pub begins : Device → Call → Bool
begins d c = if_transmit c (sent (settled d)).began false

-- no call of a run begins a frame
abbrev pub none_begins : Device → List Call → Bool
none_begins d [] = true
none_begins d (c ∷ cs) = not (begins d c) && none_begins (next d c) cs

-- == taken ==

-- what an accepted receive tick with its sample gives, and what any other call does
abbrev pub if_sample : {A : Type 0} → Call → (Bool → A) → A → A
if_sample c f b = by_call (at_receive (λ x. cond (leb x 1) (f (on x)) b) (otherwise b)) c

-- the levels given to the accepted receive ticks
abbrev pub samples : List Call → List Bool
samples [] = []
samples (c ∷ cs) = if_sample c (λ (x : Bool). x ∷ samples cs) (samples cs)

-- what arrives, after k samples that were before; samples count from 1
abbrev pub arrived_in : Device → ℕ → List Call → List Arrived
arrived_in d k [] = []
arrived_in d k (c ∷ cs) = if_sample c (λ (x : Bool). tell (suc k) (received (settled d) x).heard (arrived_in (next d c) (suc k) cs)) (arrived_in (next d c) k cs)

-- a character as RHR holds it, with its stamp
pub record Held : Type 0 where
  pub value : ℕ
  pub stamp : RxC

abbrev pub held : ReceiverHalf → Held
held r = record { value = r.holding; stamp = r.stamp }

-- the last arrival so, or h where there is none
abbrev pub last_held : Held → List Arrived → Held
last_held h [] = h
last_held h (a ∷ as') = last_held (record { value = a.arrival.value; stamp = a.arrival.stamp }) as'

-- receive is on, DCD low, a mode set, and the receiver's format is f
pub record Listens (f : Format) (d : Device) : Type 0 where
  pub live : listening d ≡ true
  pub format : receive_format d.registers ≡ f

-- before, between and after the calls of a run
abbrev pub Throughout : (Device → Type 0) → Device → List Call → Type 0
Throughout P d [] = P d
Throughout P d (c ∷ cs) = P d × Throughout P (next d c) cs
