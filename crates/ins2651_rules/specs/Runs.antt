-- Runs of calls: a call as data, the device after it, and what it answers, in document 01's numbers. Arguments are any numbers, so bytes too.
-- Assumes nothing.
use Rattle.std.specs.Prelude.{ℕ, Bool, true, not, ◌&&◌, List, [], ◌∷◌}
use Rattle.ins2651_rules.specs.declared.Device.{Device}
use Rattle.ins2651_rules.specs.declared.OutputPins.{OutputPins}
use Rattle.ins2651_rules.specs.Shape.{reset_device}
use Rattle.ins2651_rules.specs.Looks.{outputs}
use Rattle.ins2651_rules.specs.RegisterReads.{read}
use Rattle.ins2651_rules.specs.RegisterWrites.{write}
use Rattle.ins2651_rules.specs.Pinning.{set_pins}
use Rattle.ins2651_rules.specs.Ticks.{transmit, receive}

-- the calls of a bench. (`in_range`, `settle` and the two ticks of a device settled before are public for a run of ticks, and no calls of a bench; nor
-- are the looks at tallies and stamps, which change nothing)
pub data Call : Type 0 where
  Reset : Call
  Read : ℕ → Call
  Write : ℕ → ℕ → Call
  SetPins : ℕ → ℕ → ℕ → Call
  Transmit : Call
  Receive : ℕ → Call
  Outputs : Call

-- == a call by its kind ==

-- what each kind of call gives
pub record Cases (A : Type 0) : Type 0 where
  pub reset : A
  pub read : ℕ → A
  pub write : ℕ → ℕ → A
  pub pins : ℕ → ℕ → ℕ → A
  pub transmit : A
  pub receive : ℕ → A
  pub outputs : A

abbrev pub by_call : {A : Type 0} → Cases A → Call → A
by_call k Reset = k.reset
by_call k (Read address) = k.read address
by_call k (Write address v) = k.write address v
by_call k (SetPins dsr dcd cts) = k.pins dsr dcd cts
by_call k Transmit = k.transmit
by_call k (Receive x) = k.receive x
by_call k Outputs = k.outputs

-- one for every call ..
abbrev pub otherwise : {A : Type 0} → A → Cases A
otherwise b = record { reset = b; read = λ address. b; write = λ address v. b; pins = λ dsr dcd cts. b; transmit = b; receive = λ x. b; outputs = b }

-- .. but for this kind
abbrev pub at_reset : {A : Type 0} → A → Cases A → Cases A
at_reset a k = record { reset = a; read = k.read; write = k.write; pins = k.pins; transmit = k.transmit; receive = k.receive; outputs = k.outputs }

abbrev pub at_read : {A : Type 0} → (ℕ → A) → Cases A → Cases A
at_read a k = record { reset = k.reset; read = a; write = k.write; pins = k.pins; transmit = k.transmit; receive = k.receive; outputs = k.outputs }

abbrev pub at_write : {A : Type 0} → (ℕ → ℕ → A) → Cases A → Cases A
at_write a k = record { reset = k.reset; read = k.read; write = a; pins = k.pins; transmit = k.transmit; receive = k.receive; outputs = k.outputs }

abbrev pub at_pins : {A : Type 0} → (ℕ → ℕ → ℕ → A) → Cases A → Cases A
at_pins a k = record { reset = k.reset; read = k.read; write = k.write; pins = a; transmit = k.transmit; receive = k.receive; outputs = k.outputs }

abbrev pub at_transmit : {A : Type 0} → A → Cases A → Cases A
at_transmit a k = record { reset = k.reset; read = k.read; write = k.write; pins = k.pins; transmit = a; receive = k.receive; outputs = k.outputs }

abbrev pub at_receive : {A : Type 0} → (ℕ → A) → Cases A → Cases A
at_receive a k = record { reset = k.reset; read = k.read; write = k.write; pins = k.pins; transmit = k.transmit; receive = a; outputs = k.outputs }

abbrev pub at_outputs : {A : Type 0} → A → Cases A → Cases A
at_outputs a k = record { reset = k.reset; read = k.read; write = k.write; pins = k.pins; transmit = k.transmit; receive = k.receive; outputs = a }

-- == runs ==

-- the device after a call; outputs changes nothing
abbrev pub next : Device → Call → Device
next d Reset = reset_device
next d (Read address) = (read d address).device
next d (Write address v) = (write d address v).device
next d (SetPins dsr dcd cts) = (set_pins d dsr dcd cts).device
next d Transmit = (transmit d).device
next d (Receive x) = (receive d x).device
next d Outputs = d

-- the refusal number, and the values that come with it: a byte read, a level sent, five output levels
pub record Said : Type 0 where
  pub refusal : ℕ
  pub values : List ℕ

abbrev pub levels : OutputPins → List ℕ
levels o = o.txrdy ∷ o.rxrdy ∷ o.txemt ∷ o.dtr ∷ o.rts ∷ []

abbrev pub said : Device → Call → Said
said d Reset = record { refusal = 0; values = [] }
said d (Read address) = record { refusal = (read d address).refusal; values = (read d address).value ∷ [] }
said d (Write address v) = record { refusal = (write d address v).refusal; values = [] }
said d (SetPins dsr dcd cts) = record { refusal = (set_pins d dsr dcd cts).refusal; values = [] }
said d Transmit = record { refusal = 0; values = (transmit d).level ∷ [] }
said d (Receive x) = record { refusal = (receive d x).refusal; values = [] }
said d Outputs = record { refusal = 0; values = levels (outputs d) }

-- after a list of calls, the first one first
abbrev pub after : Device → List Call → Device
after d [] = d
after d (c ∷ cs) = after (next d c) cs

abbrev pub answers : Device → List Call → List Said
answers d [] = []
answers d (c ∷ cs) = said d c ∷ answers (next d c) cs

-- no call of the list is so
abbrev pub nowhere : (Call → Bool) → List Call → Bool
nowhere p [] = true
nowhere p (c ∷ cs) = not (p c) && nowhere p cs
