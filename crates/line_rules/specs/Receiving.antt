-- What the receiver does at a sample: document 01, "Receiving, by receive ticks".
-- Assumes nothing.
use Rattle.std.specs.Prelude.{ℕ, zero, suc, ◌+◌, ◌*◌, ◌-◌, ◌^◌, ◌%◌, Bool, true, false, cond, not, List, [], ◌∷◌, eqb, Option, None, Some}
use Rattle.line_rules.specs.declared.Arrival.{Arrival}
use Rattle.line_rules.specs.declared.Format.{Format}
use Rattle.line_rules.specs.declared.Receiver.{Receiver}
use Rattle.line_rules.specs.declared.RxC.{RxC}
use Rattle.line_rules.specs.declared.Sampled.{Sampled}
use Rattle.line_rules.specs.Clocks.{rx_later, no_rxc}
use Rattle.line_rules.specs.Arrived.{Arrived}
use Rattle.line_rules.specs.Sending.{bit, on, differ, half, parity_bit, part}

-- no character is under way
abbrev pub at_rest : ℕ → Receiver
at_rest p = record { phase = p; countdown = 0; value = 0; wrong = 0; look = 0 }

-- it waits for a sample of 1 ..
abbrev pub waiting : Receiver
waiting = at_rest 0

-- .. then for a 0
abbrev pub searching : Receiver
searching = at_rest 1

-- A character under way is looked at in turn: look 0 is at tick h, the start again; look m is at tick h + F m. So data bit i, which document 01
-- takes at h + F(i+1), is look i + 1, the parity look n + 1, and the stop look n + p + 1, at D.

-- it has `countdown` ticks before its next look, that look's number, its value so far, and 1 if its parity was wrong
abbrev pub assembling : (countdown look value wrong : ℕ) → Receiver
assembling countdown look value wrong = record { phase = 2; countdown = countdown; value = value; wrong = wrong; look = look }

-- a 1 is the mark that starts a search
abbrev pub after_mark : Bool → Receiver
after_mark x = cond x searching waiting

-- nothing arrives
abbrev pub quiet : Receiver → Sampled
quiet r = record { next = r; heard = None }

-- the next look is F ticks after this one
abbrev pub look_next : Format → (look value wrong : ℕ) → Sampled
look_next f look value wrong = quiet (assembling (f.factor - 1) look value wrong)

-- data bit i, in a byte
abbrev pub with_bit : ℕ → ℕ → Bool → ℕ
with_bit value i x = (value + bit x * 2 ^ i) % 256

-- the start again: a 1 is a false start, and serves as the mark
abbrev pub start_look : Format → Bool → Sampled
start_look f x = cond x (quiet (after_mark true)) (look_next f 1 0 0)

-- the parity of the value so far; the next look is the given one
abbrev pub parity_look : Format → (look value : ℕ) → Bool → Sampled
parity_look f look value x = look_next f look value (bit (differ x (parity_bit f value)))

-- the stop: the character arrives, stamped with the receive tally now; a stop of 0 is a framing fault, and a 1 must come before the next search
abbrev pub stop_look : (value wrong : ℕ) → Bool → RxC → Sampled
stop_look value wrong x now =
    record { next = after_mark x; heard = Some (record { value = value; parity = on wrong; framing = not x; stamp = now }) }

-- a look sees x: look 0 the start, look i + 1 what follows it by its number i, which is data, parity or stop
abbrev pub look_at : Format → (look value wrong : ℕ) → Bool → RxC → Sampled
look_at f zero value wrong x now = start_look f x
look_at f (suc i) value wrong x now =
    part f i (look_next f (suc (suc i)) (with_bit value i x) wrong) (parity_look f (suc (suc i)) value x) (stop_look value wrong x now)

-- a tick of a character under way: samples between looks are not looked at
abbrev pub under : Format → (countdown look value wrong : ℕ) → Bool → RxC → Sampled
under f zero look value wrong x now = look_at f look value wrong x now
under f (suc countdown) look value wrong x now = quiet (assembling countdown look value wrong)

-- one sample x, by the receiver's phase: 0 waits, 1 searches, any other assembles. The receive tally counts this sample's tick
unfoldable pub sample : Format → Receiver → Bool → RxC → Sampled
sample f r x now =
    cond (eqb r.phase 0)
    (quiet (after_mark x))
    (cond (eqb r.phase 1) (cond x (quiet searching) (under f (half f) 0 0 0 false now)) (under f r.countdown r.look r.value r.wrong x now))

-- == many samples ==

-- what a sample's answer adds to the list: nothing, or the character that arrived with sample number k
abbrev pub tell : ℕ → Option Arrival → List Arrived → List Arrived
tell k None rest = rest
tell k (Some a) rest = record { at = k; arrival = a } ∷ rest

-- what a sample leaves: the tally does not matter to it (proofs/Samples.antt, `leaves_alike`)
abbrev pub leaves : Format → Receiver → Bool → Receiver
leaves f r x = (sample f r x no_rxc).next

-- what arrives of the samples that follow on k others, where the tally was t before them all
abbrev pub arrivals : Format → RxC → Receiver → ℕ → List Bool → List Arrived
arrivals f t r k [] = []
arrivals f t r k (x ∷ xs) = tell (suc k) (sample f r x (rx_later (suc k) t)).heard (arrivals f t (leaves f r x) (suc k) xs)

-- the receiver after them
abbrev pub after : Format → Receiver → List Bool → Receiver
after f r [] = r
after f r (x ∷ xs) = after f (leaves f r x) xs
