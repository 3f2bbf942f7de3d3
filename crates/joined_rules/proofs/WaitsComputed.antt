-- Waits, computed: one frame on the way, with a wait for each unit and limits below, at and above its arrival; one that has come; a refused limit; a
-- unit out of range. And that the promise of a wait speaks of such runs.
-- Assumes nothing.
use Prim.Native.Nat.{ℕ}
use native.Mathlib.Omega.{arith}
use mathlib.Core.Path.{◌≡◌, refl}
use mathlib.Core.Bool.{true}
use mathlib.Core.List.{List, [], ◌∷◌, map}
use Rattle.line_rules.specs.Sending.{part, odd_ones, parity_bit}
use Rattle.line_rules.specs.Range as line-range
use Rattle.line_rules.specs.Receiving.{sample}
use Rattle.link_rules.specs.Transmitting as link-transmitting
use Rattle.link_rules.specs.Hearing as link-hearing
use Rattle.link_rules.specs.Within.{sender_in_range, receiver_in_range}
use Rattle.ins2651_rules.specs.Modes.{format_of}
use Rattle.ins2651_rules.specs.Status.{status_byte}
use Rattle.ins2651_rules.specs.Ranges.{in_range, settled}
use Rattle.ins2651_rules.specs.Refusals.{write_refusal}
use Rattle.ins2651_rules.specs.RegisterReads.{read_register, read}
use Rattle.ins2651_rules.specs.RegisterWrites.{write_register, write}
use Rattle.ins2651_rules.specs.Pinning.{pinned, set_pins}
use Rattle.ins2651_rules.specs.Ticks.{transmit_tick, transmit, receive_tick, receive}
use Rattle.ins2651_rules.specs.Runs.{Write}
use Rattle.delivery.specs.Joined.{A}
use Rattle.joined_rules.specs.declared.Pair.{Pair}
use Rattle.line_rules.specs.declared.Unit.{Unit}
use Rattle.line_rules.specs.declared.Unit.TheVariants as unit
use Rattle.joined_rules.specs.Joining.{tick}
use Rattle.joined_rules.specs.Bench.{Step, At, all_moved, just_reset}
use Rattle.joined_rules.specs.Demand3.{sends, fresh, all_allowed}
use Rattle.joined_rules.specs.Waiting.{Waited, wait, StopsInTime}
use Rattle.joined_rules.proofs.Sequence.{sequences, sequence_sets_up}
use Rattle.joined_rules.proofs.Concrete.{one_stop, two_stops, one_stop_proper, two_stops_proper, stops_agree, after}
use Rattle.joined_rules.proofs.WaitsInTime.{demand_3_waits}

pub record Row : Type 0 where
  pub before : Pair
  pub unit : Unit
  pub limit : ℕ
  pub refusal : ℕ
  pub count : ℕ

abbrev row : Pair → Unit → ℕ → ℕ → ℕ → Row
row p u limit refusal count = record { before = p; unit = u; limit = limit; refusal = refusal; count = count }

-- a row with what its wait answers in the place of what it says
abbrev pub asked : Row → Row
asked r =
    let w : Waited = wait r.before r.unit r.limit in
    record { before = r.before; unit = r.unit; limit = r.limit; refusal = w.refusal; count = w.count }

-- a frame of 11 ticks from a to b, whose character comes at the 11th
abbrev written : List Step
written = At A (Write 0 193) ∷ []

abbrev arrived : List Step
arrived = At A (Write 0 193) ∷ after 11 []

abbrev start : List Step → Pair
start ss = all_moved (fresh just_reset (sequences one_stop two_stops)).pair ss

abbrev out_of_range : Pair → Pair
out_of_range p =
    record {
      a = p.a;
      b = record { registers = p.b.registers; pins = record { dsr = 2; dcd = 0; cts = 0 }; sender = p.b.sender; receiver = p.b.receiver; flags = p.b.flags; status = p.b.status };
    }

abbrev pub table : List Row
table =
    row (start written) unit.B 13 0 11
    ∷ row (start written) unit.B 12 0 11
    ∷ row (start written) unit.B 11 0 11
    ∷ row (start written) unit.B 10 0 10
    ∷ row (start written) unit.B 0 0 0
    ∷ row (start written) unit.A 13 0 13
    ∷ row (start arrived) unit.B 2 0 0
    ∷ row (start arrived) unit.A 3 0 3
    ∷ row (start arrived) unit.B 65536 21 0
    ∷ row (start written) unit.B 65536 21 0
    ∷ row (out_of_range (start arrived)) unit.B 2 0 2
    ∷ row (out_of_range (start arrived)) unit.B 0 0 0
    ∷ []

pub waits_computed : map asked table ≡ table
unfolding part odd_ones parity_bit sample link-transmitting.transmit link-hearing.receive line-range.in_range sender_in_range receiver_in_range format_of status_byte in_range settled write_refusal read_register read write_register write pinned set_pins transmit_tick transmit receive_tick receive tick wait
waits_computed = refl

-- under demand 3's premises, with a limit of L+D = 21
written_allowed : all_allowed one_stop two_stops (fresh just_reset (sequences one_stop two_stops)) written ≡ true
unfolding part odd_ones parity_bit sample link-transmitting.transmit link-hearing.receive line-range.in_range sender_in_range receiver_in_range format_of status_byte in_range settled write_refusal read_register read write_register write pinned set_pins transmit_tick transmit receive_tick receive tick
written_allowed = refl

pub written_stops : StopsInTime (sends one_stop) unit.B (wait (start written) unit.B 21)
unfolding format_of
written_stops =
    demand_3_waits one_stop two_stops one_stop_proper two_stops_proper stops_agree just_reset (sequences one_stop two_stops)
    (sequence_sets_up one_stop two_stops just_reset one_stop_proper two_stops_proper) written written_allowed unit.B (omega arith) 21 (omega arith) (omega arith)
