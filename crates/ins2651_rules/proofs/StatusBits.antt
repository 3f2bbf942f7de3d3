-- The bits of the status byte are its conditions one by one, and the outputs are their complements.
-- Assumes nothing.
use Prim.Native.Nat.{ℕ, ◌+◌, ◌*◌, ◌/◌, ◌%◌}
use native.Mathlib.Omega.{arith}
use mathlib.Core.Path.{◌≡◌, refl, sym, ap, ap₂, ◌∙◌}
use mathlib.Core.Bool.{Bool, true, false, not}
use lib.Dec.{eqb}
use Rattle.line_rules.specs.Sending.{bit, on}
use Rattle.line_rules.proofs.Bits.{is_one, at_most_one}
use Rattle.ins2651_rules.specs.declared.Device.{Device}
use Rattle.ins2651_rules.specs.Shape.{Answer}
use Rattle.ins2651_rules.specs.Modes.{has}
use Rattle.ins2651_rules.specs.Conditions.{data_set_ready, carrier, either_mark, unread, may_write}
use Rattle.ins2651_rules.specs.Status.{weigh, status_byte, outputs_of}
use Rattle.ins2651_rules.specs.Looks.{outputs}
use Rattle.ins2651_rules.specs.Ranges.{settled}
use Rattle.ins2651_rules.specs.RegisterReads.{read_register, read}
use Rattle.ins2651_rules.proofs.Settled.{settled_in}
use Rattle.ins2651_rules.proofs.Done.{done_read}
use Rattle.ins2651_rules.proofs.InRange.{status_kept_lem}

weighed : (b : Bool) (w : ℕ) → weigh b w ≡ w * bit b
weighed true w = let e : w ≡ w * 1 = omega arith in e
weighed false w = let e : 0 ≡ w * 0 = omega arith in e

abbrev sum : Bool → Bool → Bool → Bool → Bool → Bool → Bool → Bool → ℕ
sum a b c d e f g h = weigh a 128 + weigh b 64 + (weigh c 32 + weigh d 16 + weigh e 8) + (weigh f 4 + weigh g 2 + weigh h 1)

pub record Bits (v : ℕ) (a b c d e f g h : Bool) : Type 0 where
  pub bit7 : has 128 v ≡ a
  pub bit6 : has 64 v ≡ b
  pub bit5 : has 32 v ≡ c
  pub bit4 : has 16 v ≡ d
  pub bit3 : has 8 v ≡ e
  pub bit2 : has 4 v ≡ f
  pub bit1 : has 2 v ≡ g
  pub bit0 : has 1 v ≡ h

module _ (a b c d e f g h : Bool) where
  total : sum a b c d e f g h ≡ 128 * bit a + 64 * bit b + (32 * bit c + 16 * bit d + 8 * bit e) + (4 * bit f + 2 * bit g + 1 * bit h)
  total =
      ap₂ ◌+◌ (ap₂ ◌+◌ (ap₂ ◌+◌ (weighed a 128) (weighed b 64)) (ap₂ ◌+◌ (ap₂ ◌+◌ (weighed c 32) (weighed d 16)) (weighed e 8)))
      (ap₂ ◌+◌ (ap₂ ◌+◌ (weighed f 4) (weighed g 2)) (weighed h 1))

  shows : (w : ℕ) (k : Bool) → sum a b c d e f g h / w % 2 ≡ bit k → has w (sum a b c d e f g h) ≡ k
  shows w k z = ap (λ (x : ℕ). eqb x 1) z ∙ is_one k

  bits : Bits (sum a b c d e f g h) a b c d e f g h
  bits =
      let p = at_most_one a in let q = at_most_one b in let r = at_most_one c in let s = at_most_one d in
      let t = at_most_one e in let u = at_most_one f in let w = at_most_one g in let x = at_most_one h in
      let z = total in
      record {
        bit7 = shows 128 a (omega arith);
        bit6 = shows 64 b (omega arith);
        bit5 = shows 32 c (omega arith);
        bit4 = shows 16 d (omega arith);
        bit3 = shows 8 e (omega arith);
        bit2 = shows 4 f (omega arith);
        bit1 = shows 2 g (omega arith);
        bit0 = shows 1 h (omega arith);
      }

-- bit 7 is DSR low, 6 DCD low, 5 framing, 4 overrun, 3 parity, 2 a mark, 1 an unread character, 0 the leave to write
pub status_bits : (d : Device)
    → Bits (status_byte d) (data_set_ready d) (carrier d) (on d.flags.framing) (on d.flags.overrun) (on d.flags.parity) (either_mark d) (unread d) (may_write d)
unfolding status_byte
status_bits d = bits (data_set_ready d) (carrier d) (on d.flags.framing) (on d.flags.overrun) (on d.flags.parity) (either_mark d) (unread d) (may_write d)

-- each output is the complement of the bit that a read shows
pub record Complements (d : Device) : Type 0 where
  pub txrdy : (outputs d).txrdy ≡ bit (not (has 1 (read d 1).value))
  pub rxrdy : (outputs d).rxrdy ≡ bit (not (has 2 (read d 1).value))
  pub txemt : (outputs d).txemt ≡ bit (not (has 4 (read d 1).value))
  pub dtr : (outputs d).dtr ≡ bit (not (has 2 (read d 3).value))
  pub rts : (outputs d).rts ≡ bit (not (has 32 (read d 3).value))

pub outputs_complement : (d : Device) → Complements d
unfolding outputs outputs_of read_register
outputs_complement d =
    let s : (read d 1).value ≡ status_byte (settled d) = ap (λ (o : Answer). o.value) (done_read d 1 refl) ∙ status_kept_lem (settled d) (settled_in d) in
    let c : (read d 3).value ≡ (settled d).registers.command = ap (λ (o : Answer). o.value) (done_read d 3 refl) in
    let b = status_bits (settled d) in
    record {
      txrdy = sym (ap (λ (v : ℕ). bit (not (has 1 v))) s ∙ ap (λ (t : Bool). bit (not t)) b.bit0);
      rxrdy = sym (ap (λ (v : ℕ). bit (not (has 2 v))) s ∙ ap (λ (t : Bool). bit (not t)) b.bit1);
      txemt = sym (ap (λ (v : ℕ). bit (not (has 4 v))) s ∙ ap (λ (t : Bool). bit (not t)) b.bit2);
      dtr = sym (ap (λ (v : ℕ). bit (not (has 2 v))) c);
      rts = sym (ap (λ (v : ℕ). bit (not (has 32 v))) c);
    }
