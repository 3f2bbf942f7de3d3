-- The calls on a device: `lending`'s of a device, of the reply of its acts by value, and of bytes. What they are as contracts, by their number of bytes.
-- Assumes nothing.
use Prim.Native.Nat.{ℕ}
use mathlib.Core.List.{List}
use seplogic.Ra.Ura.{Ura}
use mir.Syntax.{w8, w16, Local, Ty}
use mir.Val.{Val}
use base.Fml.{GName, Lft, Fml}
use types.Logic.{Logic}
use contract.Lifetimes.{Lfts}
use denote.RattleType.{RattleType, Denots}
use denote.Ref.{MutBor}
use denote.Signature.{Slot, types_at}
use denote.Triple.Statement.{Contract}
use denote.Triple.End.{Kepts}
use denote.Triple.Walked.{Stays}
use denote.Triple.Clauses.{Ended, Clauses}
use Rattle.lending.proofs.Lendable.{Lendable, Replying}
use Rattle.lending.proofs.Lendable as struct
use Rattle.lending.proofs.Numbers as number
use Rattle.lending.proofs.Calls as calls
use Rattle.ins2651_rules.specs.declared.Device.{Device}
use Rattle.ins2651_rules.specs.contracts.Device as D
use Rattle.ins2651_rules.proofs.Device.TheLaws as D'
use Rattle.host.specs.declared.Reply.{Reply}
use Rattle.host.specs.contracts.Reply as R
pub use Rattle.lending.proofs.Numbers.{Numbers as Bytes, past, copies}

abbrev pub lent_device : Lendable
lent_device = record { type = D.the_type; laws = D'.the_laws; lowers = D'.lowers; plain = D'.the_plain }

abbrev pub device_reply : Replying lent_device
device_reply = record { name = (R.the_type).name; wide = w16; Reply = Reply; answer = λ r. r.answer; value = λ r. r.device; told_apart = (R.the_type).to_one }

-- == the device ==

abbrev pub vals : Device → List Val
vals = struct.vals lent_device

abbrev pub val : Device → Val
val = struct.val lent_device

abbrev pub reference : Ty
reference = struct.reference lent_device

abbrev pub device : ℕ → ℕ → GName → Device → MutBor Device
device = struct.lent_value lent_device

abbrev pub held : ℕ → ℕ → Lft → GName → Device → Fml
held = struct.held lent_device

-- == the bytes ==

abbrev pub bytes : (k : ℕ) → ℕ → List (Slot k)
bytes = number.slots w8

abbrev pub kept_bytes : (k n : ℕ) → Kepts (bytes k n)
kept_bytes = number.kept_numbers w8

abbrev pub numbers : (k n : ℕ) (κs : Lfts k) → Denots (types_at (bytes k n) κs) → Bytes n
numbers = number.numbers w8

abbrev pub stay_bytes : (k n : ℕ) → Stays (bytes k n) (kept_bytes k n)
stay_bytes = number.stay_numbers w8

abbrev pub byte_locals : ℕ → List Local → List Local
byte_locals = number.number_locals w8

-- == the calls ==

abbrev pub Replies : ℕ → Type 0
Replies = calls.Replies lent_device device_reply

abbrev pub Promise : ℕ → Type 0
Promise = calls.Promise lent_device

abbrev pub Keeps : (n : ℕ) → Replies n → Promise n → Type 0
Keeps = calls.Keeps lent_device device_reply

abbrev pub taking : RattleType → ℕ → Ended
taking = calls.taking lent_device w8

abbrev pub lent : ℕ → Ended
lent = calls.lent lent_device w8 w16

module _ {M : Type 1} (𝓤 : Ura M) where
  abbrev pub Lent : (n : ℕ) → Promise n → Clauses 𝓤 (lent n)
  Lent = calls.Lent lent_device w8 w16 𝓤

  module _ (𝓛 : Logic 𝓤) where
    abbrev pub Callee : (n : ℕ) → Replies n → Contract 𝓤
    Callee = calls.Callee lent_device device_reply w8 𝓛

    module _ (U : RattleType) (n : ℕ) (F : Device → Bytes n → U.Denot) where
      abbrev pub Takes : Clauses 𝓤 (taking U n)
      Takes = calls.Takes lent_device w8 𝓛 U n F

      abbrev pub Taking : Contract 𝓤
      Taking = calls.Taking lent_device w8 𝓛 U n F
