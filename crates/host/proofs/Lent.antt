-- `lending`'s laws of a lent call, at a device and bytes: by a walk of its code (`meets_by`), and over a by-value call (`meets`), it meets its contract.
-- Assumes nothing.
use Prim.Native.Nat.{ℕ}
use seplogic.Ra.Ura.{Ura}
use mir.Syntax.{w8, w16, Callee as Name, Fn}
use prog.Wp.{WpFn, Tables}
use types.Logic.{Logic}
use denote.Triple.Statement.{Triple}
use denote.Triple.Spec.{Meets}
use denote.Triple.Clauses.{closing}
use Rattle.lending.proofs.Calls.{function}
use Rattle.lending.proofs.Entry as walked
use Rattle.lending.proofs.Lent as over
use Rattle.host.proofs.Calls.{lent_device, device_reply, Replies, lent, Promise, Keeps, Lent, Callee}

module _ {M : Type 1} {𝓤 : Ura M} (𝓛 : Logic 𝓤) where
  open 𝓛 use {H}

  abbrev pub Walk : (n : ℕ) → Promise n → Tables 𝓤 H → Fn → Type 2
  Walk = walked.Walk lent_device w8 w16 𝓛

  module _ (n : ℕ) where
    pub meets_by : (P : Promise n) (𝓣 : Tables 𝓤 H) (fn : Fn) → Walk n P 𝓣 fn → Meets 𝓛 (lent n).signature (WpFn 𝓤 H 𝓣.C 𝓣.Λ fn) (closing 𝓛 (lent n) (Lent 𝓤 n P))
    meets_by = walked.meets_by lent_device w8 w16 𝓛 n

    pub meets : (F : Replies n) (P : Promise n) → Keeps n F P → (𝓣 : Tables 𝓤 H) (g : Name) → Triple 𝓤 (𝓣.C g) (Callee 𝓤 𝓛 n F)
        → Meets 𝓛 (lent n).signature (WpFn 𝓤 H 𝓣.C 𝓣.Λ (function lent_device device_reply w8 n g)) (closing 𝓛 (lent n) (Lent 𝓤 n P))
    meets = over.meets lent_device device_reply w8 𝓛 n
