-- `lending`'s law of a lent call that does one of two by a test by value, at a device and bytes (`meets_deciding`).
-- Assumes nothing.
use mathlib.Core.Bool.{Bool}
use Prim.Native.Nat.{ℕ}
use seplogic.Ra.Ura.{Ura}
use mir.Syntax.{w8, w16, Callee as Name}
use prog.Wp.{WpFn, Tables}
use types.Logic.{Logic}
use denote.Builtin.{bool}
use denote.Triple.Statement.{Triple}
use denote.Triple.Spec.{Meets}
use denote.Triple.Clauses.{closing}
use Rattle.lending.proofs.Decides as of
use Rattle.ins2651_rules.specs.declared.Device.{Device}
use Rattle.host.proofs.Calls.{lent_device, Bytes, Taking, lent, Promise, Lent}
use Rattle.host.proofs.Again.{Lending}

abbrev pub Decides : (n : ℕ) → (Device → Bytes n → Bool) → Promise n → Promise n → Promise n → Type 0
Decides = of.Decides lent_device

module _ {M : Type 1} {𝓤 : Ura M} (𝓛 : Logic 𝓤) (n : ℕ) where
  open 𝓛 use {H}

  pub meets_deciding : (N : Device → Bytes n → Bool) (P R Q : Promise n) → Decides n N P R Q → (𝓣 : Tables 𝓤 H) (e f g : Name)
      → Triple 𝓤 (𝓣.C e) (Taking 𝓤 𝓛 bool n N) → Triple 𝓤 (𝓣.C f) (Lending 𝓛 n P) → Triple 𝓤 (𝓣.C g) (Lending 𝓛 n R)
      → Meets 𝓛 (lent n).signature (WpFn 𝓤 H 𝓣.C 𝓣.Λ (of.deciding lent_device w8 w16 n e f g)) (closing 𝓛 (lent n) (Lent 𝓤 n Q))
  meets_deciding = of.meets_deciding lent_device w8 w16 𝓛 n
