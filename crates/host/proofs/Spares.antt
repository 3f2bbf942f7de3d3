-- `lending`'s law of a lent call that is spared where a test by value holds, at a device and bytes (`meets_sparing`).
-- Assumes nothing.
use mathlib.Core.Bool.{Bool}
use Prim.Native.Nat.{ℕ, ◌<◌, ◌^◌}
use seplogic.Ra.Ura.{Ura}
use lib.Dec.{T, ltb}
use mir.Syntax.{w8, w16, Callee as Name}
use prog.Wp.{WpFn, Tables}
use types.Logic.{Logic}
use denote.Builtin.{bool}
use denote.Triple.Statement.{Triple}
use denote.Triple.Spec.{Meets}
use denote.Triple.Clauses.{closing}
use Rattle.lending.proofs.Spares as of
use Rattle.ins2651_rules.specs.declared.Device.{Device}
use Rattle.host.proofs.Calls.{lent_device, Bytes, Taking, lent, Promise, Lent}
use Rattle.host.proofs.Again.{Lending}

abbrev pub Spares : (n v : ℕ) → (Device → Bytes n → Bool) → Promise n → Promise n → Type 0
Spares n v = of.Spares lent_device n (λ d xs. v)

module _ {M : Type 1} {𝓤 : Ura M} (𝓛 : Logic 𝓤) (n v : ℕ) where
  open 𝓛 use {H}

  pub meets_sparing : T (ltb v (2 ^ 16)) → v < 2 ^ 16 → (N : Device → Bytes n → Bool) (P Q : Promise n) → Spares n v N P Q → (𝓣 : Tables 𝓤 H) (f g : Name)
      → Triple 𝓤 (𝓣.C f) (Taking 𝓤 𝓛 bool n N) → Triple 𝓤 (𝓣.C g) (Lending 𝓛 n P)
      → Meets 𝓛 (lent n).signature (WpFn 𝓤 H 𝓣.C 𝓣.Λ (of.sparing lent_device w8 w16 n v f g)) (closing 𝓛 (lent n) (Lent 𝓤 n Q))
  meets_sparing = of.meets_sparing lent_device w8 w16 𝓛 n v
