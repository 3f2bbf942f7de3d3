-- `lending`'s call of a reference that was made for it, at a device and bytes: the reference, the code, and a lent call's contract as its callers have it.
-- Assumes nothing.
use Prim.Native.Nat.{ℕ}
use seplogic.Ra.Ura.{Ura}
use mir.Syntax.{w8, w16, Callee as Name, Ty, Body as Code}
use types.Logic.{Logic}
use denote.Triple.Statement.{Contract}
use Rattle.lending.proofs.Again as made
use Rattle.host.proofs.Calls.{lent_device, Promise}

abbrev pub reborrow : Ty
reborrow = made.reborrow lent_device

abbrev pub calling_again : ℕ → Name → ℕ → ℕ → Code → Code
calling_again = made.calling_again lent_device

abbrev pub Lending : {M : Type 1} {𝓤 : Ura M} (𝓛 : Logic 𝓤) (n : ℕ) → Promise n → Contract 𝓤
Lending = made.Lending lent_device w8 w16
