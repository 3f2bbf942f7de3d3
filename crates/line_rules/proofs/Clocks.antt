-- The tallies of P4 over many ticks: they add up, wrapped or not.
-- Assumes nothing.
use Prim.Native.Nat.{ℕ, zero, suc, ◌+◌, ◌%◌, ◌<◌}
use native.Mathlib.Nat.{add-zero, mod-add-mod, mod-eq_of_lt}
use native.Mathlib.Omega.{arith}
use mathlib.Core.Path.{◌≡◌, ap, ◌∙◌}
use Rattle.line_rules.specs.declared.TxC.{TxC}
use Rattle.line_rules.specs.declared.RxC.{RxC}
use Rattle.line_rules.specs.Clocks.{ticks_on, tx_later, rx_later}

-- m ticks after n others
on_and_on : (m n x : ℕ) → ticks_on m (ticks_on n x) ≡ ticks_on (n + m) x
on_and_on zero n x = rw add-zero
on_and_on (suc m) zero x = ap (λ (k : ℕ). ticks_on k x) (let e : suc m ≡ 0 + suc m = omega arith in e)
on_and_on (suc m) (suc n) x =
    mod-add-mod (x + suc n) 4294967296 (suc m)
    ∙ ap (λ (k : ℕ). k % 4294967296) (let e : x + suc n + suc m ≡ x + suc (n + suc m) = omega arith in e)
    ∙ ap (λ (k : ℕ). ticks_on k x) (let e : suc (n + suc m) ≡ suc n + suc m = omega arith in e)

pub rx_later_later : (m n : ℕ) (t : RxC) → rx_later m (rx_later n t) ≡ rx_later (n + m) t
rx_later_later m n t = rw (on_and_on m n t.0)

pub tx_later_later : (m n : ℕ) (t : TxC) → tx_later m (tx_later n t) ≡ tx_later (n + m) t
tx_later_later m n t = rw (on_and_on m n t.0)

-- as the code adds: a sum in 32 bits of a number that has no more
pub wrapped_on : (k x y : ℕ) → x < 4294967296 → y ≡ (x + k) % 4294967296 → y ≡ ticks_on k x
wrapped_on zero x y h e = e ∙ ap (λ (n : ℕ). n % 4294967296) (add-zero x) ∙ mod-eq_of_lt h
wrapped_on (suc k) x y h e = e
