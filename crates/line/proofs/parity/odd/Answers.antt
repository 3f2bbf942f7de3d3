-- `line::parity::odd` meets its contract. The table's rule is tested over all 256 entries at once, and carried to each byte by one law.
use Rattle.std.proofs.Common.{◌≡◌, ℕ, ◌<◌, Bool, true, eqb, List, length, get_or, refl, ap, ◌∙◌, zero-add, arith, eqb-true}
use Rattle.line_rules.specs.Sending.{bit, odd_ones}
use Rattle.line_rules.proofs.Bits.{is_one}
use Rattle.line_rules.proofs.Table.{every, entry}
use Rattle.line.specs.declared.parity.TheConstants.{ODD}
use Rattle.line.proofs.parity.odd.Goals as goal

-- entry c is 1 where c has an odd number of ones, and 0 elsewhere
right : ℕ → ℕ → Bool
right c x = eqb x (bit (odd_ones 8 c))

-- the rule at each byte, from the test over the whole table
ruled : (t : List ℕ) (c : ℕ) → c < 256 → length t ≡ 256 → every right 0 t ≡ true → eqb (get_or t c 0) 1 ≡ odd_ones 8 c
unfolding right
ruled t c h l e =
    ap (λ (x : ℕ). eqb x 1) (eqb-true _ _ (entry right t 0 c (omega arith) e) ∙ ap (λ (k : ℕ). bit (odd_ones 8 k)) (zero-add c)) ∙ is_one (odd_ones 8 c)

pub returns : goal.returns
unfolding right odd_ones
returns c =
    rw c.from.ensures (ruled ODD c.args.c c.ranges.c.fits refl refl)
