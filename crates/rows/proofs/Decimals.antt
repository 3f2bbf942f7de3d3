-- Numbers as text: how long they are, that ten digits hold 32 bits, that they are numerals, and that none begins with a zero.
-- Assumes nothing.
use mathlib.Core.Path.{◌≡◌, refl, ◌∙◌, ap}
use mathlib.Core.List.{List, [], ◌∷◌, ◌++◌, append_assoc}
use mathlib.Core.Bool.{Bool, true, false, cond}
use Prim.Native.Nat.{ℕ, zero, suc, ◌+◌, ◌*◌, ◌/◌, ◌%◌, ◌^◌, ◌≤◌, ◌<◌}
use native.Mathlib.Omega.{arith}
use native.Mathlib.Nat.{pow-suc}
use borrow.Author.Tests.{lt-ltb, le-ltb, ltb-true, ltb-false}
use lib.Dec.{ltb}
use Rattle.std.specs.Prelude.{Option, Some, None}
use lib.ListN.{length, length-append, get_or}
use Rattle.line_rules.proofs.Choice.{each}
use Rattle.fields.specs.Parted.{numeral}
use Rattle.rows.specs.declared.Row.{Row}
use Rattle.rows.specs.declared.Row.TheVariants.{Value, Held, Waited, Refusal, Counts}
use Rattle.std.specs.Fmt.{decimal as printed}
use Rattle.std.proofs.lemmas.Fmt.{decimal_by_steps}
use Rattle.rows.specs.Text.{glyph, two, three, four, digits, decimal, ended, value_text, held_text, wait_text, refusal_text, counts_text, row_text}

more : (xs : List ℕ) (x : ℕ) → length (xs ++ x ∷ []) ≡ suc (length xs)
more xs x = length-append xs (x ∷ []) ∙ omega arith

digits_short : (k n : ℕ) → length (digits k n) ≤ suc k
digits_short zero n = omega arith
digits_short (suc k) n = go (ltb n 10) (digits_short k (n / 10))
  where
    go : (t : Bool) → length (digits k (n / 10)) ≤ suc k → length (cond t (glyph n ∷ []) (digits k (n / 10) ++ glyph n ∷ [])) ≤ suc (suc k)
    go true h = omega arith
    go false h = omega (arith, more (digits k (n / 10)) (glyph n))

-- k more digits are enough
digits_enough : (k n : ℕ) → n < 10 ^ suc k → digits (suc k) n ≡ digits k n
digits_enough zero n h = rw (lt-ltb n 10 (omega arith))
digits_enough (suc k) n h =
    let e : 10 ^ suc (suc k) ≡ 10 ^ suc k * 10 = pow-suc 10 (suc k) in
    ap (λ (x : List ℕ). cond (ltb n 10) (glyph n ∷ []) (x ++ glyph n ∷ [])) (digits_enough k (n / 10) (omega (arith, e)))

pub decimal_short : (n : ℕ) → length (decimal n) ≤ 10
unfolding decimal
decimal_short n = digits_short 9 n

-- the numbers that end a line: each with its tab, and the newline
numbers_short : (m n : ℕ) → length (ended (m ∷ n ∷ [])) ≤ 23
numbers_short m n = simp length-append (omega (arith, decimal_short m, decimal_short n))

-- of 0: one digit
zero_short : length (decimal 0) ≤ 1
unfolding decimal
zero_short = omega arith

-- no line is longer than the room that is asked for it
pub row_short : (r : Option Row) → length (row_text r) ≤ 32
unfolding row_text value_text held_text wait_text refusal_text counts_text
row_short None = omega arith
row_short (Some (Value unit address v)) = omega (arith, numbers_short address v)
row_short (Some (Held unit v t)) = simp length-append (omega (arith, zero_short, decimal_short v, decimal_short t.0))
row_short (Some (Waited unit count)) = simp length-append (omega (arith, decimal_short count))
row_short (Some (Refusal line n)) = omega (arith, numbers_short line n)
row_short (Some (Counts lines refusals)) = omega (arith, numbers_short lines refusals)

pub decimal_one : (n : ℕ) → n < 10 → decimal n ≡ glyph n ∷ []
unfolding decimal
decimal_one n h = rw (lt-ltb n 10 h)

module _ (n : ℕ) (h : n < 4294967296) (some : 10 ≤ n) where
  tenth : digits 9 (n / 10) ≡ digits 8 (n / 10)
  tenth = digits_enough 8 (n / 10) (omega arith)

  pub decimal_more : decimal n ≡ decimal (n / 10) ++ glyph n ∷ []
  unfolding decimal
  decimal_more = rw (le-ltb n 10 some, tenth)

-- several digits at a time: those of xs behind those of ys
pieces : (n q r s : ℕ) (xs ys : List ℕ) → decimal n ≡ decimal q ++ xs → decimal q ≡ decimal r ++ ys → r ≡ s → decimal n ≡ decimal s ++ (ys ++ xs)
pieces n q r s xs ys last before e = last ∙ ap (λ (l : List ℕ). l ++ xs) (before ∙ ap (λ (m : ℕ). decimal m ++ ys) e) ∙ append_assoc (decimal s) ys xs

decimal_two_more : (n : ℕ) → n < 4294967296 → 100 ≤ n → decimal n ≡ decimal (n / 100) ++ two n
decimal_two_more n h some =
    pieces n (n / 10) (n / 10 / 10) (n / 100) (glyph n ∷ []) (glyph (n / 10) ∷ []) (decimal_more n h (omega arith)) (decimal_more (n / 10) (omega arith) (omega arith)) (omega arith)

pub decimal_three_more : (n : ℕ) → n < 4294967296 → 1000 ≤ n → decimal n ≡ decimal (n / 1000) ++ three n
decimal_three_more n h some =
    pieces n (n / 100) (n / 100 / 10) (n / 1000) (two n) (glyph (n / 100) ∷ []) (decimal_two_more n h (omega arith)) (decimal_more (n / 100) (omega arith) (omega arith)) (omega arith)

pub decimal_four_more : (n : ℕ) → n < 4294967296 → 10000 ≤ n → decimal n ≡ decimal (n / 10000) ++ four n
decimal_four_more n h some =
    pieces n (n / 100) (n / 100 / 100) (n / 10000) (two n) (two (n / 100)) (decimal_two_more n h (omega arith)) (decimal_two_more (n / 100) (omega arith) (omega arith)) (omega arith)

pub decimal_two : (n : ℕ) → 10 ≤ n → n < 100 → decimal n ≡ two n
decimal_two n some few = rw (decimal_more n (omega arith) some, decimal_one (n / 10) (omega arith)) refl

pub decimal_three : (n : ℕ) → 100 ≤ n → n < 1000 → decimal n ≡ three n
decimal_three n some few = rw (decimal_two_more n (omega arith) some, decimal_one (n / 100) (omega arith)) refl

-- the library's text of a number
pub library_decimal : (n : ℕ) → n < 4294967296 → printed n ≡ decimal n
library_decimal n h = decimal_by_steps (λ m ds. m < 4294967296 → ds ≡ decimal m) one further n (omega arith) h
  where
    one : (m : ℕ) → m < 10 → m < 4294967296 → (48 + m) ∷ [] ≡ decimal m
    one m small low = let e : m % 10 ≡ m = omega arith in rw (decimal_one m small, e) refl

    further : (m : ℕ) (ds : List ℕ) → 10 ≤ m → (m / 10 < 4294967296 → ds ≡ decimal (m / 10)) → m < 4294967296 → ds ++ (48 + m % 10) ∷ [] ≡ decimal m
    further m ds some p low = rw (decimal_more m low some, ← p (omega arith)) refl

-- .. as a call of it hands that over
pub said_decimal : {bytes text : List ℕ} (n : ℕ) → n < 4294967296 → bytes ≡ text → text ≡ printed n → bytes ≡ decimal n
said_decimal n h value text = value ∙ text ∙ library_decimal n h

-- == what the numbers are ==

digits_numeral : (k n : ℕ) → digits k n ≡ numeral (length (digits k n)) n
digits_numeral zero n = refl
digits_numeral (suc k) n = go (ltb n 10) (digits_numeral k (n / 10))
  where
    go :
        (t : Bool) → digits k (n / 10) ≡ numeral (length (digits k (n / 10))) (n / 10)
        → cond t (glyph n ∷ []) (digits k (n / 10) ++ glyph n ∷ []) ≡ numeral (length (cond t (glyph n ∷ []) (digits k (n / 10) ++ glyph n ∷ []))) n
    go true e = refl
    go false e = rw (more (digits k (n / 10)) (glyph n)) (ap (λ (x : List ℕ). x ++ glyph n ∷ []) e)

-- the digits that a number has
pub decimal_numeral : (n : ℕ) → decimal n ≡ numeral (length (decimal n)) n
unfolding decimal
decimal_numeral n = digits_numeral 9 n

-- a first digit other than 0
record Leads (l : List ℕ) : Type 0 where
  some : 0 < length l
  nonzero : get_or l 0 0 ≡ 48 → ⊥

leads_more : (l : List ℕ) (x : ℕ) → Leads l → Leads (l ++ x ∷ [])
leads_more [] x p = absurd (omega (arith, p.some))
leads_more (y ∷ l) x p = record { some = omega arith; nonzero = p.nonzero }

digits_lead : (k n : ℕ) → 0 < n → n < 10 ^ suc k → Leads (digits k n)
digits_lead zero n h l = record { some = omega arith; nonzero = λ e. omega arith }
digits_lead (suc k) n h l =
    each Leads (ltb n 10) (λ t. record { some = omega arith; nonzero = λ e. omega (arith, ltb-true n 10 t) })
    (λ t. leads_more (digits k (n / 10)) (glyph n) (digits_lead k (n / 10) (omega (arith, ltb-false n 10 t)) (omega (arith, pow-suc 10 (suc k)))))

-- no leading zero, but for 0 itself
pub no_leading_zero : (n : ℕ) → 0 < n → n < 4294967296 → get_or (decimal n) 0 0 ≡ 48 → ⊥
unfolding decimal
no_leading_zero n h l = (digits_lead 9 n h (omega arith)).nonzero
