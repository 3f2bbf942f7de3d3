-- The parser's law: a line of a known shape is exactly what a printer of its record writes, leading zeros aside.
-- Assumes nothing.
use mathlib.Core.Path.{◌≡◌, refl, sym, subst, ap}
use mathlib.Core.List.{List, [], ◌∷◌, ◌++◌, append_assoc, append-nil, map}
use mathlib.Core.Bool.{Bool, true, false, cond, ◌&&◌}
use Prim.Native.Nat.{ℕ, zero, suc, ◌+◌, ◌*◌, ◌/◌, ◌%◌, ◌^◌, ◌≤◌, ◌<◌, min}
use native.Mathlib.Numerals.{add-one}
use native.Mathlib.Omega.{arith}
use borrow.Author.Tests.{lt-ltb, le-leb, ne_eqb, ltb-true, leb-true, eqb-true}
use lib.Dec.{ltb, leb, eqb}
use lib.ListN.{length, length-append}
use Rattle.std.specs.Prelude.{Option, Some, None, option_and_then, option_map}
use Rattle.std.proofs.lemmas.Option.{none-some, cond_some, option_and_then_some}
use Rattle.line_rules.specs.declared.Unit.{Unit}
use Rattle.line_rules.specs.declared.Unit.TheVariants.{A, B}
use Rattle.line_rules.proofs.Choice.{each, all}
use Rattle.line_rules.proofs.Table.{both}
use Rattle.fields.specs.Parted.{parts, on_first, numeral, number_of, letter_of, field_of, fields_of}
use Rattle.fields.proofs.Gathered.{onto, onto_first, onto_none}
use Rattle.fields.proofs.Numerals.{length_numeral, reads_numeral, number_is}
use Rattle.records.specs.declared.Record.{Record}
use Rattle.records.specs.declared.Record.TheVariants.{Write, Read, Pins, Reset, Ticks, Wait}
use Rattle.rows.specs.Text.{digits, decimal, tabbed}
use Rattle.records.specs.Records.{unit_named, unit_of, up_to, byte_of, count_of, limit_of, two, three, four, five, record_of}
use Rattle.records.specs.Printed.{Column, Letter, Number, letter_of_unit, Named, columns, proper, Prints, nothing, a_letter, a_number, Printed, field, print}
use Rattle.rows.proofs.Decimals.{decimal_numeral}

-- == parts and tabs ==

-- a byte before the first part, and a tab before a part
text_first : (x : ℕ) (ps : List (List ℕ)) → tabbed (on_first x ps) [] ≡ x ∷ tabbed ps []
text_first x [] = refl
text_first x (p ∷ []) = refl
text_first x (p ∷ q ∷ qs) = refl

text_tab : (ps : List (List ℕ)) → tabbed ([] ∷ onto [] ps) [] ≡ 9 ∷ tabbed (onto [] ps) []
text_tab [] = refl
text_tab (p ∷ ps) = refl

-- the parts of a line, tabbed, are the line
tabbed_parts : (line : List ℕ) → tabbed (parts 9 line) [] ≡ line
tabbed_parts [] = refl
tabbed_parts (x ∷ xs) = go (eqb x 9) refl (tabbed_parts xs)
  where
    go : (t : Bool) → eqb x 9 ≡ t → tabbed (parts 9 xs) [] ≡ xs → tabbed (cond t ([] ∷ parts 9 xs) (on_first x (parts 9 xs))) [] ≡ x ∷ xs
    go true e ih = rw (eqb-true x 9 e, ← onto_none 9 xs, text_tab, onto_none, ih)
    go false e ih = rw (text_first, ih)

-- a numeral holds no tab
parts_numeral : (k n : ℕ) (rest : List ℕ) → parts 9 (numeral k n ++ rest) ≡ onto (numeral k n) (parts 9 rest)
parts_numeral zero n rest = sym (onto_none 9 rest)
parts_numeral (suc k) n rest = rw (append_assoc, parts_numeral k (n / 10), ne_eqb (48 + n % 10) 9 (λ e. omega arith), onto_first)

-- == what is read is printed ==

join : {cs ds : List Column} {fs gs : List (List ℕ)} → Prints cs fs → Prints ds gs → Prints (cs ++ ds) (fs ++ gs)
join nothing q = q
join (a_letter p) q = a_letter (join p q)
join (a_number k some few low p) q = a_number k some few low (join p q)

-- if the record is known, the line is that record, printed
abbrev pub Known : List ℕ → Option Record → Type 0
Known line o = (r : Record) → o ≡ Some r → Printed r line

unknown : {line : List ℕ} → Known line None
unknown r e = absurd (none-some r e)

-- what is read of a field, and a record from that
from : {X : Type 0} {line : List ℕ} (o : Option X) {r : X → Option Record} → ((x : X) → o ≡ Some x → Known line (r x)) → Known line (option_and_then r o)
from o {r} h y e = option_and_then_some r o y e (λ x is known. h x is y known)

last : {X : Type 0} {line : List ℕ} (o : Option X) {r : X → Record} → ((x : X) → o ≡ Some x → Printed (r x) line) → Known line (option_map r o)
last None h y e = absurd (none-some y e)
last {line = line} (Some x) {r} h y e = subst (λ (z : Record). Printed z line) (cond_some true (r x) y e).1 (h x refl)

printed : (r : Record) {fs : List (List ℕ)} → proper r ≡ true → Prints (columns r) fs → Printed r (tabbed fs [])
printed r w p = record { within = w; fields = _; prints = p; text = refl }

-- a field that reads as a letter, as a unit, and as a number up to a limit
lettered : (l : List ℕ) (b : ℕ) → letter_of l ≡ Some b → Prints (Letter b ∷ []) (l ∷ [])
lettered [] b e = absurd (none-some b e)
lettered (x ∷ []) b e = rw (← (cond_some true x b e).1) (a_letter nothing)
lettered (x ∷ y ∷ ys) b e = absurd (none-some b e)

-- a line of the kind c, or of another
kind :
    {line l : List ℕ} {b c : ℕ} {x y : Option Record} → (field_of l).letter ≡ Some b
    → (Prints (Letter c ∷ []) (l ∷ []) → Known line x) → Known line y → Known line (cond (eqb b c) x y)
unfolding field_of
kind {line} {l} {b} {c} e this other = each (Known line) (eqb b c) (λ t. this (lettered l c (rw (e, eqb-true b c t) refl))) (λ t. other)

unit : (u : Unit) (l : List ℕ) → unit_of (field_of l) ≡ Some u → Prints (Named u ∷ []) (l ∷ [])
unfolding field_of
unit u l e = option_and_then_some unit_named (letter_of l) u e (λ b is named. lettered l (letter_of_unit u) (rw is (ap Some (by_letter b u named))))
  where
    by_letter : (b : ℕ) (u : Unit) → unit_named b ≡ Some u → b ≡ letter_of_unit u
    by_letter b u e = go (eqb b 65) refl e
      where
        go : (t : Bool) → eqb b 65 ≡ t → cond t (Some A) (cond (eqb b 66) (Some B) None) ≡ Some u → b ≡ letter_of_unit u
        go true t e = rw (← (cond_some true A u e).1) (eqb-true b 65 t)
        go false t e = let c = cond_some (eqb b 66) B u e in rw (← c.1) (eqb-true b 66 c.0)

-- .. whose value is within it
abbrev Reads : ℕ → ℕ → List ℕ → Type 0
Reads limit n l = (leb n limit ≡ true) × Prints (Number n ∷ []) (l ∷ [])

numbered : (limit n : ℕ) (l : List ℕ) → leb limit 99999 ≡ true → up_to limit (field_of l) ≡ Some n → Reads limit n l
unfolding field_of
numbered limit n l small e =
    option_and_then_some (λ m. cond (leb (min (length l) 10) 5 && leb m limit) (Some m) None) (number_of l) n e
    (λ m is up.
    let c = cond_some (leb (min (length l) 10) 5 && leb m limit) m n up in
    let t = both (leb (min (length l) 10) 5) (leb m limit) c.0 in
    let q = number_is l n (rw (is, c.1) refl) in
    (rw (← c.1) t.1, subst (λ (f : List ℕ). Prints (Number n ∷ []) (f ∷ [])) (sym q.text) (a_number (length l) q.some (omega (arith, leb-true)) q.within nothing)))

fields_printed : (fs : List (List ℕ)) → Known (tabbed fs []) (record_of (map field_of fs))
unfolding two three four five
fields_printed [] = unknown
fields_printed (k ∷ []) = unknown
fields_printed (k ∷ u ∷ []) =
    from (field_of k).letter (λ b e.
    kind e (λ z. last (unit_of (field_of u)) (λ x is. printed _ refl (join z (unit x u is))))
    (kind e (λ l. last (count_of (field_of u)) (λ n is. let q = numbered _ n u refl is in printed _ q.0 (join l q.1))) unknown))
fields_printed (k ∷ u ∷ a ∷ []) =
    from (field_of k).letter (λ b e.
    kind e
    (λ r. from (unit_of (field_of u)) (λ x is. last (byte_of (field_of a)) (λ n low.
    let q = numbered _ n a refl low in printed _ q.0 (join r (join (unit x u is) q.1)))))
    (kind e
    (λ w. from (unit_of (field_of u)) (λ x is. last (limit_of (field_of a)) (λ n low.
    let q = numbered _ n a refl low in printed _ q.0 (join w (join (unit x u is) q.1)))))
    unknown))
fields_printed (k ∷ u ∷ a ∷ v ∷ []) =
    from (field_of k).letter (λ b e.
    kind e
    (λ w. from (unit_of (field_of u)) (λ x is. from (byte_of (field_of a)) (λ m la. last (byte_of (field_of v)) (λ n lv.
    let p = numbered _ m a refl la in
    let q = numbered _ n v refl lv in
    printed _ (all p.0 q.0) (join w (join (unit x u is) (join p.1 q.1)))))))
    unknown)
fields_printed (k ∷ u ∷ s ∷ d ∷ c ∷ []) =
    from (field_of k).letter (λ b e.
    kind e
    (λ w. from (unit_of (field_of u)) (λ x is. from (byte_of (field_of s)) (λ l ls. from (byte_of (field_of d)) (λ m ld. last (byte_of (field_of c)) (λ n lc.
    let o = numbered _ l s refl ls in
    let p = numbered _ m d refl ld in
    let q = numbered _ n c refl lc in
    printed _ (all (all o.0 p.0) q.0) (join w (join (unit x u is) (join o.1 (join p.1 q.1)))))))))
    unknown)
fields_printed (k ∷ u ∷ a ∷ b ∷ v ∷ w ∷ ws) = unknown

-- a line of a known shape is its record, printed
pub reads_printed : (line : List ℕ) (r : Record) → record_of (fields_of line) ≡ Some r → Printed r line
unfolding fields_of
reads_printed line = subst (λ (x : List ℕ). Known x (record_of (fields_of line))) (tabbed_parts line) (fields_printed (parts 9 line))

-- == what is printed is read ==

-- a letter, a unit, and a number of 1 to 5 digits
letter_read : (b : ℕ) → (field_of (b ∷ [])).letter ≡ Some b
unfolding field_of
letter_read b = refl

unit_read : (u : Unit) → unit_of (field_of (letter_of_unit u ∷ [])) ≡ Some u
unfolding field_of
unit_read A = refl
unit_read B = refl

-- a unit is no tab
no_tab : (u : Unit) → eqb (letter_of_unit u) 9 ≡ false
no_tab A = refl
no_tab B = refl

number_read : {k n : ℕ} (limit : ℕ) → 0 < k → k ≤ 5 → n < 10 ^ k → leb n limit ≡ true → up_to limit (field_of (numeral k n)) ≡ Some n
unfolding field_of
number_read {k} {n} limit some few low w = rw (reads_numeral k n some (omega arith) low, length_numeral, le-leb (min k 10) 5 (omega arith), w) refl

record_read : (r : Record) {fs : List (List ℕ)} → proper r ≡ true → Prints (columns r) fs → record_of (fields_of (tabbed fs [])) ≡ Some r
unfolding fields_of two three four five
record_read (Write u a v) w (a_letter (a_letter (a_number j p q h (a_number k p' q' h' nothing)))) =
    let t = both (leb a 255) (leb v 255) w in
    rw (no_tab u, parts_numeral j a _, parts_numeral k v _, append-nil, append-nil, unit_read, letter_read, number_read _ p q h t.0, number_read _ p' q' h' t.1) refl
record_read (Read u a) w (a_letter (a_letter (a_number k p q h nothing))) =
    rw (no_tab u, parts_numeral k a _, append-nil, unit_read, letter_read, number_read _ p q h w) refl
record_read (Pins u a b c) w (a_letter (a_letter (a_number i p q h (a_number j p' q' h' (a_number k p'' q'' h'' nothing))))) =
    let t = both (leb a 255 && leb b 255) (leb c 255) w in
    let s = both (leb a 255) (leb b 255) t.0 in
    rw (no_tab u, parts_numeral i a _, parts_numeral j b _, parts_numeral k c _, append-nil, append-nil, append-nil, unit_read, letter_read)
    (rw (number_read _ p q h s.0, number_read _ p' q' h' s.1, number_read _ p'' q'' h'' t.1) refl)
record_read (Reset u) w (a_letter (a_letter nothing)) = rw (no_tab u, unit_read, letter_read) refl
record_read (Ticks n) w (a_letter (a_number k p q h nothing)) = rw (parts_numeral k n _, append-nil, letter_read, number_read _ p q h w) refl
record_read (Wait u n) w (a_letter (a_letter (a_number k p q h nothing))) =
    rw (no_tab u, parts_numeral k n _, append-nil, unit_read, letter_read, number_read _ p q h w) refl

-- a record, printed, is read
pub printed_reads : {r : Record} {line : List ℕ} → Printed r line → record_of (fields_of line) ≡ Some r
printed_reads {r} p = rw p.text (record_read r p.within p.prints)

-- == the printer ==

-- l is long enough for n, and no longer than m
abbrev Fits : ℕ → ℕ → List ℕ → Type 0
Fits m n l = (0 < length l) × (length l ≤ m) × (n < 10 ^ length l)

digits_fit : (k m n : ℕ) → n < 10 ^ suc k → n < 10 ^ suc m → Fits (suc m) n (digits k n)
digits_fit zero m n h g = (omega arith, omega arith, h)
digits_fit (suc k) zero n h g = rw (lt-ltb n 10 g) (omega arith, omega arith, g)
digits_fit (suc k) (suc m) n h g =
    each (Fits (suc (suc m)) n) (ltb n 10) (λ e. (omega arith, omega arith, ltb-true n 10 e))
    (λ e. let t = digits_fit k m (n / 10) (omega arith) (omega arith) in rw (length-append, add-one) (omega arith, omega arith, omega arith))

decimal_before : {cs : List Column} {fs : List (List ℕ)} (n : ℕ) → n ≤ 99999 → Prints cs fs → Prints (Number n ∷ cs) (decimal n ∷ fs)
unfolding decimal
decimal_before n h rest = let t = digits_fit 9 4 n (omega arith) (omega arith) in rw (decimal_numeral n) (a_number (length (decimal n)) t.0 t.1 t.2 rest)

prints_columns : (r : Record) → proper r ≡ true → Prints (columns r) (map field (columns r))
prints_columns (Write u a v) w =
    let t = both (leb a 255) (leb v 255) w in
    a_letter (a_letter (decimal_before a (omega (arith, leb-true a 255 t.0)) (decimal_before v (omega (arith, leb-true v 255 t.1)) nothing)))
prints_columns (Read u a) w = a_letter (a_letter (decimal_before a (omega (arith, leb-true a 255 w)) nothing))
prints_columns (Pins u a b c) w =
    let t = both (leb a 255 && leb b 255) (leb c 255) w in
    let s = both (leb a 255) (leb b 255) t.0 in
    a_letter
    (a_letter
    (decimal_before a (omega (arith, leb-true a 255 s.0))
    (decimal_before b (omega (arith, leb-true b 255 s.1)) (decimal_before c (omega (arith, leb-true c 255 t.1)) nothing))))
prints_columns (Reset u) w = a_letter (a_letter nothing)
prints_columns (Ticks n) w = a_letter (decimal_before n (omega (arith, leb-true n 65535 w)) nothing)
prints_columns (Wait u n) w = a_letter (a_letter (decimal_before n (omega (arith, leb-true n 99999 w)) nothing))

-- the printer prints
pub print_printed : (r : Record) → proper r ≡ true → Printed r (print r)
print_printed r w = record { within = w; fields = map field (columns r); prints = prints_columns r w; text = refl }

-- and what it prints reads back
pub reads_print : (r : Record) → proper r ≡ true → record_of (fields_of (print r)) ≡ Some r
reads_print r w = printed_reads (print_printed r w)

-- == how long a printed line is ==

-- the bytes of fields, each with a tab
abbrev total : List (List ℕ) → ℕ
total [] = 0
total (f ∷ fs) = suc (length f) + total fs

tabbed_short : (fs : List (List ℕ)) → length (tabbed fs []) ≤ total fs
tabbed_short [] = omega arith
tabbed_short (f ∷ []) = rw append-nil (omega arith)
tabbed_short (f ∷ g ∷ gs) = rw length-append (omega (arith, tabbed_short (g ∷ gs)))

prints_short : {cs : List Column} {fs : List (List ℕ)} → Prints cs fs → total fs ≤ 6 * length cs
prints_short nothing = omega arith
prints_short (a_letter p) = omega (arith, prints_short p)
prints_short (a_number {n} k some few low p) = omega (arith, prints_short p, length_numeral k n)

columns_few : (r : Record) → length (columns r) ≤ 5
columns_few (Write u a v) = omega arith
columns_few (Read u a) = omega arith
columns_few (Pins u a b c) = omega arith
columns_few (Reset u) = omega arith
columns_few (Ticks n) = omega arith
columns_few (Wait u n) = omega arith

pub printed_short : {r : Record} {line : List ℕ} → Printed r line → length line ≤ 30
printed_short {r} q = rw q.text (omega (arith, tabbed_short q.fields, prints_short q.prints, columns_few r))
