-- A line taken byte by byte holds the line's fields.
-- Assumes nothing.
use mathlib.Core.Path.{◌≡◌, refl}
use mathlib.Core.List.{List, [], ◌∷◌, ◌++◌, append_assoc, append-nil, map}
use mathlib.Core.Bool.{Bool, true, false, cond, ◌&&◌, and-true, and-false}
use Prim.Native.Nat.{ℕ, suc, ◌+◌, ◌≤◌, ◌<◌, min}
use native.Mathlib.Omega.{arith}
use native.Mathlib.Nat.{pow-le-pow_right}
use borrow.Author.Tests.{lt-ltb, le-ltb, ne_eqb, ltb-true, ltb-false}
use lib.Dec.{ltb, eqb}
use lib.ListN.{length, length-append, take, set, replicate}
use Rattle.std.specs.Prelude.{Some, None, option_and_then}
use Rattle.std.proofs.lemmas.List.{set_past}
use Rattle.fields.specs.declared.Field.{Field}
use Rattle.fields.specs.Parted.{on_first, parts, are_digits, value_from, number_of, letter_of, field_of, fields_of}
use Rattle.fields.specs.Reading.{counted, blank, so_far, one_longer, longer, only, extended, held, gathered, held_fields, empty, placed, parted, push, pushes}
use Rattle.fields.proofs.Digits.{digits_more, value_more, value_below}

-- == a field ==

-- an empty field is as one whose digits say 0
so_far_is : (l : List ℕ) → so_far (field_of l) ≡ cond (are_digits l && ltb (length l) 10) (Some (value_from 0 l)) None
unfolding field_of
so_far_is [] = refl
so_far_is (x ∷ xs) = rw (ne_eqb (min (suc (length xs)) 10) 0 (λ e. omega arith), lt-ltb 0 (suc (length xs)) (omega arith), and-true)

longer_is : (l : List ℕ) (b : ℕ) → longer (field_of l) b ≡ number_of (l ++ b ∷ [])
unfolding longer field_of
longer_is l b = go (are_digits l) refl (ltb (length l) 9) refl
  where
    full : ltb (min (length l) 10) 9 ≡ false → (t : Bool) → option_and_then (one_longer (min (length l) 10) b) (cond t (Some (value_from 0 l)) None) ≡ None
    full e true = rw (e, and-false) refl
    full e false = refl

    go : (a : Bool) → are_digits l ≡ a → (t : Bool) → ltb (length l) 9 ≡ t → longer (field_of l) b ≡ number_of (l ++ b ∷ [])
    go false e t f = rw (so_far_is, digits_more, e)
    go true e false f =
        let long : 9 ≤ length l = omega (arith, ltb-false) in
        rw (so_far_is, full (le-ltb (min (length l) 10) 9 (omega arith)), length-append, le-ltb (length l + 1) 10 (omega arith), and-false) refl
    go true e true f =
        let room : length l ≤ 8 = omega (arith, ltb-true) in
        let low : value_from 0 l < 100000000 = omega (arith, value_below l 0 e, pow-le-pow_right {n = 10} (omega arith) room) in
        rw so_far_is
        (simp (digits_more, value_more, length-append, and-true, e, lt-ltb _ _ low, lt-ltb (length l) 10 (omega arith), lt-ltb (min (length l) 10) 9 (omega arith), lt-ltb 0 (length l + 1) (omega arith), lt-ltb (length l + 1) 10 (omega arith)))

only_is : (l : List ℕ) (b : ℕ) → only (field_of l) b ≡ letter_of (l ++ b ∷ [])
unfolding field_of
only_is [] b = refl
only_is (x ∷ []) b = refl
only_is (x ∷ y ∷ ys) b = rw (ne_eqb (min (suc (suc (length ys))) 10) 0 (λ e. omega arith))

-- a number counted up to most
pub counted_is : (n most : ℕ) → counted (min n most) most ≡ min (n + 1) most
counted_is n most = go (ltb (min n most) most) refl
  where
    go : (t : Bool) → ltb (min n most) most ≡ t → counted (min n most) most ≡ min (n + 1) most
    go true e = rw e (omega (arith, ltb-true))
    go false e = rw e (omega (arith, ltb-false))

-- a byte behind a field
pub extended_is : (l : List ℕ) (b : ℕ) → extended (field_of l) b ≡ field_of (l ++ b ∷ [])
unfolding extended field_of
extended_is l b = rw (longer_is l b, only_is l b, counted_is, length-append)

-- == the fields of a line ==

-- a field behind those that are kept: a fifth is not
kept_more : (before : List Field) (x : Field) → set (take 4 (before ++ replicate 4 blank)) (min (length before) 5) x ≡ take 4 ((before ++ x ∷ []) ++ replicate 4 blank)
kept_more [] x = refl
kept_more (p ∷ []) x = refl
kept_more (p ∷ q ∷ []) x = refl
kept_more (p ∷ q ∷ r ∷ []) x = refl
kept_more (p ∷ q ∷ r ∷ s ∷ []) x = refl
kept_more (p ∷ q ∷ r ∷ s ∷ t ∷ ts) x = set_past _ _ x (omega arith)

push_is :
    (before : List Field) (x : Field) (b : ℕ)
    → push (held before x) b ≡ cond (eqb b 9) (held (before ++ x ∷ []) (field_of [])) (held before (extended x b))
unfolding push parted placed field_of
push_is before x b = rw (kept_more, counted_is, length-append) refl

-- g put before the first part
abbrev pub onto : List ℕ → List (List ℕ) → List (List ℕ)
onto g [] = g ∷ []
onto g (p ∷ ps) = (g ++ p) ∷ ps

pub onto_first : (g : List ℕ) (b : ℕ) (ps : List (List ℕ)) → onto g (on_first b ps) ≡ onto (g ++ b ∷ []) ps
onto_first g b [] = refl
onto_first g b (p ∷ ps) = rw append_assoc

pub onto_none : (sep : ℕ) (l : List ℕ) → onto [] (parts sep l) ≡ parts sep l
onto_none sep [] = refl
onto_none sep (x ∷ xs) = go (eqb x sep) (parts sep xs)
  where
    go : (t : Bool) (ps : List (List ℕ)) → onto [] (cond t ([] ∷ ps) (on_first x ps)) ≡ cond t ([] ∷ ps) (on_first x ps)
    go true ps = refl
    go false [] = refl
    go false (p ∷ ps) = refl

-- there is always a part
gathered_more :
    (before : List Field) (x : Field) (ps : List (List ℕ))
    → gathered before (x ∷ map field_of (onto [] ps)) ≡ gathered (before ++ x ∷ []) (map field_of (onto [] ps))
gathered_more before x [] = refl
gathered_more before x (p ∷ ps) = refl

-- what the rest adds where the last field so far is g's
abbrev Gathers : List ℕ → List ℕ → List Field → Type 0
Gathers rest g before = pushes (held before (field_of g)) rest ≡ gathered before (map field_of (onto g (parts 9 rest)))

gathers : (rest g : List ℕ) (before : List Field) → Gathers rest g before
gathers [] g before = rw append-nil
gathers (b ∷ bs) g before = go (eqb b 9) refl (gathers bs)
  where
    go : (t : Bool) → eqb b 9 ≡ t → ((g : List ℕ) (before : List Field) → Gathers bs g before) → Gathers (b ∷ bs) g before
    go true e ih =
        let ended : pushes (held (before ++ field_of g ∷ []) (field_of [])) bs ≡ gathered before (field_of (g ++ []) ∷ map field_of (parts 9 bs)) =
        rw (append-nil, ← onto_none 9 bs, gathered_more) (ih [] _) in
        rw (push_is, e) ended
    go false e ih = rw (push_is, e, extended_is, onto_first, ih)

-- a line taken byte by byte
pub fields_held : (line : List ℕ) → pushes empty line ≡ held_fields (fields_of line)
unfolding fields_of field_of
fields_held line = rw (← onto_none 9 line) (gathers line [] [])
