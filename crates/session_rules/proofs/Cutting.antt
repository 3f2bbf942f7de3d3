-- However the input is cut into pieces, and however little of a piece a call takes, what is written is the answer to the whole input.
-- Assumes nothing.
use mathlib.Core.Path.{◌≡◌, refl, sym, ◌∙◌, ap}
use mathlib.Core.List.{List, [], ◌∷◌, ◌++◌, append_assoc, append-nil}
use mathlib.Core.Bool.{Bool, true, false, cond}
use Prim.Native.Nat.{ℕ, suc, ◌+◌, ◌-◌, ◌≤◌, ◌<◌, min}
use native.Mathlib.Omega.{arith}
use native.Mathlib.Nat.{add-zero}
use native.Mathlib.Numerals.{add-one}
use borrow.Author.Tests.{lt-ltb, le-ltb, ltb-true, ltb-false}
use lib.Dec.{ltb, eqb}
use lib.ListN.{length, take, length-append, length-take}
use lib.Seq.{take-nil, take_all}
use Rattle.fields.specs.declared.Fields.{Fields}
use Rattle.fields.specs.Parted.{parts}
use Rattle.fields.specs.Reading.{empty, push, pushes}
use Rattle.fields.proofs.Gathered.{counted_is, onto, onto_first, onto_none, fields_held}
use Rattle.line_rules.proofs.Choice.{either}
use Rattle.joined_rules.specs.declared.Pair.{Pair}
use Rattle.session_rules.specs.declared.Session.{Session}
use Rattle.records.proofs.Held.{held_record_lem}
use Rattle.session_rules.specs.Calls.{Said, line_reply, number, said_text}
use Rattle.rows.specs.Text.{counts_text}
use Rattle.session_rules.specs.Rows.{newlines, lacking}
use Rattle.session_rules.specs.Whole.{unless_empty, filled, lines_of, lines_taken, answers, refusals, texts, whole, answer_text}
use Rattle.session_rules.specs.Bytes.{goes_on, fresh, longer, pushed, held_reply, counted, ended, after, said, after_all, said_all, last_said}

-- == the input's lines, one by one ==

-- the lines of the input behind h, the start of its first line
abbrev lines_from : List ℕ → List ℕ → List (List ℕ)
lines_from h [] = unless_empty h
lines_from h (b ∷ bs) = cond (eqb b 10) (h ∷ lines_from [] bs) (lines_from (h ++ b ∷ []) bs)

-- there is always a part
filled_more : (h : List ℕ) (ps : List (List ℕ)) → filled (h ∷ onto [] ps) ≡ h ∷ filled (onto [] ps)
filled_more h [] = refl
filled_more h (p ∷ ps) = refl

lines_are : (input h : List ℕ) → lines_from h input ≡ filled (onto h (parts 10 input))
lines_are [] h = rw append-nil
lines_are (b ∷ bs) h = go (eqb b 10) refl (lines_are bs)
  where
    go : (t : Bool) → eqb b 10 ≡ t → ((h : List ℕ) → lines_from h bs ≡ filled (onto h (parts 10 bs))) → lines_from h (b ∷ bs) ≡ filled (onto h (parts 10 (b ∷ bs)))
    go true e ih =
        let ended : h ∷ lines_from [] bs ≡ filled ((h ++ []) ∷ parts 10 bs) =
        rw (append-nil, ← onto_none 10 bs, filled_more) (ap (λ (x : List (List ℕ)). h ∷ x) (ih [])) in
        rw e ended
    go false e ih = rw (e, onto_first, ih)

input_lines : (input : List ℕ) → lines_from [] input ≡ lines_of input
unfolding lines_of
input_lines input = lines_are input [] ∙ ap filled (onto_none 10 input)

-- 1 for a line that has begun
abbrev begun : List ℕ → ℕ
begun [] = 0
begun (x ∷ xs) = 1

begun_more : (h : List ℕ) (b : ℕ) → begun (h ++ b ∷ []) ≡ 1
begun_more [] b = refl
begun_more (x ∷ h) b = refl

count_from : (input h : List ℕ) → length (lines_from h input) ≡ newlines input + lacking (begun h) input
count_from [] [] = refl
count_from [] (x ∷ h) = refl
count_from (b ∷ bs) h = go (eqb b 10) refl (count_from bs)
  where
    go : (t : Bool) → eqb b 10 ≡ t → ((h : List ℕ) → length (lines_from h bs) ≡ newlines bs + lacking (begun h) bs) → length (lines_from h (b ∷ bs)) ≡ newlines (b ∷ bs) + lacking (begun h) (b ∷ bs)
    go true e ih = rw e (omega (arith, ih []))
    go false e ih = rw (e, ih, begun_more)

-- the input has as many lines as newlines, and one more where the last lacks its own
pub lines_counted : (input : List ℕ) → length (lines_of input) ≡ newlines input + lacking 0 input
lines_counted input = ap length (sym (input_lines input)) ∙ count_from input []

-- the first number of N
pub lines_taken_lem : (input : List ℕ) → length (lines_taken input) ≡ min 65535 (newlines input + lacking 0 input)
unfolding lines_taken
lines_taken_lem input = length-take 65535 (lines_of input) ∙ ap (λ (n : ℕ). min 65535 n) (lines_counted input)

-- == what is written from a line on ==

-- after n lines, f of them refused
abbrev rest : Pair → ℕ → ℕ → List (List ℕ) → List ℕ
rest p n f ls = texts (suc n) (answers p ls) ++ counts_text (n + length ls) (f + refusals (answers p ls))

-- a refused line counts as one
abbrev fault : Said → ℕ
fault s = cond (ltb 0 (number s)) 1 0

one_more : (f : ℕ) (s : Said) (ss : List Said) → f + refusals (s ∷ ss) ≡ f + fault s + refusals ss
one_more f s ss = go (ltb 0 (number s))
  where
    go : (t : Bool) → f + cond t (suc (refusals ss)) (refusals ss) ≡ f + cond t 1 0 + refusals ss
    go true = omega arith
    go false = omega arith

rest_more :
    (p : Pair) (n f : ℕ) (l : List ℕ) (ls : List (List ℕ))
    → rest p n f (l ∷ ls) ≡ said_text (suc n) (line_reply p l).said ++ rest (line_reply p l).pair (suc n) (f + fault (line_reply p l).said) ls
rest_more p n f l ls =
    let r = line_reply p l in
    let e : n + suc (length ls) ≡ suc n + length ls = omega arith in
    rw (append_assoc, e, one_more f r.said (answers r.pair ls))

rest_none : (p : Pair) (n f : ℕ) → rest p n f [] ≡ counts_text n f
rest_none p n f = rw (add-zero n, add-zero f)

-- == what the session holds of a line ==

-- h is the line under way
record Holds (s : Session) (h : List ℕ) : Type 0 where
  count : s.lines ≤ 65535
  few : s.refusals ≤ s.lines
  size : s.length ≡ min (length h) 65
  held : s.fields ≡ pushes empty h

held_is : {s : Session} {h : List ℕ} → Holds s h → held_reply s ≡ line_reply s.pair h
unfolding held_reply line_reply
held_is {s} {h} p = go (ltb 64 (length h)) refl
  where
    go : (t : Bool) → ltb 64 (length h) ≡ t → held_reply s ≡ line_reply s.pair h
    go true e = rw (e, lt-ltb 64 s.length (omega (arith, ltb-true, p.size)))
    go false e = rw (e, le-ltb 64 s.length (omega (arith, ltb-false, p.size)), p.held, fields_held h, held_record_lem)

pushes_more : (f : Fields) (h : List ℕ) (b : ℕ) → pushes f (h ++ b ∷ []) ≡ push (pushes f h) b
pushes_more f [] b = refl
pushes_more f (x ∷ h) b = pushes_more (push f x) h b

holds_push : {s : Session} {h : List ℕ} (b : ℕ) → Holds s h → Holds (pushed s b) (h ++ b ∷ [])
unfolding pushed
holds_push {s} {h} b p =
    record {
      count = p.count;
      few = p.few;
      size = ap longer p.size ∙ counted_is (length h) 65 ∙ ap (λ (n : ℕ). min n 65) (sym (length-append h (b ∷ [])));
      held = ap (λ f. push f b) p.held ∙ sym (pushes_more empty h b);
    }

-- a byte of a line changes nothing else
pushed_keeps : (s : Session) (b : ℕ) (P : Pair → ℕ → ℕ → List ℕ) → P (pushed s b).pair (pushed s b).lines (pushed s b).refusals ≡ P s.pair s.lines s.refusals
unfolding pushed
pushed_keeps s b P = refl

refusals_more : (n : ℕ) (s : Said) → n < 65535 → counted n (number s) ≡ n + fault s
refusals_more n s h = go (ltb 0 (number s)) refl
  where
    go : (t : Bool) → ltb 0 (number s) ≡ t → counted n (number s) ≡ n + fault s
    go true e = rw e (omega arith)
    go false e = rw e (omega arith)

fault_few : (s : Said) → fault s ≤ 1
fault_few s = either (λ (k : ℕ). k ≤ 1) (ltb 0 (number s)) (omega arith) (omega arith)

-- == a line's end ==

module _ {s : Session} {h : List ℕ} (p : Holds s h) (more : s.lines < 65535) where
  refused_is : counted s.refusals (number (held_reply s).said) ≡ s.refusals + fault (held_reply s).said
  refused_is = refusals_more s.refusals (held_reply s).said (omega (arith, p.few))

  holds_end : Holds (ended s) []
  unfolding ended
  holds_end =
      record {
        count = omega arith;
        few = omega (arith, p.few, refused_is, fault_few (held_reply s).said);
        size = refl;
        held = refl;
      }

  -- the lines behind it; more of them may be taken by one less
  end_is :
      (ls : ℕ → List (List ℕ))
      → rest (ended s).pair (ended s).lines (ended s).refusals (ls (ended s).lines)
      ≡ rest (line_reply s.pair h).pair (suc s.lines) (s.refusals + fault (line_reply s.pair h).said) (ls (suc s.lines))
  unfolding ended
  end_is ls = rw (refused_is, add-one, held_is p)

-- == a byte ==

module _ (s : Session) (b : ℕ) where
  stop_after : goes_on s ≡ false → after s b ≡ s
  unfolding after
  stop_after e = rw e

  stop_said : goes_on s ≡ false → said s b ≡ []
  unfolding said
  stop_said e = rw e

  line_after : goes_on s ≡ true → eqb b 10 ≡ true → after s b ≡ ended s
  unfolding after
  line_after e f = rw (e, f)

  line_said : goes_on s ≡ true → eqb b 10 ≡ true → said s b ≡ said_text (suc s.lines) (held_reply s).said
  unfolding said
  line_said e f = rw (e, f, add-one)

  more_after : goes_on s ≡ true → eqb b 10 ≡ false → after s b ≡ pushed s b
  unfolding after
  more_after e f = rw (e, f)

  more_said : goes_on s ≡ true → eqb b 10 ≡ false → said s b ≡ []
  unfolding said
  more_said e f = rw (e, f)

-- == the whole ==

-- after the last line that is taken nothing is looked at
module _ (s : Session) (e : goes_on s ≡ false) where
  stopped_last : last_said s ≡ counts_text s.lines s.refusals
  unfolding last_said
  stopped_last = rw (stop_said s 10 e, stop_after s 10 e) (go (ltb 0 s.length))
    where
      go : (t : Bool) → cond t (counts_text s.lines s.refusals) (counts_text s.lines s.refusals) ≡ counts_text s.lines s.refusals
      go true = refl
      go false = refl

  pub stopped_after : (input : List ℕ) → after_all s input ≡ s
  stopped_after [] = refl
  stopped_after (b ∷ bs) = rw (stop_after s b e) (stopped_after bs)

  pub stopped_said : (input : List ℕ) → said_all s input ≡ []
  stopped_said [] = refl
  stopped_said (b ∷ bs) = rw (stop_said s b e, stop_after s b e) (stopped_said bs)

-- what is written of the input behind the line under way
abbrev Claim : List ℕ → Session → List ℕ → Type 0
Claim input s h =
    said_all s input ++ last_said (after_all s input)
    ≡ rest s.pair s.lines s.refusals (take (65535 - s.lines) (lines_from h input))

no_more : (input : List ℕ) (s : Session) (h : List ℕ) → goes_on s ≡ false → Claim input s h
no_more input s h e =
    let z : 65535 - s.lines ≡ 0 = omega (arith, ltb-false) in
    rw (z, stopped_said s e input, stopped_after s e input, rest_none) (stopped_last s e)

last : {s : Session} (h : List ℕ) → Holds s h → Claim [] s h
unfolding last_said
last {s} h p = go (goes_on s) refl h p
  where
    go : (t : Bool) → goes_on s ≡ t → (h : List ℕ) → Holds s h → Claim [] s h
    go false e h p = no_more [] s h e
    go true e [] p = rw (le-ltb 0 s.length (omega (arith, p.size)), take-nil, rest_none)
    go true e (x ∷ xs) p =
        rw (lt-ltb 0 s.length (omega (arith, p.size)), take_all (65535 - s.lines) ((x ∷ xs) ∷ []) (omega (arith, ltb-true)), line_said s 10 e refl, line_after s 10 e refl, held_is p, rest_more)
        (ap (λ (t : List ℕ). said_text (suc s.lines) (line_reply s.pair (x ∷ xs)).said ++ t)
        (sym (rest_none (ended s).pair (ended s).lines (ended s).refusals) ∙ end_is p (ltb-true _ _ e) (λ _. [])))

step :
    (b : ℕ) (bs : List ℕ) {s : Session} (h : List ℕ) → Holds s h
    → ((s : Session) (h : List ℕ) → Holds s h → Claim bs s h) → Claim (b ∷ bs) s h
step b bs {s} h p ih = go (goes_on s) refl (eqb b 10) refl
  where
    go : (t : Bool) → goes_on s ≡ t → (u : Bool) → eqb b 10 ≡ u → Claim (b ∷ bs) s h
    go false e u f = no_more (b ∷ bs) s h e
    go true e true f =
        let k : 65535 - s.lines ≡ suc (65535 - suc s.lines) = omega (arith, ltb-true) in
        rw (f, k, append_assoc (said s b), line_said s b e f, line_after s b e f, ih (ended s) [] (holds_end p (ltb-true _ _ e)), held_is p, rest_more)
        (ap (λ (t : List ℕ). said_text (suc s.lines) (line_reply s.pair h).said ++ t)
        (end_is p (ltb-true _ _ e) (λ n. take (65535 - n) (lines_from [] bs))))
    go true e false f =
        rw (f, more_said s b e f, more_after s b e f, ih (pushed s b) (h ++ b ∷ []) (holds_push b p))
        (pushed_keeps s b (λ q n f. rest q n f (take (65535 - n) (lines_from (h ++ b ∷ []) bs))))

claim : (input : List ℕ) (s : Session) (h : List ℕ) → Holds s h → Claim input s h
claim [] s h p = last h p
claim (b ∷ bs) s h p = step b bs h p (λ t g q. claim bs t g q)

-- from the first line on
rest_first : (p : Pair) (ls : List (List ℕ)) → rest p 0 0 ls ≡ whole ls (answers p ls)
rest_first p ls =
    let e : 0 + length ls ≡ length ls = omega arith in
    let f : 0 + refusals (answers p ls) ≡ refusals (answers p ls) = omega arith in
    rw (e, f)

-- in one piece
pub whole_input : (input : List ℕ) → said_all fresh input ++ last_said (after_all fresh input) ≡ answer_text input
unfolding answer_text lines_taken
whole_input input =
    claim input fresh [] (record { count = omega arith; few = omega arith; size = refl; held = refl })
    ∙ rest_first fresh.pair (take 65535 (lines_from [] input))
    ∙ ap (λ ls. whole (take 65535 ls) (answers fresh.pair (take 65535 ls))) (input_lines input)
