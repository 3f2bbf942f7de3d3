-- Bytes that are taken in parts: what is left of a piece, the session that has taken one part more, and what stays unread; and the counts at the end.
-- Assumes nothing.
use Prim.Native.Nat.{ℕ, ◌+◌, ◌-◌, ◌≤◌, ◌<◌}
use Prim.Native.Char.{code}
use native.Mathlib.Omega.{arith}
use mathlib.Core.Path.{◌≡◌, refl, sym, ap, ◌∙◌, subst}
use mathlib.Core.Bool.{Bool, true, false, cond, not, ◌&&◌, true≢false}
use mathlib.Core.List.{List, [], ◌∷◌, ◌++◌, append-nil}
use borrow.Author.Tests.{lt-ltb, le-ltb, ltb-true, ltb-false}
use lib.Dec.{ltb}
use denote.Enum.Bare.{sameb}
use lib.ListN.{length, take, drop, length-drop, length-append, take-append-drop}
use lib.Seq.{length-take-le, take_all}
use Rattle.line_rules.proofs.Choice.{each, either}
use Rattle.rows.specs.Text.{counts_text}
use Rattle.session_rules.specs.declared.Session.{Session}
use Rattle.std.specs.Prelude.{Option, None, Some, Result, Ok, Err, IfOk, OnOk, OnErr, IsErr, is_ok, ◌≢◌, ◌==◌}
use Rattle.std.specs.Io.{ReadsAtMost}
use Rattle.std.specs.Io.KnownBytes.{Appends, Consumes, IsAtEnd, ReadConsumes}
use Rattle.std.proofs.lemmas.List.{append_assoc}
use Rattle.std.proofs.KnownBytes.{Appends-nil, Appends-trans, Consumes-nil, Consumes-trans}
use Rattle.session_rules.specs.Whole.{answer_text}
use Rattle.session_rules.specs.Bytes.{fresh, taken, goes_on, after, said, after_all, said_all, last_said}
use Rattle.session_rules.proofs.Cutting.{stopped_after, stopped_said, whole_input}
use Rattle.session_rules.proofs.Pieces.{taken_few, takes_some}
use Rattle.session_rules.proofs.Feeding.{after_append, said_append}
use Rattle.run_session.specs.contracts.Next.{the_type}
use Rattle.run_session.specs.declared.Next.{Next}
use Rattle.run_session.specs.declared.Next.TheVariants.{More, Ended, RestUnread}
use Rattle.run_session.specs.declared.Failed.{Failed}
use Rattle.run_session.specs.declared.Failed.TheVariants.{Unread}
use Rattle.run_session.specs.Passing.{Passed, AnswersAll}
use Rattle.run_session.specs.Goes.{more, rest, TookSome, TookAll, stays_unread, Answered, Fed, last_of, closed, refused_of}

-- `&piece[from..]`
abbrev pub left : List ℕ → ℕ → List ℕ
left piece from = take (length piece - from) (drop from piece)

module _ (piece : List ℕ) (from : ℕ) (h : from ≤ length piece) where
  pub left_length : length (left piece from) ≡ length piece - from
  left_length = length-take-le (length piece - from) (drop from piece) (omega (arith, length-drop from piece))

  -- the piece is what stands before and what is left
  pub parted : take from piece ++ left piece from ≡ piece
  parted =
      ap (λ (l : List ℕ). take from piece ++ l) (take_all (length piece - from) (drop from piece) (omega (arith, length-drop from piece))) ∙ take-append-drop from piece

-- bytes that are not found to be none are one or more
pub some_bytes : (l : List ℕ) (none : Bool) → none ≡ (length l == 0) → none ≡ false → 0 < length l
some_bytes [] none is off = absurd (true≢false (sym is ∙ off))
some_bytes (b ∷ l) none is off = omega (arith)

-- with room for a line some of the piece is taken, where there is any
pub some_taken : (s t : Session) (piece : List ℕ) (room used : ℕ) → used ≡ taken s piece room → 32 ≤ room → t ≡ after_all s (take used piece) → TookSome s piece t used
some_taken s t piece room used u any goes = record {
  within = rw u (taken_few s piece room);
  some = λ h. rw u (takes_some s piece room h any);
  session = goes;
}

pub no_answer : {E A : Type 0} (P : A → Type 0) (r : Result A E) → IsErr r → IfOk r P
no_answer P (Ok x) bad = absurd (true≢false (sym bad))
no_answer P (Err e) bad = tt

-- so far a piece has been taken up to what is left of it, and what the session said to that is written
pub record SoFar (s : Session) (all left : List ℕ) (t : Session) (held₀ held : Option (List ℕ)) : Type 0 where
  pub done : List ℕ
  pub parts : all ≡ done ++ left
  pub session : t ≡ after_all s done
  pub said : Appends held₀ held (said_all s done)

pub none_taken : (s : Session) (piece : List ℕ) (held : Option (List ℕ)) → SoFar s piece piece s held held
none_taken s piece held = record { done = []; parts = refl; session = refl; said = Appends-nil held }

pub part_taken : {s t u : Session} {piece rest : List ℕ} {a b c : Option (List ℕ)} (used : ℕ) → used ≤ length rest → SoFar s piece rest t a b
    → u ≡ after_all t (take used rest) → Appends b c (said_all t (take used rest)) → SoFar s piece (left rest used) u a c
part_taken {s} {t} {u} {piece} {rest} {a} {b} {c} used within so_far goes said =
    let part : List ℕ = take used rest in
    let both : said_all s so_far.done ++ said_all t part ≡ said_all s (so_far.done ++ part) =
    ap (λ (v : Session). said_all s so_far.done ++ said_all v part) so_far.session ∙ sym (said_append s so_far.done part) in
    record {
      done = so_far.done ++ part;
      parts = so_far.parts ∙ ap (λ (l : List ℕ). so_far.done ++ l) (sym (parted rest used within)) ∙ sym (append_assoc so_far.done part (left rest used));
      session = goes ∙ ap (λ (v : Session). after_all v part) so_far.session ∙ sym (after_append s so_far.done part);
      said = subst (Appends a c) both (Appends-trans a b c _ _ so_far.said said);
    }

-- where nothing is left
module _ {s t : Session} {piece : List ℕ} {a b : Option (List ℕ)} (left : List ℕ) (none : length left ≡ 0) (so_far : SoFar s piece left t a b) where
  all_done : so_far.done ≡ piece
  all_done = sym (so_far.parts ∙ ap (λ (l : List ℕ). so_far.done ++ l) (nil left none) ∙ append-nil so_far.done)
    where
      nil : (l : List ℕ) → length l ≡ 0 → l ≡ []
      nil [] e = refl
      nil (x ∷ l) e = absurd (omega (arith, e))

  pub all_taken : {n : Next} → more n ≡ goes_on t → rest n ≡ false → TookAll s piece t n
  all_taken m r = record { session = so_far.session ∙ ap (λ (l : List ℕ). after_all s l) all_done; more = m; rest = r }

  pub all_said : Appends a b (said_all s piece)
  all_said = subst (λ (l : List ℕ). Appends a b (said_all s l)) all_done so_far.said

pub no_more : (n : Next) → n ≢ More → more n ≡ false
no_more More off = absurd (off refl)
no_more Ended off = refl
no_more RestUnread off = refl

-- == the rest stays unread ==

-- where lines are still taken, none of the bytes stayed unread
pub none_unread : (s : Session) (bs : List ℕ) → goes_on (after_all s bs) ≡ true → stays_unread s bs ≡ false
none_unread s [] e = refl
none_unread s (b ∷ bs) e =
    each (λ (u : Bool). u ≡ false) (goes_on s) (λ f. none_unread (after s b) bs e) (λ f. absurd (true≢false (sym e ∙ ap (λ (t : Session). goes_on t) (stopped_after s f (b ∷ bs)) ∙ f)))

-- behind bytes of which none did it is a matter of the others
pub unread_behind : (s : Session) (a b : List ℕ) → stays_unread s a ≡ false → stays_unread s (a ++ b) ≡ stays_unread (after_all s a) b
unread_behind s [] b e = refl
unread_behind s (x ∷ a) b e =
    each (λ (u : Bool). u ≡ stays_unread (after_all (after s x) a) b) (goes_on s) (λ f. unread_behind (after s x) a b (rw f at e)) (λ f. absurd (true≢false (rw f at e)))

-- behind the last line that is taken every byte does
pub all_unread : (s : Session) (a b : List ℕ) → goes_on (after_all s a) ≡ false → 0 < length b → stays_unread s (a ++ b) ≡ true
all_unread s [] [] e any = absurd (omega (arith, any))
all_unread s [] (y ∷ b) e any = rw e
all_unread s (x ∷ a) b e any = either (λ (u : Bool). u ≡ true) (goes_on s) (all_unread (after s x) a b e any) refl

-- a byte that comes while lines are taken does not
pub not_unread : (s : Session) (bytes : List ℕ) → length bytes ≡ 1 → goes_on s ≡ true → stays_unread s bytes ≡ false
not_unread s [] e on = absurd (omega (arith, e))
not_unread s (b ∷ []) e on = rw on
not_unread s (b ∷ c ∷ bs) e on = absurd (omega (arith, e))

-- no bytes are the input's end
pub ended : (s : Session) (bytes : List ℕ) → length bytes ≡ 0 → Answered s bytes s Ended
ended s [] e = record { session = refl; more = refl; rest = refl }
ended s (b ∷ bs) e = absurd (omega (arith, e))

-- a piece of which all but the last byte is fed, and then, if lines are still taken, that byte
module _ (s : Session) (piece : List ℕ) (last : ℕ) (h : last + 1 ≡ length piece) {before : Session} {n : Next} (fed : TookAll s (take last piece) before n) where
  one_left : length (left piece last) ≡ 1
  one_left = omega (arith, left_length piece last (omega (arith, h)), h)

  whole_piece : take last piece ++ left piece last ≡ piece
  whole_piece = parted piece last (omega (arith, h))

  both_fed : after_all before (left piece last) ≡ after_all s piece
  both_fed =
      ap (λ (u : Session). after_all u (left piece last)) fed.session ∙ sym (after_append s (take last piece) (left piece last))
      ∙ ap (λ (l : List ℕ). after_all s l) whole_piece

  rest_took : more n ≡ true → {t : Session} {m : Next} → TookAll before (left piece last) t m → Answered s piece t m
  rest_took m u =
      let on : goes_on before ≡ true = sym fed.more ∙ m in
      let none : stays_unread s (take last piece) ≡ false = none_unread s (take last piece) (ap (λ (u : Session). goes_on u) (sym fed.session) ∙ on) in
      record {
        session = u.session ∙ both_fed;
        more = rw (lt-ltb 0 (length piece) (omega (arith, h))) u.more;
        rest =
            u.rest
            ∙ sym (ap (λ (l : List ℕ). stays_unread s l) (sym whole_piece) ∙ unread_behind s (take last piece) (left piece last) none
            ∙ ap (λ (u : Session). stays_unread u (left piece last)) (sym fed.session) ∙ not_unread before (left piece last) one_left on);
      }

  pub rest_fed : n ≡ More → (t : Session) (went : Result Next Failed) → IfOk went (λ m. TookAll before (left piece last) t m) → IfOk went (λ m. Answered s piece t m)
  rest_fed m t (Ok next) u = rest_took (ap (λ (k : Next). more k) m) u
  rest_fed m t (Err failed) u = tt

  pub rest_unread : more n ≡ false → Answered s piece before RestUnread
  rest_unread m =
      let off : goes_on before ≡ false = sym fed.more ∙ m in
      record {
        session = sym (stopped_after before off (left piece last)) ∙ both_fed;
        more = rw (lt-ltb 0 (length piece) (omega (arith, h))) (sym off);
        rest =
            sym (ap (λ (l : List ℕ). stays_unread s l) (sym whole_piece)
            ∙ all_unread s (take last piece) (left piece last) (ap (λ (u : Session). goes_on u) (sym fed.session) ∙ off) (omega (arith, one_left)));
      }

  both_said : said_all s (take last piece) ++ said_all before (left piece last) ≡ said_all s piece
  both_said =
      ap (λ (u : Session). said_all s (take last piece) ++ said_all u (left piece last)) fed.session ∙ sym (said_append s (take last piece) (left piece last))
      ∙ ap (λ (l : List ℕ). said_all s l) whole_piece

  -- what was said to all but the last byte is written, and then what was said to that byte
  pub rest_said : (a b c : Option (List ℕ)) (went : Result Next Failed) → Appends a b (said_all s (take last piece))
      → OnOk went (Appends b c (said_all before (left piece last))) → OnOk went (Appends a c (said_all s piece))
  rest_said a b c (Ok next) first more = subst (Appends a c) both_said (Appends-trans a b c _ _ first more)
  rest_said a b c (Err failed) first more = tt

  -- nothing is said to a byte behind the last line that is taken
  pub no_rest_said : more n ≡ false → (a b : Option (List ℕ)) → Appends a b (said_all s (take last piece)) → Appends a b (said_all s piece)
  no_rest_said m a b first =
      let off : goes_on before ≡ false = sym fed.more ∙ m in
      let none : said_all s (take last piece) ≡ said_all s piece =
      sym (append-nil (said_all s (take last piece)))
      ∙ ap (λ (l : List ℕ). said_all s (take last piece) ++ l) (sym (stopped_said before off (left piece last))) ∙ both_said in
      subst (Appends a b) none first

-- == one read after another ==

all_of : (a b : Bool) → (a && b) ≡ true → a ≡ true
all_of true b e = refl
all_of false b e = e

first_false : (a b : Bool) → (a && b) ≡ false → b ≡ true → a ≡ false
first_false true b e on = absurd (true≢false (sym on ∙ e))
first_false false b e on = refl

pub fed : {s : Session} {bytes : List ℕ} {t : Session} {n : Next} → Answered s bytes t n → Fed s t n
fed {s} {bytes} {t} {n} a = record { bytes = bytes; session = a.session; rest = λ told. go told (goes_on t) refl }
  where
    go : rest n ≡ true → (b : Bool) → goes_on t ≡ b → goes_on t ≡ false
    go told true on = absurd (true≢false (sym told ∙ a.rest ∙ none_unread s bytes (ap (λ (u : Session). goes_on u) (sym a.session) ∙ on)))
    go told false off = off

-- a read that did not fail brought the bytes that it says, and no byte only at the input's end
module _ (E : Type 0) (s t : Session) (buf : List ℕ) where
  read_some : {n : Next} (k : ℕ) → Answered s (take k buf) t n → ReadsAtMost {E = E} (Ok k) buf → 0 < length buf → (left₀ now held₀ held : Option (List ℕ))
      → ReadConsumes {E = E} left₀ now (Ok k) buf → Appends held₀ held (said_all s (take k buf)) → Passed s 1 left₀ now held₀ held t n
  read_some {n} k a some room left₀ now held₀ held moved wrote = record {
    bytes = take k buf;
    session = a.session;
    taken = moved.0;
    said = wrote;
    many = λ m. both_true (sym a.more ∙ m);
    ended = λ m on. moved.1 (omega (arith, some.1, none (sym a.more ∙ m) on)) room;
  }
    where
      both_true : (ltb 0 (length (take k buf)) && goes_on t) ≡ true → 1 ≤ length (take k buf)
      both_true e = ltb-true 0 (length (take k buf)) (all_of (ltb 0 (length (take k buf))) (goes_on t) e)

      none : (ltb 0 (length (take k buf)) && goes_on t) ≡ false → goes_on t ≡ true → length (take k buf) ≤ 0
      none e on = ltb-false 0 (length (take k buf)) (first_false (ltb 0 (length (take k buf))) (goes_on t) e on)

  pub read_fed : (got : Result ℕ E) (went : Result Next Failed) → IfOk went (λ n. IfOk got (λ k. Answered s (take k buf) t n)) → OnErr got (went ≡ Err Unread)
      → IfOk went (λ n. Fed s t n)
  read_fed got (Err failed) a bad = tt
  read_fed (Ok k) (Ok n) a bad = fed a
  read_fed (Err e) (Ok n) a bad = absurd (true≢false (ap (λ (r : Result Next Failed). is_ok r) bad))

  pub read_passed : (got : Result ℕ E) (went : Result Next Failed) → IfOk went (λ n. IfOk got (λ k. Answered s (take k buf) t n)) → OnErr got (went ≡ Err Unread)
      → ReadsAtMost got buf → 0 < length buf → (left₀ now held₀ held : Option (List ℕ)) → ReadConsumes left₀ now got buf
      → OnOk went (IfOk got (λ k. Appends held₀ held (said_all s (take k buf)))) → IfOk went (λ n. Passed s 1 left₀ now held₀ held t n)
  read_passed got (Err failed) a bad some room left₀ now held₀ held moved wrote = tt
  read_passed (Ok k) (Ok n) a bad some room left₀ now held₀ held moved wrote = read_some k a some room left₀ now held₀ held moved wrote
  read_passed (Err e) (Ok n) a bad some room left₀ now held₀ held moved wrote = absurd (true≢false (ap (λ (r : Result Next Failed). is_ok r) bad))

-- what is taken after the bytes of a read is taken with them
pub then : {s t u : Session} {n m : Next} → Fed s t n → Fed t u m → Fed s u m
then {s} a b =
    record {
      bytes = a.bytes ++ b.bytes;
      session = b.session ∙ ap (λ (t : Session). after_all t b.bytes) a.session ∙ sym (after_append s a.bytes b.bytes);
      rest = b.rest;
    }

pub none_fed : (s : Session) → Fed s s More
none_fed s = record { bytes = []; session = refl; rest = λ told. absurd (true≢false (sym told)) }

pub none_passed : (s : Session) (a c : Option (List ℕ)) → Passed s 0 a a c c s More
none_passed s a c = record {
  bytes = [];
  session = refl;
  taken = Consumes-nil a;
  said = Appends-nil c;
  many = λ m. omega (arith);
  ended = λ m on. absurd (true≢false m);
}

pub then_passed : {s t u : Session} {k : ℕ} {left₀ left₁ left₂ held₀ held₁ held₂ : Option (List ℕ)} {n : Next}
    → Passed s k left₀ left₁ held₀ held₁ t More → Passed t 1 left₁ left₂ held₁ held₂ u n → Passed s (k + 1) left₀ left₂ held₀ held₂ u n
then_passed {s} {t} {u} {k} {left₀} {left₁} {left₂} {held₀} {held₁} {held₂} a b =
    let both : said_all s a.bytes ++ said_all t b.bytes ≡ said_all s (a.bytes ++ b.bytes) =
    ap (λ (v : Session). said_all s a.bytes ++ said_all v b.bytes) a.session ∙ sym (said_append s a.bytes b.bytes) in
    record {
      bytes = a.bytes ++ b.bytes;
      session = b.session ∙ ap (λ (v : Session). after_all v b.bytes) a.session ∙ sym (after_append s a.bytes b.bytes);
      taken = Consumes-trans left₀ left₁ left₂ a.bytes b.bytes a.taken b.taken;
      said = subst (Appends held₀ held₂) both (Appends-trans held₀ held₁ held₂ _ _ a.said b.said);
      many = λ m. omega (arith, length-append a.bytes b.bytes, a.many refl, b.many m);
      ended = b.ended;
    }

-- where no more is wanted any number of bytes is enough, and a smaller one always
pub stopped_passed : {s t : Session} {k : ℕ} (j : ℕ) {left₀ left held₀ held : Option (List ℕ)} {n : Next} → more n ≡ false
    → Passed s k left₀ left held₀ held t n → Passed s j left₀ left held₀ held t n
stopped_passed j off a = record {
  bytes = a.bytes;
  session = a.session;
  taken = a.taken;
  said = a.said;
  many = λ m. absurd (true≢false (sym m ∙ off));
  ended = a.ended;
}

-- what is not found to be `More` wants no more, and what is not found to be another is `More`
pub stops : (n : Next) → true ≡ not (sameb the_type n More) → more n ≡ false
stops More e = absurd (true≢false e)
stops Ended e = refl
stops RestUnread e = refl

pub goes : (n : Next) → false ≡ not (sameb the_type n More) → n ≡ More
goes More e = refl
goes Ended e = absurd (true≢false (sym e))
goes RestUnread e = absurd (true≢false (sym e))

pub more_fed : {s t : Session} {n : Next} → n ≡ More → Fed s t n → Fed s t More
more_fed {s} {t} e a = subst (λ (n : Next). Fed s t n) e a

pub more_passed : {s t : Session} {k : ℕ} {left₀ left held₀ held : Option (List ℕ)} {n : Next} → n ≡ More
    → Passed s k left₀ left held₀ held t n → Passed s k left₀ left held₀ held t More
more_passed {s} {t} {k} {left₀} {left} {held₀} {held} e a = subst (λ (n : Next). Passed s k left₀ left held₀ held t n) e a

-- == the end ==

pub closed_by_newline : (s : Session) → 0 < s.length → closed s ≡ after s (code "\n")
closed_by_newline s h = rw (lt-ltb 0 s.length h)

pub closed_before : (s : Session) → s.length ≤ 0 → closed s ≡ s
closed_before s h = rw (le-ltb 0 s.length h)

-- the last that is said ends in the counts, with the number of refused lines that is told
pub counts_last : (s : Session) → last_said s ≡ cond (ltb 0 s.length) (said s (code "\n")) [] ++ counts_text (closed s).lines (refused_of s)
unfolding last_said
counts_last s = go (ltb 0 s.length)
  where
    go :
        (t : Bool)
        → cond t (said s (code "\n") ++ counts_text (after s (code "\n")).lines (after s (code "\n")).refusals) (counts_text s.lines s.refusals)
        ≡ cond t (said s (code "\n")) [] ++ counts_text (cond t (after s (code "\n")) s).lines (cond t (after s (code "\n")) s).refusals
    go true = refl
    go false = refl

-- where the bytes that left the input are all that it had, or the last line is taken, what was said is the answer to all of it
module _ (text : List ℕ) {least : ℕ} {left held₀ held : Option (List ℕ)} {t : Session} {n : Next} (p : Passed fresh least (Some text) left held₀ held t n) where
  what_is_left : (u : List ℕ) × (text ≡ p.bytes ++ u) × (IsAtEnd left → u ≡ [])
  what_is_left = go left p.taken
    where
      go : (a : Option (List ℕ)) → Consumes (Some text) a p.bytes → (u : List ℕ) × (text ≡ p.bytes ++ u) × (IsAtEnd a → u ≡ [])
      go None e = absurd e
      go (Some u) e = (u, e, λ z. z)

  -- nothing more is said to what is left, and it leaves the session as it is
  ends : more n ≡ false → (said_all fresh text ≡ said_all fresh p.bytes) × (after_all fresh text ≡ t)
  ends off = go (goes_on t) refl
    where
      u : List ℕ
      u = what_is_left.0

      said_is : said_all t u ≡ [] → said_all fresh text ≡ said_all fresh p.bytes
      said_is z =
          ap (λ (l : List ℕ). said_all fresh l) what_is_left.1 ∙ said_append fresh p.bytes u
          ∙ ap (λ (t : Session). said_all fresh p.bytes ++ said_all t u) (sym p.session)
          ∙ ap (λ (l : List ℕ). said_all fresh p.bytes ++ l) z ∙ append-nil (said_all fresh p.bytes)

      session_is : after_all t u ≡ t → after_all fresh text ≡ t
      session_is z =
          ap (λ (l : List ℕ). after_all fresh l) what_is_left.1 ∙ after_append fresh p.bytes u ∙ ap (λ (t : Session). after_all t u) (sym p.session) ∙ z

      go : (b : Bool) → goes_on t ≡ b → (said_all fresh text ≡ said_all fresh p.bytes) × (after_all fresh text ≡ t)
      go true on =
          let none : u ≡ [] = what_is_left.2 (p.ended off on) in
          (said_is (ap (λ (l : List ℕ). said_all t l) none), session_is (ap (λ (l : List ℕ). after_all t l) none))
      go false stopped = (said_is (stopped_said t stopped u), session_is (stopped_after t stopped u))

  pub is_answered : more n ≡ false → (last : Option (List ℕ)) → Appends held last (last_said t) → Appends held₀ last (answer_text text)
  is_answered off last e =
      let whole : said_all fresh p.bytes ++ last_said t ≡ answer_text text =
      ap (λ (l : List ℕ). l ++ last_said t) (sym (ends off).0) ∙ ap (λ (t : Session). said_all fresh text ++ last_said t) (sym (ends off).1)
      ∙ whole_input text in
      subst (Appends held₀ last) whole (Appends-trans held₀ held last _ _ p.said e)

  pub at_most : length p.bytes ≤ length text
  at_most = omega (arith, length-append p.bytes what_is_left.0, ap (λ (l : List ℕ). length l) what_is_left.1)

-- a session from its begin that ended without a failure answers all of its input
pub answers_all : {s : Session} {left₀ left held₀ held : Option (List ℕ)} {t : Session} {n : Next} → s ≡ fresh → Passed s 18446744073709551615 left₀ left held₀ held t n
    → (last : Option (List ℕ)) → Appends held last (last_said t) → AnswersAll left₀ held₀ last
answers_all {left₀ = None} begun p last e = tt
answers_all {left₀ = Some text} {left = behind} {held₀ = held₀} {held = held} {t = t} {n = n} begun p last e = λ short. go short (more n) refl
  where
    from_fresh : Passed fresh 18446744073709551615 (Some text) behind held₀ held t n
    from_fresh = subst (λ (v : Session). Passed v 18446744073709551615 (Some text) behind held₀ held t n) begun p

    go : length text < 18446744073709551615 → (b : Bool) → more n ≡ b → Appends held₀ last (answer_text text)
    go short true on = absurd (omega (arith, short, from_fresh.many on, at_most text from_fresh))
    go short false off = is_answered text from_fresh off last e

-- where the end told no failure there was none
pub ended_well : (s t : Session) (left₀ left held₀ held : Option (List ℕ)) (told : Next) (went : Result Next Failed) → s ≡ fresh
    → IfOk went (λ n. Passed s 18446744073709551615 left₀ left held₀ held t n) → OnErr went (Ok told ≡ went)
    → (last : Option (List ℕ)) → Appends held last (last_of went t) → AnswersAll left₀ held₀ last
ended_well s t left₀ left held₀ held told (Ok n) begun p same last e = answers_all begun p last e
ended_well s t left₀ left held₀ held told (Err failed) begun p same last e = absurd (true≢false (ap (λ (r : Result Next Failed). is_ok r) same))
