-- A piece taken byte by byte: how long a byte's text may be, and what stands after some of the bytes.
-- Assumes nothing.
use mathlib.Core.Path.{◌≡◌, refl, sym, ◌∙◌, ap, subst}
use mathlib.Core.List.{List, [], ◌∷◌, ◌++◌, append_assoc, append-nil}
use mathlib.Core.Bool.{Bool, true, false}
use Prim.Native.Nat.{ℕ, suc, ◌+◌, ◌-◌, ◌≤◌, ◌<◌}
use Prim.Native.Char.{code}
use native.Mathlib.Omega.{arith}
use native.Mathlib.Nat.{add-zero}
use native.Mathlib.Numerals.{add-one}
use borrow.Author.Tests.{lt-ltb, le-ltb, ne_eqb}
use lib.Dec.{eqb}
use lib.ListN.{length, take, drop, get_or, drop_of_length-le}
use lib.Seq.{take-suc, drop-cons}
use Rattle.session_rules.specs.declared.Session.{Session}
use Rattle.std.specs.Prelude.{Some}
use Rattle.rows.specs.declared.Row.TheVariants.{Counts}
use Rattle.rows.specs.Text.{Put, Spoke, row_text, counts_text}
use Rattle.session_rules.specs.Calls.{Said, row_of, said_text}
use Rattle.session_rules.specs.Bytes.{goes_on, pushed, held_reply, after, said, after_all, said_all, taken}
use Rattle.rows.proofs.Decimals.{row_short}
use Rattle.rows.proofs.Puts.{behind, none_put, put_length, spoke, spoke_put, spoke_one}

-- == how long a text may be ==

said_text_short : (line : ℕ) (s : Said) → length (said_text line s) ≤ 32
unfolding said_text
said_text_short line s = row_short (row_of line s)

pub counts_short : (m n : ℕ) → length (counts_text m n) ≤ 32
unfolding row_text
counts_short m n = row_short (Some (Counts m n))

pub said_short : (s : Session) (b : ℕ) → length (said s b) ≤ 32
unfolding said
said_short s b = go (goes_on s) refl (eqb b 10) refl
  where
    go : (t : Bool) → goes_on s ≡ t → (u : Bool) → eqb b 10 ≡ u → length (said s b) ≤ 32
    go true e true f = rw (e, f) (said_text_short _ (held_reply s).said)
    go true e false f = rw (e, f) (omega arith)
    go false e u f = rw e (omega arith)

-- == bytes behind bytes ==

pub after_append : (s : Session) (a b : List ℕ) → after_all s (a ++ b) ≡ after_all (after_all s a) b
after_append s [] b = refl
after_append s (x ∷ a) b = after_append (after s x) a b

pub said_append : (s : Session) (a b : List ℕ) → said_all s (a ++ b) ≡ said_all s a ++ said_all (after_all s a) b
said_append s [] b = refl
said_append s (x ∷ a) b = rw (append_assoc, said_append (after s x) a b)

-- used bytes of the piece are taken: the session is t, the text stands in out up to at, and what is still taken is the rest
pub record Going (s : Session) (piece out₀ out : List ℕ) (t : Session) (used at : ℕ) : Type 0 where
  pub state : t ≡ after_all s (take used piece)
  pub text : Put out₀ 0 (said_all s (take used piece)) out at
  pub rest : taken s piece (length out₀) ≡ used + taken t (drop used piece) (length out₀ - at)
  pub some : used ≤ length piece
  pub within : at ≤ length out₀
  pub same : length out ≡ length out₀

pub goes : (s : Session) (piece out : List ℕ) → Going s piece out out s 0 0
goes s piece out =
    let z : length out - 0 ≡ length out = omega arith in
    let k : 0 + taken s piece (length out) ≡ taken s piece (length out) = omega arith in
    record {
      state = refl;
      text = none_put out 0;
      rest = rw (z, k);
      some = omega arith;
      within = omega arith;
      same = refl;
    }

-- what the call answers where no further byte is taken
pub record Done (s : Session) (piece out₀ out : List ℕ) (t : Session) (used at : ℕ) : Type 0 where
  pub used_is : used ≡ taken s piece (length out₀)
  pub state : t ≡ after_all s (take used piece)
  pub text : Spoke out₀ (said_all s (take used piece)) out at

-- two such answers to the same call are one: the bytes taken, the session, the place behind the text, the buffer
pub feed_one : {s t u : Session} {piece out₀ a b : List ℕ} {m n i j : ℕ} → Done s piece out₀ a t m i → Done s piece out₀ b u n j
    → (m ≡ n) × (t ≡ u) × (i ≡ j) × (a ≡ b)
feed_one {s} {piece = piece} {out₀ = out₀} {b = b} {j = j} p q =
    let e = p.used_is ∙ sym q.used_is in
    let w = spoke_one p.text (subst (λ (k : ℕ). Spoke out₀ (said_all s (take k piece)) b j) (sym e) q.text) in
    (e, p.state ∙ ap (λ (k : ℕ). after_all s (take k piece)) e ∙ sym q.state, w.0, w.1)

-- a piece of one byte that finds room
pub one_byte : {s t : Session} {b : ℕ} {out₀ out : List ℕ} {used at : ℕ} → Done s (b ∷ []) out₀ out t used at → 32 ≤ length out₀ → (t ≡ after s b) × Put out₀ 0 (said s b) out at
one_byte {s} {t} {b} {out₀} {out} {used} {at} d room =
    let one : take used (b ∷ []) ≡ b ∷ [] = rw (d.used_is, le-ltb (length out₀) 32 room) in
    let text : Spoke out₀ (said s b) out at = rw (one, append-nil) at d.text in
    (d.state ∙ ap (λ (l : List ℕ). after_all s l) one, spoke_put text (omega (arith, said_short s b, room)))

module _ {s t : Session} {piece out₀ out : List ℕ} {used at : ℕ} (g : Going s piece out₀ out t used at) where
  -- one byte more: the session is u then, and the text stands in out' up to at'
  module _ {u : Session} {out' : List ℕ} {at' : ℕ} (h : used < length piece) (free : 32 ≤ length out - at) where
    pub goes_on_lem : u ≡ after t (get_or piece used 0) → Put out at (said t (get_or piece used 0)) out' at' → Going s piece out₀ out' u (used + 1) at'
    goes_on_lem e p =
        let b = get_or piece used 0 in
        let room : 32 ≤ length out₀ - at = omega (arith, free, g.same) in
        let n : at' ≡ at + length (said t b) = p.next in
        let left : length out₀ - at - length (said t b) ≡ length out₀ - at' = omega arith in
        let more : taken t (drop used piece) (length out₀ - at) ≡ suc (taken u (drop (suc used) piece) (length out₀ - at')) =
        rw (drop-cons piece used 0 h, le-ltb (length out₀ - at) 32 room, left, e) in
        let up : used + suc (taken u (drop (suc used) piece) (length out₀ - at')) ≡ suc used + taken u (drop (suc used) piece) (length out₀ - at') = omega arith in
        rw add-one
        (record {
          state = rw (take-suc piece used 0 h, after_append) (e ∙ ap (λ (x : Session). after x b) g.state);
          text = rw (take-suc piece used 0 h, said_append, append-nil) (behind g.text (rw g.state at p));
          rest = g.rest ∙ ap (λ (k : ℕ). used + k) more ∙ up;
          some = omega (arith, h);
          within = omega (arith, said_short t b, g.within, n, room);
          same = put_length p ∙ g.same;
        })

    -- .. as a byte of the line under way does
    pub goes_pushed : t.lines < 65535 → (get_or piece used 0 ≡ code "\n" → ⊥) → u ≡ pushed t (get_or piece used 0) → out' ≡ out → at' ≡ at → Going s piece out₀ out' u (used + 1) at'
    unfolding after said
    goes_pushed on not e o a = goes_on_lem (rw (lt-ltb _ _ on, ne_eqb _ _ not) e) (rw (lt-ltb _ _ on, ne_eqb _ _ not, o, a) (none_put out at))

  done : taken t (drop used piece) (length out₀ - at) ≡ 0 → Done s piece out₀ out t used at
  done z =
      record {
        used_is = sym (g.rest ∙ ap (λ (k : ℕ). used + k) z ∙ add-zero used);
        state = g.state;
        text = spoke g.text (omega (arith, g.text.next, g.within));
      }

  -- too little room is left
  pub done_full : used < length piece → length out - at < 32 → Done s piece out₀ out t used at
  done_full h l = done (rw (drop-cons piece used 0 h, ← g.same, lt-ltb (length out - at) 32 l))

  -- the piece is at its end
  pub done_all : length piece ≤ used → Done s piece out₀ out t (length piece) at
  done_all h =
      let e : used ≡ length piece = omega (arith, g.some) in
      subst (λ (k : ℕ). Done s piece out₀ out t k at) e (done (rw (drop_of_length-le piece h)))
