-- Text that is stored piece behind piece.
-- Assumes nothing.
use mathlib.Core.Path.{◌≡◌, refl, sym, ◌∙◌, ap, ap₂, subst}
use mathlib.Core.List.{List, [], ◌∷◌, ◌++◌}
use mathlib.Core.Bool.{Bool, true, false, cond}
use Prim.Native.Nat.{ℕ, suc, ◌+◌, ◌-◌, ◌≤◌, ◌<◌}
use lib.Dec.{leb}
use borrow.Author.Tests.{leb-true, leb-false, le-leb, lt-leb}
use native.Mathlib.Omega.{arith}
use native.Mathlib.Nat.{add-zero, add-suc, suc-add}
use lib.ListN.{length, take, drop, length-append, take-append-drop}
use lib.Seq.{sets, length-sets, sets-eq, take-append_seam, drop-append_seam}
use borrow.Rule.Slice.PartMut.{put_mid}
use lib.Seq.{take-length}
use Rattle.std.proofs.lemmas.Slice.{put_mid-paste}
use Rattle.line_rules.proofs.Choice.{each}
use Rattle.rows.specs.Text.{Put, Spoke, where_room}

sets_append : (l : List ℕ) (i : ℕ) (a b : List ℕ) → sets l i (a ++ b) ≡ sets (sets l i a) (i + length a) b
sets_append l i [] b = rw add-zero
sets_append l i (x ∷ a) b = rw (add-suc, ← suc-add) (sets_append _ (suc i) a b)

pub behind : {l m n t u : List ℕ} {at r q : ℕ} → Put l at t m r → Put m r u n q → Put l at (t ++ u) n q
behind {l} {t = t} {u = u} {at = at} p q =
    record {
      stored = q.stored ∙ rw (p.stored, p.next, sets_append) refl;
      next = rw length-append (omega arith);
    }

pub none_put : (l : List ℕ) (at : ℕ) → Put l at [] l at
none_put l at = record { stored = refl; next = sym (add-zero at) }

pub put_length : {l m t : List ℕ} {at r : ℕ} → Put l at t m r → length m ≡ length l
put_length {l} {t = t} {at = at} p = rw p.stored (length-sets l at t)

-- room left behind a text of at most j
pub room : {l m t : List ℕ} {at r : ℕ} (k j : ℕ) → Put l at t m r → length t ≤ j → at + (j + k) ≤ length l → r + k ≤ length m
room {l} {t = t} {at = at} k j p s h = rw (p.stored, length-sets) (omega arith)

-- text that stands at the start of the buffer
pub spoke : {l m t : List ℕ} {r : ℕ} → Put l 0 t m r → length t ≤ length l → Spoke l t m r
spoke {l} {m} {t} {r} p h =
    let n : r ≡ length t = omega (arith, p.next) in
    let z : 0 + length t ≡ length t = omega arith in
    let e : m ≡ t ++ drop (length t) l = p.stored ∙ sets-eq t l 0 (omega arith) ∙ ap (λ (k : ℕ). t ++ drop k l) z in
    let f : take r m ≡ t = rw (n, e) (take-append_seam t _) in
    record {
      said = f;
      rest = rw (n, e) (drop-append_seam t _);
      within = omega (arith, put_length p);
      counts = rw f n;
    }

-- the place is the text's length ..
spoke_at : {l m t : List ℕ} {r : ℕ} → Spoke l t m r → r ≡ length t
spoke_at p = p.counts ∙ ap length p.said

-- .. and the buffer is the text, then what stood behind it before
spoke_buffer : {l m t : List ℕ} {r : ℕ} → Spoke l t m r → m ≡ t ++ drop (length t) l
spoke_buffer {l} {m} {t} {r} p = sym (take-append-drop r m) ∙ ap₂ ◌++◌ p.said p.rest ∙ ap (λ (k : ℕ). t ++ drop k l) (spoke_at p)

-- such a text was stored at 0, where the buffer has room for it
pub spoke_put : {l m t : List ℕ} {r : ℕ} → Spoke l t m r → length t ≤ length l → Put l 0 t m r
spoke_put {l} {t = t} p h =
    let z : 0 + length t ≡ length t = omega arith in
    record {
      stored = spoke_buffer p ∙ sym (sets-eq t l 0 (omega arith) ∙ ap (λ (k : ℕ). t ++ drop k l) z);
      next = omega (arith, spoke_at p);
    }

-- two outcomes for the same buffer before and the same text are one
pub spoke_one : {before text a b : List ℕ} {r s : ℕ} → Spoke before text a r → Spoke before text b s → (r ≡ s) × (a ≡ b)
spoke_one p q = (spoke_at p ∙ sym (spoke_at q), spoke_buffer p ∙ sym (spoke_buffer q))

-- a text copied to its place
pub copied : {l t m : List ℕ} (at : ℕ) → m ≡ t → at + length t ≤ length l → Put l at t (put_mid at (at + length t - at) l m) (at + length t)
copied {l} {t} {m} at e h =
    record {
      stored = put_mid-paste at (at + length t - at) l m t (length t) e (omega arith) refl ∙ rw take-length (sym (sets-eq t l at h));
      next = refl;
    }

-- == room for a line ==

pub room_none : (size at : ℕ) → size < at → leb (at + 32) size ≡ false
room_none size at h = lt-leb (at + 32) size (omega arith)

pub room_is : (size at : ℕ) → at ≤ size → leb 32 (size - at) ≡ leb (at + 32) size
room_is size at h = go (leb 32 (size - at)) refl
  where
    go : (t : Bool) → leb 32 (size - at) ≡ t → t ≡ leb (at + 32) size
    go true e = sym (le-leb (at + 32) size (omega (arith, leb-true 32 (size - at) e)))
    go false e = sym (lt-leb (at + 32) size (omega (arith, leb-false 32 (size - at) e)))

-- no line is none, whatever the room
pub nothing_put : (l : List ℕ) (at : ℕ) → Put l at (where_room l at []) l at
nothing_put l at = each (λ (t : List ℕ). Put l at t l at) (leb (at + 32) (length l)) (λ e. none_put l at) (λ e. none_put l at)

-- a line that has room is written
pub written : {l m t : List ℕ} {at r : ℕ} → at + 32 ≤ length l → Put l at (where_room l at t) m r → Put l at t m r
written {l} {m} {t} {at} {r} h p = subst (λ (b : Bool). Put l at (cond b t []) m r) (le-leb (at + 32) (length l) h) p
