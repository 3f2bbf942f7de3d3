-- A host that offers the input piece by piece has written the answer to all of it, whatever each call took.
-- Assumes nothing.
use mathlib.Core.Path.{◌≡◌, refl, sym, ◌∙◌, ap}
use mathlib.Core.List.{List, [], ◌∷◌, ◌++◌, append_assoc, append-nil}
use mathlib.Core.Bool.{Bool, true, false, cond, not, ◌||◌}
use Prim.Native.Nat.{ℕ, suc, ◌-◌, ◌*◌, ◌≤◌, ◌<◌}
use native.Mathlib.Omega.{arith}
use borrow.Author.Tests.{le-ltb}
use lib.Dec.{ltb}
use lib.ListN.{length, take, drop, take-append-drop, length-take}
use lib.Seq.{take-take}
use Rattle.line_rules.proofs.Choice.{not_so}
use Rattle.session_rules.specs.declared.Session.{Session}
use Rattle.session_rules.specs.Whole.{answer_text}
use Rattle.session_rules.specs.Bytes.{goes_on, fresh, after, said, after_all, said_all, taken, last_said}
use Rattle.session_rules.specs.Offers.{Host, begun, Offer, bytes_taken, offer, offers, is_empty, over}
use Rattle.session_rules.proofs.Feeding.{said_short, after_append, said_append}
use Rattle.session_rules.proofs.Cutting.{stopped_after, stopped_said, whole_input}

-- == how much a call takes ==

-- at most the piece
pub taken_few : (s : Session) (piece : List ℕ) (room : ℕ) → taken s piece room ≤ length piece
taken_few s [] room = omega arith
taken_few s (b ∷ bs) room = go (ltb room 32) (taken_few (after s b) bs (room - length (said s b)))
  where
    go : (t : Bool) → taken (after s b) bs (room - length (said s b)) ≤ length bs → cond t 0 (suc (taken (after s b) bs (room - length (said s b)))) ≤ suc (length bs)
    go true h = omega arith
    go false h = omega arith

-- some of it, where the text has 32 bytes
pub takes_some : (s : Session) (piece : List ℕ) (room : ℕ) → 0 < length piece → 32 ≤ room → 0 < taken s piece room
takes_some s [] room some h = absurd (omega arith)
takes_some s (b ∷ bs) room some h = rw (le-ltb room 32 h) (omega arith)

-- all of it, where the text has 32 bytes for each of its bytes
pub takes_all : (s : Session) (piece : List ℕ) (room : ℕ) → 32 * length piece ≤ room → taken s piece room ≡ length piece
takes_all s [] room h = refl
takes_all s (b ∷ bs) room h =
    rw (le-ltb room 32 (omega arith))
    (ap suc (takes_all (after s b) bs (room - length (said s b)) (omega (arith, said_short s b))))

-- == what a host has done ==

-- this much of the input is taken, and answered
record Sent (input : List ℕ) (h : Host) : Type 0 where
  given : List ℕ
  split : input ≡ given ++ h.left
  state : h.session ≡ after_all fresh given
  text : h.written ≡ said_all fresh given

sent_more : {input : List ℕ} {h : Host} (o : Offer) → Sent input h → Sent input (offer h o)
sent_more {input} {h} o p =
    record {
      given = p.given ++ more;
      split = p.split ∙ ap (λ x. p.given ++ x) (sym back) ∙ sym (append_assoc p.given more (drop n h.left));
      state = ap (λ s. after_all s more) p.state ∙ sym (after_append fresh p.given more);
      text = rw (said_append, ← p.state, p.text);
    }
  where
    n : ℕ
    n = bytes_taken h o

    more : List ℕ
    more = take n (take o.size h.left)

    back : more ++ drop n h.left ≡ h.left
    back =
        rw (take-take n o.size h.left (omega (arith, taken_few h.session (take o.size h.left) o.room, length-take o.size h.left)))
        (take-append-drop n h.left)

sent : {input : List ℕ} {h : Host} (os : List Offer) → Sent input h → Sent input (offers h os)
sent [] p = p
sent {h = h} (o ∷ os) p = sent {h = offer h o} os (sent_more o p)

-- == the whole ==

ended : {input : List ℕ} {h : Host} → Sent input h → over h ≡ true → h.written ++ last_said h.session ≡ said_all fresh input ++ last_said (after_all fresh input)
ended {input} {h} p e = rw (p.split, said_append, after_append, ← p.state, p.text) (go h.left e)
  where
    stopped : (left : List ℕ) → goes_on h.session ≡ false → said_all fresh p.given ++ last_said h.session ≡ (said_all fresh p.given ++ said_all h.session left) ++ last_said (after_all h.session left)
    stopped left f = rw (stopped_said h.session f left, stopped_after h.session f left, append-nil)

    go : (left : List ℕ) → (is_empty left || not (goes_on h.session)) ≡ true → said_all fresh p.given ++ last_said h.session ≡ (said_all fresh p.given ++ said_all h.session left) ++ last_said (after_all h.session left)
    go [] e = rw append-nil
    go (b ∷ bs) e = stopped (b ∷ bs) (not_so (goes_on h.session) e)

-- for every input and every way of handing it over: once nothing is left, or all the lines that are taken are, what the calls wrote
-- and what `finish` adds is the answer to the whole input
pub pieces : (input : List ℕ) (os : List Offer) → over (offers (begun input) os) ≡ true → (offers (begun input) os).written ++ last_said (offers (begun input) os).session ≡ answer_text input
pieces input os e = ended (sent os (record { given = []; split = refl; state = refl; text = refl })) e ∙ whole_input input
