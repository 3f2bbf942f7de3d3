-- A receiving half with no character under way: it has no more than its phase, and there are ticks that leave it as it is, but for the tally.
-- Assumes nothing.
use Prim.Native.Nat.{ℕ, ◌<◌}
use native.Mathlib.Omega.{arith}
use mathlib.Core.Path.{◌≡◌, refl, ap, ap₂, sym, ◌∙◌}
use mathlib.Core.Bool.{Bool, true, false, ◌&&◌}
use lib.Dec.{eqb, leb}
use borrow.Author.Tests.{eqb-true, le-ltb}
use Rattle.std.specs.Prelude.{None}
use Rattle.line_rules.specs.declared.Format.{Format}
use Rattle.line_rules.specs.declared.Receiver.{Receiver}
use Rattle.line_rules.specs.declared.RxC.{RxC}
use Rattle.line_rules.specs.Sending.{bit}
use Rattle.line_rules.specs.Clocks.{rx_later}
use Rattle.line_rules.specs.Receiving.{at_rest, sample}
use Rattle.line_rules.proofs.Table.{both}
use Rattle.link_rules.specs.declared.ReceiverHalf.{ReceiverHalf}
use Rattle.link_rules.specs.Parts.{no_format, resting, receiver_later}
use Rattle.link_rules.specs.Within.{is_no_format, rest_in_range, clear, state_in_range, receiver_in_range}
use Rattle.link_rules.specs.Hearing.{Received, receive}

-- == all that belongs to a character is 0 ==

format_of : (a b c d e : ℕ) → a ≡ 0 → b ≡ 0 → c ≡ 0 → d ≡ 0 → e ≡ 0 → record { factor = a; length = b; parity = c; even = d; stop = e } ≡ no_format
format_of a b c d e p q r s t = rw (p, q, r, s, t)

state_of : (n a b c d : ℕ) → a ≡ 0 → b ≡ 0 → c ≡ 0 → d ≡ 0 → record { phase = n; countdown = a; value = b; wrong = c; look = d } ≡ at_rest n
state_of n a b c d p q r s = rw (p, q, r, s)

no_format_lem : (f : Format) → is_no_format f ≡ true → f ≡ no_format
no_format_lem f h =
    let a = both (eqb f.factor 0 && eqb f.length 0 && eqb f.parity 0 && eqb f.even 0) _ h in
    let b = both (eqb f.factor 0 && eqb f.length 0 && eqb f.parity 0) _ a.0 in
    let c = both (eqb f.factor 0 && eqb f.length 0) _ b.0 in
    let d = both (eqb f.factor 0) _ c.0 in
    format_of f.factor f.length f.parity f.even f.stop (eqb-true _ _ d.0) (eqb-true _ _ d.1) (eqb-true _ _ c.1) (eqb-true _ _ b.1) (eqb-true _ _ a.1)

at_rest_lem : (s : Receiver) → rest_in_range s ≡ true → s ≡ at_rest s.phase
at_rest_lem s h =
    let a = both (eqb s.countdown 0 && eqb s.value 0 && eqb s.wrong 0) _ h in
    let b = both (eqb s.countdown 0 && eqb s.value 0) _ a.0 in
    let c = both (eqb s.countdown 0) _ b.0 in
    state_of s.phase s.countdown s.value s.wrong s.look (eqb-true _ _ c.0) (eqb-true _ _ c.1) (eqb-true _ _ b.1) (eqb-true _ _ a.1)

pub is_clear : (r : ReceiverHalf) (p : ℕ) → r.state.phase ≡ p → clear r ≡ true → r ≡ resting p r.holding r.unread r.stamp r.tally
is_clear r p e h =
    let t = both (is_no_format r.format) _ h in
    ap₂ (λ (s : Receiver) (g : Format). record { state = s; format = g; holding = r.holding; unread = r.unread; stamp = r.stamp; tally = r.tally }) (at_rest_lem r.state t.1 ∙ ap at_rest e) (no_format_lem r.format t.0)

-- in range it is so where none is under way
pub in_range_clear : (r : ReceiverHalf) → receiver_in_range r ≡ true → r.state.phase < 2 → clear r ≡ true
unfolding receiver_in_range
in_range_clear r h l = let t = (both (leb r.unread 1) (state_in_range r.format r.state) h).1 in rw (le-ltb 1 r.state.phase (omega arith)) at t

-- == a tick ==

-- what a tick leaves that brings nothing
abbrev pub quietly : ReceiverHalf → Received
quietly r = record { half = r; heard = None; overrun = false }

-- what a tick leaves as it is, but for the tally: told whether receive is on and the level
abbrev pub Stays : ℕ → Bool → Bool → Type 0
Stays p live x = (f : Format) (v u : ℕ) (stamp tally : RxC) → receive (resting p v u stamp tally) live f x ≡ quietly (resting p v u stamp (rx_later 1 tally))

-- the line is at the level of its phase: it waits and hears a 0, or searches and hears a 1; or it is off, and has nothing to drop
pub stays : (live x : Bool) → Stays (bit (live && x)) live x
unfolding receive sample
stays true true f v u stamp tally = refl
stays true false f v u stamp tally = refl
stays false x f v u stamp tally = refl

pub rest_stays : (r : ReceiverHalf) (p : ℕ) (live x : Bool) (f : Format) → Stays p live x → r ≡ resting p r.holding r.unread r.stamp r.tally
    → receive r live f x ≡ quietly (receiver_later 1 r)
rest_stays r p live x f s e =
    ap (λ (q : ReceiverHalf). receive q live f x) e ∙ s f r.holding r.unread r.stamp r.tally ∙ ap (λ (q : ReceiverHalf). quietly (receiver_later 1 q)) (sym e)
