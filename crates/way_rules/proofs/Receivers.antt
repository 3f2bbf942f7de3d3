-- The receiver: a tick that only counts does what skipping one does, and what is skipped in parts is skipped at once.
-- Assumes nothing.
use Prim.Native.Nat.{ℕ, suc, ◌-◌, ◌≤◌}
use native.Mathlib.Omega.{arith}
use mathlib.Core.Path.{◌≡◌, refl, ap, ap₂, sym, ◌∙◌}
use mathlib.Core.Bool.{Bool, true, false, cond, ◌&&◌}
use lib.Dec.{eqb}
use borrow.Author.Tests.{eqb-true, eq-eqb, ne_eqb}
use Rattle.line_rules.specs.declared.Format.{Format}
use Rattle.line_rules.specs.Sending.{bit}
use Rattle.line_rules.specs.Receiving.{assembling, sample}
use Rattle.line_rules.proofs.Choice.{each}
use Rattle.link_rules.specs.declared.ReceiverHalf.{ReceiverHalf}
use Rattle.link_rules.specs.Parts.{no_format, resting, receiver_later}
use Rattle.link_rules.specs.Within.{clear}
use Rattle.link_rules.specs.Hearing.{receive}
use Rattle.way_rules.specs.Parts.{with_state}
use Rattle.way_rules.specs.Calm.{receiver_calm, receiver_skipped}
use Rattle.line_rules.proofs.Table.{both}
use Rattle.link_rules.proofs.AtRest.{quietly, is_clear, Stays, stays, rest_stays}
use Rattle.way_rules.proofs.Later.{receiver_next}
use Rattle.way_rules.proofs.Senders.{endless_so}

-- between two looks, whatever the sample
between : (r : ReceiverHalf) (c m v w : ℕ) (f : Format) (x : Bool)
    → receive (with_state (assembling (suc c) m v w) r.format r) true f x ≡ quietly (receiver_later 1 (with_state (assembling c m v w) r.format r))
unfolding receive sample
between r c m v w f x = refl

-- no character is under way, in phase p
abbrev Rests : ℕ → ReceiverHalf → Type 0
Rests p r = r ≡ resting p r.holding r.unread r.stamp r.tally

-- the countdown of one with no character under way is 0, and stays so
clear_kept : (r : ReceiverHalf) (p k : ℕ) → Rests p r → receiver_skipped k r ≡ receiver_later k r
clear_kept r p k e =
    ap (receiver_skipped k) e
    ∙ ap (λ (c : ℕ). receiver_later k (with_state (record { phase = p; countdown = c; value = 0; wrong = 0; look = 0 }) no_format r)) (let z : 0 - k ≡ 0 = omega arith in z)
    ∙ ap (receiver_later k) (sym e)

-- how long it is calm does not go by the tally
calm_later : (r : ReceiverHalf) (live : Bool) (n : ℕ) → receiver_calm (receiver_later 1 r) live n ≡ receiver_calm r live n
unfolding receiver_calm
calm_later r live n = refl

module _ (r : ReceiverHalf) (live : Bool) (keeps : ℕ) where
  -- by what it does
  by_phase : {P : Type 0} → 1 ≤ receiver_calm r live keeps
      → (live ≡ true → r.state.phase ≡ 2 → receiver_calm r live keeps ≡ r.state.countdown → P)
      → (live ≡ true → receiver_calm r live keeps ≡ keeps → Rests r.state.phase r → P)
      → (live ≡ false → Rests 0 r → P)
      → P
  unfolding receiver_calm
  by_phase {P} h looks rests off = go live refl
    where
      on_clear : live ≡ true → eqb r.state.phase 2 ≡ false → (b : Bool) → clear r ≡ b → P
      on_clear l e true c = rests l (rw (l, e, c)) (is_clear r r.state.phase refl c)
      on_clear l e false c = absurd (omega (arith, rw (l, e, c) at h))

      on_phase : live ≡ true → (b : Bool) → eqb r.state.phase 2 ≡ b → P
      on_phase l true e = looks l (eqb-true r.state.phase 2 e) (rw (l, e))
      on_phase l false e = on_clear l e (clear r) refl

      go : (b : Bool) → live ≡ b → P
      go true l = on_phase l (eqb r.state.phase 2) refl
      go false l =
          let t = both (eqb r.state.phase 0) _ (endless_so _ (rw l at h)) in
          off l (is_clear r 0 (eqb-true r.state.phase 0 t.0) t.1)

  pub looks_calm : live ≡ true → r.state.phase ≡ 2 → receiver_calm r live keeps ≡ r.state.countdown
  unfolding receiver_calm
  looks_calm l e = rw (l, eq-eqb r.state.phase 2 e)

off_calm : (r : ReceiverHalf) (keeps : ℕ) → r.state.phase ≡ 2 → receiver_calm r false keeps ≡ 0
unfolding receiver_calm
off_calm r keeps e = rw (ne_eqb r.state.phase 0 (λ z. omega arith))

-- what it does as the line goes on is as before, but for how long the line stays
keeps_less : (r : ReceiverHalf) (live : Bool) (m n : ℕ) → m ≤ suc n → receiver_calm r live m ≤ suc (receiver_calm r live n)
unfolding receiver_calm
keeps_less r true m n h =
    each (λ (k : ℕ). k ≤ suc (cond (eqb r.state.phase 2) r.state.countdown (cond (clear r) n 0))) (eqb r.state.phase 2)
    (λ e. rw e (omega arith))
    (λ e. each (λ (k : ℕ). k ≤ suc (cond (eqb r.state.phase 2) r.state.countdown (cond (clear r) n 0))) (clear r) (λ c. rw (e, c) h) (λ c. omega arith))
keeps_less r false m n h = omega arith

module _ (r : ReceiverHalf) (live : Bool) (f : Format) (x : Bool) where
  -- a tick between two looks lowers the countdown
  looks_kept : live ≡ true → r.state.phase ≡ 2 → 1 ≤ r.state.countdown → receive r live f x ≡ quietly (receiver_skipped 1 r)
  looks_kept l e h =
      let c : ℕ = r.state.countdown - 1 in
      let held : ℕ → ℕ → ReceiverHalf = λ p k. with_state (record { phase = p; countdown = k; value = r.state.value; wrong = r.state.wrong; look = r.state.look }) r.format r in
      let q : r.state.countdown ≡ suc (r.state.countdown - 1) = omega arith in
      ap (λ (b : Bool). receive r b f x) l
      ∙ ap₂ (λ (p k : ℕ). receive (held p k) true f x) e q
      ∙ between r c r.state.look r.state.value r.state.wrong f x
      ∙ ap (λ (p : ℕ). quietly (receiver_later 1 (held p c))) (sym e)

  -- one with no character under way stays as it is, but for the tally
  rest_kept : (p : ℕ) (b : Bool) → live ≡ b → Stays p b x → Rests p r → receive r live f x ≡ quietly (receiver_skipped 1 r)
  rest_kept p b l s e = ap (λ (z : Bool). receive r z f x) l ∙ rest_stays r p b x f s e ∙ ap quietly (sym (clear_kept r p 1 e))

module _ (r : ReceiverHalf) (live : Bool) (keeps : ℕ) (h : 1 ≤ receiver_calm r live keeps) where
  -- a tick that only counts brings nothing, if the level is that of the phase where it matters
  pub receiver_counts : (f : Format) (x : Bool) → (1 ≤ keeps → r.state.phase ≡ bit x) → receive r live f x ≡ quietly (receiver_skipped 1 r)
  receiver_counts f x level =
      by_phase r live keeps h
      (λ l e q. looks_kept r live f x l e (omega arith))
      (λ l q e. rest_kept r live f x (bit x) true l (stays true x) (e ∙ ap (λ (p : ℕ). resting p r.holding r.unread r.stamp r.tally) (level (omega arith))))
      (λ l e. rest_kept r live f x 0 false l (stays false x) e)

  -- == many ==

  -- the calm lasts, but for the tick that passed, if the line's does
  pub receiver_again : (n : ℕ) → keeps ≤ suc n → receiver_calm r live keeps ≤ suc (receiver_calm (receiver_skipped 1 r) live n)
  receiver_again n a =
      by_phase r live keeps h
      (λ l e q. omega (arith, looks_calm (receiver_skipped 1 r) live n l e))
      (λ l q e. kept r.state.phase e)
      (λ l e. kept 0 e)
    where
      kept : (p : ℕ) → Rests p r → receiver_calm r live keeps ≤ suc (receiver_calm (receiver_skipped 1 r) live n)
      kept p e = omega (arith, keeps_less r live keeps n a, ap (λ (k : ReceiverHalf). receiver_calm k live n) (clear_kept r p 1 e), calm_later r live n)

-- k ticks after the first are k + 1
pub receiver_then : (r : ReceiverHalf) (k : ℕ) → receiver_skipped k (receiver_skipped 1 r) ≡ receiver_skipped (suc k) r
receiver_then r k =
    let held : ℕ → ReceiverHalf = λ c. with_state (record { phase = r.state.phase; countdown = c; value = r.state.value; wrong = r.state.wrong; look = r.state.look }) r.format r in
    ap (λ (c : ℕ). receiver_later k (receiver_later 1 (held c))) (let e : r.state.countdown - 1 - k ≡ r.state.countdown - suc k = omega arith in e)
    ∙ receiver_next k (held (r.state.countdown - suc k))

-- a receiver that looks at the next tick has no calm one
pub look_now : (r : ReceiverHalf) (live : Bool) (keeps : ℕ) → (eqb r.state.phase 2 && eqb r.state.countdown 0) ≡ true → receiver_calm r live keeps ≡ 0
look_now r true keeps h = let t = both (eqb r.state.phase 2) _ h in looks_calm r true keeps refl (eqb-true _ _ t.0) ∙ eqb-true _ _ t.1
look_now r false keeps h = let t = both (eqb r.state.phase 2) _ h in off_calm r keeps (eqb-true _ _ t.0)
