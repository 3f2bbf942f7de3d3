-- A way: ticks that only count are what a run of as many does, so that a run may skip them.
-- Assumes nothing.
use Prim.Native.Nat.{ℕ, zero, suc, ◌+◌, ◌≤◌, ◌<◌}
use native.Mathlib.Nat.{zero-add, suc-add}
use native.Mathlib.Omega.{arith}
use mathlib.Core.Path.{◌≡◌, ap, ap₂, sym, ◌∙◌}
use mathlib.Core.Bool.{Bool, true, ◌&&◌}
use Rattle.line_rules.specs.Sending.{or_set}
use borrow.Author.Tests.{ne_eqb}
use Rattle.link_rules.specs.declared.SenderHalf.{SenderHalf}
use Rattle.link_rules.specs.declared.ReceiverHalf.{ReceiverHalf}
use Rattle.link_rules.specs.Within.{clear}
use Rattle.way_rules.specs.declared.Ends.{Ends}
use Rattle.way_rules.specs.declared.Way.{Way}
use Rattle.way_rules.specs.Along.{sent, sent_by, heard_by, way_tick, way_ticks}
use Rattle.way_rules.specs.Calm.{sender_calm, sender_keeps, sender_skipped, receiver_calm, receiver_skipped, looks, heard_calm, way_calm, way_skipped}
use Rattle.way_rules.proofs.Branches.{Least, least_both, least_again, least_none}
use Rattle.way_rules.proofs.Senders.{Counted, sender_counts, keeps_level, sender_again, keeps_again, sender_then}
use Rattle.way_rules.proofs.Receivers.{receiver_counts, receiver_again, receiver_then, look_now}

-- a tick that only counts does in both halves
halves : (e : Ends) (w : Way) → Least (heard_calm e w) (sender_calm e w.sender) (way_calm e w)
unfolding way_calm
halves e w = least_both (heard_calm e w) (sender_calm e w.sender)

module _ (e : Ends) (w : Way) (h : 1 ≤ way_calm e w) where
  in_sender : 1 ≤ sender_calm e w.sender
  in_sender = omega (arith, (halves e w).second)

  in_receiver : 1 ≤ heard_calm e w
  in_receiver = omega (arith, (halves e w).first)

  counts : Counted e w.sender (sent e w)
  counts = sender_counts e w.sender in_sender

  one_skips : way_tick e w ≡ way_skipped e 1 w
  unfolding way_tick way_skipped
  one_skips =
      ap (heard_by (sent_by e w (sent e w)))
      (receiver_counts w.receiver e.live (sender_keeps e w.sender w.receiver.state.phase) in_receiver e.hear (sent e w).level (keeps_level e w.sender w.receiver.state.phase))
      ∙ ap₂ (λ (s : SenderHalf) (z : Bool). record { sender = s; receiver = receiver_skipped 1 w.receiver; empty = or_set (z && e.enabled) w.empty; faults = w.faults })
      counts.half counts.drained

  -- the calm lasts, but for the tick that passed
  calm_left : way_calm e w ≤ suc (way_calm e (way_skipped e 1 w))
  unfolding way_calm way_skipped
  calm_left =
      least_again (heard_calm e w) (sender_calm e w.sender)
      (heard_calm e (way_skipped e 1 w)) (sender_calm e (sender_skipped e 1 w.sender))
      (receiver_again w.receiver e.live (sender_keeps e w.sender w.receiver.state.phase) in_receiver
      (sender_keeps e (sender_skipped e 1 w.sender) w.receiver.state.phase) (keeps_again e w.sender in_sender w.receiver.state.phase))
      (sender_again e w.sender in_sender)

-- k ticks after the first are k + 1
way_then : (e : Ends) (w : Way) (k : ℕ) → suc k ≤ way_calm e w → way_skipped e k (way_skipped e 1 w) ≡ way_skipped e (suc k) w
unfolding way_skipped
way_then e w k h =
    ap₂ (λ (s : SenderHalf) (r : ReceiverHalf). record { sender = s; receiver = r; empty = w.empty; faults = w.faults })
    (sender_then e w.sender k (omega (arith, (halves e w).second))) (receiver_then w.receiver k)

-- one or more of them
skips_on : (e : Ends) (k : ℕ) (w : Way) → suc k ≤ way_calm e w → way_ticks e (suc k) w ≡ way_skipped e (suc k) w
skips_on e zero w h = one_skips e w h
skips_on e (suc k) w h =
    ap (way_ticks e (suc k)) (one_skips e w (omega arith))
    ∙ skips_on e k (way_skipped e 1 w) (omega (arith, calm_left e w (omega arith)))
    ∙ way_then e w (suc k) h

pub skips : (e : Ends) (k : ℕ) (w : Way) → 0 < k → k ≤ way_calm e w → way_skipped e k w ≡ way_ticks e k w
skips e zero w z h = absurd (omega arith)
skips e (suc k) w z h = sym (skips_on e k w h)

-- == the code's ways ==

-- a sender with no calm tick leaves the way none
pub none_sent : (e : Ends) (w : Way) (n : ℕ) → n ≡ sender_calm e w.sender → n ≡ 0 → 0 ≡ way_calm e w
none_sent e w n q z = let k : 0 ≡ way_calm e w = omega (arith, (halves e w).second, q) in k

-- nor does a receiver that looks at the next tick leave one
pub looks_next : (e : Ends) (w : Way) (b : Bool) → b ≡ looks w → b ≡ true → 0 ≡ way_calm e w
unfolding way_calm
looks_next e w b q t = least_none _ _ (look_now w.receiver e.live (sender_keeps e w.sender w.receiver.state.phase) (sym q ∙ t))

-- a receiver with no character under way goes by the line
pub rests_calm : (e : Ends) (w : Way) → e.live ≡ true → (w.receiver.state.phase ≡ 2 → ⊥) → clear w.receiver ≡ true
    → heard_calm e w ≡ sender_keeps e w.sender w.receiver.state.phase
unfolding receiver_calm
rests_calm e w l p c = rw (l, ne_eqb _ _ p, c)

-- == one after another ==

pub ticks_add : (e : Ends) (k n : ℕ) (w : Way) → way_ticks e (k + n) w ≡ way_ticks e n (way_ticks e k w)
ticks_add e zero n w = rw zero-add
ticks_add e (suc k) n w = rw suc-add (ticks_add e k n (way_tick e w))
