-- The tallies of P4 on a half and on a way: they add up, each tick counts one on both ends, and no other part goes by them.
-- Assumes nothing.
use Prim.Native.Nat.{ℕ, zero, suc, ◌+◌}
use native.Mathlib.Omega.{arith}
use mathlib.Core.Path.{◌≡◌, refl, ap, ap₂, ◌∙◌}
use Rattle.line_rules.specs.declared.TxC.{TxC}
use Rattle.line_rules.specs.declared.RxC.{RxC}
use Rattle.line_rules.specs.Clocks.{tx_later, rx_later}
use Rattle.line_rules.proofs.Clocks.{tx_later_later, rx_later_later}
use Rattle.link_rules.specs.declared.SenderHalf.{SenderHalf}
use Rattle.link_rules.specs.declared.ReceiverHalf.{ReceiverHalf}
use Rattle.link_rules.specs.Parts.{sender_later, receiver_later}
use Rattle.link_rules.proofs.Halves.{transmit_counts, receive_counts}
use Rattle.way_rules.specs.declared.Ends.{Ends}
use Rattle.way_rules.specs.declared.Way.{Way}
use Rattle.way_rules.specs.Along.{sent, way_tick, way_ticks}
use Rattle.way_rules.specs.Calm.{way_later}

-- == m ticks after n others ==

pub sender_later_lem : (m n : ℕ) (s : SenderHalf) → sender_later m (sender_later n s) ≡ sender_later (n + m) s
sender_later_lem m n s =
    ap (λ (t : TxC). record { frame = s.frame; holding = s.holding; full = s.full; guard = s.guard; start = s.start; tally = t }) (tx_later_later m n s.tally)

pub receiver_later_lem : (m n : ℕ) (r : ReceiverHalf) → receiver_later m (receiver_later n r) ≡ receiver_later (n + m) r
receiver_later_lem m n r =
    ap (λ (t : RxC). record { state = r.state; format = r.format; holding = r.holding; unread = r.unread; stamp = r.stamp; tally = t }) (rx_later_later m n r.tally)

pub way_later_lem : (m n : ℕ) (w : Way) → way_later m (way_later n w) ≡ way_later (n + m) w
way_later_lem m n w =
    ap₂ (λ (s : SenderHalf) (r : ReceiverHalf). record { sender = s; receiver = r; empty = w.empty; faults = w.faults })
    (sender_later_lem m n w.sender) (receiver_later_lem m n w.receiver)

-- == k after the first ==

pub one_and : (k : ℕ) → 1 + k ≡ suc k
one_and k = omega arith

pub sender_next : (k : ℕ) (s : SenderHalf) → sender_later k (sender_later 1 s) ≡ sender_later (suc k) s
sender_next k s = sender_later_lem k 1 s ∙ ap (λ (n : ℕ). sender_later n s) (one_and k)

pub receiver_next : (k : ℕ) (r : ReceiverHalf) → receiver_later k (receiver_later 1 r) ≡ receiver_later (suc k) r
receiver_next k r = receiver_later_lem k 1 r ∙ ap (λ (n : ℕ). receiver_later n r) (one_and k)

pub way_next : (k : ℕ) (w : Way) → way_later k (way_later 1 w) ≡ way_later (suc k) w
way_next k w = way_later_lem k 1 w ∙ ap (λ (n : ℕ). way_later n w) (one_and k)

-- == n ticks count n at both ends ==

tick_sends : (e : Ends) (w : Way) → (way_tick e w).sender.tally ≡ tx_later 1 w.sender.tally
unfolding way_tick
tick_sends e w = transmit_counts w.sender e.ready e.broken e.send

tick_hears : (e : Ends) (w : Way) → (way_tick e w).receiver.tally ≡ rx_later 1 w.receiver.tally
unfolding way_tick
tick_hears e w = receive_counts w.receiver e.live e.hear (sent e w).level

pub ways_count : (e : Ends) (n : ℕ) (w : Way) → ((way_ticks e n w).sender.tally ≡ tx_later n w.sender.tally) × ((way_ticks e n w).receiver.tally ≡ rx_later n w.receiver.tally)
ways_count e zero w = (refl, refl)
ways_count e (suc n) w =
    let c = ways_count e n (way_tick e w) in (
      c.0 ∙ ap (tx_later n) (tick_sends e w) ∙ tx_later_later n 1 w.sender.tally ∙ ap (λ (k : ℕ). tx_later k w.sender.tally) (one_and n),
      c.1 ∙ ap (rx_later n) (tick_hears e w) ∙ rx_later_later n 1 w.receiver.tally ∙ ap (λ (k : ℕ). rx_later k w.receiver.tally) (one_and n),
    )
