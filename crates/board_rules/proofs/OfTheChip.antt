-- Two of the chip's promises over runs, as promises of each channel of a board.
-- Assumes nothing.
use Prim.Native.Nat.{ℕ}
use native.Mathlib.Omega.{arith}
use mathlib.Core.Path.{◌≡◌, sym, ap, subst, ◌∙◌}
use mathlib.Core.Bool.{true, false}
use mathlib.Core.List.{List, [], ◌∷◌}
use lib.ListN.{length}
use Rattle.ins2651_rules.specs.declared.Device.{Device}
use Rattle.ins2651_rules.specs.Shape.{reset_device}
use Rattle.ins2651_rules.specs.Status.{Kept}
use Rattle.ins2651_rules.specs.Ranges.{in_range}
use Rattle.ins2651_rules.specs.Runs as chip
use Rattle.ins2651_rules.specs.History.{clears_errors, history, status_by}
use Rattle.ins2651_rules.proofs.FlagsStay.{Stay, flags_stay}
use Rattle.ins2651_rules.proofs.InRange.{after_kept}
use Rattle.ins2651_rules.proofs.ByHistory.{status_by_history}
use Rattle.board_rules.specs.Ports.{Call, In, Reset, Deed, ResetsAll, unless, refusal, channel_of, selected, deed}
use Rattle.board_rules.specs.Runs.{device_at, said_by, said, Cabinet, next, after}
use Rattle.board_rules.specs.Channels.{calls_by, shown, calls_at}
use Rattle.board_rules.proofs.Channels.{channel_is_a_chip, channel_after, room_stays_through, one_shown, read_reaches}

-- framing, overrun and parity of a channel, once set, are set after every run of board calls that makes none there that clears them
pub channel_flags_stay : (w : Cabinet) (cs : List Call) (k : ℕ) → in_range (device_at w.room k) ≡ true → chip.nowhere clears_errors (calls_at k w cs) ≡ true → Stay (device_at w.room k).flags (device_at (after w cs).room k).flags
channel_flags_stay w cs k h n =
    subst (λ (d : Device). Stay (device_at w.room k).flags d.flags) (sym (channel_is_a_chip w cs k)) (flags_stay (device_at w.room k) (calls_at k w cs) h n)

-- the stored status byte of a channel in range is what its other fields mean, after every run of board calls (P7)
pub channel_kept : (w : Cabinet) (cs : List Call) (k : ℕ) → in_range (device_at w.room k) ≡ true → Kept (device_at (after w cs).room k)
channel_kept w cs k h = subst Kept (sym (channel_is_a_chip w cs k)) (after_kept (device_at w.room k) (calls_at k w cs) h)

-- == status by history ==

module _ (w : Cabinet) (eight : length w.room ≡ 8) (cs : List Call) where
  abbrev now : Cabinet
  now = after w (Reset ∷ cs)

  -- what is done at a channel after the board's reset
  abbrev since : ℕ → List chip.Call
  since k = calls_at k (next w Reset) cs

  reset_reaches : deed w.board w.room Reset ≡ ResetsAll
  reset_reaches = ap (λ (n : ℕ). unless (refusal n false false) ResetsAll) eight

  from_reset : (k : ℕ) → device_at now.room k ≡ chip.after reset_device (since k)
  from_reset k =
      channel_is_a_chip (next w Reset) cs k
      ∙ ap (λ (d : Device). chip.after d (since k)) (channel_after w.board w.room Reset k ∙ ap (λ (e : Deed). chip.after (device_at w.room k) (calls_by k e)) reset_reaches)

  -- a status read of a channel answers what the history of that channel says, since the board's reset
  pub channel_status_by_history : (k : ℕ) → chip.said (device_at now.room k) (chip.Read 1) ≡ record { refusal = 0; values = status_by (history reset_device (since k) []) ∷ [] }
  channel_status_by_history k = ap (λ (d : Device). chip.said d (chip.Read 1)) (from_reset k) ∙ status_by_history (since k)

  -- .. so that port 1 of a selected board answers it
  pub port_1_by_history : selected now.board ≡ true → said now.board now.room (In 1) ≡ record { refusal = 0; value = status_by (history reset_device (since (channel_of now.board)) []) }
  unfolding said
  port_1_by_history s =
      ap (said_by now.room) (read_reaches now.board now.room (room_stays_through w (Reset ∷ cs) ∙ eight) s 1 (omega arith))
      ∙ ap shown (channel_status_by_history (channel_of now.board))
      ∙ ap (λ (v : ℕ). record { refusal = 0; value = v }) (one_shown (status_by (history reset_device (since (channel_of now.board)) [])))
