-- A call on one channel changes no other, and its answer depends on that channel, the select, the masks and the board's number alone.
-- Assumes nothing.
use Prim.Native.Nat.{ℕ}
use mathlib.Core.Path.{◌≡◌, refl, sym, ap, ap₂, subst, ◌∙◌}
use mathlib.Core.Bool.{Bool, true, false, cond, not, ◌||◌, true≢false}
use mathlib.Core.List.{List}
use lib.Dec.{eqb}
use lib.ListN.{length}
use borrow.Author.Tests.{ne_eqb, eqb-true}
use Rattle.line_rules.proofs.Table.{both}
use Rattle.line_rules.proofs.Choice.{either}
use Rattle.ins2651_rules.specs.declared.Device.{Device}
use Rattle.ins2651_rules.specs.Runs as chip
use Rattle.board_rules.specs.declared.Board.{Board}
use Rattle.board_rules.specs.Ports.{Call, In, Out, Reset, Pins, Transmit, Receive, Outputs, Interrupts, Deed, Refused, Shows, Sets, At, ResetsAll, channel_of, with_select, with_transmit_mask, with_receive_mask, in_refusal, out_refusal, named_refusal, unless, reading, writing, deed}
use Rattle.board_rules.specs.Runs.{device_at, board_by, said_by, board_after, room_after, said}
use Rattle.board_rules.specs.Channels.{reaches, calls_by, shown}
use Rattle.board_rules.specs.About.{status_port, about}
use Rattle.board_rules.proofs.Channels.{channel_after, unreached_stays}

-- what a call comes to is a call of the chip at channel k, or none
abbrev at : ℕ → Deed → Bool
at k (Refused n) = true
at k (Shows v) = true
at k (Sets b) = true
at k (At j c) = eqb j k
at k ResetsAll = false

unless_at : (k n : ℕ) (e : Deed) → at k e ≡ true → at k (unless n e) ≡ true
unless_at k n e h = either (λ (x : Deed). at k x ≡ true) (eqb n 0) h refl

writing_at : (k : ℕ) (x y z : Bool) (p q r : Board) (e : Deed) → ((x || y || z) || at k e) ≡ true → at k (cond x (Sets p) (cond y (Sets q) (cond z (Sets r) e))) ≡ true
writing_at k true y z p q r e h = refl
writing_at k false true z p q r e h = refl
writing_at k false false true p q r e h = refl
writing_at k false false false p q r e h = h

-- a call that is about a channel comes to such
about_at : (b : Board) (room : List Device) (c : Call) (k : ℕ) → about b c k ≡ true → at k (deed b room c) ≡ true
about_at b room (In port) k h =
    unless_at k (in_refusal b (length room) port) (reading b room port)
    (either (λ (e : Deed). at k e ≡ true) (eqb port 4) refl (either (λ (e : Deed). at k e ≡ true) (eqb port 5) refl (both (not (status_port port)) (eqb (channel_of b) k) h).1))
about_at b room (Out port v) k h =
    unless_at k (out_refusal b (length room) port) (writing b port v)
    (writing_at k (eqb port 4) (eqb port 5) (eqb port 7) (with_transmit_mask b v) (with_receive_mask b v) (with_select b v) (At (channel_of b) (chip.Write port v)) h)
about_at b room Reset k h = absurd (true≢false (sym h))
about_at b room (Pins channel dsr dcd cts) k h = unless_at k (named_refusal (length room) channel) (At channel (chip.SetPins dsr dcd cts)) h
about_at b room (Transmit channel) k h = unless_at k (named_refusal (length room) channel) (At channel chip.Transmit) h
about_at b room (Receive channel x) k h = unless_at k (named_refusal (length room) channel) (At channel (chip.Receive x)) h
about_at b room (Outputs channel) k h = unless_at k (named_refusal (length room) channel) (At channel chip.Outputs) h
about_at b room Interrupts k h = absurd (true≢false (sym h))

-- == what a call comes to is the same in two rooms of as many channels ==

-- a read of a port that is no status
no_status : (port : ℕ) (v w t u : ℕ) (e : Deed) → not (status_port port) ≡ true → cond (eqb port 4) (Shows v) (cond (eqb port 5) (Shows w) e) ≡ cond (eqb port 4) (Shows t) (cond (eqb port 5) (Shows u) e)
no_status port v w t u e h = go (eqb port 4) (eqb port 5) h
  where
    go : (x y : Bool) → not (x || y) ≡ true → cond x (Shows v) (cond y (Shows w) e) ≡ cond x (Shows t) (cond y (Shows u) e)
    go true y h = absurd (true≢false (sym h))
    go false true h = absurd (true≢false (sym h))
    go false false h = refl

same_deed : (b : Board) (r s : List Device) (c : Call) (k : ℕ) → length r ≡ length s → about b c k ≡ true → deed b r c ≡ deed b s c
same_deed b r s (In port) k l h =
    ap₂ unless (ap (λ (n : ℕ). in_refusal b n port) l)
    (no_status port _ _ _ _ (At (channel_of b) (chip.Read port)) (both (not (status_port port)) (eqb (channel_of b) k) h).0)
same_deed b r s (Out port v) k l h = ap (λ (n : ℕ). unless (out_refusal b n port) (writing b port v)) l
same_deed b r s Reset k l h = absurd (true≢false (sym h))
same_deed b r s (Pins channel dsr dcd cts) k l h = ap (λ (n : ℕ). unless (named_refusal n channel) (At channel (chip.SetPins dsr dcd cts))) l
same_deed b r s (Transmit channel) k l h = ap (λ (n : ℕ). unless (named_refusal n channel) (At channel chip.Transmit)) l
same_deed b r s (Receive channel x) k l h = ap (λ (n : ℕ). unless (named_refusal n channel) (At channel (chip.Receive x))) l
same_deed b r s (Outputs channel) k l h = ap (λ (n : ℕ). unless (named_refusal n channel) (At channel chip.Outputs)) l
same_deed b r s Interrupts k l h = absurd (true≢false (sym h))

said_alike : (r s : List Device) (k : ℕ) (e : Deed) → device_at r k ≡ device_at s k → at k e ≡ true → said_by r e ≡ said_by s e
said_alike r s k (Refused n) d h = refl
said_alike r s k (Shows v) d h = refl
said_alike r s k (Sets b) d h = refl
said_alike r s k (At j c) d h = subst (λ (i : ℕ). shown (chip.said (device_at r i) c) ≡ shown (chip.said (device_at s i) c)) (sym (eqb-true j k h)) (ap (λ (x : Device). shown (chip.said x c)) d)
said_alike r s k ResetsAll d h = absurd (true≢false (sym h))

unreached_by : (k j : ℕ) (e : Deed) → (k ≡ j → ⊥) → at k e ≡ true → reaches j e ≡ false
unreached_by k j (Refused n) d h = refl
unreached_by k j (Shows v) d h = refl
unreached_by k j (Sets b) d h = refl
unreached_by k j (At i c) d h = ne_eqb i j (λ e. d (sym (eqb-true i k h) ∙ e))
unreached_by k j ResetsAll d h = absurd (true≢false (sym h))

-- a call that is about a channel makes none of the chip's at another
pub about_one : (b : Board) (room : List Device) (c : Call) (k j : ℕ) → about b c k ≡ true → (k ≡ j → ⊥) → reaches j (deed b room c) ≡ false
about_one b room c k j h n = unreached_by k j (deed b room c) n (about_at b room c k h)

-- == the promises ==

-- two rooms after a call: the same answer, the same board, the same channel k
pub record Alike (b : Board) (r s : List Device) (c : Call) (k : ℕ) : Type 0 where
  pub answer : said b r c ≡ said b s c
  pub board : board_after b r c ≡ board_after b s c
  pub channel : device_at (room_after b r c) k ≡ device_at (room_after b s c) k

-- of two rooms of as many channels that agree at k, a call that is about k cannot tell one from the other
pub answer_depends_on_one : (b : Board) (r s : List Device) (c : Call) (k : ℕ) → length r ≡ length s → device_at r k ≡ device_at s k → about b c k ≡ true → Alike b r s c k
unfolding said board_after
answer_depends_on_one b r s c k l d h =
    let e : deed b r c ≡ deed b s c = same_deed b r s c k l h in
    record {
      answer = said_alike r s k (deed b r c) d (about_at b r c k h) ∙ ap (said_by s) e;
      board = ap (board_by b) e;
      channel =
          channel_after b r c k
          ∙ ap₂ (λ (x : Device) (y : Deed). chip.after x (calls_by k y)) d e
          ∙ sym (channel_after b s c k);
    }

-- .. and leaves every other channel as it was
pub no_other_changes : (b : Board) (room : List Device) (c : Call) (k j : ℕ) → about b c k ≡ true → (k ≡ j → ⊥) → device_at (room_after b room c) j ≡ device_at room j
no_other_changes b room c k j h n = unreached_stays b room c j (about_one b room c k j h n)
