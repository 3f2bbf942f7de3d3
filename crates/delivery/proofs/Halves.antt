-- The barest bench: a sending half and a receiving half of `link` on a line, with a mark that is set by a fault. It shows both ends, so that the
-- promise is not made of nothing, and is an example to copy.
-- Assumes nothing.
use mathlib.Core.Path.{◌≡◌, refl}
use mathlib.Core.Bool.{Bool, true, false, ◌||◌}
use mathlib.Core.List.{List, [], ◌∷◌, ◌++◌}
use lib.Dec.{eqb}
use lib.ListN.{replicate}
use Rattle.line_rules.specs.declared.Format.{Format}
use Rattle.line_rules.specs.Sending.{on, part, odd_ones, parity_bit, frame_length}
use Rattle.line_rules.specs.Clocks.{no_rxc}
use Rattle.line_rules.specs.Receiving.{sample}
use Rattle.link_rules.specs.declared.SenderHalf.{SenderHalf}
use Rattle.link_rules.specs.declared.ReceiverHalf.{ReceiverHalf}
use Rattle.link_rules.specs.Parts.{idle_sender, resting}
use Rattle.link_rules.specs.Transmitting.{transmit}
use Rattle.link_rules.specs.Hearing.{receive}
use Rattle.delivery.specs.OneWay.{Deed, Ticks, Writes, Reads, OneWay, no_log, runs, all_allowed}
use Rattle.delivery.specs.Promise.{Promised}
use Rattle.delivery.specs.Ends.{sender_after, receiver_after, faults, Fit, Sends, Receives}
use Rattle.delivery.proofs.Carried.{way_delivers}

pub record Bare : Type 0 where
  pub sender : SenderHalf
  pub receiver : ReceiverHalf
  pub fault : Bool

module _ (f g : Format) where
  abbrev sent : Bare → Bool
  sent b = (transmit b.sender true false f).level

  -- its steps are the deeds themselves
  abbrev pub halves : OneWay Bare Deed
  halves =
      record {
        next = λ b k.
            record {
              sender = sender_after f k b.sender;
              receiver = receiver_after g (sent b) k b.receiver;
              fault = b.fault || faults g (sent b) k b.receiver;
            };
        deed = λ b k. k;
        steady = λ b k. true;
        may_write = λ b. eqb b.sender.full 0;
        level = sent;
        unread = λ b. on b.receiver.unread;
        character = λ b. b.receiver.holding;
        stamp = λ b. b.receiver.stamp;
        flagged = λ b. b.fault;
      }

  -- nothing but the half is wanted to send, and no fault so far to receive
  pub halves_send : Sends halves f (λ b. Unit {0}) (λ b. b.sender)
  halves_send = record { may_write_lem = λ b h. refl; level = λ b h. refl; ready = λ b k h s. tt; follows = λ b k h s. refl }

  pub halves_receive : Receives halves g (λ b. b.fault ≡ false) (λ b. b.receiver)
  halves_receive = record { unread = λ b h. refl; character = λ b h. refl; stamp = λ b h. refl; no_flag = λ b h. h; ready = λ b k h s n. rw (h, n); follows = λ b k h s. refl }

  -- a sender that rests and a receiver that searches, whose tally is near its wrap
  abbrev pub at_rest : Bare
  at_rest = record { sender = idle_sender; receiver = resting 1 0 0 no_rxc (record { 0 = 4294967286 }); fault = false }

  pub halves_deliver : Fit f g → (ks : List Deed) → all_allowed halves (frame_length f) (no_log at_rest) ks ≡ true → Promised halves f (runs halves (no_log at_rest) ks)
  halves_deliver fit ks ok = way_delivers fit halves_send halves_receive at_rest (record { sends = tt; hears = refl; idle = record { frame = refl; empty = refl; guard = refl }; searches = refl; read = refl }) ks ok

-- == a run ==

-- 5 bits, no parity, one stop, one tick a bit: L is 7, D is 6. The second character waits for the first one's frame, and both are read
abbrev five : Format
five = record { factor = 1; length = 5; parity = 0; even = 0; stop = 1 }

abbrev two_characters : List Deed
two_characters = Writes 42 ∷ Ticks ∷ Writes 21 ∷ replicate 12 Ticks ++ Reads ∷ Ticks ∷ Reads ∷ []

pub two_allowed : all_allowed (halves five five) (frame_length five) (no_log (at_rest five five)) two_characters ≡ true
unfolding part odd_ones parity_bit sample transmit receive
two_allowed = refl

pub two_logged : (runs (halves five five) (no_log (at_rest five five)) two_characters).log
    ≡ record {
      written = record { at = 1; value = 21 } ∷ record { at = 0; value = 42 } ∷ [];
      came = record { at = 14; value = 21 } ∷ record { at = 7; value = 10 } ∷ [];
      read = 21 ∷ 10 ∷ [];
    }
unfolding part odd_ones parity_bit sample transmit receive
two_logged = refl

-- the second character came with tick 14, and its stamp has wrapped: 4294967286 + 14 is 4 more than 4294967296
pub two_stamped : (runs (halves five five) (no_log (at_rest five five)) two_characters).bench.receiver.stamp ≡ record { 0 = 4 }
unfolding part odd_ones parity_bit sample transmit receive
two_stamped = refl
