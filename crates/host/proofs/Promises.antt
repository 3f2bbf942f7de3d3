-- What each lent call promises, and how a promise is made of others: where a call is spared, only counts, only looks or is refused, and which of two it is.
-- Assumes nothing.
use Prim.Native.Nat.{ℕ, ◌*◌}
use native.Mathlib.Omega.{arith}
use mathlib.Core.Path.{◌≡◌, refl, ap, sym, ◌∙◌}
use mathlib.Core.Bool.{Bool, true, false}
use lib.Dec.{eqb}
use borrow.Author.Tests.{eqb-true, eqb-false, eq-eqb, ne_eqb}
use Rattle.line_rules.specs.Sending.{bit, on}
use Rattle.line_rules.proofs.Choice.{each}
use Rattle.ins2651_rules.specs.declared.Device.{Device}
use Rattle.ins2651_rules.specs.Shape.{Ticked, Outcome, Answer, reset_device, send_counted, hear_counted, device_later, done}
use Rattle.ins2651_rules.specs.Ranges.{in_range, settled}
use Rattle.ins2651_rules.specs.RegisterReads.{read_holding, read_status, read_register, read}
use Rattle.ins2651_rules.specs.RegisterWrites.{write_holding, write_register, write}
use Rattle.ins2651_rules.specs.Pinning.{pinned, set_pins}
use Rattle.ins2651_rules.specs.Ticks.{transmit_tick, transmit, receive_tick, receive, tick}
use Rattle.ins2651_rules.specs.Status.{outputs_of}
use Rattle.ins2651_rules.specs.Looks.{peek, outputs}
use Rattle.ins2651_rules.proofs.Done.{register_done, done_write, done_pins, done_receive}
use Rattle.ins2651_rules.proofs.Settled.{settled_is, settled_out, settled_in}
use Rattle.ins2651_rules.specs.Still.{rests, searches, still}
use Rattle.ins2651_rules.specs.Stamps.{stamp, start, transmit_tally, receive_tally}
use Rattle.ins2651_rules.proofs.StaysStill.{rests_still, searches_still, still_stays}
use Rattle.host.specs.declared.Reply.{Reply}
use Rattle.host.specs.Replies.{word, levels, both_ticks, heard, ticked, read_refused, write_refused, pins_refused, level_refused, tick_refused}
use Rattle.host.proofs.Calls.{Bytes, Promise}
use Rattle.host.proofs.Spares.{Spares}
use Rattle.host.proofs.Decides.{Decides}
use Rattle.host.proofs.Either.{Divides}
use Rattle.host.proofs.Looks.{Looks}
use Rattle.host.proofs.Refusable.{Chooses}

-- == the acts in place ==

abbrev pub resets : Promise 0
resets = record { answers = λ d xs. 0; leaves = λ d xs. reset_device }

-- 1 where the device is in range, and the device settled
abbrev pub settles : Promise 0
settles = record { answers = λ d xs. bit (in_range d); leaves = λ d xs. settled d }

-- a read that is done answers its value
abbrev pub valued : (Device → Bytes 1 → Answer) → Promise 1
valued R = record { answers = λ d xs. (R d xs).value; leaves = λ d xs. (R d xs).device }

abbrev pub fetches_status : Promise 1
fetches_status = valued (λ d xs. read_status d)

abbrev pub fetches_data : Promise 1
fetches_data = valued (λ d xs. read_holding d)

abbrev pub fetches : Promise 1
fetches = valued (λ d xs. read_register d xs.0)

abbrev pub stores_data : Promise 2
stores_data = record { answers = λ d xs. 0; leaves = λ d xs. write_holding d xs.1.0 }

abbrev pub stores : Promise 2
stores = record { answers = λ d xs. 0; leaves = λ d xs. write_register d xs.0 xs.1.0 }

abbrev pub pins : Promise 3
pins = record { answers = λ d xs. 0; leaves = λ d xs. pinned d xs.0 xs.1.0 xs.1.1.0 }

abbrev pub sends : Promise 0
sends = record { answers = λ d xs. (transmit_tick d).level; leaves = λ d xs. (transmit_tick d).device }

abbrev pub counts_send : Promise 0
counts_send = record { answers = λ d xs. 1; leaves = λ d xs. send_counted d }

abbrev pub hears_tick : Promise 1
hears_tick = record { answers = λ d xs. 0; leaves = λ d xs. receive_tick d (on xs.0) }

abbrev pub counts_hear : Promise 1
counts_hear = record { answers = λ d xs. 0; leaves = λ d xs. hear_counted d }

abbrev pub hears : Promise 1
hears = record { answers = λ d xs. 0; leaves = λ d xs. heard d xs.0 }

abbrev pub ticks_both : Promise 1
ticks_both = record { answers = λ d xs. (both_ticks d xs.0).answer; leaves = λ d xs. (both_ticks d xs.0).device }

abbrev pub counts_both : Promise 1
counts_both = record { answers = λ d xs. 1; leaves = λ d xs. device_later 1 d }

abbrev pub hears_and_sends : Promise 1
hears_and_sends = record { answers = λ d xs. (ticked d xs.0).answer; leaves = λ d xs. (ticked d xs.0).device }

-- == the calls ==

abbrev pub reads : Promise 1
reads = record { answers = λ d xs. word (read d xs.0); leaves = λ d xs. (read d xs.0).device }

abbrev pub writes : Promise 2
writes = record { answers = λ d xs. (write d xs.0 xs.1.0).refusal; leaves = λ d xs. (write d xs.0 xs.1.0).device }

abbrev pub sets_pins : Promise 3
sets_pins = record { answers = λ d xs. (set_pins d xs.0 xs.1.0 xs.1.1.0).refusal; leaves = λ d xs. (set_pins d xs.0 xs.1.0 xs.1.1.0).device }

abbrev pub transmits : Promise 0
transmits = record { answers = λ d xs. (transmit d).level; leaves = λ d xs. (transmit d).device }

abbrev pub receives : Promise 1
receives = record { answers = λ d xs. (receive d xs.0).refusal; leaves = λ d xs. (receive d xs.0).device }

abbrev pub ticks : Promise 1
ticks = record { answers = λ d xs. word (tick d xs.0); leaves = λ d xs. (tick d xs.0).device }

abbrev pub tells_outputs : Promise 0
tells_outputs = record { answers = λ d xs. levels (outputs d); leaves = λ d xs. d }

abbrev pub peeks : Promise 0
peeks = record { answers = λ d xs. peek d; leaves = λ d xs. d }

abbrev pub tells_range : Promise 0
tells_range = record { answers = λ d xs. bit (in_range d); leaves = λ d xs. d }

abbrev pub tells_stamp : Promise 0
tells_stamp = record { answers = λ d xs. (stamp d).0; leaves = λ d xs. d }

abbrev pub tells_start : Promise 0
tells_start = record { answers = λ d xs. (start d).0; leaves = λ d xs. d }

abbrev pub tells_transmit_tally : Promise 0
tells_transmit_tally = record { answers = λ d xs. (transmit_tally d).0; leaves = λ d xs. d }

abbrev pub tells_receive_tally : Promise 0
tells_receive_tally = record { answers = λ d xs. (receive_tally d).0; leaves = λ d xs. d }

-- == where a call is spared ==

abbrev pub within_range : Device → Bytes 0 → Bool
within_range d xs = in_range d

pub settled_or_reset : Spares 0 1 within_range resets settles
unfolding settled
settled_or_reset = record { still = λ d xs e. (rw e refl, rw e refl); acts = λ d xs e. (rw e refl, rw e refl) }

-- == where a tick only counts ==

abbrev pub resting : Device → Bytes 0 → Bool
resting d xs = rests d

pub rests_or_sends : Decides 0 resting counts_send sends sends
rests_or_sends =
    record {
      is = λ d xs e. (ap (λ (t : Ticked). t.level) (sym (rests_still d e)), ap (λ (t : Ticked). t.device) (sym (rests_still d e)));
      not = λ d xs e. (refl, refl);
    }

abbrev pub searching : Device → Bytes 1 → Bool
searching d xs = searches d xs.0

pub searches_or_hears : Decides 1 searching counts_hear hears_tick hears
searches_or_hears = record { is = λ d xs e. rw e (refl, refl); not = λ d xs e. rw e (refl, refl) }

abbrev pub staying : Device → Bytes 1 → Bool
staying d xs = still d xs.0

pub stays_or_ticks : Decides 1 staying counts_both ticks_both hears_and_sends
stays_or_ticks = record { is = λ d xs e. rw e (refl, refl); not = λ d xs e. rw e (refl, refl) }

-- of a device in range it is the tick all the same
pub heard_is_tick : (d : Device) → in_range d ≡ true → (x : ℕ) → heard d x ≡ receive_tick d (on x)
heard_is_tick d h x = each (λ (w : Device). w ≡ receive_tick d (on x)) (searches d x) (λ e. sym (searches_still d h x e)) (λ e. refl)

pub ticked_is_both : (d : Device) → in_range d ≡ true → (x : ℕ) → ticked d x ≡ both_ticks d x
ticked_is_both d h x = each (λ (r : Reply). r ≡ both_ticks d x) (still d x) (λ e. ap (λ (t : Ticked). record { answer = t.level; device = t.device }) (sym (still_stays d h x e))) (λ e. refl)

-- == where a call only looks ==

-- in range where 1 is answered, and out of it where not
told : (b c : Bool) → eqb (bit b) 1 ≡ c → b ≡ c
told true c e = e
told false c e = e

-- a number of a device in range, as a call by value gives it
abbrev pub shows : (Device → ℕ) → Device → Bytes 0 → ℕ
shows N d xs = N d

-- of any device it is that of the settled one, so that a device out of range shows what one just reset does
looked : (N : Device → ℕ) (v : ℕ) → v ≡ N reset_device → Looks v settles (shows N) (record { answers = λ d xs. N (settled d); leaves = λ d xs. d })
looked N v q =
    record {
      sound = λ d e. (refl, settled_is d (told _ true e));
      unsound = λ d e. (q ∙ ap N (sym (settled_out d (told _ false e))), refl);
    }

pub outputs_or_reset : Looks 31 settles (shows (λ d. levels (outputs_of d))) tells_outputs
unfolding outputs outputs_of
outputs_or_reset = looked (λ d. levels (outputs_of d)) 31 refl

pub status_or_reset : Looks 0 settles (shows (λ d. d.status)) peeks
unfolding peek
status_or_reset = looked (λ d. d.status) 0 refl

pub range_or_reset : Looks 0 settles (shows (λ d. 1)) tells_range
range_or_reset = record { sound = λ d e. rw (told (in_range d) true e) (refl, settled_is d (told _ true e)); unsound = λ d e. rw (told (in_range d) false e) (refl, refl) }

pub stamp_or_reset : Looks 0 settles (shows (λ d. d.receiver.stamp.0)) tells_stamp
unfolding stamp
stamp_or_reset = looked (λ d. d.receiver.stamp.0) 0 refl

pub start_or_reset : Looks 0 settles (shows (λ d. d.sender.start.0)) tells_start
unfolding start
start_or_reset = looked (λ d. d.sender.start.0) 0 refl

pub transmit_tally_or_reset : Looks 0 settles (shows (λ d. d.sender.tally.0)) tells_transmit_tally
unfolding transmit_tally
transmit_tally_or_reset = looked (λ d. d.sender.tally.0) 0 refl

pub receive_tally_or_reset : Looks 0 settles (shows (λ d. d.receiver.tally.0)) tells_receive_tally
unfolding receive_tally
receive_tally_or_reset = looked (λ d. d.receiver.tally.0) 0 refl

-- == which of two calls it is, by the address ==

pub status_or_other : Divides 0 1 fetches_status fetches fetches
unfolding read_register
status_or_other = record { is = λ d xs e. rw (eqb-true xs.0 1 e) (refl, refl); not = λ d xs e. (refl, refl) }

pub data_or_other : Divides 0 0 fetches_data fetches fetches
unfolding read_register
data_or_other = record { is = λ d xs e. rw e (refl, refl); not = λ d xs e. (refl, refl) }

pub data_or_register : Divides 1 0 stores_data stores stores
unfolding write_register
data_or_register = record { is = λ d xs e. rw e (refl, refl); not = λ d xs e. (refl, refl) }

-- == where a call is refused ==

-- 256 times a number is 0 where the number is
none_refused : (m : ℕ) (b : Bool) → eqb (m * 256) 0 ≡ b → eqb m 0 ≡ b
none_refused m true e = eq-eqb m 0 (omega (arith, eqb-true (m * 256) 0 e))
none_refused m false e = ne_eqb m 0 (λ z. eqb-false (m * 256) 0 e (omega (arith, z)))

-- what is done answers 0
done_as : {o : Outcome} {d : Device} → o ≡ done d → (0 ≡ o.refusal) × (d ≡ o.device)
done_as q = (sym (ap (λ (z : Outcome). z.refusal) q), sym (ap (λ (z : Outcome). z.device) q))

abbrev pub read_refused_lem : Device → Bytes 1 → ℕ
read_refused_lem d xs = read_refused d xs.0

pub read_or_refused : Chooses 1 settles read_refused_lem fetches reads
unfolding read
read_or_refused =
    record {
      acts = λ d xs e. rw (none_refused _ true e, register_done (settled d) xs.0) (omega arith, refl);
      stays = λ d xs e. rw (none_refused _ false e) (omega arith, refl);
    }

abbrev pub write_refused_lem : Device → Bytes 2 → ℕ
write_refused_lem d xs = write_refused d xs.0 xs.1.0

pub write_or_refused : Chooses 2 settles write_refused_lem stores writes
unfolding write
write_or_refused = record { acts = λ d xs e. done_as (done_write d xs.0 xs.1.0 (eqb-true _ 0 e)); stays = λ d xs e. rw e (refl, refl) }

abbrev pub pins_refused_lem : Device → Bytes 3 → ℕ
pins_refused_lem d xs = pins_refused d xs.0 xs.1.0 xs.1.1.0

pub pins_or_refused : Chooses 3 settles pins_refused_lem pins sets_pins
unfolding set_pins
pins_or_refused = record { acts = λ d xs e. done_as (done_pins d xs.0 xs.1.0 xs.1.1.0 (eqb-true _ 0 e)); stays = λ d xs e. rw e (refl, refl) }

abbrev pub level_refused_lem : Device → Bytes 1 → ℕ
level_refused_lem d xs = level_refused d xs.0

pub heard_or_refused : Chooses 1 settles level_refused_lem hears receives
unfolding receive
heard_or_refused =
    record {
      acts = λ d xs e. let q = done_as (done_receive d xs.0 (eqb-true _ 0 e)) in (q.0, heard_is_tick (settled d) (settled_in d) xs.0 ∙ q.1);
      stays = λ d xs e. rw e (refl, refl);
    }

abbrev pub tick_refused_lem : Device → Bytes 1 → ℕ
tick_refused_lem d xs = tick_refused d xs.0

pub ticked_or_refused : Chooses 1 settles tick_refused_lem hears_and_sends ticks
unfolding tick
ticked_or_refused =
    record {
      acts = λ d xs e. rw (ticked_is_both (settled d) (settled_in d) xs.0, none_refused _ true e) (omega arith, refl);
      stays = λ d xs e. rw (none_refused _ false e) (omega arith, refl);
    }
