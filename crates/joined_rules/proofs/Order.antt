-- Demand 3 by the steps' own values, from two devices just reset: what a run reads is a beginning of what it writes, cut, the first one first, and
-- all of it where the run is finished.
-- Assumes nothing.
use mathlib.Core.Path.{◌≡◌, sym, subst, ◌∙◌}
use mathlib.Core.Bool.{true}
use mathlib.Core.List.{List, ◌∷◌, ◌++◌, reverse}
use Rattle.line_rules.specs.declared.Format.{Format}
use Rattle.line_rules.specs.Sending.{frame_length}
use Rattle.ins2651_rules.specs.Modes.{send_format}
use Rattle.ins2651_rules.specs.Runs.{Reset}
use Rattle.ins2651_ends.proofs.Untouched.{Untouched, reset_untouched}
use Rattle.delivery.specs.OneWay.{Logged, no_log, puts, gets, gets_of}
use Rattle.delivery.specs.OneWay as one_way
use Rattle.delivery.specs.Promise.{InOrder, Finished, stamps_read}
use Rattle.delivery.specs.Joined.{Side, A, B, other}
use Rattle.delivery.proofs.Order.{reads_in_order}
use Rattle.joined_rules.specs.declared.Pair.{Pair}
use Rattle.joined_rules.specs.Joining.{tick}
use Rattle.joined_rules.specs.Bench.{device_at, Step, Tick, At, all_moved, just_reset, way_from}
use Rattle.joined_rules.specs.Demand3.{Settings, settings_at, Proper, sends, Agree, Quiet, FromReset, Holds, FreshlySetUp, first_tally, fresh, all_allowed, Open}
use Rattle.joined_rules.proofs.SetUps.{set_up_puts, set_up_gets}
use Rattle.joined_rules.proofs.Promised.{one_way_right, one_way_reads_stamps, is_open, ok_each, sends_is}

-- with the reset that each has had
abbrev pub resetting : List Step → List Step
resetting us = At A Reset ∷ At B Reset ∷ us

module _ (us : List Step) (quiet : Quiet us) where
  pub from_reset : FromReset (resetting us)
  from_reset = record { calls = quiet.calls; a_reset = rw quiet.a_quiet; b_reset = rw quiet.b_quiet }

  abbrev set : Pair
  set = all_moved just_reset us

  -- one way, whatever happens on the other
  module _ (s : Side) (opened : Open s set) (ss : List Step) where
    abbrev f : Format
    f = send_format (device_at s set).registers

    abbrev end : Logged Pair
    end = one_way.runs (way_from s) (no_log (tick set).pair) ss

    reset_side : (t : Side) → Untouched (device_at t just_reset)
    reset_side A = reset_untouched
    reset_side B = reset_untouched

    -- a set-up and the one joined tick write and read nothing
    pub one_way_in_order : one_way.all_allowed (way_from s) (frame_length f) (no_log (tick set).pair) ss ≡ true
        → InOrder f (Finished (way_from s) f end) (gets (way_from s) just_reset (us ++ Tick ∷ ss)) (puts (way_from s) just_reset (us ++ Tick ∷ ss))
    one_way_in_order ok =
        subst (λ vs. InOrder f (Finished (way_from s) f end) vs (puts (way_from s) just_reset (us ++ Tick ∷ ss))) (sym (set_up_gets (way_from s).character s just_reset us (Tick ∷ ss) quiet (reset_side (other s))))
        (subst (InOrder f (Finished (way_from s) f end) (gets (way_from s) (tick set).pair ss)) (sym (set_up_puts s just_reset us (Tick ∷ ss) quiet))
        (reads_in_order (way_from s) f (tick set).pair ss (one_way_right s just_reset (resetting us) from_reset opened ss ok)))

    -- .. and the stamp of each is 1 plus the joined tick of its arrival (request P4)
    pub one_way_reads_stamped : one_way.all_allowed (way_from s) (frame_length f) (no_log (tick set).pair) ss ≡ true
        → gets_of (way_from s) (way_from s).stamp just_reset (us ++ Tick ∷ ss) ≡ reverse (stamps_read first_tally ((way_from s).unread end.bench) end.log.came)
    one_way_reads_stamped ok =
        set_up_gets (way_from s).stamp s just_reset us (Tick ∷ ss) quiet (reset_side (other s)) ∙ one_way_reads_stamps s just_reset (resetting us) from_reset opened ss ok

  -- both at once
  module _ (a b : Settings) (pa : Proper a) (pb : Proper b) (agree : Agree a b) (a_holds : Holds a set.a) (b_holds : Holds b set.b) (ss : List Step)
      (ok : all_allowed a b (fresh just_reset us) ss ≡ true) where
    pub up : FreshlySetUp a b just_reset (resetting us)
    up = record { from_reset = from_reset; a_holds = a_holds; b_holds = b_holds }

    pub run_in_order : (s : Side) → InOrder (sends (settings_at a b s)) (Finished (way_from s) (sends (settings_at a b s)) (one_way.runs (way_from s) (no_log (tick set).pair) ss)) (gets (way_from s) just_reset (us ++ Tick ∷ ss)) (puts (way_from s) just_reset (us ++ Tick ∷ ss))
    run_in_order s =
        subst (λ (f : Format). InOrder f (Finished (way_from s) f (one_way.runs (way_from s) (no_log (tick set).pair) ss)) (gets (way_from s) just_reset (us ++ Tick ∷ ss)) (puts (way_from s) just_reset (us ++ Tick ∷ ss)))
        (sends_is a b pa pb agree just_reset (resetting us) up ss ok s)
        (one_way_in_order s (is_open a b pa pb agree just_reset (resetting us) up ss ok s) ss (ok_each a b pa pb agree just_reset (resetting us) up ss ok s))

    pub run_reads_stamped : (s : Side) → let end = one_way.runs (way_from s) (no_log (tick set).pair) ss in
        gets_of (way_from s) (way_from s).stamp just_reset (us ++ Tick ∷ ss) ≡ reverse (stamps_read first_tally ((way_from s).unread end.bench) end.log.came)
    run_reads_stamped s =
        one_way_reads_stamped s (is_open a b pa pb agree just_reset (resetting us) up ss ok s) ss (ok_each a b pa pb agree just_reset (resetting us) up ss ok s)
