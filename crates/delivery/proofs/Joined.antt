-- Two chips that are ends, on a line: each way of it has its two ends, from whichever side it goes.
-- Assumes nothing.
use mathlib.Core.Path.{◌≡◌, refl, sym, ap, subst, ◌∙◌}
use mathlib.Core.Bool.{Bool, true, false, cond, true≢false}
use mathlib.Core.List.{List, reverse}
use Rattle.line_rules.specs.declared.Format.{Format}
use Rattle.line_rules.specs.Sending.{frame_length}
use Rattle.line_rules.specs.Clocks.{rx_later}
use Rattle.line_rules.specs.Receiving.{waiting}
use Rattle.line_rules.proofs.Choice.{either}
use Rattle.link_rules.specs.declared.SenderHalf.{SenderHalf}
use Rattle.link_rules.specs.declared.ReceiverHalf.{ReceiverHalf}
use Rattle.link_rules.specs.Parts.{loaded, emptied}
use Rattle.delivery.specs.OneWay.{Deed, Writes, Reads, Passes, no_log, runs, all_allowed, gets_of}
use Rattle.delivery.specs.Promise.{Idles, Stamped, stamps_read, Promised}
use Rattle.delivery.specs.Joined.{Chip, Side, A, B, other, Happens, Together, To, Elsewhere, Upset, Line, Becomes, Joins, writing, reading, deed_from, steady_from, way_from}
use Rattle.delivery.specs.Ends.{sender_after, receiver_after, faults, Fit, Sends, Receives, Idle, Begins, SendingEnd, ReceivingEnd}
use Rattle.delivery.proofs.Carried.{way_delivers, way_stamps, way_reads_stamps, way_idles}
use Rattle.delivery.proofs.Started.{tick_begins, tick_counts}

-- a call by its deed, at its own side ..
module _ {D C : Type 0} (k : Chip D C) (d : D) (c : C) where
  loads : (f : Format) (h : SenderHalf) → cond (k.writes d c) (loaded h (k.value c)) h ≡ sender_after f (writing k d c) h
  loads f h = go (k.writes d c)
    where
      go : (b : Bool) → cond b (loaded h (k.value c)) h ≡ sender_after f (cond b (Writes (k.value c)) Passes) h
      go true = refl
      go false = refl

  empties : (g : Format) (x : Bool) (h : ReceiverHalf) → cond (k.reads d c) (emptied h) h ≡ receiver_after g x (reading k d c) h
  empties g x h = go (k.reads d c)
    where
      go : (b : Bool) → cond b (emptied h) h ≡ receiver_after g x (cond b Reads Passes) h
      go true = refl
      go false = refl

  -- .. and none of the other side's half
  unsent : (f : Format) (h : SenderHalf) → h ≡ sender_after f (reading k d c) h
  unsent f h = either (λ (m : Deed). h ≡ sender_after f m h) (k.reads d c) refl refl

  unheard : (g : Format) (x : Bool) (h : ReceiverHalf) → h ≡ receiver_after g x (writing k d c) h
  unheard g x h = either (λ (m : Deed). h ≡ receiver_after g x m h) (k.writes d c) refl refl

module _ {W X : Type 0} {State Call : Side → Type 0} (l : Line W X State Call) where
  -- == the side that sends ==

  sends_ready : {f : Format} (s : Side) {Ready : State s → Type 0} {half : State s → SenderHalf} → SendingEnd (l.chip s) f Ready half
      → (w : W) (k : Happens Call) (e : State s) → Becomes l s w k e → Ready (l.device s w) → steady_from l s w k ≡ true → Ready e
  sends_ready s {Ready} end w Together e q h t = subst Ready (sym q) (end.tick_ready (l.device s w) ((l.chip (other s)).level (l.device (other s) w)) h)
  sends_ready A {Ready} end w (To A c) e q h t = subst Ready (sym q) (end.call_ready (l.device A w) c h t)
  sends_ready A {Ready} end w (To B c) e q h t = subst Ready (sym q) h
  sends_ready B {Ready} end w (To A c) e q h t = subst Ready (sym q) h
  sends_ready B {Ready} end w (To B c) e q h t = subst Ready (sym q) (end.call_ready (l.device B w) c h t)
  sends_ready s {Ready} end w Elsewhere e q h t = subst Ready (sym q) h
  sends_ready s end w Upset e q h t = absurd (true≢false (sym t))

  sends_half : {f : Format} (s : Side) {Ready : State s → Type 0} {half : State s → SenderHalf} → SendingEnd (l.chip s) f Ready half
      → (w : W) (k : Happens Call) (e : State s) → Becomes l s w k e → Ready (l.device s w) → steady_from l s w k ≡ true
      → half e ≡ sender_after f (deed_from l s w k) (half (l.device s w))
  sends_half s {half = half} end w Together e q h t = ap half q ∙ end.tick_half (l.device s w) ((l.chip (other s)).level (l.device (other s) w)) h
  sends_half {f = f} A {half = half} end w (To A c) e q h t =
      ap half q ∙ end.call_half (l.device A w) c h t ∙ loads (l.chip A) (l.device A w) c f (half (l.device A w))
  sends_half {f = f} A {half = half} end w (To B c) e q h t = ap half q ∙ unsent (l.chip B) (l.device B w) c f (half (l.device A w))
  sends_half {f = f} B {half = half} end w (To A c) e q h t = ap half q ∙ unsent (l.chip A) (l.device A w) c f (half (l.device B w))
  sends_half {f = f} B {half = half} end w (To B c) e q h t =
      ap half q ∙ end.call_half (l.device B w) c h t ∙ loads (l.chip B) (l.device B w) c f (half (l.device B w))
  sends_half s {half = half} end w Elsewhere e q h t = ap half q
  sends_half s end w Upset e q h t = absurd (true≢false (sym t))

  pub side_sends : Joins l → {f : Format} (s : Side) {Ready : State s → Type 0} {half : State s → SenderHalf} → SendingEnd (l.chip s) f Ready half
      → Sends (way_from l s) f (λ w. Ready (l.device s w)) (λ w. half (l.device s w))
  side_sends joins s end =
      record {
        may_write_lem = λ w h. end.may_write_lem (l.device s w) h;
        level = λ w h. end.level (l.device s w) h;
        ready = λ w x h t. sends_ready s end w (l.happens w x) (l.device s (l.next w x)) (joins.follows s w x) h t;
        follows = λ w x h t. sends_half s end w (l.happens w x) (l.device s (l.next w x)) (joins.follows s w x) h t;
      }

  -- == the side that receives ==

  hears_ready : {g : Format} (s : Side) {Ready : State (other s) → Type 0} {half : State (other s) → ReceiverHalf} → ReceivingEnd (l.chip (other s)) g Ready half
      → (w : W) (k : Happens Call) (e : State (other s)) → Becomes l (other s) w k e → Ready (l.device (other s) w) → steady_from l s w k ≡ true
      → faults g ((way_from l s).level w) (deed_from l s w k) (half (l.device (other s) w)) ≡ false → Ready e
  hears_ready A {Ready} end w Together e q h t n = subst Ready (sym q) (end.tick_ready (l.device B w) ((l.chip A).level (l.device A w)) h n)
  hears_ready B {Ready} end w Together e q h t n = subst Ready (sym q) (end.tick_ready (l.device A w) ((l.chip B).level (l.device B w)) h n)
  hears_ready A {Ready} end w (To A c) e q h t n = subst Ready (sym q) h
  hears_ready A {Ready} end w (To B c) e q h t n = subst Ready (sym q) (end.call_ready (l.device B w) c h t)
  hears_ready B {Ready} end w (To A c) e q h t n = subst Ready (sym q) (end.call_ready (l.device A w) c h t)
  hears_ready B {Ready} end w (To B c) e q h t n = subst Ready (sym q) h
  hears_ready s {Ready} end w Elsewhere e q h t n = subst Ready (sym q) h
  hears_ready s end w Upset e q h t n = absurd (true≢false (sym t))

  hears_half : {g : Format} (s : Side) {Ready : State (other s) → Type 0} {half : State (other s) → ReceiverHalf} → ReceivingEnd (l.chip (other s)) g Ready half
      → (w : W) (k : Happens Call) (e : State (other s)) → Becomes l (other s) w k e → Ready (l.device (other s) w) → steady_from l s w k ≡ true
      → half e ≡ receiver_after g ((way_from l s).level w) (deed_from l s w k) (half (l.device (other s) w))
  hears_half A {half = half} end w Together e q h t = ap half q ∙ end.tick_half (l.device B w) ((l.chip A).level (l.device A w)) h
  hears_half B {half = half} end w Together e q h t = ap half q ∙ end.tick_half (l.device A w) ((l.chip B).level (l.device B w)) h
  hears_half {g = g} A {half = half} end w (To A c) e q h t = ap half q ∙ unheard (l.chip A) (l.device A w) c g ((way_from l A).level w) (half (l.device B w))
  hears_half {g = g} A {half = half} end w (To B c) e q h t =
      ap half q ∙ end.call_half (l.device B w) c h t ∙ empties (l.chip B) (l.device B w) c g ((way_from l A).level w) (half (l.device B w))
  hears_half {g = g} B {half = half} end w (To A c) e q h t =
      ap half q ∙ end.call_half (l.device A w) c h t ∙ empties (l.chip A) (l.device A w) c g ((way_from l B).level w) (half (l.device A w))
  hears_half {g = g} B {half = half} end w (To B c) e q h t = ap half q ∙ unheard (l.chip B) (l.device B w) c g ((way_from l B).level w) (half (l.device A w))
  hears_half s {half = half} end w Elsewhere e q h t = ap half q
  hears_half s end w Upset e q h t = absurd (true≢false (sym t))

  pub side_receives : Joins l → {g : Format} (s : Side) {Ready : State (other s) → Type 0} {half : State (other s) → ReceiverHalf}
      → ReceivingEnd (l.chip (other s)) g Ready half → Receives (way_from l s) g (λ w. Ready (l.device (other s) w)) (λ w. half (l.device (other s) w))
  side_receives joins s end =
      record {
        unread = λ w h. end.unread (l.device (other s) w) h;
        character = λ w h. end.character (l.device (other s) w) h;
        stamp = λ w h. end.stamp (l.device (other s) w) h;
        no_flag = λ w h. end.no_flag (l.device (other s) w) h;
        ready = λ w x h t n. hears_ready s end w (l.happens w x) (l.device (other s) (l.next w x)) (joins.follows (other s) w x) h t n;
        follows = λ w x h t. hears_half s end w (l.happens w x) (l.device (other s) (l.next w x)) (joins.follows (other s) w x) h t;
      }

-- == the promise ==

module _ {W X : Type 0} {State Call : Side → Type 0} {l : Line W X State Call} (joins : Joins l) {f g : Format} (s : Side)
    {S : State s → Type 0} {sender : State s → SenderHalf} (sending : SendingEnd (l.chip s) f S sender)
    {R : State (other s) → Type 0} {receiver : State (other s) → ReceiverHalf} (receiving : ReceivingEnd (l.chip (other s)) g R receiver) where
  from : Sends (way_from l s) f (λ w. S (l.device s w)) (λ w. sender (l.device s w))
  from = side_sends l joins s sending

  to : Receives (way_from l s) g (λ w. R (l.device (other s) w)) (λ w. receiver (l.device (other s) w))
  to = side_receives l joins s receiving

  abbrev BeginsAt : W → Type 0
  BeginsAt = Begins (λ w. S (l.device s w)) (λ w. R (l.device (other s) w)) (λ w. sender (l.device s w)) (λ w. receiver (l.device (other s) w))

  -- one joined tick makes the way begin, from a device whose sending half is idle to one whose receiving half waits, with nothing unread
  pub line_begins : (w : W) (x : X) → l.happens w x ≡ Together → S (l.device s w) → R (l.device (other s) w) → Idle (sender (l.device s w))
      → (receiver (l.device (other s) w)).state ≡ waiting → (receiver (l.device (other s) w)).unread ≡ 0 → BeginsAt (l.next w x)
  line_begins w x together ready listens idle waits read =
      tick_begins from to w x (ap (deed_from l s w) together) (ap (steady_from l s w) together) ready listens idle waits read

  -- which its receive tally counts
  pub line_counts : (w : W) (x : X) → l.happens w x ≡ Together → R (l.device (other s) w)
      → (receiver (l.device (other s) (l.next w x))).tally ≡ rx_later 1 (receiver (l.device (other s) w)).tally
  line_counts w x together listens = tick_counts to w x (ap (deed_from l s w) together) (ap (steady_from l s w) together) listens

  -- what else the two chips do, and whatever happens on the other way, does not touch it
  module _ (fit : Fit f g) (w : W) (begins : BeginsAt w) (xs : List X) (ok : all_allowed (way_from l s) (frame_length f) (no_log w) xs ≡ true) where
    pub line_delivers : Promised (way_from l s) f (runs (way_from l s) (no_log w) xs)
    line_delivers = way_delivers fit from to w begins xs ok

    pub line_stamps : let end = runs (way_from l s) (no_log w) xs in
        Stamped (receiver (l.device (other s) w)).tally ((l.chip (other s)).stamp (l.device (other s) end.bench)) end.log.came
    line_stamps = way_stamps fit from to w begins xs ok

    pub line_reads_stamps : let end = runs (way_from l s) (no_log w) xs in
        gets_of (way_from l s) (way_from l s).stamp w xs ≡ reverse (stamps_read (receiver (l.device (other s) w)).tally ((way_from l s).unread end.bench) end.log.came)
    line_reads_stamps = way_reads_stamps fit from to w begins xs ok

    -- 'idle', as the promise reads it from the log, is what it is in the sending half
    pub line_idles : let end = runs (way_from l s) (no_log w) xs in Idles f (sender (l.device s end.bench)) end.now end.log.written
    line_idles = way_idles fit from to w begins xs ok
