-- Each channel of a board is a chip: over every run of board calls it goes and answers as the chip does over the calls that reach it.
-- Assumes nothing.
use Prim.Native.Nat.{ℕ, zero, suc, ◌<◌}
use native.Mathlib.Omega.{arith}
use mathlib.Core.Path.{◌≡◌, refl, sym, ap, ap₂, subst, ◌∙◌}
use mathlib.Core.Bool.{Bool, true, false, cond}
use mathlib.Core.List.{List, [], ◌∷◌, ◌++◌, map}
use lib.Dec.{eqb, ltb}
use lib.ListN.{length, get_or, set, replicate}
use lib.Seq.{get_or-set_same, get_or-set_other}
use borrow.Author.Tests.{ltb-true, lt-ltb, le-ltb, ne_eqb, eqb-true, eqb-false}
use Rattle.line_rules.proofs.Choice.{each}
use Rattle.ins2651_rules.specs.declared.Device.{Device}
use Rattle.ins2651_rules.specs.Shape.{reset_device}
use Rattle.ins2651_rules.specs.Runs as chip
use Rattle.board_rules.specs.declared.Board.{Board}
use Rattle.board_rules.specs.Ports.{Call, In, Out, Deed, Refused, Shows, Sets, At, ResetsAll, channel_of, selected, deed}
use Rattle.board_rules.specs.Runs.{device_at, room_by, as_bits, said_by, Said, room_after, said, Cabinet, next, after}
use Rattle.board_rules.specs.Channels.{reaches, calls_by, shown, calls_at, answers_at}
use Rattle.board_rules.proofs.Fits.{fits, deed_fits, length_by}

-- == one call ==

-- beyond the room counts as just reset too
each_reset : (n k : ℕ) → get_or (replicate n reset_device) k reset_device ≡ reset_device
each_reset zero k = refl
each_reset (suc n) zero = refl
each_reset (suc n) (suc k) = each_reset n k

device_by : (room : List Device) (e : Deed) (k : ℕ) → fits (length room) e ≡ true → device_at (room_by room e) k ≡ chip.after (device_at room k) (calls_by k e)
device_by room (Refused n) k h = refl
device_by room (Shows v) k h = refl
device_by room (Sets b) k h = refl
device_by room (At j c) k h =
    each (λ (cs : List chip.Call). device_at (set room j (chip.next (device_at room j) c)) k ≡ chip.after (device_at room k) cs) (eqb j k)
    (λ t. subst (λ (i : ℕ). device_at (set room j (chip.next (device_at room j) c)) i ≡ chip.next (device_at room i) c) (eqb-true j k t) (get_or-set_same room j _ reset_device (ltb-true j (length room) h)))
    (λ t. get_or-set_other room j k _ reset_device (λ e. eqb-false j k t (sym e)))
device_by room ResetsAll k h = each_reset 8 k

pub unreached : (k : ℕ) (e : Deed) → reaches k e ≡ false → calls_by k e ≡ []
unreached k (Refused n) h = refl
unreached k (Shows v) h = refl
unreached k (Sets b) h = refl
unreached k (At j c) h = rw h
unreached k ResetsAll h = absurd (let z : ◌≡◌ {A = ℕ} 1 0 = cc in omega arith)

answers_by : (room : List Device) (e : Deed) (k : ℕ) → cond (reaches k e) (said_by room e ∷ []) [] ≡ map shown (chip.answers (device_at room k) (calls_by k e))
answers_by room (Refused n) k = refl
answers_by room (Shows v) k = refl
answers_by room (Sets b) k = refl
answers_by room (At j c) k = go (eqb j k) refl
  where
    go : (t : Bool) → eqb j k ≡ t → cond t (said_by room (At j c) ∷ []) [] ≡ map shown (chip.answers (device_at room k) (cond t (c ∷ []) []))
    go true t = ap (λ (i : ℕ). shown (chip.said (device_at room i) c) ∷ []) (eqb-true j k t)
    go false t = refl
answers_by room ResetsAll k = refl

module _ (b : Board) (room : List Device) (c : Call) where
  -- the device at a channel after a call, by the chip's own calls
  pub channel_after : (k : ℕ) → device_at (room_after b room c) k ≡ chip.after (device_at room k) (calls_by k (deed b room c))
  unfolding room_after
  channel_after k = device_by room (deed b room c) k (deed_fits b room c)

  -- a room has as many channels after a call as before
  pub room_stays : length (room_after b room c) ≡ length room
  unfolding room_after
  room_stays = length_by room (deed b room c) (deed_fits b room c)

  -- a call that makes none of the chip's at a channel leaves the device there as it was
  pub unreached_stays : (k : ℕ) → reaches k (deed b room c) ≡ false → device_at (room_after b room c) k ≡ device_at room k
  unreached_stays k h = channel_after k ∙ ap (chip.after (device_at room k)) (unreached k (deed b room c) h)

  -- one at a channel leaves every other as it was
  pub others_stay : (j k : ℕ) (x : chip.Call) → deed b room c ≡ At j x → (j ≡ k → ⊥) → device_at (room_after b room c) k ≡ device_at room k
  others_stay j k x e n = unreached_stays k (ap (reaches k) e ∙ ne_eqb j k n)

  channel_answers : (k : ℕ) → cond (reaches k (deed b room c)) (said b room c ∷ []) [] ≡ map shown (chip.answers (device_at room k) (calls_by k (deed b room c)))
  unfolding said
  channel_answers k = answers_by room (deed b room c) k

-- a byte or a level is shown as itself
pub one_shown : (x : ℕ) → as_bits (x ∷ []) ≡ x
one_shown x = omega arith

-- ports 0 to 3 of a selected board are the selected channel's registers
module _ (b : Board) (room : List Device) (eight : length room ≡ 8) (on : selected b ≡ true) (port : ℕ) (low : port < 4) where
  pub read_reaches : deed b room (In port) ≡ At (channel_of b) (chip.Read port)
  read_reaches =
      let z : ltb 5 port ≡ false = le-ltb 5 port (omega arith) in
      let u : eqb port 4 ≡ false = ne_eqb port 4 (λ e. omega arith) in
      let v : eqb port 5 ≡ false = ne_eqb port 5 (λ e. omega arith) in
      rw (eight, z, on, u, v)

  pub write_reaches : (v : ℕ) → deed b room (Out port v) ≡ At (channel_of b) (chip.Write port v)
  write_reaches x =
      let z : ltb 7 port ≡ false = le-ltb 7 port (omega arith) in
      let t : eqb port 6 ≡ false = ne_eqb port 6 (λ e. omega arith) in
      let u : eqb port 4 ≡ false = ne_eqb port 4 (λ e. omega arith) in
      let v : eqb port 5 ≡ false = ne_eqb port 5 (λ e. omega arith) in
      let y : eqb port 7 ≡ false = ne_eqb port 7 (λ e. omega arith) in
      let q : ltb port 6 ≡ true = lt-ltb port 6 (omega arith) in
      rw (eight, z, t, q, on, u, v, y)

-- == runs ==

-- a room has as many after a run
pub room_stays_through : (w : Cabinet) (cs : List Call) → length (after w cs).room ≡ length w.room
room_stays_through w [] = refl
room_stays_through w (c ∷ cs) = room_stays_through (next w c) cs ∙ room_stays w.board w.room c

chip_runs_on : (d : Device) (xs ys : List chip.Call) → chip.after d (xs ++ ys) ≡ chip.after (chip.after d xs) ys
chip_runs_on d [] ys = refl
chip_runs_on d (x ∷ xs) ys = chip_runs_on (chip.next d x) xs ys

chip_answers_on : (d : Device) (xs ys : List chip.Call) → map shown (chip.answers d (xs ++ ys)) ≡ map shown (chip.answers d xs) ++ map shown (chip.answers (chip.after d xs) ys)
chip_answers_on d [] ys = refl
chip_answers_on d (x ∷ xs) ys = ap (λ (l : List Said). shown (chip.said d x) ∷ l) (chip_answers_on (chip.next d x) xs ys)

-- whatever the board, its room and the calls: a channel after them is the chip after the calls that they make on it ..
pub channel_is_a_chip : (w : Cabinet) (cs : List Call) (k : ℕ) → device_at (after w cs).room k ≡ chip.after (device_at w.room k) (calls_at k w cs)
channel_is_a_chip w [] k = refl
channel_is_a_chip w (c ∷ cs) k =
    channel_is_a_chip (next w c) cs k
    ∙ ap (λ (d : Device). chip.after d (calls_at k (next w c) cs)) (channel_after w.board w.room c k)
    ∙ sym (chip_runs_on (device_at w.room k) (calls_by k (deed w.board w.room c)) (calls_at k (next w c) cs))

-- .. and the board's answers to those are the chip's
pub channel_answers_as_a_chip : (w : Cabinet) (cs : List Call) (k : ℕ) → answers_at k w cs ≡ map shown (chip.answers (device_at w.room k) (calls_at k w cs))
channel_answers_as_a_chip w [] k = refl
channel_answers_as_a_chip w (c ∷ cs) k =
    ap₂ ◌++◌ (channel_answers w.board w.room c k)
    (channel_answers_as_a_chip (next w c) cs k
    ∙ ap (λ (d : Device). map shown (chip.answers d (calls_at k (next w c) cs))) (channel_after w.board w.room c k))
    ∙ sym (chip_answers_on (device_at w.room k) (calls_by k (deed w.board w.room c)) (calls_at k (next w c) cs))
