-- What the calls do to the board itself: its number, the user select, the masks; and what a reset leaves.
-- Assumes nothing.
use Prim.Native.Nat.{ℕ, ◌/◌, ◌%◌, ◌<◌}
use native.Mathlib.Omega.{arith}
use mathlib.Core.Path.{◌≡◌, refl, sym, ap, subst, ◌∙◌}
use mathlib.Core.Bool.{Bool, true, false, cond, not, ◌&&◌, ◌||◌, true≢false}
use mathlib.Core.List.{List}
use lib.Dec.{eqb, ltb}
use lib.ListN.{length, replicate}
use lib.Seq.{set-get_or}
use borrow.Author.Tests.{ne_eqb}
use Rattle.line_rules.proofs.Choice.{either, each}
use Rattle.ins2651_rules.specs.declared.Device.{Device}
use Rattle.ins2651_rules.specs.Shape.{reset_device}
use Rattle.ins2651_rules.specs.Runs as chip
use Rattle.board_rules.specs.declared.Board.{Board}
use Rattle.board_rules.specs.Interrupts.{transmit_status, receive_status, transmit_lines, receive_lines, both_bytes}
use Rattle.board_rules.specs.Ports.{Call, In, Out, Reset, Pins, Transmit, Receive, Outputs, Interrupts, Deed, Refused, Shows, Sets, At, ResetsAll, channel_of, selected, with_select, with_transmit_mask, with_receive_mask, reset_board, refusal, room_refusal, in_refusal, out_refusal, named_refusal, unless, reading, writing, named, deed}
use Rattle.board_rules.specs.Runs.{board_by, room_by, said_by, Said, board_after, room_after, said}
use Rattle.board_rules.specs.About.{sets, looks, cut}

-- == what stays ==

module _ (P : Board → Type 0) (b : Board) (p : P b) where
  unless_keeps : (n : ℕ) (e : Deed) → P (board_by b e) → P (board_by b (unless n e))
  unless_keeps n e h = either (λ (x : Deed). P (board_by b x)) (eqb n 0) h p

  -- what holds of a board, and after each of its three writes and a reset, holds after every call
  board_keeps : (room : List Device) (c : Call) → ((v : ℕ) → sets 4 c ≡ true → P (with_transmit_mask b v)) → ((v : ℕ) → sets 5 c ≡ true → P (with_receive_mask b v)) → ((v : ℕ) → sets 7 c ≡ true → P (with_select b v))
      → (c ≡ Reset → P (reset_board b)) → P (board_by b (deed b room c))
  board_keeps room (In port) x y z r =
      unless_keeps (in_refusal b (length room) port) (reading b room port)
      (either (λ (e : Deed). P (board_by b e)) (eqb port 4) p (either (λ (e : Deed). P (board_by b e)) (eqb port 5) p p))
  board_keeps room (Out port v) x y z r =
      unless_keeps (out_refusal b (length room) port) (writing b port v)
      (each (λ (e : Deed). P (board_by b e)) (eqb port 4) (x v) λ t.
      each (λ (e : Deed). P (board_by b e)) (eqb port 5) (y v) λ u.
      each (λ (e : Deed). P (board_by b e)) (eqb port 7) (z v) λ w. p)
  board_keeps room Reset x y z r = unless_keeps (room_refusal (length room)) ResetsAll (r refl)
  board_keeps room (Pins channel dsr dcd cts) x y z r = unless_keeps (named_refusal (length room) channel) (At channel (chip.SetPins dsr dcd cts)) p
  board_keeps room (Transmit channel) x y z r = unless_keeps (named_refusal (length room) channel) (At channel chip.Transmit) p
  board_keeps room (Receive channel i) x y z r = unless_keeps (named_refusal (length room) channel) (At channel (chip.Receive i)) p
  board_keeps room (Outputs channel) x y z r = unless_keeps (named_refusal (length room) channel) (At channel chip.Outputs) p
  board_keeps room Interrupts x y z r = unless_keeps (room_refusal (length room)) (Shows (both_bytes (transmit_lines b room) (receive_lines b room))) p

module _ (b : Board) (room : List Device) (c : Call) where
  no_reset_lem : (p : ℕ) → sets p c ≡ false → c ≡ Reset → ⊥
  no_reset_lem p h e = true≢false (sym (ap (sets p) e) ∙ h)

  -- no call changes the number
  pub number_stays : (board_after b room c).number ≡ b.number
  unfolding board_after
  number_stays = board_keeps (λ (d : Board). d.number ≡ b.number) b refl room c (λ v t. refl) (λ v t. refl) (λ v t. refl) (λ t. refl)

  -- only a write to port 7 and a reset change the select ..
  pub select_stays : sets 7 c ≡ false → (board_after b room c).select ≡ b.select
  unfolding board_after
  select_stays h =
      board_keeps (λ (d : Board). d.select ≡ b.select) b refl room c (λ v t. refl) (λ v t. refl) (λ v t. absurd (true≢false (sym t ∙ h))) (λ t. absurd (no_reset_lem 7 h t))

  -- .. only one to port 4 and a reset the transmit mask, and only one to port 5 and a reset the receive mask
  pub transmit_mask_stays : sets 4 c ≡ false → (board_after b room c).transmit_mask ≡ b.transmit_mask
  unfolding board_after
  transmit_mask_stays h =
      board_keeps (λ (d : Board). d.transmit_mask ≡ b.transmit_mask) b refl room c (λ v t. absurd (true≢false (sym t ∙ h))) (λ v t. refl) (λ v t. refl) (λ t. absurd (no_reset_lem 4 h t))

  pub receive_mask_stays : sets 5 c ≡ false → (board_after b room c).receive_mask ≡ b.receive_mask
  unfolding board_after
  receive_mask_stays h =
      board_keeps (λ (d : Board). d.receive_mask ≡ b.receive_mask) b refl room c (λ v t. refl) (λ v t. absurd (true≢false (sym t ∙ h))) (λ v t. refl) (λ t. absurd (no_reset_lem 5 h t))

-- == what changes nothing ==

pub record Untouched (b : Board) (r : List Device) (c : Call) : Type 0 where
  pub board : board_after b r c ≡ b
  pub room : room_after b r c ≡ r

module _ (b : Board) (room : List Device) where
  abbrev Same : Deed → Type 0
  Same e = (board_by b e ≡ b) × (room_by room e ≡ room)

  shows : (n : ℕ) (v : ℕ) → Same (unless n (Shows v))
  shows n v = either Same (eqb n 0) (refl, refl) (refl, refl)

  status : (n v w : ℕ) (x y : Bool) (e : Deed) → (x || y) ≡ true → Same (unless n (cond x (Shows v) (cond y (Shows w) e)))
  status n v w true y e h = shows n v
  status n v w false true e h = shows n w
  status n v w false false e h = absurd (true≢false (sym h))

  looks_same : (c : Call) → looks c ≡ true → Same (deed b room c)
  looks_same (In port) h = status (in_refusal b (length room) port) _ _ (eqb port 4) (eqb port 5) (At (channel_of b) (chip.Read port)) h
  looks_same (Out port v) h = absurd (true≢false (sym h))
  looks_same Reset h = absurd (true≢false (sym h))
  looks_same (Pins channel dsr dcd cts) h = absurd (true≢false (sym h))
  looks_same (Transmit channel) h = absurd (true≢false (sym h))
  looks_same (Receive channel x) h = absurd (true≢false (sym h))
  looks_same (Outputs channel) h = either Same (eqb (named_refusal (length room) channel) 0) (refl, set-get_or room channel reset_device) (refl, refl)
  looks_same Interrupts h = shows (room_refusal (length room)) (both_bytes (transmit_lines b room) (receive_lines b room))

  -- interrupt status, interrupt lines and outputs are looked at, and that is all
  pub looking_changes_nothing : (c : Call) → looks c ≡ true → Untouched b room c
  unfolding board_after room_after
  looking_changes_nothing c h = let q = looks_same c h in record { board = q.0; room = q.1 }

-- == what a call does, in a room of eight ==

abbrev nothing : Said
nothing = record { refusal = 0; value = 0 }

-- a call that is done and gives nothing leaves this board and this room
pub record Leaves (b : Board) (r : List Device) (c : Call) (left : Board) (rest : List Device) : Type 0 where
  pub answer : said b r c ≡ nothing
  pub board : board_after b r c ≡ left
  pub room : room_after b r c ≡ rest

module _ (b : Board) (room : List Device) (eight : length room ≡ 8) where
  leaves : (c : Call) (e : Deed) → deed b room c ≡ e → said_by room e ≡ nothing → Leaves b room c (board_by b e) (room_by room e)
  unfolding said board_after room_after
  leaves c e d h = record { answer = ap (said_by room) d ∙ h; board = ap (board_by b) d; room = ap (room_by room) d }

  -- whatever is selected: eight channels just reset, select 0, both masks 0; the number stays
  pub reset_leaves : Leaves b room Reset (record { number = b.number; select = 0; transmit_mask = 0; receive_mask = 0 }) (replicate 8 reset_device)
  reset_leaves = leaves Reset ResetsAll (ap (λ (n : ℕ). unless (room_refusal n) ResetsAll) eight) refl

  -- whatever is selected: bits 4-0 are stored
  pub select_written : (v : ℕ) → Leaves b room (Out 7 v) (record { number = b.number; select = v % 32; transmit_mask = b.transmit_mask; receive_mask = b.receive_mask }) room
  select_written v = leaves (Out 7 v) (Sets (with_select b v)) (ap (λ (n : ℕ). unless (out_refusal b n 7) (writing b 7 v)) eight) refl

  -- the masks, where the board is selected
  pub transmit_mask_written : (v : ℕ) → selected b ≡ true → Leaves b room (Out 4 v) (record { number = b.number; select = b.select; transmit_mask = v; receive_mask = b.receive_mask }) room
  transmit_mask_written v s = leaves (Out 4 v) (Sets (with_transmit_mask b v)) (rw (eight, s)) refl

  pub receive_mask_written : (v : ℕ) → selected b ≡ true → Leaves b room (Out 5 v) (record { number = b.number; select = b.select; transmit_mask = b.transmit_mask; receive_mask = v }) room
  receive_mask_written v s = leaves (Out 5 v) (Sets (with_receive_mask b v)) (rw (eight, s)) refl

-- == whom a select selects ==

-- a board whose number is above 3 is never selected
pub never_selected : (b : Board) → 3 < b.number → selected b ≡ false
never_selected b h = ne_eqb (b.select / 8 % 4) b.number (λ e. omega arith)

-- of five bits the two highest are the board's
board_bits : (b : Board) (v : ℕ) → eqb (v % 32 / 8 % 4) b.number ≡ eqb (v / 8 % 4) b.number
board_bits b v = ap (λ (n : ℕ). eqb n b.number) (let e : v % 32 / 8 % 4 ≡ v / 8 % 4 = omega arith in e)

-- a written v selects channel v % 8 of the board numbered v / 8 % 4, whatever its bits 7-5 are
pub selects_channel : (b : Board) (v : ℕ) → channel_of (with_select b v) ≡ v % 8
selects_channel b v = omega arith

pub selects_board : (b : Board) (v : ℕ) → selected (with_select b v) ≡ eqb (v / 8 % 4) b.number
selects_board b v = board_bits b v

-- == a stored select ==

-- what is cut twice is cut once
cut_twice : (d : Board) → cut d ≡ cut (cut d)
cut_twice d =
    ap (λ (n : ℕ). record { number = d.number; select = n; transmit_mask = d.transmit_mask; receive_mask = d.receive_mask })
    (let e : d.select % 32 ≡ d.select % 32 % 32 = omega arith in e)

-- two deeds, of a board and of the same one cut, that answer alike and leave the same room and, cut, the same board
pub record Alike (b : Board) (r : List Device) (e f : Deed) : Type 0 where
  pub answer : said_by r e ≡ said_by r f
  pub room : room_by r e ≡ room_by r f
  pub board : cut (board_by b e) ≡ cut (board_by (cut b) f)

module _ (b : Board) (room : List Device) where
  alike : (e : Deed) → board_by b e ≡ b → board_by (cut b) e ≡ cut b → Alike b room e e
  alike e p q = record { answer = refl; room = refl; board = ap cut p ∙ cut_twice b ∙ sym (ap cut q) }

  same_channel : channel_of b ≡ channel_of (cut b)
  same_channel = omega arith

  same_board : selected b ≡ selected (cut b)
  same_board = sym (board_bits b b.select)

  at_alike : (x : chip.Call) → Alike b room (At (channel_of b) x) (At (channel_of (cut b)) x)
  at_alike x = subst (λ (k : ℕ). Alike b room (At (channel_of b) x) (At k x)) same_channel (alike (At (channel_of b) x) refl refl)

  unless_alike : (n : ℕ) (e f : Deed) → Alike b room e f → Alike b room (unless n e) (unless n f)
  unless_alike n e f h = go (eqb n 0)
    where
      go : (t : Bool) → Alike b room (cond t e (Refused n)) (cond t f (Refused n))
      go true = h
      go false = alike (Refused n) refl refl

  reading_alike : (port : ℕ) → Alike b room (reading b room port) (reading (cut b) room port)
  reading_alike port = go (eqb port 4) (eqb port 5)
    where
      go : (x y : Bool) → Alike b room (cond x (Shows (transmit_status room)) (cond y (Shows (receive_status room)) (At (channel_of b) (chip.Read port))))
          (cond x (Shows (transmit_status room)) (cond y (Shows (receive_status room)) (At (channel_of (cut b)) (chip.Read port))))
      go true y = alike (Shows (transmit_status room)) refl refl
      go false true = alike (Shows (receive_status room)) refl refl
      go false false = at_alike (chip.Read port)

  writing_alike : (port v : ℕ) → Alike b room (writing b port v) (writing (cut b) port v)
  writing_alike port v = go (eqb port 4) (eqb port 5) (eqb port 7)
    where
      go : (x y z : Bool) → Alike b room (cond x (Sets (with_transmit_mask b v)) (cond y (Sets (with_receive_mask b v)) (cond z (Sets (with_select b v)) (At (channel_of b) (chip.Write port v)))))
          (cond x (Sets (with_transmit_mask (cut b) v)) (cond y (Sets (with_receive_mask (cut b) v)) (cond z (Sets (with_select (cut b) v)) (At (channel_of (cut b)) (chip.Write port v)))))
      go true y z = record { answer = refl; room = refl; board = cut_twice (with_transmit_mask b v) }
      go false true z = record { answer = refl; room = refl; board = cut_twice (with_receive_mask b v) }
      go false false true = record { answer = refl; room = refl; board = refl }
      go false false false = at_alike (chip.Write port v)

  named_alike : (channel : ℕ) (x : chip.Call) → Alike b room (named room channel x) (named room channel x)
  named_alike channel x = unless_alike (named_refusal (length room) channel) (At channel x) (At channel x) (alike (At channel x) refl refl)

  abbrev lines : Deed
  lines = Shows (both_bytes (transmit_lines b room) (receive_lines b room))

  deeds_alike : (c : Call) → Alike b room (deed b room c) (deed (cut b) room c)
  deeds_alike (In port) =
      subst (λ (t : Bool). Alike b room (deed b room (In port)) (unless (refusal (length room) (ltb 5 port) (not t)) (reading (cut b) room port))) same_board
      (unless_alike (in_refusal b (length room) port) (reading b room port) (reading (cut b) room port) (reading_alike port))
  deeds_alike (Out port v) =
      subst (λ (t : Bool). Alike b room (deed b room (Out port v)) (unless (refusal (length room) (eqb port 6 || ltb 7 port) (ltb port 6 && not t)) (writing (cut b) port v))) same_board
      (unless_alike (out_refusal b (length room) port) (writing b port v) (writing (cut b) port v) (writing_alike port v))
  deeds_alike Reset = unless_alike (room_refusal (length room)) ResetsAll ResetsAll (record { answer = refl; room = refl; board = refl })
  deeds_alike (Pins channel dsr dcd cts) = named_alike channel (chip.SetPins dsr dcd cts)
  deeds_alike (Transmit channel) = named_alike channel chip.Transmit
  deeds_alike (Receive channel x) = named_alike channel (chip.Receive x)
  deeds_alike (Outputs channel) = named_alike channel chip.Outputs
  deeds_alike Interrupts = unless_alike (room_refusal (length room)) lines lines (alike lines refl refl)

-- of a stored select the low five bits count: every call answers and leaves the room as on the board that has it cut, and, cut, the same board
pub low_five_count : (b : Board) (room : List Device) (c : Call)
    → (said b room c ≡ said (cut b) room c) × (room_after b room c ≡ room_after (cut b) room c) × (cut (board_after b room c) ≡ cut (board_after (cut b) room c))
unfolding said room_after board_after
low_five_count b room c = let a = deeds_alike b room c in (a.answer, a.room, a.board)
