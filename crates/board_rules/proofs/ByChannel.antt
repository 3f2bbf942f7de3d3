-- The interrupt status and the interrupt lines, bit by bit: bit k is channel k's.
-- Assumes nothing.
use Prim.Native.Nat.{ℕ, zero, suc, ◌+◌, ◌*◌, ◌/◌, ◌%◌, ◌^◌, ◌<◌, min}
use native.Mathlib.Nat.{pow-succ', div-div-eq-div-mul}
use native.Mathlib.Omega.{arith}
use mathlib.Core.Path.{◌≡◌, refl, sym, ap, ap₂, subst, ◌∙◌}
use mathlib.Core.Bool.{Bool, true, false, ◌&&◌}
use mathlib.Core.List.{List, [], ◌∷◌}
use lib.Dec.{eqb}
use lib.Bits.{bit_and, and_step, and_le_l}
use lib.ListN.{length}
use borrow.Author.Tests.{eq-eqb, ne_eqb}
use Rattle.line_rules.proofs.Choice.{either}
use Rattle.ins2651_rules.specs.declared.Device.{Device}
use Rattle.ins2651_rules.specs.Shape.{Answer}
use Rattle.ins2651_rules.specs.Modes.{has}
use Rattle.ins2651_rules.specs.Ranges.{in_range}
use Rattle.ins2651_rules.specs.Status.{weigh}
use Rattle.ins2651_rules.specs.Looks.{peek}
use Rattle.ins2651_rules.specs.RegisterReads.{read_register}
use Rattle.ins2651_rules.specs.Runs as chip
use Rattle.ins2651_rules.proofs.Done.{done_read}
use Rattle.ins2651_rules.proofs.Settled.{settled_out}
use Rattle.board_rules.specs.declared.Board.{Board}
use Rattle.board_rules.specs.Interrupts.{by_channel, sends_next, holds_one, transmit_status, receive_status, transmit_lines, receive_lines, both_bytes}
use Rattle.board_rules.specs.Ports.{In, Interrupts, selected, unless, room_refusal, deed, Shows}
use Rattle.board_rules.specs.Runs.{device_at, said_by, said}

-- == bits ==

-- bit k + 1 of a number is bit k of its half
has_next : (k v : ℕ) → has (2 ^ suc k) v ≡ has (2 ^ k) (v / 2)
has_next k v = ap (λ (n : ℕ). eqb (n % 2) 1) (ap (λ (m : ℕ). v / m) (pow-succ' 2 k) ∙ sym (div-div-eq-div-mul v 2 (2 ^ k)))

half_of : (t : Bool) (x : ℕ) → (weigh t 1 + 2 * x) / 2 ≡ x
half_of true x = omega arith
half_of false x = omega arith

lowest_of : (t : Bool) (x : ℕ) → has 1 (weigh t 1 + 2 * x) ≡ t
lowest_of true x = eq-eqb ((1 + 2 * x) / 1 % 2) 1 (omega arith)
lowest_of false x = ne_eqb ((0 + 2 * x) / 1 % 2) 1 (λ e. omega arith)

bit_is : (p : Device → Bool) (room : List Device) (k : ℕ) → k < length room → has (2 ^ k) (by_channel p room) ≡ p (device_at room k)
bit_is p [] k h = absurd (omega arith)
bit_is p (d ∷ room) zero h = lowest_of (p d) (by_channel p room)
bit_is p (d ∷ room) (suc k) h = has_next k (by_channel p (d ∷ room)) ∙ ap (has (2 ^ k)) (half_of (p d) (by_channel p room)) ∙ bit_is p room k (omega arith)

-- the bits of two numbers together
lowest_and : (y i j : ℕ) → i < 2 → j < 2 → has 1 (y * 2 + min i j) ≡ (eqb i 1 && eqb j 1)
lowest_and y zero zero p q = ne_eqb ((y * 2 + 0) / 1 % 2) 1 (λ e. omega arith)
lowest_and y zero (suc zero) p q = ne_eqb ((y * 2 + 0) / 1 % 2) 1 (λ e. omega arith)
lowest_and y (suc zero) zero p q = ne_eqb ((y * 2 + 0) / 1 % 2) 1 (λ e. omega arith)
lowest_and y (suc zero) (suc zero) p q = eq-eqb ((y * 2 + 1) / 1 % 2) 1 (omega arith)
lowest_and y (suc (suc i)) j p q = absurd (omega arith)
lowest_and y zero (suc (suc j)) p q = absurd (omega arith)
lowest_and y (suc zero) (suc (suc j)) p q = absurd (omega arith)

half_and : (a b : ℕ) → bit_and a b / 2 ≡ bit_and (a / 2) (b / 2)
half_and a b = ap (λ (n : ℕ). n / 2) (and_step a b) ∙ omega arith

and_bit : (k a b : ℕ) → has (2 ^ k) (bit_and a b) ≡ (has (2 ^ k) a && has (2 ^ k) b)
and_bit zero a b =
    ap (has 1) (and_step a b) ∙ lowest_and (bit_and (a / 2) (b / 2)) (a % 2) (b % 2) (omega arith) (omega arith)
    ∙ ap₂ (λ (i : ℕ) (j : ℕ). eqb i 1 && eqb j 1) (let e : a % 2 ≡ a / 1 % 2 = omega arith in e) (let e : b % 2 ≡ b / 1 % 2 = omega arith in e)
and_bit (suc k) a b =
    has_next k (bit_and a b) ∙ ap (has (2 ^ k)) (half_and a b) ∙ and_bit k (a / 2) (b / 2)
    ∙ sym (ap₂ ◌&&◌ (has_next k a) (has_next k b))

-- == the status ==

module _ (room : List Device) (k : ℕ) (h : k < length room) where
  -- bit k of port 4 is bit 0 of channel k's status
  pub transmit_status_bit : has (2 ^ k) (transmit_status room) ≡ has 1 (peek (device_at room k))
  transmit_status_bit = bit_is sends_next room k h

  -- bit k of port 5 is bit 1 of channel k's status
  pub receive_status_bit : has (2 ^ k) (receive_status room) ≡ has 2 (peek (device_at room k))
  receive_status_bit = bit_is holds_one room k h

  -- a line is asserted where the status is, and the mask has a 1
  pub transmit_line : (b : Board) → has (2 ^ k) (transmit_lines b room) ≡ (has 1 (peek (device_at room k)) && has (2 ^ k) b.transmit_mask)
  transmit_line b = and_bit k (transmit_status room) b.transmit_mask ∙ ap (λ (t : Bool). t && has (2 ^ k) b.transmit_mask) transmit_status_bit

  pub receive_line : (b : Board) → has (2 ^ k) (receive_lines b room) ≡ (has 2 (peek (device_at room k)) && has (2 ^ k) b.receive_mask)
  receive_line b = and_bit k (receive_status room) b.receive_mask ∙ ap (λ (t : Bool). t && has (2 ^ k) b.receive_mask) receive_status_bit

-- a channel out of range counts as one just reset, and has no interrupt
pub outside_shows_none : (d : Device) → in_range d ≡ false → (sends_next d ≡ false) × (holds_one d ≡ false)
unfolding peek
outside_shows_none d h = let e = settled_out d h in (ap (λ (s : Device). has 1 s.status) e, ap (λ (s : Device). has 2 s.status) e)

-- what is looked at there is what a status read of the chip shows
pub peek_is_read : (d : Device) → chip.said d (chip.Read 1) ≡ record { refusal = 0; values = peek d ∷ [] }
unfolding peek read_register
peek_is_read d = ap (λ (o : Answer). record { refusal = o.refusal; values = o.value ∷ [] }) (done_read d 1 refl)

-- == in a byte ==

below : (p : Device → Bool) (room : List Device) → by_channel p room < 2 ^ length room
below p [] = omega arith
below p (d ∷ room) =
    let x : by_channel p room < 2 ^ length room = below p room in
    let e : 2 ^ suc (length room) ≡ 2 * 2 ^ length room = pow-succ' 2 (length room) in
    either (λ (n : ℕ). n + 2 * by_channel p room < 2 ^ suc (length room)) (p d) (omega arith) (omega arith)

module _ (b : Board) (room : List Device) (eight : length room ≡ 8) where
  byte : (p : Device → Bool) → by_channel p room < 256
  byte p = subst (λ (n : ℕ). by_channel p room < 2 ^ n) eight (below p room)

  -- status and lines of eight channels are bytes
  pub transmit_status_byte : transmit_status room < 256
  transmit_status_byte = byte sends_next

  pub receive_status_byte : receive_status room < 256
  receive_status_byte = byte holds_one

  pub transmit_lines_byte : transmit_lines b room < 256
  transmit_lines_byte = omega (arith, and_le_l (transmit_status room) b.transmit_mask, byte sends_next)

  pub receive_lines_byte : receive_lines b room < 256
  receive_lines_byte = omega (arith, and_le_l (receive_status room) b.receive_mask, byte holds_one)

  -- == what is answered ==

  -- a selected board gives its status at ports 4 and 5, whatever the masks say
  pub port_4_gives : selected b ≡ true → said b room (In 4) ≡ record { refusal = 0; value = transmit_status room }
  unfolding said
  port_4_gives s = ap (said_by room) (let e : deed b room (In 4) ≡ Shows (transmit_status room) = rw (eight, s) in e)

  pub port_5_gives : selected b ≡ true → said b room (In 5) ≡ record { refusal = 0; value = receive_status room }
  unfolding said
  port_5_gives s = ap (said_by room) (let e : deed b room (In 5) ≡ Shows (receive_status room) = rw (eight, s) in e)

  -- every board gives its lines, the receive byte above the transmit byte
  pub interrupts_give : said b room Interrupts ≡ record { refusal = 0; value = receive_lines b room * 256 + transmit_lines b room }
  unfolding said
  interrupts_give = ap (λ (n : ℕ). said_by room (unless (room_refusal n) (Shows (both_bytes (transmit_lines b room) (receive_lines b room))))) eight
