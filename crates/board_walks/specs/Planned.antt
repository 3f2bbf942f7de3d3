-- A call of the board goes by its plan: what it answers and leaves, where the plan ends it and where it does not.
-- Assumes nothing.
use Rattle.std.specs.Prelude.{ℕ, ◌≡◌, true, false, List, set}
use Rattle.ins2651_rules.specs.declared.Device.{Device}
use Rattle.ins2651_rules.specs.Looks.{peek}
use Rattle.board_rules.specs.declared.Board.{Board}
use Rattle.board_rules.specs.Runs.{device_at}
use Rattle.board_walks.specs.declared.Plan.{Plan}
use Rattle.board_walks.specs.Plans.{interrupt_status, interrupt_lines}

-- a call that answers r, and leaves the board b and of the room ys the room zs: the plan's board is stored, and where the plan ends the call does, with
-- the answer a and the room as it was
pub record Planned (p : Plan) (a r : ℕ) (b : Board) (ys zs : List Device) : Type 0 where
  pub stored : b ≡ p.board
  pub ended : p.ends ≡ true → (r ≡ a) × (zs ≡ ys)

-- no channel but the plan's changes
abbrev pub OthersStay : Plan → List Device → List Device → Type 0
OthersStay p ys zs = (d : Device) × (zs ≡ set ys p.channel d)

-- a call that names a channel, or is about the selected one: its plan is about one, and where it does not end no other changes
abbrev pub AboutOne : Plan → ℕ → Board → List Device → List Device → Type 0
AboutOne p r b ys zs = Planned p p.answer r b ys zs × ((p.single ≡ true) × (p.ends ≡ false → OthersStay p ys zs))

-- a read of a port, which is about one channel or about all
abbrev pub OneOrAll : Plan → ℕ → Board → List Device → List Device → Type 0
OneOrAll p r b ys zs = Planned p p.answer r b ys zs × (p.ends ≡ false → p.single ≡ true → OthersStay p ys zs)

-- what is made of the statuses of all eight: port 4 or 5, ..
abbrev pub status_shown : List Device → ℕ → ℕ
status_shown ys port =
    interrupt_status (peek (device_at ys 0)) (peek (device_at ys 1)) (peek (device_at ys 2)) (peek (device_at ys 3))
    (peek (device_at ys 4)) (peek (device_at ys 5)) (peek (device_at ys 6)) (peek (device_at ys 7)) port

-- .. and the interrupt lines
abbrev pub lines_shown : Board → List Device → ℕ
lines_shown b ys =
    interrupt_lines b (peek (device_at ys 0)) (peek (device_at ys 1)) (peek (device_at ys 2)) (peek (device_at ys 3))
    (peek (device_at ys 4)) (peek (device_at ys 5)) (peek (device_at ys 6)) (peek (device_at ys 7))
