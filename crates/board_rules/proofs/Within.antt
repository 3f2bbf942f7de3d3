-- What stands between the calls of a joined tick of two channels.
-- Assumes nothing.
use Prim.Native.Nat.{ℕ}
use mathlib.Core.Path.{◌≡◌}
use mathlib.Core.List.{[], ◌∷◌}
use Rattle.delivery.specs.Joined.{A, B}
use Rattle.joined_rules.specs.Bench.{way_from, Bench}
use Rattle.joined_rules.specs.Bench as bench
use Rattle.board_rules.specs.Lines.{Boards, Spots, Between, Tick, sends, sent, hears, one_sent, both_sent, aside_steps, steps_of}

-- the level that the second channel hears
abbrev pub second_hears : Spots → Between → Boards → ℕ
second_hears l m w = sent l A w

-- with nothing to the two between, it is one step of the bench
pub still_a_tick : (l : Spots) (m : Between) (w : Boards) → aside_steps l m.first (sends l A w) ≡ [] → aside_steps l m.second (sends l B (one_sent l m w)) ≡ []
    → aside_steps l m.third (hears l A (sent l B (one_sent l m w)) (both_sent l m w)) ≡ [] → steps_of l w (Tick m) ≡ bench.Tick ∷ []
still_a_tick l m w p q r = rw (p, q, r)
