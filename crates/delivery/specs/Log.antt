-- The log of one way of the line, the latest first. Time is counted in joined ticks.
-- Assumes nothing.
use Rattle.std.specs.Prelude.{ℕ, List, [], ◌∷◌}

-- a character written, or one that came, and how many joined ticks had passed
pub record Entry : Type 0 where
  pub at : ℕ
  pub value : ℕ

-- what was written at one end, what came at the other, and the values read there while a character was unread
pub record Way : Type 0 where
  pub written : List Entry
  pub came : List Entry
  pub read : List ℕ

abbrev pub nothing_yet : Way
nothing_yet = record { written = []; came = []; read = [] }

abbrev pub log_write : ℕ → ℕ → Way → Way
log_write now v w = record { written = record { at = now; value = v } ∷ w.written; came = w.came; read = w.read }

abbrev pub log_arrival : ℕ → ℕ → Way → Way
log_arrival now v w = record { written = w.written; came = record { at = now; value = v } ∷ w.came; read = w.read }

abbrev pub log_read : ℕ → Way → Way
log_read v w = record { written = w.written; came = w.came; read = v ∷ w.read }
