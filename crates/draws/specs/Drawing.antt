-- Numbers drawn one after another from a seed, and a sum over what is answered to them.
-- Assumes nothing.
use Rattle.std.specs.Prelude.{ℕ, ◌+◌, ◌*◌, ◌/◌, ◌%◌, ◌^◌, ◌==◌, if◌then◌else◌}

-- the number drawn after n
abbrev pub next_of : ℕ → ℕ
next_of n = (n * 1664525 + 1013904223) % 2 ^ 32

-- what a drawn number is below n, by its upper half, which repeats less soon than the lower; below 0 there is only 0
abbrev pub below_of : ℕ → ℕ → ℕ
below_of drawn n = if n == 0 then 0 else drawn / 65536 % n

-- a sum with x behind it: the order shows
abbrev pub mixed : ℕ → ℕ → ℕ
mixed sum x = (sum * 31 + x) % 2 ^ 32
