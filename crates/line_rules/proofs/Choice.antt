-- Laws of choices and of several tests together.
-- Assumes nothing.
use mathlib.Core.Path.{◌≡◌, refl, sym}
use mathlib.Core.Bool.{Bool, true, false, cond, not, ◌&&◌, ◌||◌, true≢false}

-- what holds of both cases of a choice holds of the choice
pub either : {X : Type 0} (P : X → Type 0) (t : Bool) {x y : X} → P x → P y → P (cond t x y)
either P true p q = p
either P false p q = q

-- the same, where each case knows how its test came out
pub each : {X : Type 0} (P : X → Type 0) (t : Bool) {x y : X} → (t ≡ true → P x) → (t ≡ false → P y) → P (cond t x y)
each P true p q = p refl
each P false p q = q refl

pub all : {a b : Bool} → a ≡ true → b ≡ true → (a && b) ≡ true
all p q = rw (p, q)

pub not_so : (b : Bool) → not b ≡ true → b ≡ false
not_so true e = sym e
not_so false e = refl

pub is_so : (b : Bool) → not b ≡ false → b ≡ true
is_so true e = refl
is_so false e = absurd (true≢false e)

pub neither : (a b : Bool) → (a || b) ≡ false → (a ≡ false) × (b ≡ false)
neither true b e = absurd (true≢false e)
neither false b e = (refl, e)
