-- The board's refusals as its calls tell them.
-- Assumes nothing.
use Rattle.std.specs.Prelude.{ℕ, ◌*◌, ◌≡◌, Ok, Err, List, length, set, MatchResult}
use Rattle.std.specs.Fn.{FnOnceReturnsAtMut}
use denote.Ref.{MutBor}
use denote.Param.Members.{Once}
use Rattle.ins2651_rules.specs.declared.Device.{Device}
use Rattle.board_rules.specs.Ports.{named_refusal}
use Rattle.board_rules.specs.Runs.{device_at}
use Rattle.std.specs.declared.result.Result.{Result}
use Rattle.board.specs.declared.Refusal.{Refusal}
use Rattle.board.specs.declared.Refusal.TheVariants.{Channels, Absent, Elsewhere}

-- request P2's number of a refusal ..
abbrev pub number : Refusal → ℕ
number Channels = 10
number Absent = 8
number Elsewhere = 9

-- .. and 0 where nothing is refused
abbrev pub refusal_of : {A : Type 0} → Result A Refusal → ℕ
refusal_of (Ok x) = 0
refusal_of (Err e) = number e

-- 256 times the refusal, or what is answered
abbrev pub answered : Result ℕ Refusal → ℕ
answered (Ok v) = v
answered (Err e) = number e * 256

-- of the interrupts, whose two bytes have 16 bits
abbrev pub answered_wide : Result ℕ Refusal → ℕ
answered_wide (Ok v) = v
answered_wide (Err e) = number e * 65536

-- a call f of the chip on a channel of a room: refused, and the room as it was; or done there, and the others as they were
abbrev pub OnChannel : {F : Type 0} → Once F (MutBor Device × Unit {0}) (ℕ × (MutBor Device × Unit {0})) → F → List Device → ℕ → Result ℕ Refusal → List Device → Type 0
OnChannel g f ys channel r zs =
    MatchResult r
    (λ v. (named_refusal (length ys) channel ≡ 0) × ((d : Device) × (FnOnceReturnsAtMut g f (device_at ys channel) v d × (zs ≡ set ys channel d))))
    (λ e. (named_refusal (length ys) channel ≡ number e) × (zs ≡ ys))
