-- Each code of mode register 1 with each of the others, computed: document 01, "Registers" and S of "Sending, by transmit ticks".
-- Assumes nothing.
use Prim.Native.Nat.{ℕ, ◌+◌, ◌*◌}
use mathlib.Core.Path.{◌≡◌, refl}
use mathlib.Core.Bool.{Bool, true, false}
use mathlib.Core.List.{List, [], ◌∷◌, ◌++◌}
use Rattle.line_rules.specs.declared.Format.{Format}
use Rattle.line_rules.proofs.Bench.{for_each}
use Rattle.ins2651_rules.specs.Modes.{format_of}

-- the bytes of a factor code: stop codes 01, 10, 11, then even, parity and length codes
abbrev coded : Bool → ℕ → List Format
coded internal k =
    for_each (1 ∷ 2 ∷ 3 ∷ []) λ (s : ℕ).
    for_each (0 ∷ 1 ∷ []) λ (e : ℕ).
    for_each (0 ∷ 1 ∷ []) λ (p : ℕ).
    for_each (0 ∷ 1 ∷ 2 ∷ 3 ∷ []) λ (n : ℕ).
    format_of (64 * s + 32 * e + 16 * p + 4 * n + k) internal ∷ []

-- a factor with its three stop lengths in ticks, with every length, parity and kind
abbrev named : ℕ → List ℕ → List Format
named F stops =
    for_each stops λ (s : ℕ).
    for_each (0 ∷ 1 ∷ []) λ (e : ℕ).
    for_each (0 ∷ 1 ∷ []) λ (p : ℕ).
    for_each (5 ∷ 6 ∷ 7 ∷ 8 ∷ []) λ (n : ℕ).
    record { factor = F; length = n; parity = p; even = e; stop = s } ∷ []

abbrev sixteen : List Format
sixteen = named 16 (16 ∷ 24 ∷ 32 ∷ [])

-- factor codes 01, 10, 11 are 1, 16, 64; 1½ stop bits are 1, 24, 96 ticks, whatever the length
pub each_code : coded false 1 ++ coded false 2 ++ coded false 3 ≡ named 1 (1 ∷ 1 ∷ 2 ∷ []) ++ sixteen ++ named 64 (64 ∷ 96 ∷ 128 ∷ [])
unfolding format_of
each_code = refl

-- an internal clock makes each of them 16, and changes nothing else
pub each_code_internal : coded true 1 ++ coded true 2 ++ coded true 3 ≡ sixteen ++ sixteen ++ sixteen
unfolding format_of
each_code_internal = refl
