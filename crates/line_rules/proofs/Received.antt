-- Running the receiver over any levels, from the wait for a 1, brings exactly the reading of the levels.
-- Assumes nothing.
use Prim.Native.Nat.{ℕ, zero, suc, ◌+◌, ◌*◌, ◌-◌, ◌%◌, ◌≤◌, ◌<◌}
use native.Mathlib.Nat.{add-zero, add-suc, mod-add-mod}
use native.Mathlib.Omega.{arith}
use mathlib.Core.Path.{◌≡◌, refl, ap, sym, ◌∙◌}
use mathlib.Core.Bool.{Bool, true, false}
use mathlib.Core.List.{List, [], ◌∷◌}
use lib.Dec.{ltb}
use lib.ListN.{length, drop, drop_of_length-le}
use lib.Seq.{drop-cons, drop-drop}
use borrow.Author.Tests.{ltb-true, ltb-false}
use Rattle.line_rules.specs.declared.Format.{Format}
use Rattle.line_rules.specs.declared.Receiver.{Receiver}
use Rattle.line_rules.specs.declared.RxC.{RxC}
use Rattle.line_rules.specs.declared.Sampled.{Sampled}
use Rattle.line_rules.specs.Sending.{bit, on, differ, half, parity_bits, stop_sample, parity_bit}
use Rattle.line_rules.specs.Clocks.{rx_later}
use Rattle.line_rules.specs.Receiving.{waiting, searching, assembling, after_mark, quiet, look_at, sample, tell, arrivals}
use Rattle.line_rules.specs.Reading.{lev, find, first, seen, number, value_at, wrong_parity_at, arrived_at, resume, start_at, gather, read_from, reading}
use Rattle.line_rules.specs.Arrived.{Arrived}
use Rattle.line_rules.proofs.Bits.{on_bit}
use Rattle.line_rules.proofs.Parts.{part_data, part_parity, part_stop}
use Rattle.line_rules.proofs.Samples.{leaves_alike, sample_under}

-- what a sample brings, and what the rest brings from where it leaves the receiver
abbrev told : ℕ → Sampled → (Receiver → List Arrived) → List Arrived
told k o rest = tell k o.heard (rest o.next)

-- a search passes the 1s, and a wait passes the 0s and the 1 that ends it
hunts : (f : Format) (t : RxC) (xs : List Bool) (i : ℕ)
    → arrivals f t searching i xs ≡ arrivals f t (assembling (half f) 0 0 0) (i + find false xs) (drop (find false xs) xs)
unfolding sample
hunts f t [] i = refl
hunts f t (false ∷ xs) i = rw add-zero
hunts f t (true ∷ xs) i = hunts f t xs (suc i) ∙ ap (λ (j : ℕ). arrivals f t (assembling (half f) 0 0 0) j (drop (find false xs) xs)) (omega arith)

waits : (f : Format) (t : RxC) (xs : List Bool) (i : ℕ)
    → arrivals f t waiting i xs ≡ arrivals f t searching (suc (i + find true xs)) (drop (suc (find true xs)) xs)
unfolding sample
waits f t [] i = refl
waits f t (true ∷ xs) i = rw add-zero
waits f t (false ∷ xs) i = waits f t xs (suc i) ∙ ap (λ (j : ℕ). arrivals f t searching j (drop (suc (find true xs)) xs)) (omega arith)

module _ (f : Format) (t : RxC) (ls : List Bool) where
  -- what the levels from index i on bring
  abbrev R : Receiver → ℕ → List Arrived
  R s i = arrivals f t s i (drop i ls)

  past : (s : Receiver) (i : ℕ) → length ls ≤ i → R s i ≡ []
  past s i h = rw (drop_of_length-le ls h)

  -- the tally at the sample of index i
  abbrev now : ℕ → RxC
  now i = rx_later (suc i) t

  one : (s : Receiver) (i : ℕ) → i < length ls → R s i ≡ told (suc i) (sample f s (lev ls i) (now i)) (λ (r : Receiver). R r (suc i))
  one s i h = rw (drop-cons ls i false h, leaves_alike f s (lev ls i) (now i))

  -- a sample that brings nothing
  silent : (s q : Receiver) (i : ℕ) → sample f s (lev ls i) (now i) ≡ quiet q → R s i ≡ R q (suc i)
  silent s q i e = go (ltb i (length ls)) refl
    where
      go : (b : Bool) → ltb i (length ls) ≡ b → R s i ≡ R q (suc i)
      go true h = one s i (ltb-true _ _ h) ∙ ap (λ (o : Sampled). told (suc i) o (λ (r : Receiver). R r (suc i))) e
      go false h = past s i (ltb-false _ _ h) ∙ sym (past q (suc i) (omega (arith, ltb-false)))

  moved : (s : Receiver) (i j : ℕ) → i ≡ j → R s i ≡ R s j
  moved s i j e = ap (λ (k : ℕ). R s k) e

  -- up to the next look
  skip : (c m v w : ℕ) (i j : ℕ) → i + c ≡ j → R (assembling c m v w) i ≡ R (assembling 0 m v w) j
  skip zero m v w i j e = moved (assembling 0 m v w) i j (omega arith)
  skip (suc c) m v w i j e =
      silent (assembling (suc c) m v w) (assembling c m v w) i (sample_under f (suc c) m v w (lev ls i) (now i)) ∙ skip c m v w (suc i) j (omega arith)

  hunt_at : (i : ℕ) → R searching i ≡ R (assembling 0 0 0 0) (first false ls i + half f)
  hunt_at i = hunts f t (drop i ls) i ∙ rw drop-drop (skip (half f) 0 0 0 (first false ls i) (first false ls i + half f) refl)

  wait_at : (i : ℕ) → R waiting i ≡ R searching (suc (first true ls i))
  wait_at i = waits f t (drop i ls) i ∙ rw (drop-drop (suc (find true (drop i ls))) i ls, add-suc)

  module _ (pos : 0 < f.factor) where
    -- a look that only goes on to the next
    looked : (m v w m' v' w' : ℕ) (i j : ℕ) → look_at f m v w (lev ls i) (now i) ≡ quiet (assembling (f.factor - 1) m' v' w') → i + f.factor ≡ j
        → R (assembling 0 m v w) i ≡ R (assembling 0 m' v' w') j
    looked m v w m' v' w' i j e q =
        silent (assembling 0 m v w) (assembling (f.factor - 1) m' v' w') i (sample_under f 0 m v w (lev ls i) (now i) ∙ e)
        ∙ skip (f.factor - 1) m' v' w' (suc i) j (omega arith)

    module _ (k : ℕ) where
      -- the index of look m
      abbrev place : ℕ → ℕ
      place m = k + half f + f.factor * m

      abbrev bits : ℕ → Bool
      bits i = seen f ls k (suc i)

      data_bits : (m : ℕ) → m ≤ f.length → R (assembling 0 1 0 0) (place 1) ≡ R (assembling 0 (suc m) (number bits m % 256) 0) (place (suc m))
      data_bits zero h = refl
      data_bits (suc m) h =
          data_bits m (omega arith)
          ∙ looked (suc m) (number bits m % 256) 0 (suc (suc m)) (number bits (suc m) % 256) 0 (place (suc m)) (place (suc (suc m)))
          (part_data f m _ _ _ h ∙ simp mod-add-mod) (omega arith)

      abbrev wrong : ℕ
      wrong = bit (wrong_parity_at f ls k)

      parity_bit_lem : R (assembling 0 (suc f.length) (value_at f ls k) 0) (place (suc f.length))
          ≡ R (assembling 0 (suc (f.length + parity_bits f)) (value_at f ls k) wrong) (k + stop_sample f)
      parity_bit_lem = go (on f.parity) refl
        where
          go : (b : Bool) → on f.parity ≡ b → R (assembling 0 (suc f.length) (value_at f ls k) 0) (place (suc f.length))
              ≡ R (assembling 0 (suc (f.length + parity_bits f)) (value_at f ls k) wrong) (k + stop_sample f)
          go true e =
              let q : suc f.length ≡ f.length + parity_bits f = omega (arith, ap bit e) in
              let r : wrong_parity_at f ls k ≡ differ (seen f ls k (suc f.length)) (parity_bit f (value_at f ls k)) = rw e in
              looked (suc f.length) (value_at f ls k) 0 (suc (f.length + parity_bits f)) (value_at f ls k) wrong (place (suc f.length)) (k + stop_sample f)
              (part_parity f f.length _ _ _ (omega arith) (omega arith) ∙ cc)
              (omega (arith, ap (λ (m : ℕ). f.factor * suc m) q))
          go false e =
              let q : f.length + parity_bits f ≡ f.length = omega (arith, ap bit e) in
              let r : wrong ≡ 0 = rw e in
              let t : k + stop_sample f ≡ place (suc f.length) = omega (arith, ap (λ (m : ℕ). f.factor * suc m) q) in
              cc

      -- the stop look
      stop : k + stop_sample f < length ls
          → R (assembling 0 (suc (f.length + parity_bits f)) (value_at f ls k) wrong) (k + stop_sample f)
          ≡ arrived_at f t ls k ∷ R (after_mark (lev ls (k + stop_sample f))) (suc (k + stop_sample f))
      stop h =
          let last : f.length + parity_bits f ≤ f.length + parity_bits f = omega arith in
          one _ _ h ∙ rw (sample_under, part_stop, on_bit)

      -- a character that passes its start look comes to its stop look
      to_stop : seen f ls k 0 ≡ false
          → R (assembling 0 0 0 0) (k + half f) ≡ R (assembling 0 (suc (f.length + parity_bits f)) (value_at f ls k) wrong) (k + stop_sample f)
      to_stop e =
          moved (assembling 0 0 0 0) (k + half f) (place 0) (omega arith)
          ∙ looked 0 0 0 1 0 0 (place 0) (place 1) (rw e) (omega arith)
          ∙ data_bits f.length (omega arith)
          ∙ parity_bit_lem

    -- a search from index i that finds a whole character at k
    pub heard_at : (i k : ℕ) → first false ls i ≡ k → seen f ls k 0 ≡ false → k + stop_sample f < length ls
        → arrivals f t searching i (drop i ls) ≡ arrived_at f t ls k ∷ arrivals f t (after_mark (lev ls (k + stop_sample f))) (suc (k + stop_sample f)) (drop (suc (k + stop_sample f)) ls)
    heard_at i k e s h = hunt_at i ∙ moved (assembling 0 0 0 0) (first false ls i + half f) (k + half f) (omega arith) ∙ to_stop k s ∙ stop k h

    module _ (starts : ℕ) (ih : (j : ℕ) → length ls ≤ j + starts → R searching j ≡ read_from f t ls starts j) where
      resumed : (s : ℕ) (b : Bool) → lev ls s ≡ b → length ls ≤ suc s + starts → R (after_mark (lev ls s)) (suc s) ≡ read_from f t ls starts (resume ls s)
      resumed s true e h = rw e (ih (suc s) h)
      resumed s false e h = rw e (wait_at (suc s) ∙ ih (suc (first true ls (suc s))) (omega arith))

      start : (k : ℕ) → length ls ≤ suc k + starts → R (assembling 0 0 0 0) (k + half f) ≡ gather (start_at f t ls k) (λ (j : ℕ). read_from f t ls starts j)
      start k h = go (seen f ls k 0) (ltb (k + stop_sample f) (length ls)) refl refl
        where
          go : (a b : Bool) → seen f ls k 0 ≡ a → ltb (k + stop_sample f) (length ls) ≡ b
              → R (assembling 0 0 0 0) (k + half f) ≡ gather (start_at f t ls k) (λ (j : ℕ). read_from f t ls starts j)
          go true b e₁ e₂ =
              rw e₁
              (moved (assembling 0 0 0 0) (k + half f) (place k 0) (omega arith)
              ∙ silent (assembling 0 0 0 0) searching (place k 0) (sample_under f 0 0 0 0 (seen f ls k 0) (now (place k 0)) ∙ rw e₁)
              ∙ moved searching (suc (place k 0)) (suc (k + half f)) (omega arith)
              ∙ ih (suc (k + half f)) (omega arith))
          go false false e₁ e₂ = rw (e₁, e₂) (to_stop k e₁ ∙ past _ _ (ltb-false _ _ e₂))
          go false true e₁ e₂ =
              rw (e₁, e₂)
              (to_stop k e₁
              ∙ stop k (ltb-true _ _ e₂)
              ∙ ap (λ (r : List Arrived). arrived_at f t ls k ∷ r) (resumed (k + stop_sample f) (lev ls (k + stop_sample f)) refl (omega arith)))

    from_search : (starts i : ℕ) → length ls ≤ i + starts → R searching i ≡ read_from f t ls starts i
    from_search zero i h = past searching i (omega arith)
    from_search (suc starts) i h = hunt_at i ∙ start starts (from_search starts) (first false ls i) (omega arith)

    pub received : arrivals f t waiting 0 ls ≡ reading f t ls
    unfolding reading
    received = wait_at 0 ∙ from_search (length ls) (suc (first true ls 0)) (omega arith)
