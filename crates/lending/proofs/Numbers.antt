-- The numbers of a call, however many and of any width: their values, what is owned and had of them, and their locals, which are one entry of a walk's
-- context.
-- Assumes nothing.
use mathlib.Core.Path.{◌≡◌, refl, ap, sym, subst}
use Prim.Native.Nat.{ℕ, zero, suc, ◌<◌, ◌^◌}
use mathlib.Core.List.{[], ◌∷◌, List}
use seplogic.Ra.Ura.{Ura}
use base.Fraction.{full_share}
use mir.Syntax.{Width, Local, local, value_local, Ty, ty_int, Step as PStep, place, Opd as Operand, copy, ty_enum, ttnil}
use lib.Dec.{T, eqb_refl}
use lib.ListN.{get_or}
use mir.Val.{Val, vint, bits, bytes, has_ty, WT}
use base.Logic.{ent, emp, id⊢}
use base.Fml.{ftrue, fat, froom, fdies}
use prog.Wp.{Env, Spot, eval_opds}
use types.Logic.{Logic, sem}
use contract.Lifetimes.{Lfts}
use types.Kit.{Item, Go, Seq, ‵, ◌⊛◌, ◌$◌, ◌∵◌, !, qed, by, move, drop, split, join, fjoin, done, Goal, prop, allocs, passes, frees, use0}
use types.Run.{Walks as Goes-to, Finds, Opds, look, init, forget, stop, from, load, and_then, no_more, alloc1, pass1, pass0, free1}
use denote.RattleType.{Denots, Valss, flat, owns}
use denote.Laws.{Is, Are, Ises, Spells, Tellss, valss}
use denote.Plain.{UInt, uint_vals, uint_Tells, uint_Makes}
use denote.Exit.{yes}
use denote.Signature.{Slot, plain, types_at}
use denote.Steps.{owned, nothing}
use denote.Triple.End.{Kepts, Fins}
use denote.Triple.Walked.{Stays, stay_dropped, AllGo, Goes-dropped, fits_of, has_of}

-- == n numbers ==

abbrev pub Numbers : ℕ → Type 0
Numbers zero = Unit {0}
Numbers (suc n) = ℕ × Numbers n

module _ (w : Width) where
  abbrev pub Fit : (n : ℕ) → Numbers n → Type 0
  Fit zero xs = Unit {0}
  Fit (suc n) xs = (xs.0 < 2 ^ bits w) × Fit n xs.1

  -- a number that fits is of its type
  pub typed_number : (x : ℕ) → x < 2 ^ bits w → T (has_ty (ty_int w) (vint w x)) × WT (vint w x)
  typed_number x fits = (eqb_refl (bytes w), record { fits = fits })

  abbrev pub values : (n : ℕ) → Numbers n → List Val
  values zero xs = []
  values (suc n) xs = vint w xs.0 ∷ values n xs.1

-- == as parameters, in a signature with k lifetimes ==

module _ (w : Width) where
  abbrev pub slots : (k : ℕ) → ℕ → List (Slot k)
  slots k zero = []
  slots k (suc n) = plain (λ _. UInt w) ∷ slots k n

  abbrev pub kept_numbers : (k n : ℕ) → Kepts (slots k n)
  kept_numbers k zero = tt
  kept_numbers k (suc n) = (yes, kept_numbers k n)

  abbrev pub numbers : (k n : ℕ) (κs : Lfts k) → Denots (types_at (slots k n) κs) → Numbers n
  numbers k zero κs a = tt
  numbers k (suc n) κs a = (a.0, numbers k n κs a.1)

  -- they are let go
  abbrev pub stay_numbers : (k n : ℕ) → Stays (slots k n) (kept_numbers k n)
  stay_numbers k zero = tt
  stay_numbers k (suc n) = (stay_dropped (plain (λ _. UInt w)) yes, stay_numbers k n)

  abbrev pub spell_numbers : (k n : ℕ) (κs : Lfts k) → Spells (types_at (slots k n) κs)
  spell_numbers k zero κs = tt
  spell_numbers k (suc n) κs = (uint_vals w, spell_numbers k n κs)

  abbrev pub tell_numbers : (k n : ℕ) (κs : Lfts k) → Tellss (types_at (slots k n) κs) (Ises (types_at (slots k n) κs)) (spell_numbers k n κs)
  tell_numbers k zero κs = tt
  tell_numbers k (suc n) κs = (uint_Tells w, tell_numbers k n κs)

  pub passed_are : (k n : ℕ) (κs : Lfts k) (a : Denots (types_at (slots k n) κs)) → values w n (numbers k n κs a) ≡ flat (types_at (slots k n) κs) (valss (types_at (slots k n) κs) (spell_numbers k n κs) a)
  passed_are k zero κs a = refl
  passed_are k (suc n) κs a = ap (◌∷◌ (vint w a.0)) (passed_are k n κs a.1)

  pub fit_all : (k n : ℕ) (κs : Lfts k) (a : Denots (types_at (slots k n) κs)) (vs : Valss (types_at (slots k n) κs)) → Are (types_at (slots k n) κs) (Ises (types_at (slots k n) κs)) a vs → Fit w n (numbers k n κs a)
  fit_all k zero κs a vs are = tt
  fit_all k (suc n) κs a vs are = (are.0.1, fit_all k n κs a.1 vs.1 are.1)

  -- at the end nothing is had or said of them
  abbrev pub last_numbers : (k n : ℕ) (κs : Lfts k) (a : Denots (types_at (slots k n) κs)) → Fins κs (slots k n) (kept_numbers k n) a
  last_numbers k zero κs a = tt
  last_numbers k (suc n) κs a = (tt, last_numbers k n κs a.1)

  pub fits_numbers : (k n : ℕ) (κs : Lfts k) (a : Denots (types_at (slots k n) κs)) (ws : Fins κs (slots k n) (kept_numbers k n) a) → fits_of κs (slots k n) (kept_numbers k n) (stay_numbers k n) a ws
  fits_numbers k zero κs a ws = tt
  fits_numbers k (suc n) κs a ws = (tt, fits_numbers k n κs a.1 ws.1)

  module _ {M : Type 1} {𝓤 : Ura M} (𝓛 : Logic 𝓤) where
    pub go_numbers : (k n : ℕ) → AllGo 𝓛 k (slots k n) (kept_numbers k n) (stay_numbers k n)
    go_numbers k zero = tt
    go_numbers k (suc n) = (Goes-dropped 𝓛 k (plain (λ _. UInt w)) yes (λ κs x f. refl), go_numbers k n)

    pub has_numbers : (k n : ℕ) (κs : Lfts k) (a : Denots (types_at (slots k n) κs)) (ws : Fins κs (slots k n) (kept_numbers k n) a) (vs : Valss (types_at (slots k n) κs))
        → ent 𝓤 (emp 𝓤) (sem 𝓛 (has_of κs (slots k n) (kept_numbers k n) (stay_numbers k n) a ws vs))
    has_numbers k zero κs a ws vs = id⊢ 𝓤 (emp 𝓤)
    has_numbers k (suc n) κs a ws vs =
        qed 𝓛 [] ∵ use0 𝓛 (‵ (has_of κs (slots k n) (kept_numbers k n) (stay_numbers k n) a.1 ws.1 vs.1)) (has_numbers k n κs a.1 ws.1 vs.1) $ nothing ! $ fjoin ! $ done !

-- == as arguments of a call, in a signature with k lifetimes ==

module _ (w : Width) where
  abbrev pub denots : (k n : ℕ) (κs : Lfts k) → Numbers n → Denots (types_at (slots w k n) κs)
  denots k zero κs xs = tt
  denots k (suc n) κs xs = (xs.0, denots k n κs xs.1)

  -- their machine values
  abbrev pub spelled : (k n : ℕ) (κs : Lfts k) → Numbers n → Valss (types_at (slots w k n) κs)
  spelled k zero κs xs = tt
  spelled k (suc n) κs xs = (vint w xs.0 ∷ [], spelled k n κs xs.1)

  pub numbers_are : (k n : ℕ) (κs : Lfts k) (xs : Numbers n) → numbers w k n κs (denots k n κs xs) ≡ xs
  numbers_are k zero κs xs = refl
  numbers_are k (suc n) κs xs = ap (λ (ys : Numbers n). (xs.0, ys)) (numbers_are k n κs xs.1)

  pub spelled_are : (k n : ℕ) (κs : Lfts k) (xs : Numbers n) → flat (types_at (slots w k n) κs) (spelled k n κs xs) ≡ values w n xs
  spelled_are k zero κs xs = refl
  spelled_are k (suc n) κs xs = ap (◌∷◌ (vint w xs.0)) (spelled_are k n κs xs.1)

  pub own_numbers : {M : Type 1} {𝓤 : Ura M} (𝓛 : Logic 𝓤) (k n : ℕ) (κs : Lfts k) (xs : Numbers n) → Fit w n xs
      → ent 𝓤 (emp 𝓤) (sem 𝓛 (owns (types_at (slots w k n) κs) (denots k n κs xs) (spelled k n κs xs)))
  own_numbers {𝓤 = 𝓤} 𝓛 k zero κs xs fits = id⊢ 𝓤 (emp 𝓤)
  own_numbers 𝓛 k (suc n) κs xs fits =
      qed 𝓛 [] ∵ use0 𝓛 (‵ (owns (types_at (slots w k n) κs) (denots k n κs xs.1) (spelled k n κs xs.1))) (own_numbers 𝓛 k n κs xs.1 fits.1) $
      owned ! (UInt w) (Is (UInt w)) (uint_Makes 𝓛 w) xs.0 (vint w xs.0 ∷ []) (refl, fits.0) $ fjoin ! $ done !

-- == as locals ==

-- a frame's locals: their types and blocks
abbrev pub Locals : Type 0
Locals = List (Ty × ℕ)

-- local i is in block l
abbrev pub Stands : Locals → ℕ → Ty → ℕ → Type 0
Stands E i τ l = get_or E i (ty_enum [] ttnil, zero) ≡ (τ, l)

-- the number of local i of those behind n numbers
abbrev pub past : ℕ → ℕ → ℕ
past zero i = i
past (suc n) i = suc (past n i)

-- the numbers, from local i on
abbrev pub copies : ℕ → ℕ → List Operand
copies i zero = []
copies i (suc n) = copy (place i []) ∷ copies (suc i) n

module _ {M : Type 1} {𝓤 : Ura M} (𝓛 : Logic 𝓤) where
  -- a local of the frame is where it is, whatever the context
  open 𝓛 use {H}

  abbrev pub At : Env 𝓤 H → ℕ → Ty → ℕ → Type 2
  At E i τ l = (Γ : List (Item 𝓤)) (st : List PStep) (sp : Spot 𝓤 H) → Goes-to (Go {0}) 𝓛 Γ E (τ, l, zero) st sp → Finds (Go {0}) 𝓛 Γ E (place i st) sp

  pub stands : (E : Env 𝓤 H) (i : ℕ) (τ : Ty) (l : ℕ) → Stands E i τ l → At E i τ l
  stands E i τ l e Γ st sp s = from ! (subst (λ (t : Ty × ℕ). Goes-to (Go {0}) 𝓛 Γ E (t.0, t.1, zero) st sp) (sym e) s)

  -- what is read in one context is read in any that is the same in another order
  pub carried : {Γ Γ' : List (Item 𝓤)} {E : Env 𝓤 H} {xs : List Operand} {vs : List Val}
      → ((G : Goal 𝓤 H) → Seq (Go {0}) 𝓛 Γ' G → Seq (Go {0}) 𝓛 Γ G) → ((G : Goal 𝓤 H) → Seq (Go {0}) 𝓛 Γ G → Seq (Go {0}) 𝓛 Γ' G)
      → Opds (Go {0}) 𝓛 Γ' E xs vs → Opds (Go {0}) 𝓛 Γ E xs vs
  carried {E = E} {xs} {vs} there back os = record { go = λ Kt h. (there (prop (eval_opds 𝓤 H E xs Kt)) (by ! (os.go Kt (back (prop (Kt vs)) (by ! h)).prf))).prf }

module _ (w : Width) where
  abbrev pub number_locals : ℕ → List Local → List Local
  number_locals zero ls = ls
  number_locals (suc n) ls = local (ty_int w) value_local ∷ number_locals n ls

  abbrev pub env : (n : ℕ) → Numbers n → Locals → Locals
  env zero ks E = E
  env (suc n) ks E = (ty_int w, ks.0) ∷ env n ks.1 E

  abbrev pub AllStand : Locals → ℕ → (n : ℕ) → Numbers n → Type 0
  AllStand E i zero ks = Unit {0}
  AllStand E i (suc n) ks = Stands E i (ty_int w) ks.0 × AllStand E (suc i) n ks.1

  pub further : (n : ℕ) (ks : Numbers n) (e : Ty × ℕ) (E : Locals) (i : ℕ) → AllStand E i n ks → AllStand (e ∷ E) (suc i) n ks
  further zero ks e E i p = tt
  further (suc n) ks e E i p = (p.0, further n ks.1 e E (suc i) p.1)

  pub all_stand : (n : ℕ) (ks : Numbers n) (E : Locals) → AllStand (env n ks E) 0 n ks
  all_stand zero ks E = tt
  all_stand (suc n) ks E = (refl, further n ks.1 (ty_int w, ks.0) (env n ks.1 E) 0 (all_stand n ks.1 E))

  -- the locals behind the numbers
  pub behind : (n : ℕ) (ks : Numbers n) (E : Locals) (i : ℕ) (τ : Ty) (l : ℕ) → Stands E i τ l → Stands (env n ks E) (past n i) τ l
  behind zero ks E i τ l e = e
  behind (suc n) ks E i τ l e = behind n ks.1 E i τ l e

  module _ {M : Type 1} {𝓤 : Ura M} where
    abbrev pub rooms : (n : ℕ) → Numbers n → Item 𝓤
    rooms zero ks = ‵ ftrue
    rooms (suc n) ks = (‵ (froom (ty_int w) ks.0 zero) ⊛ ‵ (fdies (ty_int w) ks.0)) ⊛ rooms n ks.1

    abbrev pub cells : (n : ℕ) → Numbers n → Numbers n → Item 𝓤
    cells zero ks xs = ‵ ftrue
    cells (suc n) ks xs = (‵ (fat full_share (ty_int w) ks.0 zero (vint w xs.0)) ⊛ ‵ (fdies (ty_int w) ks.0)) ⊛ cells n ks.1 xs.1

  module _ {M : Type 1} {𝓤 : Ura M} (𝓛 : Logic 𝓤) where
    open 𝓛 use {H}

    pub alloc_numbers : (n : ℕ) {Γ : List (Item 𝓤)} {ls : List Local} {Kt : Env 𝓤 H → Goal 𝓤 H}
        → ((ks : Numbers n) → Seq (Go {0}) 𝓛 (rooms n ks ∷ Γ) (allocs ls (λ E. Kt (env n ks E)))) → Seq (Go {0}) 𝓛 Γ (allocs (number_locals n ls) Kt)
    alloc_numbers zero f = nothing ! $ f tt
    alloc_numbers (suc n) f = alloc1 ! (λ k. join ! $ alloc_numbers n (λ ks. move ! (1 ∷ 0 ∷ []) $ join ! $ f (k, ks)))

    pub pass_numbers : (n : ℕ) (ks xs : Numbers n) (E : Locals) → Fit w n xs → {Γ : List (Item 𝓤)} {g : Goal 𝓤 H}
        → Seq (Go {0}) 𝓛 (cells n ks xs ∷ Γ) g → Seq (Go {0}) 𝓛 (rooms n ks ∷ Γ) (passes (env n ks E) (values w n xs) g)
    pass_numbers zero ks xs E fits s = pass0 ! $ s
    pass_numbers (suc n) ks xs E fits s =
        split ! $ split ! $ pass1 ! (init ! 0 refl (typed_number w xs.0 fits.0)) $
        move ! (2 ∷ []) $ pass_numbers n ks.1 xs.1 E fits.1 (move ! (1 ∷ 2 ∷ 0 ∷ []) $ join ! $ join ! $ s)

    pub free_numbers : (n : ℕ) (ks xs : Numbers n) {Γ : List (Item 𝓤)} {E : Env 𝓤 H} {g : Goal 𝓤 H}
        → Seq (Go {0}) 𝓛 Γ (frees E g) → Seq (Go {0}) 𝓛 (cells n ks xs ∷ Γ) (frees (env n ks E) g)
    free_numbers zero ks xs s = drop ! $ s
    free_numbers (suc n) ks xs s = split ! $ split ! $ forget ! 0 refl $ free1 ! $ free_numbers n ks.1 xs.1 s

    pub read_numbers : (n : ℕ) (ks xs : Numbers n) (Γ : List (Item 𝓤)) (E : Env 𝓤 H) (i : ℕ) → AllStand E i n ks → Opds (Go {0}) 𝓛 (cells n ks xs ∷ Γ) E (copies i n) (values w n xs)
    read_numbers zero ks xs Γ E i p = no_more !
    read_numbers (suc n) ks xs Γ E i p =
        carried 𝓛 (λ G s. split ! $ split ! $ s) (λ G s. join ! $ join ! $ s)
        (and_then ! (load ! (stands 𝓛 E i (ty_int w) ks.0 p.0 _ _ _ (stop !)) (look ! 0 refl))
        (carried 𝓛 (λ G s. move ! (2 ∷ []) $ s) (λ G s. move ! (1 ∷ 2 ∷ 0 ∷ []) $ s) (read_numbers n ks.1 xs.1 _ E (suc i) p.1)))
