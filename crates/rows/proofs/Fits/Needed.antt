-- The least number of cells with which a row fits: what it is, and that it does not depend on free cells past the end. Assumes nothing.
use Prim.Native.Nat.{ℕ, zero, suc, ◌+◌, ◌≤◌, ◌<◌}
use native.Mathlib.Nat.{eq-or-lt_of_le, suc_inj}
use native.Mathlib.Omega.{arith}
use mathlib.Core.Path.{◌≡◌, refl, sym, ap, ◌∙◌}
use mathlib.Core.Bool.{Bool, true, false, true≢false}
use mathlib.Core.List.{List, [], ◌∷◌}
use mathlib.Core.Logic.{◌⊎◌, inl, inr, ⊎_elim}
use lib.Dec.{ltb}
use lib.ListN.{length, get_or}
use borrow.Author.Tests.{ltb-true, lt-ltb}
use Rattle.lists.proofs.Tests.{and_true, le_or_lt}
use Rattle.rows.specs.Care.{Care}
use Rattle.rows.specs.Fit.{cell_of, inside, clear, free_from, reach, needed, first_fit, Fit, At, None}
use Rattle.rows.proofs.Fits.First.{inside_less, fits_in, fits_shut, fits_is, fit_at, fit_none, fit_is}

-- ---- how far a row reaches

pub reach_inside : (cells d : ℕ) (m : List Care) → reach d m ≤ cells → inside cells d m ≡ true
unfolding reach inside
reach_inside cells d [] l = refl
reach_inside cells d (c ∷ m) l =
    let b : cell_of c d < cells = omega arith in
    let r : reach d m ≤ cells = omega arith in
    rw (lt-ltb (cell_of c d) cells b) (reach_inside cells d m r)

pub inside_reach : (cells d : ℕ) (m : List Care) → inside cells d m ≡ true → reach d m ≤ cells
unfolding reach inside
inside_reach cells d [] h = omega arith
inside_reach cells d (c ∷ m) h =
    let p = and_true (ltb (cell_of c d) cells) (inside cells d m) h in
    omega (arith, ltb-true (cell_of c d) cells p.0, inside_reach cells d m p.1)

-- ---- the smallest displacement at which the cells are free

-- the row's cells are not all free at any displacement below d
abbrev pub Shut : List ℕ → List Care → ℕ → Type 0
Shut g m d = (e : ℕ) → e < d → clear g e m ≡ false

-- d is the smallest displacement at which they are
pub record FirstFree (g : List ℕ) (m : List Care) (d : ℕ) : Type 0 where
  pub free : clear g d m ≡ true
  pub before : Shut g m d

-- past the cells every cell is free
pub past_free : (g : List ℕ) (c : ℕ) → length g ≤ c → get_or g c 0 ≡ 0
past_free [] c l = refl
past_free (w ∷ g) zero l = absurd (omega arith)
past_free (w ∷ g) (suc c) l = past_free g c (omega arith)

pub clear_past : (g : List ℕ) (d : ℕ) (m : List Care) → length g ≤ d → clear g d m ≡ true
unfolding clear
clear_past g d [] l = refl
clear_past g d (c ∷ m) l = rw (past_free g (cell_of c d) (omega arith)) (clear_past g d m l)

-- where both find the same free they find the same
pub free_same : (g g' : List ℕ) (m m' : List Care) → ((d : ℕ) → clear g d m ≡ clear g' d m') → (f d : ℕ) → free_from f d g m ≡ free_from f d g' m'
unfolding free_from
free_same g g' m m' e zero d = refl
free_same g g' m m' e (suc f) d = go (clear g' d m') refl (free_same g g' m m' e f (suc d))
  where
    go : (b : Bool) → clear g' d m' ≡ b → free_from f (suc d) g m ≡ free_from f (suc d) g' m' → free_from (suc f) d g m ≡ free_from (suc f) d g' m'
    go true q i = rw (e d, q, free_from)
    go false q i = rw (e d, q, free_from) i

module _ (g : List ℕ) (m : List Care) where
  shut_more : (d : ℕ) → Shut g m d → clear g d m ≡ false → Shut g m (suc d)
  shut_more d s k e l = ⊎_elim (λ q. let p : e ≡ d = suc_inj q in rw p k) (λ q. s e (omega arith)) (eq-or-lt_of_le l)

  free_from_lem : (f d : ℕ) → length g ≤ d + f → Shut g m d → FirstFree g m (free_from f d g m)
  unfolding free_from
  free_from_lem zero d l s = record { free = clear_past g d m (omega arith); before = s }
  free_from_lem (suc f) d l s = go (clear g d m) refl (free_from_lem f (suc d) (omega arith))
    where
      go : (b : Bool) → clear g d m ≡ b → (Shut g m (suc d) → FirstFree g m (free_from f (suc d) g m)) → FirstFree g m (free_from (suc f) d g m)
      go true q i = rw (q, free_from) (record { free = q; before = s })
      go false q i = rw (q, free_from) (i (shut_more d s q))

  free_le : (f d : ℕ) → free_from f d g m ≤ d + f
  unfolding free_from
  free_le zero d = omega arith
  free_le (suc f) d = go (clear g d m) refl (free_le f (suc d))
    where
      go : (b : Bool) → clear g d m ≡ b → free_from f (suc d) g m ≤ suc d + f → free_from (suc f) d g m ≤ d + suc f
      go true q i = rw (q, free_from) (omega arith)
      go false q i = rw (q, free_from) (omega arith)

  -- no row needs more cells than there are and its columns
  pub needed_low : (columns : ℕ) → inside (length g + columns) (length g) m ≡ true → needed g m ≤ length g + columns
  unfolding needed
  needed_low columns h =
      let d = free_from (length g) 0 g m in
      inside_reach (length g + columns) d m (inside_less (length g + columns) (length g) d m (omega (arith, free_le (length g) 0)) h)

  pub first_free : FirstFree g m (free_from (length g) 0 g m)
  first_free = free_from_lem (length g) 0 (omega arith) (λ e l. absurd (omega arith))

  pub free_one : (d e : ℕ) → FirstFree g m d → FirstFree g m e → d ≡ e
  free_one d e a b = go (le_or_lt d e) (le_or_lt e d)
    where
      go : (d ≤ e) ⊎ (e < d) → (e ≤ d) ⊎ (d < e) → d ≡ e
      go (inr l) k = absurd (true≢false (sym b.free ∙ a.before e l))
      go (inl l) (inr k) = absurd (true≢false (sym a.free ∙ b.before d k))
      go (inl l) (inl k) = omega arith

-- ---- the row fits exactly where there are so many cells

module _ (g : List ℕ) (m : List Care) (d : ℕ) (f : FirstFree g m d) where
  pub needed_is : needed g m ≡ reach d m
  unfolding needed
  needed_is = ap (λ (e : ℕ). reach e m) (free_one g m (free_from (length g) 0 g m) d (first_free g m) f)

  pub fit_enough : 0 < length m → reach d m ≤ length g → first_fit g m ≡ At d
  fit_enough p l =
      fit_is g m d p (record { fits = fits_is g d m true (reach_inside (length g) d m l) f.free; before = λ e k. fits_shut g e m (f.before e k) })

  -- it fits at no other displacement first
  pub fit_same : (e : ℕ) → first_fit g m ≡ At e → (e ≡ d) × (reach d m ≤ length g)
  fit_same e q =
      let a = fit_at g m e q in
      let b = fits_in g e m a.fits in
      let l : d ≤ e = ⊎_elim (λ k. k) (λ k. absurd (true≢false (sym b.1 ∙ f.before e k))) (le_or_lt d e) in
      let h = inside_less (length g) e d m l b.0 in
      let z : e ≤ d = ⊎_elim (λ k. k) (λ k. absurd (true≢false (sym (fits_is g d m true h f.free) ∙ a.before d k))) (le_or_lt e d) in
      (omega arith, inside_reach (length g) d m h)

  pub fit_short : length g < reach d m → (t : ℕ) × (first_fit g m ≡ None t (reach d m))
  fit_short l = go (first_fit g m) refl
    where
      go : (r : Fit) → first_fit g m ≡ r → (t : ℕ) × (first_fit g m ≡ None t (reach d m))
      go (At e) q = absurd (omega (arith, (fit_same e q).1))
      go (None t n) q = (t, q ∙ ap (None t) ((fit_none g m t n q).1 ∙ needed_is))

-- where no displacement is found there are fewer cells than are needed
pub none_short : (g : List ℕ) (m : List Care) (t n : ℕ) → 0 < length m → first_fit g m ≡ None t n → length g < n
none_short g m t n p q = go (le_or_lt n (length g))
  where
    go : (n ≤ length g) ⊎ (length g < n) → length g < n
    go (inr l) = l
    go (inl l) =
        let f = first_free g m in
        let e = fit_enough g m (free_from (length g) 0 g m) f p (omega (arith, (fit_none g m t n q).1, needed_is g m (free_from (length g) 0 g m) f)) in
        let z : ◌≡◌ {A = ℕ} 0 1 = cc in
        absurd (omega arith)
