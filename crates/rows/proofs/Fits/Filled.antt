-- How many cells are taken: counts of the numbers that are not 0. Assumes nothing.
use Prim.Native.Nat.{ℕ, zero, suc, ◌+◌, ◌≤◌, ◌<◌}
use native.Mathlib.Nat.{add-suc}
use native.Mathlib.Omega.{arith}
use mathlib.Core.Path.{◌≡◌, refl}
use mathlib.Core.Bool.{Bool, true, false, cond}
use mathlib.Core.List.{List, [], ◌∷◌}
use lib.Dec.{eqb}
use lib.ListN.{length, get_or, set, drop, replicate}
use borrow.Author.Tests.{eqb-true, eqb-false, eq-eqb, ne_eqb}
use Rattle.rows.specs.Care.{Care}
use Rattle.rows.specs.Fit.{cell_of, put}
use Rattle.rows.specs.Demand.{filled}

-- 1 for a number that is not 0
abbrev pub one : ℕ → ℕ
one w = cond (eqb w 0) 0 1

pub one_le : (w : ℕ) → one w ≤ 1
one_le w = go (eqb w 0)
  where
    go : (t : Bool) → cond t 0 1 ≤ 1
    go true = omega arith
    go false = omega arith

pub one_zero : (w : ℕ) → w ≡ 0 → one w ≡ 0
one_zero w e = rw (eq-eqb w 0 e)

pub one_pos : (w : ℕ) → (w ≡ 0 → ⊥) → one w ≡ 1
one_pos w n = rw (ne_eqb w 0 n)

-- ---- the sum of a function's values below d

unfoldable pub sum_to : (ℕ → ℕ) → ℕ → ℕ
sum_to f zero = 0
sum_to f (suc d) = sum_to f d + f d

pub sum_ones : (f : ℕ → ℕ) (d : ℕ) → ((e : ℕ) → e < d → 1 ≤ f e) → d ≤ sum_to f d
unfolding sum_to
sum_ones f zero h = omega arith
sum_ones f (suc d) h = omega (arith, sum_ones f d (λ e l. h e (omega arith)), h d (omega arith))

pub sum_add : (f g : ℕ → ℕ) (d : ℕ) → sum_to (λ e. f e + g e) d ≡ sum_to f d + sum_to g d
unfolding sum_to
sum_add f g zero = refl
sum_add f g (suc d) = omega (arith, sum_add f g d)

-- ---- the taken cells

pub filled_blank : (n : ℕ) → filled (replicate n 0) ≡ 0
unfolding filled
filled_blank zero = refl
filled_blank (suc n) = omega (arith, filled_blank n)

pub filled_none : (g : List ℕ) (i : ℕ) → filled g ≡ 0 → get_or g i 0 ≡ 0
unfolding filled
filled_none [] i h = refl
filled_none (w ∷ g) zero h = go (eqb w 0) refl
  where
    go : (t : Bool) → eqb w 0 ≡ t → w ≡ 0
    go true e = eqb-true w 0 e
    go false e = absurd (omega (arith, one_pos w (eqb-false w 0 e)))
filled_none (w ∷ g) (suc i) h = filled_none g i (omega arith)

-- a row of zeros is zero everywhere
pub blank_zero : (n i : ℕ) → get_or (replicate n 0) i 0 ≡ zero
blank_zero n i = filled_none (replicate n 0) i (filled_blank n)

filled_at : (g : List ℕ) (n : ℕ) → filled (drop n g) ≡ one (get_or g n 0) + filled (drop (suc n) g)
unfolding filled
filled_at [] zero = refl
filled_at [] (suc n) = refl
filled_at (x ∷ xs) zero = refl
filled_at (x ∷ xs) (suc n) = filled_at xs n

filled_drop : (g : List ℕ) (n : ℕ) → filled (drop n g) ≤ filled g
unfolding filled
filled_drop [] zero = omega arith
filled_drop [] (suc n) = omega arith
filled_drop (x ∷ xs) zero = omega arith
filled_drop (x ∷ xs) (suc n) = omega (arith, filled_drop xs n)

-- the taken cells of a window, and those past it, are no more than the taken cells
pub filled_window : (g : List ℕ) (c d : ℕ) → sum_to (λ e. one (get_or g (c + e) 0)) d + filled (drop (c + d) g) ≤ filled g
unfolding sum_to
filled_window g c zero = omega (arith, filled_drop g (c + 0))
filled_window g c (suc d) = rw add-suc (omega (arith, filled_window g c d, filled_at g (c + d)))

filled_set : (g : List ℕ) (i x : ℕ) → filled (set g i x) ≤ filled g + 1
unfolding filled
filled_set [] i x = omega arith
filled_set (y ∷ g) zero x = omega (arith, one_le x)
filled_set (y ∷ g) (suc i) x = omega (arith, filled_set g i x)

-- a row takes no more cells than it has vectors
pub filled_put : (g : List ℕ) (d : ℕ) (m : List Care) → filled (put g d m) ≤ filled g + length m
unfolding put
filled_put g d [] = omega arith
filled_put g d (c ∷ m) = omega (arith, filled_put (set g (cell_of c d) c.index) d m, filled_set g (cell_of c d) c.index)
