-- The first fit of w vectors over m taken cells is at most w * m. Assumes nothing.
use Prim.Native.Nat.{ℕ, zero, suc, ◌+◌, ◌*◌, ◌≤◌, ◌<◌}
use native.Mathlib.Nat.{suc-mul}
use native.Mathlib.Omega.{arith}
use mathlib.Core.Path.{◌≡◌, refl}
use mathlib.Core.Bool.{true, false, true≢false}
use mathlib.Core.List.{List, [], ◌∷◌}
use mathlib.Core.Logic.{⊎_elim}
use lib.ListN.{length, get_or}
use borrow.Author.Tests.{eqb-false}
use Rattle.lists.proofs.Tests.{and_false}
use Rattle.rows.specs.Care.{Care}
use Rattle.rows.specs.Fit.{cell_of, is_free, inside, clear, fits_at, first_fit, Fit, At, None}
use Rattle.rows.specs.Demand.{filled}
use Rattle.rows.proofs.Fits.First.{inside_less, fits_in, fit_at, fit_none}
use Rattle.rows.proofs.Fits.Filled.{one, one_pos, sum_to, sum_ones, sum_add, filled_window}

-- how many of the vectors meet a taken cell at the displacement e
unfoldable hits : List ℕ → List Care → ℕ → ℕ
hits g [] e = 0
hits g (c ∷ m) e = one (get_or g (cell_of c e) 0) + hits g m e

hits_all : (g : List ℕ) (m : List Care) (d : ℕ) → sum_to (hits g m) d ≤ length m * filled g
unfolding hits sum_to
hits_all g [] zero = omega arith
hits_all g [] (suc d) = omega (arith, hits_all g [] d)
hits_all g (c ∷ m) d =
    rw suc-mul (omega (arith, sum_add (λ e. one (get_or g (c.column + e) 0)) (hits g m) d, filled_window g c.column d, hits_all g m d))

-- a row that is not clear meets a taken cell
meets : (g : List ℕ) (e : ℕ) (m : List Care) → clear g e m ≡ false → 1 ≤ hits g m e
unfolding clear hits
meets g e [] h = absurd (true≢false h)
meets g e (c ∷ m) h =
    ⊎_elim
    (λ t. omega (arith, one_pos (get_or g (cell_of c e) 0) (eqb-false _ 0 t)))
    (λ t. omega (arith, meets g e m t))
    (and_false (is_free g (cell_of c e)) (clear g e m) h)

-- a row that is inside and does not fit is not clear
blocks : (g : List ℕ) (e : ℕ) (m : List Care) → inside (length g) e m ≡ true → fits_at g e m ≡ false → clear g e m ≡ false
unfolding fits_at
blocks g e m h f = rw h at f

-- a row of w vectors that the taken cells alone keep from each of the first d displacements: d is at most w for each taken cell
blocked : (g : List ℕ) (m : List Care) (d : ℕ) → ((e : ℕ) → e < d → (inside (length g) e m ≡ true) × (fits_at g e m ≡ false)) → d ≤ length m * filled g
blocked g m d h = omega (arith, sum_ones (hits g m) d (λ e l. meets g e m (blocks g e m (h e l).0 (h e l).1)), hits_all g m d)

module _ (g : List ℕ) (m : List Care) where
  -- the displacement found is at most the row's vectors times the cells taken
  pub first_le : (d : ℕ) → first_fit g m ≡ At d → d ≤ length m * filled g
  first_le d h =
      let f = fit_at g m d h in
      blocked g m d (λ e l. (inside_less (length g) d e m (omega arith) (fits_in g d m f.fits).0, f.before e l))

  -- and so are those tried where none is found
  pub none_le : (t n : ℕ) → first_fit g m ≡ None t n → t ≤ length m * filled g
  none_le t n h = let f = (fit_none g m t n h).0 in blocked g m t (λ e l. (f.within e l, f.never e))

  -- where the row is inside up to there, one is found
  pub first_fits : inside (length g) (length m * filled g) m ≡ true → (d : ℕ) × (first_fit g m ≡ At d) × (d ≤ length m * filled g)
  first_fits h = go (first_fit g m) refl
    where
      go : (r : Fit) → first_fit g m ≡ r → (d : ℕ) × (first_fit g m ≡ At d) × (d ≤ length m * filled g)
      go (At d) e = (d, e, first_le d e)
      go (None t n) e =
          let b = blocked g m (suc (length m * filled g)) (λ x l. (inside_less (length g) (length m * filled g) x m (omega arith) h, (fit_none g m t n e).0.never x)) in
          absurd (omega arith)
