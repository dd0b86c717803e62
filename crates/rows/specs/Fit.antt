-- First fit of one row into the cells.
use Rattle.std.specs.Prelude.{ℕ, zero, suc, ◌+◌, max, Bool, true, false, ◌&&◌, List, [], ◌∷◌, eqb, ltb, length, get_or, set}
use Rattle.rows.specs.Care.{Care}

-- the displacement of a row; or none, after so many were tried, and so many cells would do
pub data Fit : Type 0 where
  At : ℕ → Fit
  None : ℕ → ℕ → Fit

-- where a column lies at a displacement: the sum, which never comes round (SCOPE 7.4)
abbrev pub cell_of : Care → ℕ → ℕ
cell_of c d = c.column + d

-- a cell is free while its word is 0; past the cells every cell is free
abbrev pub is_free : List ℕ → ℕ → Bool
is_free g cell = eqb (get_or g cell 0) 0

-- each column's cell is below the number of cells
unfoldable pub inside : ℕ → ℕ → List Care → Bool
inside cells d [] = true
inside cells d (c ∷ cs) = ltb (cell_of c d) cells && inside cells d cs

-- each column's cell is free
unfoldable pub clear : List ℕ → ℕ → List Care → Bool
clear g d [] = true
clear g d (c ∷ cs) = is_free g (cell_of c d) && clear g d cs

-- the row fits at d: every column of it has a cell there, and a free one (SCOPE 7.3)
unfoldable pub fits_at : List ℕ → ℕ → List Care → Bool
unfolding inside clear
fits_at g d cs = inside (length g) d cs && clear g d cs

-- the smallest displacement at which each column's cell is free, past the cells too; from d on, f of them at the most
unfoldable pub free_from : ℕ → ℕ → List ℕ → List Care → ℕ
unfolding clear
free_from zero d g cs = d
free_from (suc f) d g cs = elim (clear g d cs) [ true ↦ d | false ↦ free_from f (suc d) g cs ]

-- how many cells it takes to be inside at d
unfoldable pub reach : ℕ → List Care → ℕ
reach d [] = 0
reach d (c ∷ cs) = max (suc (cell_of c d)) (reach d cs)

-- the least number of cells with which the row would fit, those besides g being free (SCOPE 7.7); at the number of cells each cell is free
unfoldable pub needed : List ℕ → List Care → ℕ
unfolding free_from reach
needed g cs = reach (free_from (length g) 0 g cs) cs

-- the displacement found; or none after so many tried, which are those that keep every column below the number of cells, and how many cells would do; from d on, f of them at the most
unfoldable pub fit_from : ℕ → ℕ → List ℕ → List Care → Fit
unfolding inside clear needed
fit_from zero d g cs = None d (needed g cs)
fit_from (suc f) d g cs =
    elim (inside (length g) d cs) [
      | false ↦ None d (needed g cs)
      | true ↦ elim (clear g d cs) [ true ↦ At d | false ↦ fit_from f (suc d) g cs ]
    ]

-- displacements are tried upwards from 0 (SCOPE 7.3); past as many as there are cells no row stays inside but an empty one, which fits at 0
unfoldable pub first_fit : List ℕ → List Care → Fit
unfolding fit_from
first_fit g cs = fit_from (suc (length g)) 0 g cs

-- the row's indices written to their cells
unfoldable pub put : List ℕ → ℕ → List Care → List ℕ
put g d [] = g
put g d (c ∷ cs) = put (set g (cell_of c d) c.index) d cs
