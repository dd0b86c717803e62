-- Small placings, worked out by hand. Assumes nothing.
use mathlib.Core.Path.{◌≡◌, refl}
use mathlib.Core.List.{[], ◌∷◌}
use Rattle.rows.specs.Answer.{owner_bit, left, placed}
use Rattle.rows.specs.End.{All, NoFit, Over, Unfit}

-- two rows of one vector each, both in column 0, over cells of which the first is taken: displacements 1 and 2, 2 + 3 tries, which are all that are allowed
pub around : placed (0 ∷ 0 ∷ 1 ∷ []) (9 ∷ 9 ∷ 9 ∷ []) (7 ∷ 0 ∷ 0 ∷ []) owner_bit 5
    ≡ left (record { end = All; tries = 5 }) (1 ∷ 2 ∷ 0 ∷ []) (7 ∷ 32769 ∷ 32770 ∷ [])
unfolding placed
around = refl

-- one cell fewer: row 1 has no displacement after 2 tried, 3 cells would do, and the cells are as they were
pub back : placed (0 ∷ 0 ∷ 1 ∷ []) (9 ∷ 9 ∷ 9 ∷ []) (7 ∷ 0 ∷ []) 0 4 ≡ left (record { end = NoFit 1 2 3; tries = 2 }) (0 ∷ 0 ∷ 0 ∷ []) (7 ∷ 0 ∷ [])
unfolding placed
back = refl

-- one try too few for row 1, where it has a displacement and where it has none; and for row 0
pub over_last : placed (0 ∷ 0 ∷ 1 ∷ []) (9 ∷ 9 ∷ 9 ∷ []) (7 ∷ 0 ∷ 0 ∷ []) 0 4 ≡ left (record { end = Over 1; tries = 0 }) (0 ∷ 0 ∷ 0 ∷ []) (7 ∷ 0 ∷ 0 ∷ [])
unfolding placed
over_last = refl

pub over_stuck : placed (0 ∷ 0 ∷ 1 ∷ []) (9 ∷ 9 ∷ 9 ∷ []) (7 ∷ 0 ∷ []) 0 3 ≡ left (record { end = Over 1; tries = 0 }) (0 ∷ 0 ∷ 0 ∷ []) (7 ∷ 0 ∷ [])
unfolding placed
over_stuck = refl

pub over_first : placed (0 ∷ 0 ∷ 1 ∷ []) (9 ∷ 9 ∷ 9 ∷ []) (7 ∷ 0 ∷ 0 ∷ []) 0 1 ≡ left (record { end = Over 0; tries = 0 }) (0 ∷ 0 ∷ 0 ∷ []) (7 ∷ 0 ∷ 0 ∷ [])
unfolding placed
over_first = refl

-- a word that names row 3 of three rows
pub beyond : placed (0 ∷ 3 ∷ []) (9 ∷ 9 ∷ 9 ∷ []) (7 ∷ 0 ∷ []) 0 0 ≡ left (record { end = Unfit; tries = 0 }) (9 ∷ 9 ∷ 9 ∷ []) (7 ∷ 0 ∷ [])
unfolding placed
beyond = refl
