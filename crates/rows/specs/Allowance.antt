-- An allowance of tries: how a placing ends that may make so many, and the most that it can make.
use Rattle.std.specs.Prelude.{ℕ, zero, suc, ◌+◌, Bool, true, false, List, [], ◌∷◌, eqb, ltb}
use Rattle.lists.specs.First.{has}
use Rattle.rows.specs.Care.{Care, open_weight, heaviest}
use Rattle.rows.specs.Place.{Placing}
use Rattle.rows.specs.Demand.{tries_of, bound_of}
use Rattle.rows.specs.End.{End, All, NoFit, Over, Unfit}

-- the row at which a placing ends that has no displacement, else 0
abbrev pub last_row : End → ℕ
last_row All = 0
last_row (NoFit row tried cells) = row
last_row (Over row) = 0
last_row Unfit = 0

-- and the tries made for it, which are the displacements that keep its columns below the number of cells
abbrev pub last_tries : End → ℕ
last_tries All = 0
last_tries (NoFit row tried cells) = tried
last_tries (Over row) = 0
last_tries Unfit = 0

-- all tries that a placing makes: those of the rows placed, and those for a row that has no displacement (SCOPE 7.8)
abbrev pub tries_made : Placing → ℕ
tries_made P = P.state.tries + last_tries P.end

-- the row in hand when the tries exceed a (SCOPE 7.8): of the rows placed, the last first, the earliest with which they do, or else the row after these
unfoldable pub in_hand : ℕ → List ℕ → ℕ → List ℕ → ℕ
unfolding tries_of
in_hand a h after [] = after
in_hand a h after (r ∷ before) = elim (ltb a (tries_of h (r ∷ before))) [ true ↦ in_hand a h r before | false ↦ after ]

-- a placing that would make more tries than a ends at the row in hand; any other ends as it does without an allowance (SCOPE 7.8)
unfoldable pub end_within : ℕ → Placing → End
unfolding in_hand
end_within a P =
    elim (ltb a (tries_made P)) [
      | true ↦ Over (in_hand a P.state.h (last_row P.end) P.state.order)
      | false ↦ P.end
    ]

-- ---- the rows that are placed within the allowance

-- of the rows placed, the last first, those before the tries exceed a
unfoldable pub placed_within : ℕ → List ℕ → List ℕ → List ℕ
unfolding tries_of
placed_within a h [] = []
placed_within a h (r ∷ before) = elim (ltb a (tries_of h (r ∷ before))) [ true ↦ placed_within a h before | false ↦ r ∷ before ]

-- the tries made up to the row r and in it, where it is among the rows placed
unfoldable pub tries_to : ℕ → List ℕ → List ℕ → ℕ
unfolding tries_of
tries_to r h [] = 0
tries_to r h (q ∷ before) = elim (eqb q r) [ true ↦ tries_of h (q ∷ before) | false ↦ tries_to r h before ]

-- a placing with an allowance of a places the row r
abbrev pub places_within : ℕ → Placing → ℕ → Bool
places_within a P r = has r (placed_within a P.state.h P.state.order)

-- the tries that it makes up to the row r and in it
abbrev pub tries_up_to : Placing → ℕ → ℕ
tries_up_to P r = tries_to r P.state.h P.state.order

-- ---- the most tries

-- the occupied rows in the order in which they come, the last first; f more of them at the most after those in order (SCOPE 7.2)
unfoldable pub order_in : ℕ → List Care → ℕ → List ℕ → List ℕ
unfolding heaviest open_weight
order_in zero cs rows order = order
order_in (suc f) cs rows order =
    let b = heaviest (open_weight cs order) rows in
    elim (eqb b.weight 0) [ true ↦ order | false ↦ order_in f cs rows (b.row ∷ order) ]

-- the bound of demand 3 over all occupied rows (SCOPE 16.5); start: the cells taken at the start
unfoldable pub most_tries : List Care → ℕ → ℕ → ℕ
unfolding order_in bound_of
most_tries cs rows start = bound_of cs start (order_in rows cs rows [])
