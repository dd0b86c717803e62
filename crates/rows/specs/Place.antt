-- Placing the rows, one after the other.
use Rattle.std.specs.Prelude.{ℕ, zero, suc, ◌+◌, true, false, List, [], ◌∷◌, eqb, length, set}
use Rattle.rows.specs.Care.{Care, in_row, open_weight, heaviest}
use Rattle.rows.specs.Fit.{first_fit, put, At, None}
use Rattle.rows.specs.End.{End, All, NoFit}

-- h: the displacements, a word for each row; g: the cells; tries: for each row placed one more than its displacement, summed (SCOPE 7.6); order: the rows placed, the last first
pub record State : Type 0 where
  pub h : List ℕ
  pub g : List ℕ
  pub tries : ℕ
  pub order : List ℕ

-- all rows with a weight are placed; or there is no displacement for a row, in its turn, after so many tried, and so many cells would do
pub record Placing : Type 0 where
  pub end : End
  pub state : State

-- the row r placed at d
abbrev pub place_row : List Care → State → ℕ → ℕ → State
place_row cs s r d = record { h = set s.h r d; g = put s.g d (in_row r cs); tries = s.tries + suc d; order = r ∷ s.order }

-- f rows are placed at the most
unfoldable pub place_in : ℕ → List Care → State → Placing
unfolding heaviest open_weight first_fit put
place_in zero cs s = record { end = All; state = s }
place_in (suc f) cs s =
    let b = heaviest (open_weight cs s.order) (length s.h) in
    elim (eqb b.weight 0) [
      | true ↦ record { end = All; state = s }
      | false ↦ elim (first_fit s.g (in_row b.row cs)) [
        | At d ↦ place_in f cs (place_row cs s b.row d)
        | None tried cells ↦ record { end = NoFit b.row tried cells; state = s }
      ]
    ]

-- heavy rows before light ones, of equals the lower first, each at its first fit (SCOPE 7.2, 7.3); none is placed twice, so as many turns as there are rows suffice
unfoldable pub place : List Care → List ℕ → List ℕ → Placing
unfolding place_in
place cs h g = place_in (length h) cs (record { h = h; g = g; tries = 0; order = [] })
