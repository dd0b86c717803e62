-- What the entry answers, and what it leaves in H and G.
use Rattle.std.specs.Prelude.{ℕ, ◌+◌, ◌*◌, ◌/◌, ◌%◌, ◌^◌, Bool, true, false, ◌||◌, List, [], ◌∷◌, map, eqb, ltb, leb, length, drop, replicate}
use Rattle.vectors.specs.Bounds.{max_cells, max_words, max_rows}
use Rattle.rows.specs.Care.{Care, cares_by}
use Rattle.rows.specs.Place.{Placing, place}
use Rattle.rows.specs.Allowance.{end_within}
use Rattle.rows.specs.End.{End, All, NoFit, Over, Unfit}

-- ---- the words of AUX

-- the places at the most: a vector's word is row + max_rows * column
abbrev pub max_places : ℕ
max_places = max_rows * max_rows

abbrev pub row_in : ℕ → ℕ
row_in w = w % max_rows

abbrev pub column_in : ℕ → ℕ
column_in w = w / max_rows % max_rows

-- the vector i by its word
abbrev pub care_of : ℕ → ℕ → Care
care_of i w = record { index = i; row = row_in w; column = column_in w }

-- the vectors of the words, the first with the number i
abbrev pub cares_from : ℕ → List ℕ → List Care
cares_from i ws = cares_by row_in column_in i ws

-- the vectors of the words after the first, numbered from 1
unfoldable pub cares_in : List ℕ → List Care
unfolding cares_by
cares_in ws = cares_from 1 (drop 1 ws)

-- the owner's bit, 0 or this: two owners can write into one G
abbrev pub owner_bit : ℕ
owner_bit = 2 ^ 15

-- a vector as its owner writes it
abbrev pub owned : ℕ → Care → Care
owned owner c = record { index = owner + c.index; row = c.row; column = c.column }

abbrev pub cares_of : ℕ → List ℕ → List Care
cares_of owner ws = map (owned owner) (cares_in ws)

-- ---- what cannot be placed

-- one of the words is not a row below rows and a column below max_rows
unfoldable pub astray : ℕ → List ℕ → Bool
astray rows [] = false
astray rows (w ∷ ws) = leb max_places w || (leb rows (row_in w) || astray rows ws)

-- AUX has no word or too many, there are too many rows or cells, the owner's bit is not 0 or owner_bit, or a word of AUX after the first is astray
unfoldable pub unfit : List ℕ → ℕ → ℕ → ℕ → Bool
unfolding astray
unfit aux rows cells owner =
    eqb (length aux) 0
    || (ltb max_words (length aux)
    || (ltb max_rows rows
    || (ltb max_cells cells
    || (ltb 0 (owner % owner_bit)
    || astray rows (drop 1 aux)))))

-- ---- the answer

-- how the placing ends, and the tries of the rows placed, 0 where the allowance is exceeded
pub record Placed : Type 0 where
  pub end : End
  pub tries : ℕ

-- the answer, with H and G as they are left
pub record Left : Type 0 where
  pub answer : Placed
  pub h : List ℕ
  pub g : List ℕ

abbrev pub left : Placed → List ℕ → List ℕ → Left
left r h g = record { answer = r; h = h; g = g }

-- the answer, and H and G at the end of a placing with an allowance of a tries; where not all rows are placed, as they were before it (no placing ends with Unfit)
unfoldable pub settle : ℕ → Placing → List ℕ → List ℕ → Left
unfolding end_within
settle a P h g =
    elim (end_within a P) [
      | All ↦ left (record { end = All; tries = P.state.tries }) P.state.h P.state.g
      | NoFit row tried cells ↦ left (record { end = NoFit row tried cells; tries = P.state.tries }) h g
      | Over row ↦ left (record { end = Over row; tries = 0 }) h g
      | Unfit ↦ left (record { end = Unfit; tries = 0 }) h g
    ]

-- the vectors placed into so many rows, over the cells g, with an allowance of a tries
unfoldable pub settled : ℕ → List Care → ℕ → List ℕ → Left
unfolding settle place
settled a cs rows g = let blank = replicate {A = ℕ} rows 0 in settle a (place cs blank g) blank g

-- the rows of AUX's vectors placed over the cells as they are lent, whatever stands in H
unfoldable pub placed : List ℕ → List ℕ → List ℕ → ℕ → ℕ → Left
unfolding unfit settled cares_in
placed aux h g owner a =
    elim (unfit aux (length h) (length g) owner) [
      | true ↦ left (record { end = Unfit; tries = 0 }) h g
      | false ↦ settled a (cares_of owner aux) (length h) g
    ]
