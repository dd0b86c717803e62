-- The vectors of a row, by the words of AUX and the first cells: lifted, and put again.
use Rattle.std.specs.Prelude.{ℕ, zero, suc, ◌-◌, ◌%◌, ◌^◌, ◌≤◌, ◌<◌, ◌≡◌, List, [], ◌∷◌, ◌++◌, eqb, length, get_or, set}
use Rattle.vectors.specs.Bounds.{max_rows}
use Rattle.rows.specs.Care.{Care, keep}
use Rattle.rows.specs.Fit.{cell_of, put, Fit, At, None}
use Rattle.add.specs.declared.Seat.{Seat}

-- the row that a word of AUX has
abbrev pub row_in : Seat → List ℕ → ℕ → ℕ
row_in s aux i = get_or aux i 0 % 2 ^ s.n1

-- the vector i, which lies in its first cell
abbrev pub mate_at : Seat → List ℕ → ℕ → Care
mate_at s firsts i = record { index = i; row = s.row; column = get_or firsts i 0 - 1 - s.displacement }

-- those of the row among m numbers from i on
unfoldable pub mates_from : Seat → List ℕ → List ℕ → ℕ → ℕ → List Care
mates_from s aux firsts i zero = []
mates_from s aux firsts i (suc m) = keep (eqb (row_in s aux i) s.row) (mate_at s firsts i) (mates_from s aux firsts (suc i) m)

-- those among the numbers from i on that have a word
abbrev pub mates_past : Seat → List ℕ → List ℕ → ℕ → List Care
mates_past s aux firsts i = mates_from s aux firsts i (length aux - i)

-- all of them, and the new vector after them, whose number is the next
abbrev pub mates : Seat → List ℕ → List ℕ → List Care
mates s aux firsts = mates_past s aux firsts 1

abbrev pub group : Seat → List ℕ → List ℕ → List Care
group s aux firsts = mates s aux firsts ++ (record { index = length aux; row = s.row; column = s.column } ∷ [])

-- the first cell of a vector of the row is one of the cells, and in a column of the row
pub record Stand (s : Seat) (cells first : ℕ) : Type 0 where
  pub above : s.displacement < first
  pub within : first ≤ cells
  pub narrow : first - 1 - s.displacement < max_rows

-- of each of them
abbrev pub Stands : Seat → List ℕ → List ℕ → ℕ → Type 0
Stands s aux firsts cells = (i : ℕ) → 0 < i → i < length aux → row_in s aux i ≡ s.row → Stand s cells (get_or firsts i 0)

-- the first cell of each of them holds its number
abbrev pub Held : Seat → List ℕ → List ℕ → List ℕ → Type 0
Held s aux firsts g = (i : ℕ) → 0 < i → i < length aux → row_in s aux i ≡ s.row → get_or g (get_or firsts i 0 - 1) 0 ≡ i

-- the cells of the vectors emptied
unfoldable pub cleared : List ℕ → ℕ → List Care → List ℕ
cleared g d [] = g
cleared g d (c ∷ cs) = cleared (set g (cell_of c d) 0) d cs

-- the cells with the row lifted
abbrev pub bare : Seat → List ℕ → List ℕ → List ℕ → List ℕ
bare s aux firsts g = cleared g s.displacement (mates s aux firsts)

-- the cells after the row has gone to its first fit; where it has none, as they were
unfoldable pub refitted : Seat → List ℕ → List ℕ → List ℕ → Fit → List ℕ
unfolding put
refitted s aux firsts g (At d) = put (bare s aux firsts g) d (group s aux firsts)
refitted s aux firsts g (None tried needed) = g
