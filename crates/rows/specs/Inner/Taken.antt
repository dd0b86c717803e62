-- The cells as bits, 64 to a word, while rows are placed: bit c is 1 where the cell c is taken. Past the cells every cell is free.
use Rattle.std.specs.Prelude.{ℕ, ◌+◌, ◌*◌, ◌/◌, ◌%◌, max, ◌≤◌, ◌<◌, ◌≡◌, Bool, true, false, List, [], ◌∷◌, length, get_or}
use Rattle.vectors.specs.Bits.{bit}
use Rattle.vectors.specs.Bounds.{max_cells, max_rows}
use Rattle.rows.specs.Care.{Care}
use Rattle.rows.specs.Fit.{cell_of, is_free}

-- at a displacement below the number of cells each column's cell is one of these
abbrev pub taken_cells : ℕ
taken_cells = max_cells + max_rows

-- words for 64 cells from each of these on
abbrev pub taken_words : ℕ
taken_words = taken_cells / 64 + 1

-- the bit of the cell c
abbrev pub bit_in : List ℕ → ℕ → ℕ
bit_in taken c = bit (get_or taken (c / 64) 0) (c % 64)

-- what it is of a cell that is free, or not
abbrev pub shut_bit : Bool → ℕ
shut_bit true = 0
shut_bit false = 1

-- the bits say which of the cells g are taken; there are no more cells than have one
pub record Taken (g taken : List ℕ) : Type 0 where
  pub few : length g ≤ max_cells
  pub size : length taken ≡ taken_words
  pub bits : (c : ℕ) → c < 64 * taken_words → bit_in taken c ≡ shut_bit (is_free g c)

-- 1 where a cell of the row at the displacement d has the bit 1
unfoldable pub shut_row : List ℕ → ℕ → List Care → ℕ
shut_row taken d [] = 0
shut_row taken d (c ∷ cs) = max (bit_in taken (cell_of c d)) (shut_row taken d cs)
