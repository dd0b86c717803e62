-- The words that the placing reads.
use Rattle.std.specs.Prelude.{ℕ, ◌+◌, ◌*◌, List}
use Rattle.vectors.specs.Masks.{number_by}

-- row + 4096 * column, by the masks of the row variables and of the column variables
abbrev pub place_by : List ℕ → List ℕ → ℕ → ℕ
place_by rows columns x = number_by rows x + 4096 * number_by columns x
