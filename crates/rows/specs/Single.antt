-- One row alone, over the cells as they stand.
use Rattle.std.specs.Prelude.{ℕ, ◌*◌, true, false, List, length}
use Rattle.vectors.specs.Bounds.{max_rows}
use Rattle.rows.specs.Care.{Care}
use Rattle.rows.specs.Fit.{first_fit, Fit, None}
use Rattle.rows.specs.Answer.{cares_in, unfit}

-- the word of a vector of the row 0 (SCOPE 7.3 goes by its column alone)
abbrev pub column_word : Care → ℕ
column_word c = max_rows * c.column

-- the first fit of the row 0 that the words after the first say (SCOPE 7.3); words that say no such row have none, after none tried
unfoldable pub single_fit : List ℕ → List ℕ → Fit
unfolding unfit first_fit cares_in
single_fit words g = elim (unfit words 1 (length g) 0) [ true ↦ None 0 0 | false ↦ first_fit g (cares_in words) ]
