-- Where a vector belongs, and which number's first cell that is.
use Rattle.std.specs.Prelude.{ℕ, suc, ◌≤◌, ◌<◌, ◌≡◌, Option, Some, List, get_or}
use Rattle.vectors.specs.Variable.{row_of, column_of}
use Rattle.record.specs.declared.Record.{Record}
use Rattle.record.specs.Record.{kinds_in}
use Rattle.record.specs.Tables.{Tables}
use Rattle.record.specs.Leads.{word_in}
use Rattle.recover.specs.Recover.{first_cell}
use Rattle.add.specs.declared.Seat.{Seat}

-- the row of x, what H says of it, the column and the comparison word
abbrev pub seat_of : Record → List ℕ → ℕ → Seat
seat_of u h x =
    record {
      n1 = u.n1;
      row = row_of u.n1 (kinds_in u) x;
      displacement = get_or h (row_of u.n1 (kinds_in u) x) 0;
      column = column_of u.n1 (kinds_in u) x;
      word = word_in u x;
    }

-- the first cell of each number, counted from 1
abbrev pub FirstsAre : Record → Tables → List ℕ → Type 0
FirstsAre u t firsts = (i : ℕ) → 0 < i → i ≤ u.k → get_or firsts i 0 ≡ first_cell u t i

-- r is the number whose first cell this is; 0 where there is none
pub record NumberAt (u : Record) (t : Tables) (cell r : ℕ) : Type 0 where
  pub only : (i : ℕ) → 0 < i → i ≤ u.k → first_cell u t i ≡ suc cell → r ≡ i
  pub some : 0 < r → (r ≤ u.k) × (first_cell u t r ≡ suc cell)

-- the same of a number that may be none
pub record NumberFound (u : Record) (t : Tables) (cell : ℕ) (r : Option ℕ) : Type 0 where
  pub only : (i : ℕ) → 0 < i → i ≤ u.k → first_cell u t i ≡ suc cell → r ≡ Some i
  pub some : (i : ℕ) → r ≡ Some i → (0 < i) × (i ≤ u.k) × (first_cell u t i ≡ suc cell)
