-- What is placed: vectors by their number, row and column; the weight of a row, and the heaviest row.
use Rattle.std.specs.Prelude.{ℕ, zero, suc, Bool, true, false, cond, List, [], ◌∷◌, eqb, ltb, length}
use Rattle.lists.specs.First.{has}

-- a vector: its index, and where it stands in the chart
pub record Care : Type 0 where
  pub index : ℕ
  pub row : ℕ
  pub column : ℕ

-- the entries as vectors: a row and a column for each, the first with the number i
unfoldable pub cares_by : (ℕ → ℕ) → (ℕ → ℕ) → ℕ → List ℕ → List Care
cares_by row column i [] = []
cares_by row column i (x ∷ xs) = record { index = i; row = row x; column = column x } ∷ cares_by row column (suc i) xs

abbrev pub keep : Bool → Care → List Care → List Care
keep true c cs = c ∷ cs
keep false c cs = cs

-- those of a row
unfoldable pub in_row : ℕ → List Care → List Care
in_row r [] = []
in_row r (c ∷ cs) = keep (eqb c.row r) c (in_row r cs)

-- a row weighs as many vectors as it has (SCOPE 7.1)
unfoldable pub weight_of : List Care → ℕ → ℕ
unfolding in_row
weight_of cs r = length (in_row r cs)

-- the weight of a row that is not among those placed, else 0
unfoldable pub open_weight : List Care → List ℕ → ℕ → ℕ
unfolding weight_of has
open_weight cs order r = cond (has r order) 0 (weight_of cs r)

pub record Heavy : Type 0 where
  pub row : ℕ
  pub weight : ℕ

abbrev pub heavier : ℕ → ℕ → Heavy → Heavy
heavier r w b = cond (ltb b.weight w) (record { row = r; weight = w }) b

-- of the rows below n the heaviest, of equals the lowest (SCOPE 7.2); weight 0 where none has a weight
unfoldable pub heaviest : (ℕ → ℕ) → ℕ → Heavy
heaviest weight zero = record { row = 0; weight = 0 }
heaviest weight (suc n) = heavier n (weight n) (heaviest weight n)
