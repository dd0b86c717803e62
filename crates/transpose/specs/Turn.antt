-- A block of words turned on its side.
use Rattle.std.specs.Prelude.{ℕ, zero, suc, ◌+◌, ◌*◌, cond, List, [], ◌∷◌, eqb, length}
use Rattle.vectors.specs.Bits.{bit}

-- the number whose bit t is bit i of the t-th word, the first as lowest bit
unfoldable pub column : ℕ → List ℕ → ℕ
column i [] = 0
column i (x ∷ xs) = bit x i + 2 * column i xs

-- so many columns, from the i-th on
unfoldable pub columns_from : ℕ → ℕ → List ℕ → List ℕ
unfolding column
columns_from zero i xs = []
columns_from (suc count) i xs = column i xs ∷ columns_from count (suc i) xs

-- the columns 0 to 63
unfoldable pub turned : List ℕ → List ℕ
unfolding columns_from
turned xs = columns_from 64 0 xs

-- of 64 words; another number of words stays as it is
unfoldable pub turned_in : List ℕ → List ℕ
unfolding turned
turned_in xs = cond (eqb (length xs) 64) (turned xs) xs
