-- A list cut into parts.
use Rattle.std.specs.Prelude.{ℕ, ◌+◌, List, [], ◌∷◌, take, drop}

-- the list cut into groups of those sizes
unfoldable pub cut : List ℕ → List ℕ → List (List ℕ)
cut [] l = []
cut (s ∷ ss) l = take s l ∷ cut ss (drop s l)

unfoldable pub total : List ℕ → ℕ
total [] = 0
total (s ∷ ss) = s + total ss
