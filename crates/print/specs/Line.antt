-- Lines of numbers (SCOPE 14.5).
use Rattle.std.specs.Prelude.{ℕ, true, false, cond, List, [], ◌∷◌, ◌++◌, eqb, get_or, drop}
use Rattle.print.specs.Decimal.{decimal}

abbrev pub space : ℕ
space = 32

abbrev pub newline : ℕ
newline = 10

-- a space before each number
unfoldable pub fields : List ℕ → List ℕ
unfolding decimal
fields [] = []
fields (x ∷ xs) = space ∷ (decimal x ++ fields xs)

-- the line's name, its numbers and the newline
unfoldable pub line : List ℕ → List ℕ → List ℕ
unfolding fields
line name xs = name ++ fields xs ++ (newline ∷ [])

-- numbers, a line each
unfoldable pub lines : List ℕ → List ℕ
unfolding decimal
lines [] = []
lines (x ∷ xs) = (decimal x ++ (newline ∷ [])) ++ lines xs

-- how many lines a byte ends
abbrev pub ends : ℕ → ℕ
ends b = cond (eqb b newline) 1 0

-- a byte; in front of a newline a space and the line's number
unfoldable pub numbered : ℕ → ℕ → List ℕ
unfolding decimal
numbered b n = elim (eqb b newline) [ true ↦ (space ∷ decimal n) ++ (b ∷ []) | false ↦ b ∷ [] ]

-- the lines of a text, behind each its number; 0 where there is none for it
unfoldable pub beside : List ℕ → List ℕ → List ℕ
unfolding numbered
beside [] ns = []
beside (b ∷ bs) ns = numbered b (get_or ns 0 0) ++ beside bs (drop (ends b) ns)
