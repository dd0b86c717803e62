-- A text parted into its fields (SCOPE 14.1).
use Rattle.std.specs.Prelude.{ℕ, Bool, true, false, ◌||◌, List, [], ◌∷◌, eqb}

-- a space or a newline
abbrev pub separator : ℕ → Bool
separator b = eqb b 32 || eqb b 10

-- the byte put in front of the first field
unfoldable pub onto : ℕ → List (List ℕ) → List (List ℕ)
onto b [] = (b ∷ []) ∷ []
onto b (f ∷ fs) = (b ∷ f) ∷ fs

-- the bytes parted at each separator: one field more than there are separators
unfoldable pub fields : List ℕ → List (List ℕ)
unfolding onto
fields [] = [] ∷ []
fields (b ∷ bs) = elim (separator b) [ true ↦ [] ∷ fields bs | false ↦ onto b (fields bs) ]
