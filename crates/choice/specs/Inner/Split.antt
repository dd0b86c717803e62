-- Groups of vectors split by a variable, and what is counted of them.
use Rattle.std.specs.Prelude.{ℕ, zero, suc, ◌+◌, ◌*◌, ◌-◌, Bool, true, false, List, [], ◌∷◌, map, eqb, length}
use Rattle.choice.specs.Choice.{pairs}

-- ---- splitting groups

-- i before the others, when it is one of them
unfoldable pub joined : Bool → ℕ → List ℕ → List ℕ
joined true i g = i ∷ g
joined false i g = g

-- the members at which b is v, in order
unfoldable pub part : (ℕ → ℕ) → ℕ → List ℕ → List ℕ
unfolding joined
part b v [] = []
part b v (i ∷ g) = joined (eqb (b i) v) i (part b v g)

-- a group before the others, unless it has fewer than two members
unfoldable pub pushed : List ℕ → List (List ℕ) → List (List ℕ)
pushed [] gs = gs
pushed (i ∷ []) gs = gs
pushed (i ∷ j ∷ g) gs = (i ∷ j ∷ g) ∷ gs

-- each group split, the members with 0 before those with 1
unfoldable pub refined : (ℕ → ℕ) → List (List ℕ) → List (List ℕ)
unfolding part pushed
refined b [] = []
refined b (g ∷ gs) = pushed (part b 0 g) (pushed (part b 1 g) (refined b gs))

-- d numbers from i on
unfoldable pub numbers : ℕ → ℕ → List ℕ
numbers zero i = []
numbers (suc d) i = i ∷ numbers d (suc i)

-- k indices in one group, or none when they are fewer than two
abbrev pub whole : ℕ → List (List ℕ)
whole k = pushed (numbers k 0) []

-- the pairs of equal entries within the groups, h giving the entries
unfoldable pub pairs_in : (ℕ → ℕ) → List (List ℕ) → ℕ
unfolding pairs
pairs_in h [] = 0
pairs_in h (g ∷ gs) = pairs (map h g) + pairs_in h gs

-- the members of all groups
unfoldable pub members : List (List ℕ) → ℕ
members [] = 0
members (g ∷ gs) = length g + members gs

-- the members at which b is 1
unfoldable pub tally : (ℕ → ℕ) → List ℕ → ℕ
tally b [] = 0
tally b (i ∷ g) = b i + tally b g

-- of o members of s, and of the others
abbrev pub square : ℕ → ℕ → ℕ
square o s = o * o + (s - o) * (s - o)

unfoldable pub squares : (ℕ → ℕ) → List (List ℕ) → ℕ
unfolding tally
squares b [] = 0
squares b (g ∷ gs) = square (tally b g) (length g) + squares b gs
