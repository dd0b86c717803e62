-- Demand 3: what is said of a placing beyond its definition.
use Rattle.std.specs.Prelude.{ℕ, zero, suc, ◌+◌, ◌*◌, ◌≤◌, ◌<◌, ◌≡◌, Bool, true, false, cond, ◌&&◌, List, [], ◌∷◌, ◌⊎◌, ltb, leb, eqb, get_or, length}
use Rattle.lists.specs.First.{has}
use Rattle.rows.specs.Care.{Care, in_row, weight_of}
use Rattle.rows.specs.Fit.{fits_at, put}

-- how many cells are taken
unfoldable pub filled : List ℕ → ℕ
filled [] = 0
filled (w ∷ ws) = cond (eqb w 0) 0 1 + filled ws

-- q comes before r: it is heavier, or as heavy and lower (SCOPE 7.2)
abbrev pub Ahead : List Care → ℕ → ℕ → Type 0
Ahead cs q r = (weight_of cs r < weight_of cs q) ⊎ ((weight_of cs q ≡ weight_of cs r) × (q < r))

-- so with every two of the rows placed; the last placed stands first
unfoldable pub Falling : List Care → List ℕ → Type 0
unfolding weight_of has
Falling cs [] = Unit
Falling cs (r ∷ before) = ((q : ℕ) → has q before ≡ true → Ahead cs q r) × Falling cs before

-- no row is placed twice
unfoldable pub Once : List ℕ → Type 0
unfolding has
Once [] = Unit
Once (r ∷ before) = (has r before ≡ false) × Once before

-- how many of the vectors lie in the rows placed
unfoldable pub count_in : List ℕ → List Care → ℕ
unfolding has
count_in order [] = 0
count_in order (c ∷ cs) = cond (has c.row order) 1 0 + count_in order cs

-- the cells with the rows placed, over g
unfoldable pub cells_of : List Care → List ℕ → List ℕ → List ℕ → List ℕ
unfolding put in_row
cells_of cs h g [] = g
cells_of cs h g (r ∷ before) = put (cells_of cs h g before) (get_or h r 0) (in_row r cs)

-- each row placed fits beside those before it at its displacement and at no smaller one (SCOPE 16.3); g: the cells at the start
unfoldable pub Smallest : List Care → List ℕ → List ℕ → List ℕ → Type 0
unfolding cells_of fits_at
Smallest cs h g [] = Unit
Smallest cs h g (r ∷ before) =
    (fits_at (cells_of cs h g before) (get_or h r 0) (in_row r cs) ≡ true)
    × ((e : ℕ) → e < get_or h r 0 → fits_at (cells_of cs h g before) e (in_row r cs) ≡ false)
    × Smallest cs h g before

-- no displacement exceeds the row's weight times how many vectors were placed before it (SCOPE 16.3); what stands in the cells at the start counts with these
unfoldable pub Bounded : List Care → List ℕ → ℕ → List ℕ → Type 0
unfolding weight_of count_in
Bounded cs h start [] = Unit
Bounded cs h start (r ∷ before) = (get_or h r 0 ≤ weight_of cs r * (start + count_in before cs)) × Bounded cs h start before

-- each displacement and one more, summed over the rows placed (SCOPE 16.5)
unfoldable pub tries_of : List ℕ → List ℕ → ℕ
tries_of h [] = 0
tries_of h (r ∷ before) = suc (get_or h r 0) + tries_of h before

-- the bound of the tries: each displacement's bound and one more, summed (SCOPE 16.5)
unfoldable pub bound_of : List Care → ℕ → List ℕ → ℕ
unfolding weight_of count_in
bound_of cs start [] = 0
bound_of cs start (r ∷ before) = suc (weight_of cs r * (start + count_in before cs)) + bound_of cs start before

-- how many of the vectors lie in rows heavier than j
unfoldable pub heavier_in : ℕ → List Care → List Care → ℕ
unfolding weight_of
heavier_in j all [] = 0
heavier_in j all (c ∷ cs) = cond (ltb j (weight_of all c.row)) 1 0 + heavier_in j all cs

-- the spread condition: rows heavier than j have k / (j + 1) vectors at the most, for every j (SCOPE 16.4)
abbrev pub Spread : ℕ → List Care → Type 0
Spread k cs = (j : ℕ) → suc j * heavier_in j cs cs ≤ k

-- the same for every j below f
unfoldable pub spread_in : ℕ → ℕ → List Care → Bool
unfolding heavier_in
spread_in zero k cs = true
spread_in (suc j) k cs = leb (suc j * heavier_in j cs cs) k && spread_in j k cs

-- no row holds more than all the vectors, so those j suffice
unfoldable pub spread : ℕ → List Care → Bool
unfolding spread_in
spread k cs = spread_in (length cs) k cs

-- each column is one of the columns
abbrev pub Columns : ℕ → List Care → Type 0
Columns columns [] = Unit
Columns columns (c ∷ cs) = (c.column < columns) × Columns columns cs
