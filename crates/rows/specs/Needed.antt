-- What the number of cells that a row needs says of placings with more cells, and with fewer.
use Rattle.std.specs.Prelude.{ℕ, ◌≤◌, ◌<◌, ◌≡◌, Bool, true, false, List, length, get_or}
use Rattle.lists.specs.First.{has}
use Rattle.rows.specs.Care.{Care}
use Rattle.rows.specs.Place.{State, Placing, place}
use Rattle.rows.specs.End.{NoFit}

-- g' are the cells g, and free ones besides
pub record More (g g' : List ℕ) : Type 0 where
  pub longer : length g ≤ length g'
  pub same : (c : ℕ) → get_or g' c 0 ≡ get_or g c 0

-- the row r is among those placed
abbrev pub places : Placing → ℕ → Bool
places P r = has r P.state.order

-- the rows that P places lie in Q where they lie in P
abbrev pub Keeps : Placing → Placing → Type 0
Keeps P Q = (q : ℕ) → places P q ≡ true → (places Q q ≡ true) × (get_or Q.state.h q 0 ≡ get_or P.state.h q 0)

-- over the cells g the row r has no displacement; with n cells or more it is placed and the earlier rows lie as they lay, with fewer it is not placed, and between the two it stops the placing and needs as many (SCOPE 7.7)
pub record Least (cs : List Care) (h g : List ℕ) (r n : ℕ) : Type 0 where
  pub above : length g < n
  pub enough : (g' : List ℕ) → More g g' → n ≤ length g' → places (place cs h g') r ≡ true
  pub fewer : (g' : List ℕ) → More g g' → length g' < n → places (place cs h g') r ≡ false
  pub still : (g' : List ℕ) → More g g' → length g' < n → (t : ℕ) × ((place cs h g').end ≡ NoFit r t n)
  pub shorter : (g' : List ℕ) → More g' g → places (place cs h g') r ≡ false
  pub earlier : (g' : List ℕ) → More g g' → Keeps (place cs h g) (place cs h g')

-- the two placings differ in nothing but free cells
pub record Beside (s s' : State) : Type 0 where
  pub rows : s'.h ≡ s.h
  pub tries : s'.tries ≡ s.tries
  pub order : s'.order ≡ s.order
  pub cells : More s.g s'.g
