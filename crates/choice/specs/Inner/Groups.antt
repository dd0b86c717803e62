-- Groups of vectors as two lists: the members, group after group, and how long each group is.
use Rattle.std.specs.Prelude.{ℕ, ◌+◌, ◌/◌, ◌≤◌, ◌<◌, ◌≡◌, length, get_or, take}
use mathlib.Core.List.{List, [], ◌++◌, map, flatten}
unfoldable pub use Rattle.lists.specs.Cut.{cut, total}
use Rattle.lists.specs.Members.{All}
use Rattle.choice.specs.Inner.Split.{pushed, members}
use Rattle.choice.specs.declared.groups.Groups.{Groups}
use Rattle.vectors.specs.Bounds.{max_vectors}
use Rattle.vectors.specs.Masks.{value_by}

-- so many groups there are at most, of two members or more
abbrev pub max_groups : ℕ
max_groups = max_vectors / 2 + 1

-- indices below k in groups of two members or more
pub record Cuts (k : ℕ) (sizes order : List ℕ) : Type 0 where
  pub sum : total sizes ≡ length order
  pub many : All (λ s. 2 ≤ s) sizes
  pub low : All (λ i. i < k) order
  pub few : length order ≤ k

abbrev pub sizes_of : Groups → List ℕ
sizes_of g = take g.count g.sizes

abbrev pub order_of : Groups → List ℕ
order_of g = take g.members g.order

abbrev pub groups_of : Groups → List (List ℕ)
groups_of g = cut (sizes_of g) (order_of g)

-- groups of k vectors, within the arrays
pub record Shape (k : ℕ) (g : Groups) : Type 0 where
  pub room : g.members ≤ length g.order
  pub places : g.count ≤ length g.sizes
  pub cuts : Cuts k (sizes_of g) (order_of g)

-- the value of vector i under the mask
abbrev pub value_at : List ℕ → ℕ → ℕ → ℕ
value_at vs mask i = value_by mask (get_or vs i 0)

-- those groups, in their shape
pub record GroupsAre (k : ℕ) (gs : List (List ℕ)) (g : Groups) : Type 0 where
  pub shape : Shape k g
  pub are : groups_of g ≡ gs

-- what is written are those groups
pub record Holds (gs : List (List ℕ)) (g : Groups) : Type 0 where
  pub total_is : g.members ≡ members gs
  pub count_is : g.count ≡ length gs
  pub order_is : take g.members g.order ≡ flatten gs
  pub sizes_are : take g.count g.sizes ≡ map length gs

-- room for a group more, and a place after it, where a member that does not count may be written
pub record Room (p : List ℕ) (g : Groups) : Type 0 where
  pub few : length p ≤ max_vectors
  pub order_room : g.members + length p < length g.order
  pub sizes_room : g.count < length g.sizes

-- whatever groups were held, the group is held after them, unless it has fewer than two members
abbrev pub Adds : List ℕ → Groups → Groups → Type 0
Adds p g g' = (gs : List (List ℕ)) → Holds gs g → Holds (gs ++ pushed p []) g'

-- the arrays are as long as they were
pub record Sized (g g' : Groups) : Type 0 where
  pub order : length g'.order ≡ length g.order
  pub sizes : length g'.sizes ≡ length g.sizes
