-- The best candidate for groups of words: the first of those that leave the fewest pairs of members that agree.
use Rattle.std.specs.Prelude.{ℕ, ◌≤◌, ◌<◌, ◌≡◌, List, length}
use Rattle.lists.specs.Cut.{cut, total}
use Rattle.vectors.specs.declared.Kind.{Kind}
use Rattle.vectors.specs.Bounds.{max_inputs, max_vectors}
use Rattle.vectors.specs.Variable.{value_of}
use Rattle.choice.specs.Inner.Split.{squares}

-- the squares of a candidate's halves of the groups: twice the pairs that it leaves, and one for each member
abbrev pub score_of : List ℕ → List ℕ → Kind → ℕ
score_of sizes words k = squares (λ x. value_of x k) (cut sizes words)

-- what the search is made for: n inputs, and groups that are all of the words
pub record Searched (sizes words : List ℕ) (n : ℕ) : Type 0 where
  pub some : 0 < n
  pub inputs : n ≤ max_inputs
  pub few : length words ≤ max_vectors
  pub sum : total sizes ≡ length words
