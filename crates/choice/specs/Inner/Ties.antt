-- Inputs that are tied to an earlier one: once a variable is taken, its two inputs stay equal or stay different in each group.
use Rattle.std.specs.Prelude.{ℕ, ◌%◌, ◌^◌, ◌<◌, ◌≡◌, List}
use Rattle.lists.specs.Members.{All}
use Rattle.vectors.specs.declared.Kind.{Kind}
use Rattle.vectors.specs.declared.Kind.TheVariants.{Two}
use Rattle.vectors.specs.Bits.{input, place_of}
use Rattle.vectors.specs.Bounds.{max_inputs}
use Rattle.vectors.specs.Variable.{later, value_of}

-- the XOR of inputs i and j is the same in all members of a group, h giving their words
abbrev pub Tied : (ℕ → ℕ) → ℕ → ℕ → List ℕ → Type 0
Tied h i j g = (v : ℕ) × All (λ m. value_of (h m) (Two i j) ≡ v) g

-- each input of the mask is tied to an earlier one in every group; input 0 is none
abbrev pub Ties : ℕ → (ℕ → ℕ) → List (List ℕ) → Type 0
Ties tied h gs = (j : ℕ) → input tied j ≡ 1 → (i : ℕ) × (i < j) × All (Tied h i j) gs

-- the later input of a variable, alone in a word
abbrev pub later_of : Kind → ℕ
later_of k = place_of (later k) % 2 ^ max_inputs
