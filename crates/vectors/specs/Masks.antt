-- Variables as masks of a word, and what masks make of a word.
use Rattle.std.specs.Prelude.{ℕ, ◌+◌, ◌-◌, ◌*◌, ◌%◌, ◌^◌, List, [], ◌∷◌, ◌++◌, map, length, take, replicate, bit_and, count_ones}
use Rattle.vectors.specs.declared.Kind.{Kind}
use Rattle.vectors.specs.declared.Variable.{Variable}
use Rattle.vectors.specs.Bounds.{max_inputs, max_variables}
use Rattle.vectors.specs.Variable.{mask_of, kinds_of}
use Rattle.vectors.specs.Word.{pack_in}

-- the masks of variables in a word
abbrev pub masks_of : List Kind → List ℕ
masks_of = map (λ k. mask_of k % 2 ^ max_inputs)

-- the masks of the first p variables, each in its place; 0 in the places after them
abbrev pub masks_in : ℕ → List Variable → List ℕ
masks_in p vs = masks_of (kinds_of (take p vs)) ++ replicate (max_variables - p) 0

-- 1 where x has an odd number of the mask's inputs
abbrev pub value_by : ℕ → ℕ → ℕ
value_by m x = count_ones (bit_and x m) % 2

-- the values under the masks as a number, the first one's in the lowest bit
unfoldable pub number_by : List ℕ → ℕ → ℕ
number_by [] x = 0
number_by (m ∷ ms) x = value_by m x + 2 * number_by ms x

-- the comparison word, with the masks of the row variables
abbrev pub word_by : List ℕ → ℕ → ℕ → ℕ
word_by ms kept x = number_by ms x + 2 ^ length ms * pack_in max_inputs kept x
