-- The keys of a text, handed on (SCOPE 14.18, 22.9).
use Rattle.std.specs.Prelude.{ℕ, ◌-◌, Bool, true, false, List, [], ◌++◌, length, replicate, Option, Some, None}
use Rattle.find.specs.declared.Given as code
use Rattle.find.specs.Keys.{max_keys, good_keys, values_in}

-- whether a text is good, how many keys it has, and a word for each, 0 past them
pub record Given : Type 0 where
  pub good : Bool
  pub count : ℕ
  pub words : List ℕ

-- so many keys, and 0 in the words past them
abbrev pub given_with : Bool → List ℕ → Given
given_with good xs = record { good = good; count = length xs; words = xs ++ replicate (max_keys - length xs) 0 }

-- what is handed on
abbrev pub told : Option code.Given → Given
told (Some g) = record { good = true; count = g.count; words = g.words }
told None = given_with false []

-- the keys of a text that is good, and none of any other
unfoldable pub given_of : List ℕ → Given
unfolding good_keys
given_of text = elim (good_keys text) [ true ↦ given_with true (values_in text) | false ↦ given_with false [] ]
