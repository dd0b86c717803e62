-- A field that is a number in decimal (SCOPE 14.1).
use Rattle.std.specs.Prelude.{ℕ, ◌+◌, ◌-◌, ◌*◌, ◌^◌, Bool, ◌&&◌, List, [], ◌∷◌, leb, ltb, length}
use Rattle.lists.specs.Members.{every}

-- SCOPE 14.3 f: the largest number that may be written
abbrev pub max_number : ℕ
max_number = 2 ^ 64 - 1

abbrev pub digit : ℕ → Bool
digit b = leb 48 b && leb b 57

-- the digits' value, v being that of the digits in front of them
unfoldable pub value_from : ℕ → List ℕ → ℕ
value_from v [] = v
value_from v (b ∷ bs) = value_from (10 * v + (b - 48)) bs

unfoldable pub value_of : List ℕ → ℕ
unfolding value_from
value_of f = value_from 0 f

-- SCOPE 14.3 b to f: not empty, digits alone, and no larger than allowed; an empty field stands between two separators, in front of one that the text opens with, and after a final space
unfoldable pub good_field : List ℕ → Bool
unfolding every value_of
good_field f = ltb 0 (length f) && every digit f && leb (value_of f) max_number
