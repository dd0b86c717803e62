-- What the contracts of inner functions cite, and no public contract.
use Rattle.std.specs.Prelude.{ℕ, ◌+◌, ◌-◌, ◌*◌, true, false, cond, ◌&&◌, leb, List, length, Option, Some, None, unwrap_or}
use Rattle.lists.specs.Members.{every}
use Rattle.input.specs.Decimal.{max_number, digit, good_field, value_of}

-- the value of a field that is a number
unfoldable pub value_in : List ℕ → Option ℕ
unfolding good_field value_of
value_in f = elim (good_field f) [ true ↦ Some (value_of f) | false ↦ None ]

-- how many fields there are, where each is a number
unfoldable pub count_of : List (List ℕ) → Option ℕ
unfolding every good_field
count_of fs = elim (every good_field fs) [ true ↦ Some (length fs) | false ↦ None ]

-- a number with one digit more; none where the byte is no digit, or the number too large then
unfoldable pub grown : Option ℕ → ℕ → Option ℕ
grown n b = cond (digit b && leb (10 * unwrap_or n 0 + (b - 48)) max_number) (Some (10 * unwrap_or n 0 + (b - 48))) None
