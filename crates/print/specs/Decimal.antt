-- A number in decimal, in ASCII.
use Rattle.std.specs.Prelude.{ℕ, zero, suc, ◌+◌, ◌/◌, ◌%◌, true, false, List, [], ◌∷◌, ◌++◌, ltb, ℤ, pos, negsuc}

-- SCOPE 14.5: at most d digits, with no zeros in front
unfoldable pub decimal_in : ℕ → ℕ → List ℕ
decimal_in zero n = []
decimal_in (suc d) n = elim (ltb n 10) [ true ↦ (48 + n) ∷ [] | false ↦ decimal_in d (n / 10) ++ ((48 + n % 10) ∷ []) ]

-- n + 1 digits are enough for n
unfoldable pub decimal : ℕ → List ℕ
unfolding decimal_in
decimal n = decimal_in (suc n) n

abbrev pub minus : ℕ
minus = 45

-- a minus in front of a number below 0 (SCOPE 14.7)
unfoldable pub signed : ℤ → List ℕ
unfolding decimal
signed (pos n) = decimal n
signed (negsuc n) = minus ∷ decimal (suc n)
