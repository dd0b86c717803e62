-- Numbers as bytes, the lowest first (SCOPE 20.2).
use Rattle.std.specs.Prelude.{ℕ, zero, suc, ◌+◌, ◌*◌, ◌/◌, ◌%◌, List, [], ◌∷◌, ◌++◌, take, drop}

-- the lowest m bytes of w
unfoldable pub little_of : ℕ → ℕ → List ℕ
little_of zero w = []
little_of (suc m) w = w % 256 ∷ little_of m (w / 256)

-- words of m bytes, one after another
unfoldable pub words_of : ℕ → List ℕ → List ℕ
unfolding little_of
words_of m [] = []
words_of m (w ∷ ws) = little_of m w ++ words_of m ws

-- ---- and back

-- the number that bytes make
unfoldable pub value_of : List ℕ → ℕ
value_of [] = 0
value_of (b ∷ bs) = b + 256 * value_of bs

-- the number of m bytes at a place
unfoldable pub number_at : ℕ → ℕ → List ℕ → ℕ
unfolding value_of
number_at m at bytes = value_of (take m (drop at bytes))

-- so many words of m bytes, from the front
unfoldable pub words_at : ℕ → ℕ → List ℕ → List ℕ
unfolding value_of
words_at m zero bytes = []
words_at m (suc count) bytes = value_of (take m bytes) ∷ words_at m count (drop m bytes)
