-- The comparison word.
use Rattle.std.specs.Prelude.{ℕ, zero, suc, ◌+◌, ◌*◌, ◌/◌, ◌%◌, ◌^◌, List}
use Rattle.vectors.specs.declared.Kind.{Kind}
use Rattle.vectors.specs.Variable.{number_of, row_of}

-- the bit b before w where the mask's digit is 1
abbrev pub pack_bit : ℕ → ℕ → ℕ → ℕ
pack_bit zero b w = w
pack_bit (suc m) b w = b + 2 * w

-- SCOPE 6.3: the bits of x at the mask's positions, the lowest first; d positions are looked at
unfoldable pub pack_in : ℕ → ℕ → ℕ → ℕ
pack_in zero m x = 0
pack_in (suc d) m x = pack_bit (m % 2) (x % 2) (pack_in d (m / 2) (x / 2))

-- SCOPE 6.3: the row number in the lowest n1 bits, and above them the kept inputs
unfoldable pub word_of : ℕ → ℕ → List Kind → ℕ → ℕ → ℕ
unfolding number_of pack_in
word_of n n1 ks mask x = row_of n1 ks x + 2 ^ n1 * pack_in n mask x
