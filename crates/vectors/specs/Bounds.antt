-- SCOPE 2.1: the bounds, by name, and what is not within them.
use Rattle.std.specs.Prelude.{ℕ, suc, ◌-◌, ◌^◌, Bool, ◌||◌, nat_lt}

-- inputs of a vector
abbrev pub max_inputs : ℕ
max_inputs = 64

-- vectors of a list
abbrev pub max_vectors : ℕ
max_vectors = 1023

-- cells of G
abbrev pub max_cells : ℕ
max_cells = 8192

-- variables of a unit
abbrev pub max_variables : ℕ
max_variables = 24

-- variables of one part, row or column
abbrev pub max_side : ℕ
max_side = 12

-- rows, or columns, that the variables of one part make
abbrev pub max_rows : ℕ
max_rows = 2 ^ max_side

-- words of AUX: one more than vectors
abbrev pub max_words : ℕ
max_words = suc max_vectors

-- x is not low to high
abbrev pub outside : ℕ → ℕ → ℕ → Bool
outside low high x = nat_lt x low || nat_lt high x

-- p variables, n1 of them for rows, are more than the bounds allow
abbrev pub too_many : ℕ → ℕ → Bool
too_many p n1 = nat_lt max_variables p || nat_lt p n1 || nat_lt max_side n1 || nat_lt max_side (p - n1)
