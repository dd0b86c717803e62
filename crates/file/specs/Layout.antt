-- The layout of a file: the kinds of blocks, the version, and where each field of the head stands (SCOPE 20.4 to 20.6).
use Rattle.std.specs.Prelude.{ℕ, List, [], ◌∷◌}

-- byte 0 of a block
abbrev pub head_kind : ℕ
head_kind = 85

abbrev pub h_kind : ℕ
h_kind = 72

abbrev pub g_kind : ℕ
g_kind = 71

abbrev pub aux_kind : ℕ
aux_kind = 65

-- byte 1 of a block
abbrev pub version : ℕ
version = 1

-- the four letters IGU1
abbrev pub letters : List ℕ
letters = 0x49 ∷ 0x47 ∷ 0x55 ∷ 0x31 ∷ []

-- where each field of the head begins
abbrev pub letters_at : ℕ
letters_at = 4

abbrev pub n_at : ℕ
n_at = 8

abbrev pub p_at : ℕ
p_at = 9

abbrev pub n1_at : ℕ
n1_at = 10

abbrev pub k_at : ℕ
k_at = 11

abbrev pub cells_at : ℕ
cells_at = 13

abbrev pub tries_at : ℕ
tries_at = 15

abbrev pub variables_at : ℕ
variables_at = 19

abbrev pub mark_at : ℕ
mark_at = 67

-- the first byte that no field has
abbrev pub free_at : ℕ
free_at = 68
