-- The vector of an index.
use Rattle.std.specs.Prelude.{ℕ, zero, suc, ◌+◌, ◌-◌, ◌%◌, ◌^◌, Bool, true, false, ◌&&◌, Result, Ok, Err, List, eqb, leb, ltb, get_or, take}
use Rattle.lists.specs.First.{first_of}
use Rattle.refusal.specs.declared.Refusal.{Refusal}
use Rattle.refusal.specs.Refusal.{number_of}
use Rattle.vectors.specs.Bounds.{outside}
use Rattle.span.specs.Fixed.{vector_of}
use Rattle.record.specs.declared.Record.{Record}
use Rattle.record.specs.Record.{kinds_in}
use Rattle.record.specs.Tables.{Tables, index_in}
use Rattle.record.specs.Formed.{well_formed, sound}

-- the refusal's number and its place, 0 and 0 where the call is accepted; the vector, 0 beside a refusal
pub record Recovered : Type 0 where
  pub refusal : ℕ
  pub place : ℕ
  pub vector : ℕ

-- SCOPE 11.3, 11.7: a vector beside refusal 0, or a refusal with the vector 0; the place is 0
abbrev pub recovered : ℕ → Recovered
recovered v = record { refusal = 0; place = 0; vector = v }

abbrev pub not_recovered : ℕ → Recovered
not_recovered number = record { refusal = number; place = 0; vector = 0 }

-- a vector or a refusal by name
abbrev pub told : Result ℕ Refusal → Recovered
told (Ok v) = recovered v
told (Err refused) = not_recovered (number_of refused)

-- SCOPE 10.2: the number from 1 of the first of the cells that holds i; 0 for none
abbrev pub first_holding : List ℕ → ℕ → ℕ
first_holding cells i = first_of (λ before w. eqb (index_in w) i) cells

-- SCOPE 10.2: of the cells below L
abbrev pub first_cell : Record → Tables → ℕ → ℕ
first_cell u t i = first_holding (take u.cells t.g) i

-- SCOPE 10.2: the row that a word of AUX has in its lowest n1 bits
abbrev pub row_in : Record → ℕ → ℕ
row_in u word = word % 2 ^ u.n1

-- SCOPE 10.3: the column is one of the columns, and the word has no bit too many
abbrev pub in_chart : Record → List ℕ → ℕ → ℕ → Bool
in_chart u h word cell =
    let d = get_or h (row_in u word) 0 in
    leb d cell && ltb (cell - d) (2 ^ (u.p - u.n1)) && ltb word (2 ^ (u.n1 + u.n - u.p))

-- SCOPE 10.3: and the unit is sound
abbrev pub fixes : Record → Tables → ℕ → ℕ → Bool
fixes u t word cell = in_chart u t.h word cell && sound u t

-- SCOPE 10.2, 10.3: the one vector that the word and the column fix, or 14
unfoldable pub vector_at : Record → Tables → ℕ → ℕ → Recovered
unfolding sound vector_of
vector_at u t word cell =
    elim (fixes u t word cell) [
      | false ↦ not_recovered 14
      | true ↦ recovered (vector_of u.n u.n1 (kinds_in u) u.kept word (cell - get_or t.h (row_in u word) 0))
    ]

-- SCOPE 10.3: 14 where no cell holds the index
unfoldable pub from_cell : Record → Tables → ℕ → ℕ → Recovered
unfolding vector_at
from_cell u t word zero = not_recovered 14
from_cell u t word (suc cell) = vector_at u t word cell

-- SCOPE 10.1: 14 for a unit that is not well formed, then 15 for an index outside 1 to k, then the further causes of 14
unfoldable pub recover_of : Record → Tables → ℕ → Recovered
unfolding well_formed first_of from_cell
recover_of u t i =
    elim (well_formed u t) [
      | false ↦ not_recovered 14
      | true ↦ elim (outside 1 u.k i) [ true ↦ not_recovered 15 | false ↦ from_cell u t (get_or t.aux i 0) (first_cell u t i) ]
    ]
