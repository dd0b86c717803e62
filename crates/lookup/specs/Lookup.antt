-- The index of a key.
use Rattle.std.specs.Prelude.{ℕ, zero, suc, ◌^◌, true, false, Result, Ok, Err, List, eqb, leb, ltb, get_or}
use Rattle.refusal.specs.declared.Refusal.{Refusal}
use Rattle.refusal.specs.Refusal.{number_of as refusal_number}
use Rattle.vectors.specs.Variable.{number_of}
use Rattle.vectors.specs.Word.{word_of}
use Rattle.record.specs.declared.Record.{Record}
use Rattle.record.specs.Tables.{Tables, index_in}
use Rattle.record.specs.Formed.{well_formed}
use Rattle.record.specs.Leads.{word_in, cell_in}

-- the refusal's number and its place, 0 and 0 where the call is accepted; the index, 0 where the key is not registered
pub record Found : Type 0 where
  pub refusal : ℕ
  pub place : ℕ
  pub index : ℕ

-- SCOPE 11.3, 11.7: an index beside refusal 0, or a refusal with the index 0; the place is 0
abbrev pub found : ℕ → Found
found i = record { refusal = 0; place = 0; index = i }

abbrev pub not_found : ℕ → Found
not_found number = record { refusal = number; place = 0; index = 0 }

-- an index or a refusal by name
abbrev pub told : Result ℕ Refusal → Found
told (Ok i) = found i
told (Err refused) = not_found (refusal_number refused)

-- SCOPE 9.3, 9.4: an empty cell gives 0, an index above k is refused, any other stands where the comparison word of x is its word in AUX
unfoldable pub compared : Record → List ℕ → ℕ → ℕ → Found
unfolding word_of
compared u aux x zero = found 0
compared u aux x (suc i) =
    elim (leb (suc i) u.k) [
      | false ↦ not_found 14
      | true ↦ elim (eqb (get_or aux (suc i) 0) (word_in u x)) [ true ↦ found (suc i) | false ↦ found 0 ]
    ]

-- SCOPE 9.2, 9.3: a cell at L or above gives 0; otherwise the index that it holds is compared
unfoldable pub answer : Record → Tables → ℕ → Found
unfolding number_of compared
answer u t x =
    let cell = cell_in u t x in
    elim (ltb cell u.cells) [ false ↦ found 0 | true ↦ compared u t.aux x (index_in (get_or t.g cell 0)) ]

-- SCOPE 9.1: 14 for a unit that is not well formed, then 6 for a key with a 1 beyond n
unfoldable pub lookup_of : Record → Tables → ℕ → Found
unfolding well_formed answer
lookup_of u t x =
    elim (well_formed u t) [
      | false ↦ not_found 14
      | true ↦ elim (ltb x (2 ^ u.n)) [ false ↦ not_found 6 | true ↦ answer u t x ]
    ]
