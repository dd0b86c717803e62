-- Recovery of every number of a unit, and the list that it gives (SCOPE 10.4).
use Rattle.std.specs.Prelude.{ℕ, zero, suc, Bool, true, false, ◌&&◌, List, [], ◌∷◌, eqb, take}
use Rattle.std.proofs.lemmas.List.Edits.{sets}
use Rattle.lists.specs.First.{first_of}
use Rattle.vectors.specs.Bounds.{max_words}
use Rattle.record.specs.declared.Record.{Record}
use Rattle.record.specs.Tables.{Tables}
use Rattle.record.specs.Formed.{well_formed, sound}
use Rattle.recover.specs.Recover.{first_holding, recover_of}

-- whether recovery gives a vector for each of m numbers from i on
unfoldable pub all_given : Record → Tables → ℕ → ℕ → Bool
unfolding recover_of
all_given u t i zero = true
all_given u t i (suc m) = eqb (recover_of u t i).refusal 0 && all_given u t (suc i) m

-- the vectors that it gives
unfoldable pub vectors_from : Record → Tables → ℕ → ℕ → List ℕ
unfolding recover_of
vectors_from u t i zero = []
vectors_from u t i (suc m) = (recover_of u t i).vector ∷ vectors_from u t (suc i) m

-- whether a unit is well formed and recovery gives each of its vectors
unfoldable pub listed : Record → Tables → Bool
unfolding well_formed all_given
listed u t = well_formed u t && all_given u t 1 u.k

-- the list that a unit holds, where it is listed
unfoldable pub list_in : Record → Tables → List ℕ
unfolding vectors_from
list_in u t = vectors_from u t 1 u.k

-- SCOPE 10.2: for each of m indices from i on, the first of the cells that holds it
unfoldable pub firsts_from : List ℕ → ℕ → ℕ → List ℕ
unfolding first_of
firsts_from cells i zero = []
firsts_from cells i (suc m) = first_holding cells i ∷ firsts_from cells (suc i) m

-- what stands after the call in the words lent for the first cells: one for each index from 0 to 1,023; as before where the unit is not sound
unfoldable pub firsts_in : Record → Tables → List ℕ → List ℕ
unfolding sound firsts_from
firsts_in u t old = elim (sound u t) [ true ↦ firsts_from (take u.cells t.g) 0 max_words | false ↦ old ]

-- what stands after the call in the words lent for the vectors: the list from word 1 on, the others as before; all as before where the unit is not listed
unfoldable pub list_into : Record → Tables → List ℕ → List ℕ
unfolding listed list_in
list_into u t old = elim (listed u t) [ true ↦ sets old 1 (list_in u t) | false ↦ old ]
