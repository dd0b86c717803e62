-- Demand 1 of additions: the refusals of SCOPE 22.2 by their causes, and what a refused call leaves.
use Rattle.std.specs.Prelude.{ℕ, suc, ◌^◌, ◌≤◌, ◌<◌, ◌≡◌, List, [], ◌∷◌, ◌⊎◌, length, get_or}
use Rattle.vectors.specs.Bounds.{max_vectors}
use Rattle.vectors.specs.Variable.{row_of}
use Rattle.record.specs.declared.Record.{Record}
use Rattle.record.specs.Record.{blank_record, kinds_in}
use Rattle.record.specs.Tables.{Tables}
use Rattle.record.specs.Leads.{cell_in}
use Rattle.record.specs.Holds.{Holds}
use Rattle.recover.specs.Recover.{recover_of}
use Rattle.recover.specs.Every.{list_in}
use Rattle.build.specs.Build.{Outcome}
use Rattle.unit.specs.Demand1.{Cause, Gives, cause, cause_at, Agree, Blocked, Formed}
use Rattle.add.specs.Facts.{Adder, new_row, lifted_cells}

-- SCOPE 10.4: well formed, and recovery of no number is refused
pub record Listed (u : Record) (t : Tables) : Type 0 where
  pub formed : Formed u t
  pub given : (i : ℕ) → 1 ≤ i → i ≤ u.k → (recover_of u t i).refusal ≡ 0

-- a cause whose place is the number that the vector would have
abbrev pub cause_new : ℕ → Record → Type 0 → Cause
cause_new number u P = record { number = number; at = λ place. (place ≡ suc u.k) × P }

-- SCOPE 22.3: its cell is at L or past it, or holds an index
abbrev pub NoRoom : Record → Tables → ℕ → Type 0
NoRoom u t x = (u.cells ≤ cell_in u t x) ⊎ (get_or t.g (cell_in u t x) 0 ≡ 0 → ⊥)

-- SCOPE 22.4: nor is there a displacement for its row, once that is lifted
abbrev pub NoFit : Record → Tables → ℕ → Type 0
NoFit u t x = NoRoom u t x × ((d : ℕ) → Blocked (lifted_cells u t x) (new_row u t x) d)

-- SCOPE 22.2, but for 14, of a unit and its list: a 1 beyond n; registered already; as many vectors as may be; AUX too short; agrees with a vector; no place for its row
abbrev pub listed_causes : Record → Tables → List ℕ → ℕ → List Cause
listed_causes u t vs x =
    cause_new 6 u (2 ^ u.n ≤ x)
    ∷ cause_at 40 (length vs) (λ i. get_or vs i 0 ≡ x)
    ∷ cause 3 (max_vectors ≤ u.k)
    ∷ cause 5 (length t.aux < suc (suc u.k))
    ∷ cause_new 10 u ((i : ℕ) × (i < length vs) × Agree (kinds_in u) x (get_or vs i 0))
    ∷ record { number = 13; at = λ place. (place ≡ row_of u.n1 (kinds_in u) x) × NoFit u t x }
    ∷ []

-- SCOPE 22.2: first of all, the unit is not listed
abbrev pub add_causes : Record → Tables → ℕ → List Cause
add_causes u t x = cause 14 (Listed u t → ⊥) ∷ listed_causes u t (list_in u t) x

-- an outcome, with the causes of the call; t: the tables as lent
pub record Refuses (causes : List Cause) (t : Tables) (o : Outcome) : Type 0 where
  -- the refusal given is the first that has a cause, with its place
  pub refusal : Gives causes o.built.refusal o.built.place
  -- .. and the first that has a cause is the one given
  pub only : (number place : ℕ) → Gives causes number place → (o.built.refusal ≡ number) × (o.built.place ≡ place)
  -- SCOPE 22.2: a refused call has the blank record and writes no word
  pub blank : 0 < o.built.refusal → o.built.unit ≡ blank_record
  pub untouched : 0 < o.built.refusal → o.tables ≡ t
  -- SCOPE 22.5: needed is 0
  pub none_needed : o.built.needed ≡ 0

-- for every unit and every x
abbrev pub Demand1Add : Adder → Type 0
Demand1Add add = (u : Record) (t : Tables) (x : ℕ) → Refuses (add_causes u t x) t (add u t x)

-- for a unit that holds a list, by that list; 14 does not come
abbrev pub Demand1Held : Adder → Type 0
Demand1Held add = (u : Record) (t : Tables) (vs : List ℕ) → Holds u t vs → (x : ℕ) → Refuses (listed_causes u t vs x) t (add u t x)
