-- What is promised of an addition.
use Rattle.std.specs.Prelude.{ℕ, suc, ◌≤◌, ◌<◌, ◌≡◌, true, false, List, [], ◌∷◌, ◌++◌, ◌⊎◌, length, get_or, take}
use Rattle.lists.specs.Members.{In}
use Rattle.vectors.specs.Variable.{row_of}
use Rattle.rows.specs.Care.{Care}
use Rattle.rows.specs.Fit.{cell_of}
use Rattle.record.specs.declared.Record.{Record}
use Rattle.record.specs.Record.{kinds_in}
use Rattle.record.specs.Tables.{Tables, index_in}
use Rattle.record.specs.Leads.{cell_in}
use Rattle.record.specs.Holds.{Holds}
use Rattle.recover.specs.Recover.{first_cell}
use Rattle.build.specs.Build.{Outcome}
use Rattle.add.specs.Add.{newcomer, row_mates, lifted, has_room_for}

-- record, tables and vector
abbrev pub Adder : Type 0
Adder = Record → Tables → ℕ → Outcome

-- ---- the list

-- SCOPE 22.6: where a unit holds a list and an addition is accepted, the list with the vector at its end is held
abbrev pub Appends : Adder → Type 0
Appends add =
    (u : Record) (t : Tables) (vs : List ℕ) → Holds u t vs → (x : ℕ) → (add u t x).built.refusal ≡ 0
    → Holds (add u t x).built.unit (add u t x).tables (vs ++ (x ∷ []))

-- ---- the words that stay

-- SCOPE 22.4: the row of x with x in it, and the cells without that row
abbrev pub new_row : Record → Tables → ℕ → List Care
new_row u t x = row_mates u t x ++ (newcomer u x ∷ [])

abbrev pub lifted_cells : Record → Tables → ℕ → List ℕ
lifted_cells u t x = lifted u t (row_mates u t x) (take u.cells t.g)

-- a cell that the row of x has: the first that holds the number of one of its vectors
abbrev pub HasCell : Record → Tables → ℕ → ℕ → Type 0
HasCell u t x cell = (c : Care) × In c (row_mates u t x) × (first_cell u t c.index ≡ suc cell)

-- a cell that it gets, with x in it, at the displacement d
abbrev pub GetsCell : Record → Tables → ℕ → ℕ → ℕ → Type 0
GetsCell u t x d cell = (c : Care) × In c (new_row u t x) × (cell_of c d ≡ cell)

-- as many words, and the same but in the places given
pub record SameBut (places : ℕ → Type 0) (old new : List ℕ) : Type 0 where
  pub size : length new ≡ length old
  pub same : (i : ℕ) → (places i → ⊥) → get_or new i 0 ≡ get_or old i 0

-- SCOPE 22.7, of an outcome: which words of the tables t an addition of x can change
pub record Stays (u : Record) (t : Tables) (x : ℕ) (o : Outcome) : Type 0 where
  -- a refused call changes nothing
  pub refused : (o.built.refusal ≡ 0 → ⊥) → o.tables ≡ t
  -- one word of AUX, and of H one at the most, that of the row
  pub one_word : SameBut (λ i. i ≡ suc u.k) t.aux o.tables.aux
  pub one_row : SameBut (λ i. i ≡ row_of u.n1 (kinds_in u) x) t.h o.tables.h
  -- where x finds room, none of H and one of G
  pub room_rows : has_room_for u t x ≡ true → o.tables.h ≡ t.h
  pub room_cell : has_room_for u t x ≡ true → SameBut (λ i. i ≡ cell_in u t x) t.g o.tables.g
  -- otherwise in G no cell but those that the row has and those that it gets
  pub moved_cells : has_room_for u t x ≡ false
      → SameBut (λ i. HasCell u t x i ⊎ GetsCell u t x (get_or o.tables.h (row_of u.n1 (kinds_in u) x) 0) i) t.g o.tables.g
  -- a cell that holds an index and that the row does not have stays; so does a word of G from L up
  pub other_cells : (i : ℕ) → (get_or t.g i 0 ≡ 0 → ⊥) → (HasCell u t x i → ⊥) → get_or o.tables.g i 0 ≡ get_or t.g i 0
  pub beyond_cells : (i : ℕ) → u.cells ≤ i → get_or o.tables.g i 0 ≡ get_or t.g i 0

-- for every unit and every x
abbrev pub ChangesLittle : Adder → Type 0
ChangesLittle add = (u : Record) (t : Tables) (x : ℕ) → Stays u t x (add u t x)

-- SCOPE 22.7: in a unit that holds a list, a vector of another row lies where it lay
abbrev pub OthersStay : Adder → Type 0
OthersStay add =
    (u : Record) (t : Tables) (vs : List ℕ) → Holds u t vs → (x i : ℕ) → i < length vs
    → (row_of u.n1 (kinds_in u) (get_or vs i 0) ≡ row_of u.n1 (kinds_in u) x → ⊥)
    → (cell_in u (add u t x).tables (get_or vs i 0) ≡ cell_in u t (get_or vs i 0)) × (index_in (get_or (add u t x).tables.g (cell_in u t (get_or vs i 0)) 0) ≡ suc i)
