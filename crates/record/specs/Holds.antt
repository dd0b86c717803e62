-- What record and tables that hold a list are: all that lookup and recovery ask for.
use Rattle.std.specs.Prelude.{ℕ, suc, ◌^◌, ◌<◌, ◌≡◌, true, List, eqb, length, get_or}
use Rattle.lists.specs.First.{first_of}
use Rattle.record.specs.declared.Record.{Record}
use Rattle.record.specs.Tables.{Tables, index_in}
use Rattle.record.specs.Formed.{sound}
use Rattle.record.specs.Leads.{word_in, cell_in}

-- SCOPE 16.2: the index of the vector that equals x; 0 for none
abbrev pub index_of : List ℕ → ℕ → ℕ
index_of vs x = first_of (λ before v. eqb v x) vs

-- the cell holds the index of a vector that leads there; vector i is entry i - 1 of the list
pub record Leads (u : Record) (t : Tables) (vs : List ℕ) (cell : ℕ) : Type 0 where
  pub entry : ℕ
  pub listed : entry < length vs
  pub holds : index_in (get_or t.g cell 0) ≡ suc entry
  pub there : cell_in u t (get_or vs entry 0) ≡ cell

-- the record u and the tables t hold the list vs
pub record Holds (u : Record) (t : Tables) (vs : List ℕ) : Type 0 where
  -- the record is sound, and of this list
  pub is_sound : sound u t ≡ true
  pub vectors : u.k ≡ length vs
  pub within : (i : ℕ) → i < length vs → get_or vs i 0 < 2 ^ u.n
  -- every AUX word is its vector's
  pub words : (i : ℕ) → i < length vs → get_or t.aux (suc i) 0 ≡ word_in u (get_or vs i 0)
  -- every vector lies in its cell
  pub lies : (i : ℕ) → i < length vs → (cell_in u t (get_or vs i 0) < u.cells) × (index_in (get_or t.g (cell_in u t (get_or vs i 0)) 0) ≡ suc i)
  -- every cell below L that is not empty holds an index whose row and column lead there
  pub leads : (cell : ℕ) → cell < u.cells → (index_in (get_or t.g cell 0) ≡ 0 → ⊥) → Leads u t vs cell
