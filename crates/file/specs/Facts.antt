-- What is promised of files.
use Rattle.std.specs.Prelude.{ℕ, ◌%◌, ◌^◌, ◌≤◌, ◌<◌, ◌≡◌, true, List, ◌∷◌, map, length, get_or, take, set}
use Rattle.lists.specs.Members.{All}
use Rattle.vectors.specs.Bounds.{max_side, max_vectors, max_cells}
use Rattle.record.specs.declared.Record.{Record}
use Rattle.record.specs.Record.{record_of, kinds_in}
use Rattle.record.specs.Tables.{Tables}
use Rattle.record.specs.Formed.{sound, long_enough}
use Rattle.lookup.specs.Lookup.{lookup_of}
use Rattle.recover.specs.Recover.{recover_of}
use Rattle.build.specs.Build.{Outcome}
use Rattle.unit.specs.Demand2.{ChosenBuild, GivenBuild}
use Rattle.file.specs.Layout.{head_kind, version, letters}
use Rattle.file.specs.File.{rows_in, words_in, file_of}
use Rattle.file.specs.Decode.{record_in, tables_in}
use Rattle.file.specs.Read.{Reading}

-- SCOPE 20.1, 20.6: a file's first eight bytes are the opening of block 0, a head, and the four letters
abbrev pub Begins : List ℕ → Type 0
Begins file = take 8 file ≡ head_kind ∷ version ∷ 0 ∷ 0 ∷ letters

-- ---- what a file says of its unit

-- the tables in their ranges are words of 16 and of 64 bits, as those of every lent slice are
pub record WordsFit (u : Record) (t : Tables) : Type 0 where
  pub h : All (λ (w : ℕ). w < 2 ^ 16) (take (rows_in u) t.h)
  pub g : All (λ (w : ℕ). w < 2 ^ 16) (take u.cells t.g)
  pub aux : All (λ (w : ℕ). w < 2 ^ 64) (take (words_in u) t.aux)

-- two records that are the same in all that a file says: the numbers, tries modulo 2^32, the variables, the mark, and so the kept inputs
pub record SameRecord (u v : Record) : Type 0 where
  pub n : u.n ≡ v.n
  pub p : u.p ≡ v.p
  pub n1 : u.n1 ≡ v.n1
  pub k : u.k ≡ v.k
  pub cells : u.cells ≡ v.cells
  pub tries : u.tries % 2 ^ 32 ≡ v.tries % 2 ^ 32
  pub variables : kinds_in u ≡ kinds_in v
  pub mark : u.mark ≡ v.mark
  pub kept : u.kept ≡ v.kept

-- and two units: the tables in their ranges too
pub record SameUnit (u : Record) (s : Tables) (v : Record) (t : Tables) : Type 0 where
  pub fields : SameRecord u v
  pub h : take (rows_in u) s.h ≡ take (rows_in v) t.h
  pub g : take u.cells s.g ≡ take v.cells t.g
  pub aux : take (words_in u) s.aux ≡ take (words_in v) t.aux

-- ---- a unit carried by its file

-- the record that is read: tries modulo 2^32; kept inputs, excess and part marks worked out anew
abbrev pub carried_record : Record → Record
carried_record u = record_of u.mark u.n u.n1 u.k (kinds_in u) u.cells (u.tries % 2 ^ 32)

-- and the tables: the words in their ranges, as 16 and 64 bits hold them
abbrev pub carried_tables : Record → Tables → Tables
carried_tables u t =
    record {
      h = map (λ (w : ℕ). w % 2 ^ 16) (take (rows_in u) t.h);
      g = map (λ (w : ℕ). w % 2 ^ 16) (take u.cells t.g);
      aux = map (λ (w : ℕ). w % 2 ^ 64) (take (words_in u) t.aux);
    }

-- the file read gives a sound unit, which written again gives the same bytes
pub record ReadsBack (file : List ℕ) : Type 0 where
  pub is_sound : sound (record_in file) (tables_in (record_in file) file) ≡ true
  pub again : file_of (record_in file) (tables_in (record_in file) file) ≡ file

-- two units answer alike
pub record SameAnswers (u : Record) (s : Tables) (v : Record) (t : Tables) : Type 0 where
  pub lookups : (x : ℕ) → lookup_of u s x ≡ lookup_of v t x
  pub recoveries : (i : ℕ) → recover_of u s i ≡ recover_of v t i

-- where a list is accepted, the record read from the file is the record that was built, in every field
abbrev pub RecordCarried : Outcome → Type 0
RecordCarried o = o.built.refusal ≡ 0 → record_in (file_of o.built.unit o.tables) ≡ o.built.unit

-- ---- reading

-- a file and tables
abbrev pub Reader : Type 0
Reader = List ℕ → Tables → Reading

-- the file of some sound unit
pub record Written (file : List ℕ) : Type 0 where
  pub unit : Record
  pub tables : Tables
  pub is_sound : sound unit tables ≡ true
  pub is : file_of unit tables ≡ file

-- SCOPE 20.14: with tables that are long enough, the files that are accepted are those that writing gives
pub record AcceptsFiles (read : Reader) : Type 0 where
  pub all_written : (u : Record) (s t : Tables) → sound u s ≡ true → long_enough u t ≡ true → (read (file_of u s) t).refusal ≡ 0
  pub only_written : (file : List ℕ) (t : Tables) → (read file t).refusal ≡ 0 → Written file

-- SCOPE 20.14: what was read, written again, is the same bytes
abbrev pub WritesAgain : Reader → Type 0
WritesAgain read = (file : List ℕ) (t : Tables) → (read file t).refusal ≡ 0 → file_of (read file t).unit (read file t).tables ≡ file

-- SCOPE 20.14: a byte that is changed is seen by a check, and no file can be cut short
pub record SeesDamage (read : Reader) : Type 0 where
  pub changed : (u : Record) (s t : Tables) → sound u s ≡ true → (i v : ℕ) → i < length (file_of u s) → v < 256 → (get_or (file_of u s) i 0 ≡ v → ⊥)
      → (read (set (file_of u s) i v) t).refusal ≡ 22
  pub cut : (u : Record) (s t : Tables) → sound u s ≡ true → (m : ℕ) → m < length (file_of u s) → (read (take m (file_of u s)) t).refusal ≡ 0 → ⊥

-- SCOPE 20.14: a unit that was written, and read into tables that are long enough, answers as before
abbrev pub AnswersAlike : Reader → Type 0
AnswersAlike read =
    (u : Record) (s t : Tables) → sound u s ≡ true → WordsFit u s → long_enough u t ≡ true → SameAnswers (read (file_of u s) t).unit (read (file_of u s) t).tables u s

-- ---- builds whose units are written and read

-- tables that are long enough for any unit
pub record Roomy (t : Tables) : Type 0 where
  pub rows : 2 ^ max_side ≤ length t.h
  pub cells : max_cells ≤ length t.g
  pub words : max_vectors < length t.aux

-- the record and the tables as reading leaves them
abbrev pub carried : Reader → Tables → Outcome → Outcome
carried read into o =
    let r = read (file_of o.built.unit o.tables) into in
    record { built = record { refusal = o.built.refusal; place = o.built.place; needed = o.built.needed; unit = r.unit }; tables = r.tables }

abbrev pub carried_chosen : Reader → Tables → ChosenBuild → ChosenBuild
carried_chosen read into build n degree cells allowance vs t = carried read into (build n degree cells allowance vs t)

abbrev pub carried_given : Reader → Tables → GivenBuild → GivenBuild
carried_given read into build n variables p n1 cells allowance vs t = carried read into (build n variables p n1 cells allowance vs t)
