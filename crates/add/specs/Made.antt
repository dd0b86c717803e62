-- A unit that was built, or that came from a built one step by step; and demand 2 of it (SCOPE 22.6).
use Rattle.std.specs.Prelude.{ℕ, ◌≡◌, List, [], ◌∷◌, ◌++◌, pos, length, ◌≤ℤ◌}
use Rattle.vectors.specs.declared.Variable.{Variable}
use Rattle.vectors.specs.Bounds.{max_variables}
use Rattle.record.specs.declared.Record.{Record}
use Rattle.record.specs.Tables.{Tables}
use Rattle.build.specs.Build.{Outcome, accepted}
use Rattle.unit.specs.Demand2.{ChosenBuild, GivenBuild, Lookup, Recovery, Demand2}
use Rattle.file.specs.File.{file_of}
use Rattle.file.specs.Facts.{Reader}
use Rattle.add.specs.Facts.{Adder}

-- the record and the tables of a unit, and the list of vectors of n bits that it was built of, with each vector added at its end
pub data Made (build : ChosenBuild) (given : GivenBuild) (add : Adder) (read : Reader) (n : ℕ) : List ℕ → Record → Tables → Type 0 where
  -- built, the variables chosen by rule
  by_rule : (degree cells allowance : ℕ) (vs : List ℕ) (t : Tables) → (build n degree cells allowance vs t).built.refusal ≡ 0
      → Made build given add read n vs (build n degree cells allowance vs t).built.unit (build n degree cells allowance vs t).tables
  -- built, the variables given by the caller, in 24 slots
  by_caller : (variables : List Variable) (p n1 cells allowance : ℕ) (vs : List ℕ) (t : Tables) → length variables ≡ max_variables
      → (given n variables p n1 cells allowance vs t).built.refusal ≡ 0
      → Made build given add read n vs (given n variables p n1 cells allowance vs t).built.unit (given n variables p n1 cells allowance vs t).tables
  -- one vector more
  added : {vs : List ℕ} {u : Record} {t : Tables} → Made build given add read n vs u t → (x : ℕ) → (add u t x).built.refusal ≡ 0
      → Made build given add read n (vs ++ (x ∷ [])) (add u t x).built.unit (add u t x).tables
  -- written, and read into other tables
  carried : {vs : List ℕ} {u : Record} {t : Tables} → Made build given add read n vs u t → (into : Tables) → (read (file_of u t) into).refusal ≡ 0
      → Made build given add read n vs (read (file_of u t) into).unit (read (file_of u t) into).tables

-- a unit as it stands
abbrev pub standing : Record → Tables → Outcome
standing u t = record { built = accepted u; tables = t }

-- SCOPE 16.2, 22.6: lookup and recovery are exact, for the list with each vector added at its end
abbrev pub Demand2Made : ChosenBuild → GivenBuild → Adder → Reader → Lookup → Recovery → Type 0
Demand2Made build given add read lookup recovery =
    (n : ℕ) (vs : List ℕ) (u : Record) (t : Tables) → Made build given add read n vs u t → Demand2 lookup recovery n vs (standing u t)

-- SCOPE 8.6: the excess is never negative
abbrev pub ExcessMade : ChosenBuild → GivenBuild → Adder → Reader → Type 0
ExcessMade build given add read = (n : ℕ) (vs : List ℕ) (u : Record) (t : Tables) → Made build given add read n vs u t → pos 0 ≤ℤ u.excess
