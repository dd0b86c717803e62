-- Demand 2 (SCOPE 16.2), a predicate over any build, lookup and recovery.
use Rattle.std.specs.Prelude.{ℕ, suc, ◌^◌, ◌<◌, ◌≡◌, List, length, get_or}
use Rattle.vectors.specs.declared.Variable.{Variable}
use Rattle.record.specs.declared.Record.{Record}
use Rattle.lookup.specs.Lookup.{Found}
use Rattle.recover.specs.Recover.{Recovered}
use Rattle.vectors.specs.Bounds.{max_variables}
use Rattle.record.specs.Tables.{Tables}
use Rattle.build.specs.Build.{Outcome}
use Rattle.lookup.specs.Lookup.{found}
use Rattle.recover.specs.Recover.{recovered}
use Rattle.record.specs.Holds.{index_of}

-- variables chosen by rule: n, degree, L, the allowance, the list and the tables
abbrev pub ChosenBuild : Type 0
ChosenBuild = ℕ → ℕ → ℕ → ℕ → List ℕ → Tables → Outcome

-- variables given by the caller: n, the variables, p, n1, L, the allowance, the list and the tables
abbrev pub GivenBuild : Type 0
GivenBuild = ℕ → List Variable → ℕ → ℕ → ℕ → ℕ → List ℕ → Tables → Outcome

-- record, tables and key
abbrev pub Lookup : Type 0
Lookup = Record → Tables → ℕ → Found

-- record, tables and index
abbrev pub Recovery : Type 0
Recovery = Record → Tables → ℕ → Recovered

-- SCOPE 16.2, of an outcome: where the list is accepted, with record and tables as the build left them
pub record Demand2 (lookup : Lookup) (recovery : Recovery) (n : ℕ) (vs : List ℕ) (o : Outcome) : Type 0 where
  -- lookup of a key of n bits gives the index of the vector that equals it, and 0 where none does
  pub lookup_exact : o.built.refusal ≡ 0 → (x : ℕ) → x < 2 ^ n → lookup o.built.unit o.tables x ≡ found (index_of vs x)
  -- recovery of an index gives its vector
  pub recovery_exact : o.built.refusal ≡ 0 → (i : ℕ) → i < length vs → recovery o.built.unit o.tables (suc i) ≡ recovered (get_or vs i 0)

abbrev pub Demand2Chosen : ChosenBuild → Lookup → Recovery → Type 0
Demand2Chosen build lookup recovery =
    (n degree cells allowance : ℕ) (vs : List ℕ) (t : Tables) → Demand2 lookup recovery n vs (build n degree cells allowance vs t)

-- the caller's variables stand in 24 slots
abbrev pub Demand2Given : GivenBuild → Lookup → Recovery → Type 0
Demand2Given build lookup recovery =
    (n : ℕ) (variables : List Variable) (p n1 cells allowance : ℕ) (vs : List ℕ) (t : Tables) → length variables ≡ max_variables
    → Demand2 lookup recovery n vs (build n variables p n1 cells allowance vs t)
