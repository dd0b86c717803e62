-- The excess of an accepted list is never negative (SCOPE 8.6), a predicate over any build.
use Rattle.std.specs.Prelude.{ℕ, ◌≡◌, List, pos, length, ◌≤ℤ◌}
use Rattle.vectors.specs.declared.Variable.{Variable}
use Rattle.vectors.specs.Bounds.{max_variables}
use Rattle.record.specs.Tables.{Tables}
use Rattle.build.specs.Build.{Outcome}
use Rattle.unit.specs.Demand2.{ChosenBuild, GivenBuild}

-- of an outcome
abbrev pub NotNegative : Outcome → Type 0
NotNegative o = o.built.refusal ≡ 0 → pos 0 ≤ℤ o.built.unit.excess

abbrev pub ExcessChosen : ChosenBuild → Type 0
ExcessChosen build = (n degree cells allowance : ℕ) (vs : List ℕ) (t : Tables) → NotNegative (build n degree cells allowance vs t)

-- the caller's variables stand in 24 slots
abbrev pub ExcessGiven : GivenBuild → Type 0
ExcessGiven build =
    (n : ℕ) (variables : List Variable) (p n1 cells allowance : ℕ) (vs : List ℕ) (t : Tables) → length variables ≡ max_variables
    → NotNegative (build n variables p n1 cells allowance vs t)
