-- Demand 3 (SCOPE 16.3 to 16.5), a predicate over any build: the displacements and the tries of an accepted list, and when no list is refused for lack of fit. It is said of builds: a unit to which a vector was added need not meet it (SCOPE 22.6).
use Rattle.std.specs.Prelude.{ℕ, suc, ◌+◌, ◌-◌, ◌*◌, ◌^◌, ◌≤◌, ◌<◌, ◌≡◌, true, false, List, length, get_or, take, replicate}
use Rattle.lists.specs.First.{has}
use Rattle.vectors.specs.declared.Kind.{Kind}
use Rattle.vectors.specs.declared.Variable.{Variable}
use Rattle.vectors.specs.Bounds.{max_variables}
use Rattle.vectors.specs.Variable.{kinds_of}
use Rattle.rows.specs.Care.{Care, weight_of}
use Rattle.rows.specs.Demand.{Falling, Once, Smallest, Bounded, tries_of, bound_of, Spread}
use Rattle.build.specs.Build.{rows_share, Outcome, cares_from, chosen_kinds, chosen_refusal, given_refusal}
use Rattle.build.specs.Built.{Refusal}
use Rattle.record.specs.Tables.{Tables}
use Rattle.unit.specs.Demand2.{ChosenBuild, GivenBuild}

-- the displacements h of the rows below `rows`, and the tries, with the vectors cs and the cells empty at the start
pub record Shifted (cs : List Care) (rows cells : ℕ) (h : List ℕ) (tries : ℕ) : Type 0 where
  -- the rows placed, the last first: heavier rows before lighter ones, of equals the lower number first, none twice (SCOPE 7.2)
  pub order : List ℕ
  pub falling : Falling cs order
  pub once : Once order
  -- they are the occupied rows
  pub only_occupied : (r : ℕ) → has r order ≡ true → (r < rows) × (0 < weight_of cs r)
  pub all_occupied : (r : ℕ) → r < rows → 0 < weight_of cs r → has r order ≡ true
  -- SCOPE 16.3: each displacement is the smallest that clears the rows placed before
  pub smallest : Smallest cs h (replicate cells 0) order
  -- SCOPE 16.3: and is bounded by the vectors of the row times those placed before
  pub bounded : Bounded cs h 0 order
  -- SCOPE 7.5: a row with no vector has displacement 0
  pub others_zero : (r : ℕ) → has r order ≡ false → get_or h r 0 ≡ 0
  -- SCOPE 16.5: the tries are the sum over the rows placed, and so they are bounded
  pub tries_are : tries ≡ tries_of h order
  pub tries_bounded : tries ≤ bound_of cs 0 order

-- the displacements that a build leaves
abbrev pub displacements : ℕ → Outcome → List ℕ
displacements n1 o = take (2 ^ n1) o.tables.h

-- an outcome, where r is what refusals 1 to 12 say of the call
pub record Demand3 (r : Refusal) (n1 : ℕ) (ks : List Kind) (cells allowance : ℕ) (vs : List ℕ) (o : Outcome) : Type 0 where
  pub shifted : o.built.refusal ≡ 0 → Shifted (cares_from 1 n1 ks vs) (2 ^ n1) cells (displacements n1 o) o.built.unit.tries
  -- SCOPE 16.4: in a list that is spread out no displacement is above k
  pub none_exceeds : o.built.refusal ≡ 0 → Spread (length vs) (cares_from 1 n1 ks vs) → (i : ℕ) → get_or (displacements n1 o) i 0 ≤ length vs
  -- SCOPE 16.4: and with k and the number of columns, or more, as cells, and k(k + 1) tries allowed, such a list is accepted once it is past 1 to 12
  pub always_fits : r.number ≡ 0 → Spread (length vs) (cares_from 1 n1 ks vs) → length vs + 2 ^ (length ks - n1) ≤ cells → length vs * suc (length vs) ≤ allowance
      → o.built.refusal ≡ 0

-- ---- over any build

abbrev pub Demand3Chosen : ChosenBuild → Type 0
Demand3Chosen build =
    (n degree cells allowance : ℕ) (vs : List ℕ) (t : Tables)
    → Demand3 (chosen_refusal n degree (chosen_kinds n degree vs) cells vs t) (rows_share (length (chosen_kinds n degree vs))) (chosen_kinds n degree vs) cells allowance vs (build n degree cells allowance vs t)

-- the caller's variables stand in 24 slots
abbrev pub Demand3Given : GivenBuild → Type 0
Demand3Given build =
    (n : ℕ) (variables : List Variable) (p n1 cells allowance : ℕ) (vs : List ℕ) (t : Tables) → length variables ≡ max_variables
    → Demand3 (given_refusal n p n1 (kinds_of (take p variables)) cells vs t) n1 (kinds_of (take p variables)) cells allowance vs (build n variables p n1 cells allowance vs t)
