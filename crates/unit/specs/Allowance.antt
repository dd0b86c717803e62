-- An allowance of tries (SCOPE 16.9 to 16.11), a predicate over any build.
use Rattle.std.specs.Prelude.{ℕ, suc, ◌*◌, ◌^◌, ◌≤◌, ◌≡◌, List, length, take}
use Rattle.vectors.specs.declared.Kind.{Kind}
use Rattle.vectors.specs.declared.Variable.{Variable}
use Rattle.vectors.specs.Variable.{kinds_of}
use Rattle.rows.specs.Allowance.{most_tries}
use Rattle.record.specs.Tables.{Tables}
use Rattle.build.specs.Build.{rows_share, Outcome, cares_from, chosen_kinds}
use Rattle.unit.specs.Demand2.{ChosenBuild, GivenBuild}

-- the outcomes of a build by its allowance; k: the vectors; most: the bound of demand 3 for the tries of the list
pub record Allowances (k most : ℕ) (build : ℕ → Outcome) : Type 0 where
  -- SCOPE 16.9: a larger one alters no result but refusal 41
  pub raised : (a b : ℕ) → a ≤ b → ((build a).built.refusal ≡ 41 → ⊥) → build b ≡ build a
  -- SCOPE 16.10: the tries of an accepted build are no more than are allowed
  pub kept : (a : ℕ) → (build a).built.refusal ≡ 0 → (build a).built.unit.tries ≤ a
  -- SCOPE 16.11: the bound of demand 3 is enough for every list, and so is half of k(k + 1)
  pub bound_enough : (a : ℕ) → most ≤ a → (build a).built.refusal ≡ 41 → ⊥
  pub half_enough : (a : ℕ) → k * suc k ≤ 2 * a → (build a).built.refusal ≡ 41 → ⊥

-- the bound of demand 3 for the tries: of each occupied row the displacement's bound and one more, summed
abbrev pub bound_for : ℕ → List Kind → List ℕ → ℕ
bound_for n1 ks vs = most_tries (cares_from 1 n1 ks vs) (2 ^ n1) 0

-- ---- over any build

abbrev pub AllowancesChosen : ChosenBuild → Type 0
AllowancesChosen build =
    (n degree cells : ℕ) (vs : List ℕ) (t : Tables)
    → let ks = chosen_kinds n degree vs in Allowances (length vs) (bound_for (rows_share (length ks)) ks vs) (λ a. build n degree cells a vs t)

abbrev pub AllowancesGiven : GivenBuild → Type 0
AllowancesGiven build =
    (n : ℕ) (variables : List Variable) (p n1 cells : ℕ) (vs : List ℕ) (t : Tables)
    → Allowances (length vs) (bound_for n1 (kinds_of (take p variables)) vs) (λ a. build n variables p n1 cells a vs t)
