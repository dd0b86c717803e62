-- One outcome only (SCOPE 17.2): of every contract, and of demand 1 where a build refuses. Assumes nothing.
use Prim.Native.Nat.{ℕ, ◌<◌, ◌≤◌}
use mathlib.Core.Path.{◌≡◌, sym, ◌∙◌}
use mathlib.Core.List.{List}
use mathlib.Core.Logic.{◌⊎◌, inl, inr}
use lib.ListN.{length}
use Rattle.lists.proofs.Tests.{le_or_lt}
use Rattle.vectors.specs.declared.Variable.{Variable}
use Rattle.record.specs.Tables.{Tables}
use Rattle.build.specs.Build.{Outcome}
use Rattle.unit.specs.Demand2.{ChosenBuild, GivenBuild}
use Rattle.unit.specs.Demand1.{Cause, Demand1, Demand1Chosen, Demand1Given}

-- A contract equates the result and every lent word after a call with a definition of the arguments: two outcomes that meet it for the same arguments are equal.
-- f: `build_chosen`, `build_given`, `lookup_of` or `recover_of` at the arguments, or what any other contract equates its call with.
pub one_outcome : {A : Type 0} (f a b : A) → a ≡ f → b ≡ f → a ≡ b
one_outcome f a b p q = p ∙ sym q

-- ---- demand 1 fixes the outcome of a refused build, every word of it

-- the outcome with another number of cells needed
abbrev pub needing : ℕ → Outcome → Outcome
needing needed o =
    record { built = record { refusal = o.built.refusal; place = o.built.place; needed = needed; unit = o.built.unit }; tables = o.tables }

module _ (causes : List Cause) (n1 cells k : ℕ) (t : Tables) (o o' : Outcome) (d : Demand1 causes n1 cells k t o) (d' : Demand1 causes n1 cells k t o')
    (refused : 0 < o.built.refusal) where
  number_same : o.built.refusal ≡ o'.built.refusal
  number_same = (d.only o'.built.refusal o'.built.place d'.refusal).0

  place_same : o.built.place ≡ o'.built.place
  place_same = (d.only o'.built.refusal o'.built.place d'.refusal).1

  refused' : 0 < o'.built.refusal
  refused' = rw number_same at refused

  tables_same : o.tables ≡ o'.tables
  tables_same = go (le_or_lt 13 o.built.refusal)
    where
      go : (13 ≤ o.built.refusal) ⊎ (o.built.refusal < 13) → o.tables ≡ o'.tables
      go (inr l) = d.leaves.untouched refused l ∙ sym (d'.leaves.untouched refused' (rw number_same at l))
      go (inl l) = d.leaves.zeros l ∙ sym (d'.leaves.zeros (rw number_same at l))

  outcome_same : o ≡ needing o.built.needed o'
  outcome_same = λ i.
      record {
        built = record { refusal = number_same i; place = place_same i; needed = o.built.needed; unit = (d.leaves.blank refused ∙ sym (d'.leaves.blank refused')) i };
        tables = tables_same i;
      }

-- two builds that meet demand 1 refuse alike, but that demand does not say how many cells are needed beside 13
pub chosen_refused_one : (build build' : ChosenBuild) → Demand1Chosen build → Demand1Chosen build' → (n degree cells a : ℕ) (vs : List ℕ) (t : Tables)
    → 0 < (build n degree cells a vs t).built.refusal → build n degree cells a vs t ≡ needing (build n degree cells a vs t).built.needed (build' n degree cells a vs t)
chosen_refused_one build build' d d' n degree cells a vs t r = outcome_same _ _ cells (length vs) t _ _ (d n degree cells a vs t) (d' n degree cells a vs t) r

pub given_refused_one : (build build' : GivenBuild) → Demand1Given build → Demand1Given build' → (n : ℕ) (variables : List Variable) (p n1 cells a : ℕ) (vs : List ℕ) (t : Tables)
    → 0 < (build n variables p n1 cells a vs t).built.refusal
    → build n variables p n1 cells a vs t ≡ needing (build n variables p n1 cells a vs t).built.needed (build' n variables p n1 cells a vs t)
given_refused_one build build' d d' n variables p n1 cells a vs t r =
    outcome_same _ n1 cells (length vs) t _ _ (d n variables p n1 cells a vs t) (d' n variables p n1 cells a vs t) r
