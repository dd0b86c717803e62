-- An accepted build leaves a unit that holds the list, whose record has the list's width. Assumes nothing.
use Prim.Native.Nat.{ℕ}
use mathlib.Core.Path.{◌≡◌}
use mathlib.Core.List.{List}
use lib.ListN.{length, take}
use Rattle.vectors.specs.declared.Kind.{Kind}
use Rattle.vectors.specs.declared.Variable.{Variable}
use Rattle.vectors.specs.Variable.{kinds_of}
use Rattle.vectors.specs.Bounds.{max_variables}
use Rattle.build.specs.Build.{rows_share, Outcome, outcome, chosen_refusal, build_chosen, given_refusal, build_given, chosen_kinds}
use Rattle.record.specs.Record.{record_of}
use Rattle.build.specs.Built.{Refusal}
use Rattle.record.specs.Tables.{Tables}
use Rattle.record.specs.Holds.{Holds}
use Rattle.build.proofs.Holding.Passed.{Passed, chosen_passed, given_passed}
use Rattle.build.proofs.Holding.Ends.{outcome_accepted}
use Rattle.build.proofs.Holding.Built.{accepted_holds}

outcome_width : (r : Refusal) (n n1 : ℕ) (ks : List Kind) (cells a : ℕ) (vs : List ℕ) (t : Tables) → (outcome r n n1 ks cells a vs t).built.refusal ≡ 0 → (outcome r n n1 ks cells a vs t).built.unit.n ≡ n
unfolding record_of
outcome_width r n n1 ks cells a vs t z = rw (outcome_accepted n n1 ks cells a vs t r z).is

module _ (r : Refusal) (n n1 : ℕ) (second : Refusal) (ks : List Kind) (cells a : ℕ) (vs : List ℕ) (t : Tables)
    (pass : r.number ≡ 0 → Passed n n1 second ks cells vs t) where
  abbrev o : Outcome
  o = outcome r n n1 ks cells a vs t

  outcome_holds : o.built.refusal ≡ 0 → Holds o.built.unit o.tables vs
  outcome_holds z =
      let e = outcome_accepted n n1 ks cells a vs t r z in
      rw e.is (accepted_holds n n1 second ks cells vs t (pass e.passed) e.placed)

-- ---- an accepted build leaves a unit that holds the list

pub chosen_holds : (n degree cells a : ℕ) (vs : List ℕ) (t : Tables) → (build_chosen n degree cells a vs t).built.refusal ≡ 0
    → Holds (build_chosen n degree cells a vs t).built.unit (build_chosen n degree cells a vs t).tables vs
unfolding build_chosen
chosen_holds n degree cells a vs t =
    outcome_holds (chosen_refusal n degree (chosen_kinds n degree vs) cells vs t) n (rows_share (length (chosen_kinds n degree vs))) _ (chosen_kinds n degree vs) cells a vs t
    (chosen_passed n degree cells vs t)

pub given_holds : (n : ℕ) (variables : List Variable) (p n1 cells a : ℕ) (vs : List ℕ) (t : Tables) → length variables ≡ max_variables
    → (build_given n variables p n1 cells a vs t).built.refusal ≡ 0
    → Holds (build_given n variables p n1 cells a vs t).built.unit (build_given n variables p n1 cells a vs t).tables vs
unfolding build_given
given_holds n variables p n1 cells a vs t places =
    outcome_holds (given_refusal n p n1 (kinds_of (take p variables)) cells vs t) n n1 _ (kinds_of (take p variables)) cells a vs t
    (given_passed n variables p n1 cells vs t places)

-- .. whose record has the list's width
pub chosen_width : (n degree cells a : ℕ) (vs : List ℕ) (t : Tables) → (build_chosen n degree cells a vs t).built.refusal ≡ 0 → (build_chosen n degree cells a vs t).built.unit.n ≡ n
unfolding build_chosen
chosen_width n degree cells a vs t =
    outcome_width (chosen_refusal n degree (chosen_kinds n degree vs) cells vs t) n (rows_share (length (chosen_kinds n degree vs))) (chosen_kinds n degree vs) cells a vs t

pub given_width : (n : ℕ) (variables : List Variable) (p n1 cells a : ℕ) (vs : List ℕ) (t : Tables) → (build_given n variables p n1 cells a vs t).built.refusal ≡ 0
    → (build_given n variables p n1 cells a vs t).built.unit.n ≡ n
unfolding build_given
given_width n variables p n1 cells a vs t =
    outcome_width (given_refusal n p n1 (kinds_of (take p variables)) cells vs t) n n1 (kinds_of (take p variables)) cells a vs t
