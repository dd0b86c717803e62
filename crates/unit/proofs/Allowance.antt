-- An allowance of tries, of both builds. Assumes nothing.
use Prim.Native.Nat.{ℕ, ◌≤◌}
use native.Mathlib.Omega.{arith}
use mathlib.Core.List.{List}
use lib.ListN.{length, take}
use Rattle.vectors.specs.declared.Kind.{Kind}
use Rattle.vectors.specs.Variable.{kinds_of}
use Rattle.record.specs.Tables.{Tables}
use Rattle.build.specs.Built.{Refusal}
use Rattle.build.specs.Build.{rows_share, outcome, chosen_kinds, chosen_refusal, given_refusal, build_chosen, build_given}
use Rattle.build.proofs.Places.{chosen_small, given_small}
use Rattle.build.proofs.Allowed.{made_most, most_half, outcome_allowed, outcome_tries, outcome_raised}
use Rattle.unit.specs.Allowance.{Allowances, bound_for, AllowancesChosen, AllowancesGiven}

outcome_allowances : (r : Refusal) (n n1 : ℕ) (ks : List Kind) (cells : ℕ) (vs : List ℕ) (t : Tables) → r.number ≤ 12
    → Allowances (length vs) (bound_for n1 ks vs) (λ a. outcome r n n1 ks cells a vs t)
outcome_allowances r n n1 ks cells vs t low =
    record {
      raised = λ a b l h. outcome_raised r n n1 ks cells a vs t b l h;
      kept = λ a z. outcome_tries r n n1 ks cells a vs t z;
      bound_enough = λ a l. outcome_allowed r n n1 ks cells a vs t low (omega (arith, made_most n1 ks vs cells));
      half_enough = λ a l. outcome_allowed r n n1 ks cells a vs t low (omega (arith, made_most n1 ks vs cells, most_half n1 ks vs));
    }

pub chosen_allowances : AllowancesChosen build_chosen
unfolding build_chosen
chosen_allowances n degree cells vs t =
    let ks : List Kind = chosen_kinds n degree vs in
    outcome_allowances (chosen_refusal n degree ks cells vs t) n (rows_share (length ks)) ks cells vs t (chosen_small n degree vs cells t).number_low

pub given_allowances : AllowancesGiven build_given
unfolding build_given
given_allowances n variables p n1 cells vs t =
    outcome_allowances (given_refusal n p n1 (kinds_of (take p variables)) cells vs t) n n1 (kinds_of (take p variables)) cells vs t (given_small n variables p n1 vs cells t).number_low
