-- The excess is never negative, of both builds: k vectors that p variables tell apart have k different numbers below 2^p. Assumes nothing.
use Prim.Native.Nat.{ℕ, ◌^◌, ◌≤◌, ◌<◌}
use mathlib.Core.Path.{◌≡◌}
use mathlib.Core.List.{List, map}
use lib.ListN.{length, take, length-map}
use Rattle.lists.specs.First.{repeated}
use Rattle.lists.proofs.Entries.Alls.{at_all, all_map}
use Rattle.lists.proofs.Counting.{different_few}
use Rattle.vectors.specs.declared.Kind.{Kind}
use Rattle.vectors.specs.Variable.{number_of, kinds_of}
use Rattle.vectors.proofs.Variables.Numbers.{number_lt}
use Rattle.record.specs.Record.{record_of}
use Rattle.record.specs.Tables.{Tables}
use Rattle.record.proofs.Excesses.{excess_not_negative}
use Rattle.build.specs.Built.{Refusal}
use Rattle.build.specs.Build.{rows_share, outcome, chosen_refusal, build_chosen, given_refusal, build_given, chosen_kinds}
use Rattle.build.proofs.Holding.Ends.{outcome_accepted}
use Rattle.build.proofs.Holding.Passed.{Passed, chosen_passed, given_passed}
use Rattle.unit.specs.Excess.{NotNegative, ExcessChosen, ExcessGiven}

-- SCOPE 8.6: variables that tell the vectors apart have a number for each of them
pub apart_few : (ks : List Kind) (vs : List ℕ) → repeated (map (number_of ks) vs) ≡ 0 → length vs ≤ 2 ^ length ks
apart_few ks vs e =
    rw (length-map vs (number_of ks)) at
    (different_few (2 ^ length ks) (map (number_of ks) vs)
    (all_map (λ x. x < 2 ^ length ks) (number_of ks) vs (at_all (λ v. number_of ks v < 2 ^ length ks) vs 0 (λ i h. number_lt ks _)))
    e)

outcome_excess : (r : Refusal) (n n1 : ℕ) (second : Refusal) (ks : List Kind) (cells a : ℕ) (vs : List ℕ) (t : Tables)
    → (r.number ≡ 0 → Passed n n1 second ks cells vs t) → NotNegative (outcome r n n1 ks cells a vs t)
unfolding record_of
outcome_excess r n n1 second ks cells a vs t pass z =
    let e = outcome_accepted n n1 ks cells a vs t r z in
    rw e.is (excess_not_negative (length ks) (length vs) (apart_few ks vs (pass e.passed).apart))

pub chosen_excess : ExcessChosen build_chosen
unfolding build_chosen
chosen_excess n degree cells a vs t =
    outcome_excess (chosen_refusal n degree (chosen_kinds n degree vs) cells vs t) n (rows_share (length (chosen_kinds n degree vs))) _ (chosen_kinds n degree vs) cells a vs t
    (chosen_passed n degree cells vs t)

pub given_excess : ExcessGiven build_given
unfolding build_given
given_excess n variables p n1 cells a vs t slots =
    outcome_excess (given_refusal n p n1 (kinds_of (take p variables)) cells vs t) n n1 _ (kinds_of (take p variables)) cells a vs t
    (given_passed n variables p n1 cells vs t slots)
