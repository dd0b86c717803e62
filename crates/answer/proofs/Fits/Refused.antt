-- The program's allowance is never exceeded, so that the number of a refusal is at most 13. Assumes nothing.
use Prim.Native.Nat.{ℕ, suc, ◌*◌, ◌≤◌}
use native.Mathlib.Nat.{mul-le-mul}
use native.Mathlib.Omega.{arith}
use mathlib.Core.Path.{◌≡◌, sym, ◌∙◌}
use mathlib.Core.List.{List}
use lib.ListN.{length}
use Rattle.vectors.specs.declared.Kind.{Kind}
use Rattle.vectors.specs.Bounds.{max_vectors}
use Rattle.rows.specs.Allowance.{tries_made}
use Rattle.rows.proofs.Placing.Allowed.{within_same}
use Rattle.record.specs.Tables.{Tables}
use Rattle.build.specs.Built.{Refusal}
use Rattle.build.specs.Build.{rows_share, placing_of, outcome, chosen_kinds, chosen_refusal, build_chosen}
use Rattle.build.proofs.Places.{chosen_small}
use Rattle.build.proofs.Holding.Passed.{chosen_passed}
use Rattle.build.proofs.Holding.Ends.{Comes, early, whole, stuck, over, comes, placing_over}
use Rattle.build.proofs.Allowed.{made_most, most_half}
use Rattle.answer.specs.Make.{program_allowance}

-- no list of so many vectors makes more tries
allowed : (n1 : ℕ) (ks : List Kind) (cells : ℕ) (vs : List ℕ) → length vs ≤ max_vectors → tries_made (placing_of n1 ks cells vs) ≤ program_allowance
allowed n1 ks cells vs few =
    let k : ℕ = length vs in
    let l : suc k ≤ suc max_vectors = omega arith in
    let m : k * suc k ≤ max_vectors * suc max_vectors = mul-le-mul few l in
    omega (arith, made_most n1 ks vs cells, most_half n1 ks vs)

outcome_low : (r : Refusal) (n n1 : ℕ) (ks : List Kind) (cells a : ℕ) (vs : List ℕ) (t : Tables) → r.number ≤ 12 → (r.number ≡ 0 → tries_made (placing_of n1 ks cells vs) ≤ a)
    → (outcome r n n1 ks cells a vs t).built.refusal ≤ 13
outcome_low r n n1 ks cells a vs t h l = go (comes n n1 ks cells a vs t r)
  where
    go : Comes n n1 ks cells a vs t r → (outcome r n n1 ks cells a vs t).built.refusal ≤ 13
    go (early k e) = rw e (omega arith)
    go (whole z q e) = rw e (omega arith)
    go (stuck z row tried needed q e) = rw e (omega arith)
    go (over z row q e) = absurd (placing_over n1 ks cells vs row (sym (within_same a (placing_of n1 ks cells vs) (l z)) ∙ q))

pub chosen_number : (n degree cells : ℕ) (vs : List ℕ) (t : Tables) → (build_chosen n degree cells program_allowance vs t).built.refusal ≤ 13
unfolding build_chosen
chosen_number n degree cells vs t =
    let ks : List Kind = chosen_kinds n degree vs in
    outcome_low (chosen_refusal n degree ks cells vs t) n (rows_share (length ks)) ks cells program_allowance vs t (chosen_small n degree vs cells t).number_low
    (λ z. allowed (rows_share (length ks)) ks cells vs (chosen_passed n degree cells vs t z).list.listed.few)
