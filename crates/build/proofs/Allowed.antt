-- Builds with an allowance of tries: when one is refused by 41, and what another allowance alters. Assumes nothing.
use Prim.Native.Nat.{ℕ, suc, ◌*◌, ◌^◌, ◌≤◌, ◌<◌}
use native.Mathlib.Omega.{arith}
use mathlib.Core.Path.{◌≡◌, sym, ap, ◌∙◌}
use mathlib.Core.List.{List}
use lib.ListN.{length, replicate, length-replicate}
use Rattle.vectors.specs.declared.Kind.{Kind}
use Rattle.vectors.specs.Variable.{row_of, column_of}
use Rattle.rows.specs.Demand.{filled}
use Rattle.rows.specs.Allowance.{tries_made, most_tries}
use Rattle.rows.proofs.Fits.Cells.{cares_length}
use Rattle.rows.proofs.Fits.Filled.{filled_blank}
use Rattle.rows.proofs.Placing.Allowed.{within_same, within_over, within_all, within_stuck}
use Rattle.rows.proofs.Placing.Most.{most_tries_lem, most_small}
use Rattle.record.specs.Record.{record_of}
use Rattle.record.specs.Tables.{Tables}
use Rattle.build.specs.Built.{Refusal}
use Rattle.build.specs.Build.{Outcome, cares_from, placing_of, outcome}
use Rattle.build.proofs.Refusing.Ladder.{outcome_refused, outcome_passed}
use Rattle.build.proofs.Holding.Ends.{placing_over, finish_all, finish_stuck, finish_over, Comes, early, whole, stuck, over, comes, outcome_accepted}

-- ---- the most tries

module _ (n1 : ℕ) (ks : List Kind) (vs : List ℕ) where
  -- the most that a placing of the list can make
  abbrev pub most_of : ℕ
  most_of = most_tries (cares_from 1 n1 ks vs) (2 ^ n1) 0

  pub made_most : (cells : ℕ) → tries_made (placing_of n1 ks cells vs) ≤ most_of
  unfolding placing_of
  made_most cells =
      let e : most_tries (cares_from 1 n1 ks vs) (length (replicate {A = ℕ} (2 ^ n1) 0)) (filled (replicate cells 0)) ≡ most_of = rw (length-replicate (2 ^ n1), filled_blank cells) in
      omega (arith, most_tries_lem (cares_from 1 n1 ks vs) (replicate (2 ^ n1) 0) (replicate cells 0))

  -- which is at most half of k(k + 1)
  pub most_half : 2 * most_of ≤ length vs * suc (length vs)
  unfolding cares_from
  most_half =
      let m = rw (cares_length (row_of n1 ks) (column_of n1 ks) 1 vs) at (most_small (cares_from 1 n1 ks vs) (2 ^ n1) 0) in
      omega arith

-- ---- the outcome

module _ (r : Refusal) (n n1 : ℕ) (ks : List Kind) (cells a : ℕ) (vs : List ℕ) (t : Tables) where
  -- past refusals 1 to 12 it is refused by 41 where more tries would be made
  pub outcome_over : r.number ≡ 0 → a < tries_made (placing_of n1 ks cells vs) → (outcome r n n1 ks cells a vs t).built.refusal ≡ 41
  outcome_over z l =
      ap (λ (o : Outcome). o.built.refusal) (outcome_passed r n n1 ks cells a vs t z ∙ finish_over n n1 ks cells a vs t _ (within_over a (placing_of n1 ks cells vs) l))

  -- and where no more are made it is not
  pub outcome_allowed : r.number ≤ 12 → tries_made (placing_of n1 ks cells vs) ≤ a → (outcome r n n1 ks cells a vs t).built.refusal ≡ 41 → ⊥
  outcome_allowed low l h = go (comes n n1 ks cells a vs t r)
    where
      number : Outcome → ℕ
      number o = o.built.refusal

      go : Comes n n1 ks cells a vs t r → ⊥
      go (early k e) = omega (arith, ap number e)
      go (whole z q e) = omega (arith, ap number e)
      go (stuck z row tried needed q e) = omega (arith, ap number e)
      go (over z row q e) = placing_over n1 ks cells vs row (sym (within_same a (placing_of n1 ks cells vs) l) ∙ q)

  -- the tries of an accepted build are allowed
  pub outcome_tries : (outcome r n n1 ks cells a vs t).built.refusal ≡ 0 → (outcome r n n1 ks cells a vs t).built.unit.tries ≤ a
  unfolding record_of
  outcome_tries h = let e = outcome_accepted n n1 ks cells a vs t r h in rw e.is e.within

  -- a larger allowance alters nothing but 41
  pub outcome_raised : (b : ℕ) → a ≤ b → ((outcome r n n1 ks cells a vs t).built.refusal ≡ 41 → ⊥) → outcome r n n1 ks cells b vs t ≡ outcome r n n1 ks cells a vs t
  outcome_raised b l n41 = go (comes n n1 ks cells a vs t r)
    where
      go : Comes n n1 ks cells a vs t r → outcome r n n1 ks cells b vs t ≡ outcome r n n1 ks cells a vs t
      go (early k e) = outcome_refused r n n1 ks cells b vs t (λ z. omega arith) ∙ sym e
      go (whole z q e) =
          let P = placing_of n1 ks cells vs in
          let w = within_all a P q in
          let m = w.made in
          outcome_passed r n n1 ks cells b vs t z ∙ finish_all n n1 ks cells b vs t (within_same b P (omega arith) ∙ w.is) ∙ sym e
      go (stuck z row tried needed q e) =
          let P = placing_of n1 ks cells vs in
          let w = within_stuck a P row tried needed q in
          let m = w.made in
          outcome_passed r n n1 ks cells b vs t z ∙ finish_stuck n n1 ks cells b vs t row tried needed (within_same b P (omega arith) ∙ w.is) ∙ sym e
      go (over z row q e) = absurd (n41 (ap (λ (o : Outcome). o.built.refusal) e))
