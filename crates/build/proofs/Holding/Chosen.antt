-- The variables that the rule chooses: few, none faulty, none an XOR of earlier ones. Assumes nothing.
use Prim.Native.Nat.{ℕ, zero, suc, ◌^◌, ◌≤◌, ◌<◌}
use native.Mathlib.Omega.{arith}
use mathlib.Core.Path.{◌≡◌, refl}
use mathlib.Core.Bool.{false}
use mathlib.Core.List.{List, [], ◌∷◌, ◌++◌}
use lib.ListN.{length, get_or, take}
use lib.Seq.{take-suc, take-length}
use Rattle.lists.specs.First.{first_of, repeated}
use Rattle.lists.specs.Members.{All}
use Rattle.lists.proofs.Entries.Members.{get_d_in}
use Rattle.lists.proofs.Entries.Alls.{at_all}
use Rattle.vectors.specs.declared.Kind.{Kind}
use Rattle.vectors.specs.declared.Kind.TheVariants.{One}
use Rattle.vectors.specs.Variable.{faulty}
use Rattle.choice.specs.Choice.{candidates, choose_in, choose}
use Rattle.span.specs.Span.{first_dependent}
use Rattle.choice.proofs.Choice.Independent.{lowers_independent}
use Rattle.choice.proofs.Choice.Pairs.{repeated_pairs}
use Rattle.choice.proofs.Choice.Candidates.{candidates_some, candidate_sound}
use Rattle.choice.proofs.Choice.Steps.{choice_few, choice_least, choice_falls}

module _ (most n degree : ℕ) (vs : List ℕ) where
  -- at most so many are taken
  pub choose_few : length (choose most n degree vs) ≤ most
  unfolding choose
  choose_few = choice_few (candidates n degree) vs most

  module _ (some : 0 < n) where
    -- none is faulty
    pub choose_right : All (λ k. faulty n k ≡ false) (choose most n degree vs)
    unfolding choose
    choose_right = at_all (λ k. faulty n k ≡ false) (choose_in most cs vs []) (One 0) each
      where
        cs : List Kind
        cs = candidates n degree

        each : (i : ℕ) → i < length (choose_in most cs vs []) → faulty n (get_or (choose_in most cs vs []) i (One 0)) ≡ false
        each i h =
            let l = choice_least most cs vs (candidates_some n degree some) i h in
            rw (← l.is) (candidate_sound n degree _ (get_d_in cs l.at (One 0) l.below))

    -- SCOPE 4.6: the pairs left fall with every step, so no variable is an XOR of those before
    pub choose_independent : All (λ v. v < 2 ^ n) vs → repeated vs ≡ 0 → first_dependent (choose most n degree vs) ≡ 0
    unfolding choose
    choose_independent low differ = rw (take-length ks) at (upto (length ks) (omega arith))
      where
        ks : List Kind
        ks = choose_in most (candidates n degree) vs []

        upto : (i : ℕ) → i ≤ length ks → first_dependent (take i ks) ≡ 0
        upto zero h = unfold first_dependent first_of in refl
        upto (suc i) h =
            let e : take (suc i) ks ≡ take i ks ++ (get_or ks i (One 0) ∷ []) = take-suc ks i (One 0) h in
            rw e (lowers_independent vs (take i ks) (get_or ks i (One 0)) (upto i (omega arith)) (rw e at (choice_falls most n degree vs some low (repeated_pairs vs differ) i h)))
