-- Demand 1, of both builds. Assumes nothing.
use Prim.Native.Nat.{ℕ, ◌≤◌}
use native.Mathlib.Omega.{arith}
use mathlib.Core.Path.{◌≡◌, refl, sym, ap, ◌∙◌}
use mathlib.Core.List.{List, [], ◌∷◌, ◌++◌}
use lib.ListN.{length, take}
use Rattle.vectors.specs.declared.Kind.{Kind}
use Rattle.vectors.specs.Variable.{kinds_of}
use Rattle.rows.specs.End.{End}
use Rattle.rows.specs.End as ends
use Rattle.rows.specs.Place.{Placing}
use Rattle.rows.specs.Allowance.{tries_made, end_within}
use Rattle.rows.proofs.Placing.Allowed.{within_all, within_stuck}
use Rattle.record.specs.Tables.{Tables}
use Rattle.build.specs.Built.{Refusal}
use Rattle.build.specs.Refusals.{accepted, or_else, ladder, list_checks, given_checks, check2_chosen, check2_given, check11, check12}
use Rattle.build.specs.Build.{rows_share, placing_of, outcome, chosen_kinds, chosen_refusal, given_refusal, build_chosen, build_given}
use Rattle.build.proofs.Refusing.Ladder.{ladder_append, or_given, or_passed, refusal_of}
use Rattle.build.proofs.Places.{chosen_small, given_small}
use Rattle.build.proofs.Holding.Ends.{placing_ends, placing_over, placing_fit, Comes, early, whole, stuck, over, comes}
use Rattle.unit.specs.Demand1.{Cause, Gives, cause, WrongDegree, TooMany, PairLeft, FewRows, Stuck, Over, list_causes, variable_causes, Leaves, Demand1, Demand1Chosen, Demand1Given}
use Rattle.unit.proofs.Demand1.Ladder.{Answers, AnswersAll, answers_append, ladder_gives, answers_one, gives_one}
use Rattle.unit.proofs.Demand1.Checks.{list_chosen, list_given, given_answers, pair_answers, rows_answers}
use Rattle.unit.proofs.Demand1.Stuck.{no_fit_stuck, all_stuck, stuck_same}
use Rattle.unit.proofs.Demand1.Over.{exceeded_over, within_over, over_same}

-- the refusals that an end of the placing makes
abbrev over_at : End → Refusal
over_at ends.All = accepted
over_at (ends.NoFit row tried needed) = accepted
over_at (ends.Over row) = record { number = 41; place = row }
over_at ends.Unfit = accepted

abbrev stuck_at : End → Refusal
stuck_at ends.All = accepted
stuck_at (ends.NoFit row tried needed) = record { number = 13; place = row }
stuck_at (ends.Over row) = accepted
stuck_at ends.Unfit = accepted

module _ (n n1 : ℕ) (ks : List Kind) (cells allowance : ℕ) (vs : List ℕ) (t : Tables) where
  abbrev P : Placing
  P = placing_of n1 ks cells vs

  -- 41 by the end with the allowance, 13 by the end without one
  abbrev lasts : List Refusal
  lasts = over_at (end_within allowance P) ∷ stuck_at P.end ∷ []

  -- ---- what a refused outcome leaves

  outcome_leaves : (r : Refusal) → r.number ≤ 12 → Leaves n1 cells (length vs) t (outcome r n n1 ks cells allowance vs t)
  outcome_leaves r low = go (comes n n1 ks cells allowance vs t r)
    where
      go : Comes n n1 ks cells allowance vs t r → Leaves n1 cells (length vs) t (outcome r n n1 ks cells allowance vs t)
      go (early l e) = rw e (record { blank = λ p. refl; none_needed = λ p. refl; untouched = λ p b. refl; zeros = λ z. absurd (omega arith) })
      go (whole z q e) =
          rw e (record { blank = λ p. absurd (omega arith); none_needed = λ p. refl; untouched = λ p b. absurd (omega arith); zeros = λ p. absurd (omega arith) })
      go (stuck z row tried needed q e) = rw e (record { blank = λ p. refl; none_needed = λ p. absurd (p refl); untouched = λ p b. absurd (omega arith); zeros = λ p. refl })
      go (over z row q e) = rw e (record { blank = λ p. refl; none_needed = λ p. refl; untouched = λ p b. absurd (omega arith); zeros = λ p. refl })

  -- ---- the refusal given

  outcome_refusal : (r : Refusal) → refusal_of (outcome r n n1 ks cells allowance vs t) ≡ or_else r.number r (ladder lasts)
  unfolding ladder
  outcome_refusal r = go (comes n n1 ks cells allowance vs t r)
    where
      go : Comes n n1 ks cells allowance vs t r → refusal_of (outcome r n n1 ks cells allowance vs t) ≡ or_else r.number r (ladder lasts)
      go (early l e) = ap refusal_of e ∙ sym (or_given r (ladder lasts) (λ z. omega arith))
      go (whole z q e) = ap refusal_of e ∙ sym (or_passed r (ladder lasts) z ∙ rw (q, (within_all allowance P q).is))
      go (stuck z row tried needed q e) = ap refusal_of e ∙ sym (or_passed r (ladder lasts) z ∙ rw (q, (within_stuck allowance P row tried needed q).is))
      go (over z row q e) = ap refusal_of e ∙ sym (or_passed r (ladder lasts) z ∙ rw q)

  -- the checks, and the placing after them
  outcome_ladder : (rs : List Refusal) → refusal_of (outcome (ladder rs) n n1 ks cells allowance vs t) ≡ ladder (rs ++ lasts)
  outcome_ladder rs = outcome_refusal (ladder rs) ∙ sym (ladder_append rs lasts)

  abbrev cause41 : Cause
  cause41 = record { number = 41; at = Over n1 ks cells allowance vs }

  abbrev cause13 : Cause
  cause13 = record { number = 13; at = Stuck n1 ks cells vs }

  -- 41 answers for its cause
  over_answers : Answers (over_at (end_within allowance P)) cause41
  over_answers = go (end_within allowance P) refl
    where
      same : (p q : ℕ) → Over n1 ks cells allowance vs p → Over n1 ks cells allowance vs q → p ≡ q
      same = over_same n1 ks cells allowance vs

      none : tries_made P ≤ allowance → Answers accepted cause41
      none l = record { none = λ z. within_over n1 ks cells allowance vs l; some = λ h. absurd (h refl); one = same }

      go : (e : End) → end_within allowance P ≡ e → Answers (over_at (end_within allowance P)) cause41
      go ends.All q = rw q (none (within_all allowance P q).made)
      go (ends.NoFit row tried needed) q = rw q (none (within_stuck allowance P row tried needed q).made)
      go (ends.Over row) q =
          rw q (record { none = λ z r a. absurd (omega arith); some = λ h. (refl, exceeded_over n1 ks cells allowance vs row q); one = same })
      go ends.Unfit q = absurd (placing_ends n1 ks cells vs allowance q)

  -- 13 answers for its cause
  stuck_answers : Answers (stuck_at P.end) cause13
  stuck_answers = go P.end refl
    where
      go : (e : End) → P.end ≡ e → Answers (stuck_at P.end) cause13
      go ends.All q = rw q (record { none = λ z. all_stuck n1 ks cells vs q; some = λ h. absurd (h refl); one = stuck_same n1 ks cells vs })
      go (ends.NoFit row tried needed) q =
          rw q (record { none = λ z r a. absurd (omega arith); some = λ h. (refl, no_fit_stuck n1 ks cells vs row tried needed q); one = stuck_same n1 ks cells vs })
      go (ends.Over row) q = absurd (placing_over n1 ks cells vs row q)
      go ends.Unfit q = absurd (placing_fit n1 ks cells vs q)

  -- the checks answer for the causes, and so the outcome meets demand 1
  outcome_demand_1 : (rs : List Refusal) (cs : List Cause) → (ladder rs).number ≤ 12 → AnswersAll rs cs
      → Demand1 (cs ++ (cause41 ∷ cause13 ∷ [])) n1 cells (length vs) t (outcome (ladder rs) n n1 ks cells allowance vs t)
  outcome_demand_1 rs cs low a =
      let o = outcome (ladder rs) n n1 ks cells allowance vs t in
      let all : List Cause = cs ++ (cause41 ∷ cause13 ∷ []) in
      let b : AnswersAll (rs ++ lasts) all = answers_append rs cs lasts (cause41 ∷ cause13 ∷ []) a (over_answers, (stuck_answers, tt)) in
      let g : Gives all o.built.refusal o.built.place = rw (← outcome_ladder rs) at (ladder_gives (rs ++ lasts) all b) in
      record {
        refusal = g;
        only = λ number place h. gives_one all (answers_one (rs ++ lasts) all b) _ _ number place g h;
        leaves = outcome_leaves (ladder rs) low;
      }

-- ---- the builds

pub chosen_demand_1 : Demand1Chosen build_chosen
unfolding build_chosen chosen_refusal
chosen_demand_1 n degree cells allowance vs t =
    let ks : List Kind = chosen_kinds n degree vs in
    let n1 : ℕ = rows_share (length ks) in
    let list : List Refusal = list_checks n (check2_chosen degree) cells vs (length t.g) (length t.aux) in
    let own : List Cause = cause 11 (PairLeft ks vs) ∷ cause 12 (FewRows n1 t) ∷ [] in
    outcome_demand_1 n n1 ks cells allowance vs t (list ++ (check11 ks vs ∷ check12 n1 t.h ∷ [])) (list_causes n (WrongDegree degree) cells vs t ++ own)
    (chosen_small n degree vs cells t).number_low
    (answers_append list (list_causes n (WrongDegree degree) cells vs t) (check11 ks vs ∷ check12 n1 t.h ∷ []) own
    (list_chosen n degree cells vs t) (pair_answers n degree vs, (rows_answers n1 t, tt)))

pub given_demand_1 : Demand1Given build_given
unfolding build_given given_refusal
given_demand_1 n variables p n1 cells allowance vs t =
    let ks : List Kind = kinds_of (take p variables) in
    let list : List Refusal = list_checks n (check2_given p n1) cells vs (length t.g) (length t.aux) in
    let checks : List Refusal = given_checks n ks vs ++ (check12 n1 t.h ∷ []) in
    let own : List Cause = variable_causes n ks vs ++ (cause 12 (FewRows n1 t) ∷ []) in
    let b : AnswersAll checks own =
    answers_append (given_checks n ks vs) (variable_causes n ks vs) (check12 n1 t.h ∷ []) (cause 12 (FewRows n1 t) ∷ []) (given_answers n ks vs) (rows_answers n1 t, tt) in
    outcome_demand_1 n n1 ks cells allowance vs t (list ++ checks) (list_causes n (TooMany p n1) cells vs t ++ own)
    (given_small n variables p n1 vs cells t).number_low
    (answers_append list (list_causes n (TooMany p n1) cells vs t) checks own (list_given n p n1 cells vs t) b)
