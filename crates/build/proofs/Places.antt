-- The number and the place beside a build's refusal are small, and so are the cells needed. Assumes nothing.
use Prim.Native.Nat.{ℕ, zero, suc, ◌-◌, ◌^◌, ◌≤◌, ◌<◌}
use native.Mathlib.Omega.{arith}
use native.Mathlib.Nat.{lt_of_lt_of_le}
use mathlib.Core.Path.{◌≡◌}
use mathlib.Core.Bool.{Bool, true, false, not, ◌||◌}
use mathlib.Core.List.{List, [], ◌∷◌, ◌++◌, map}
use lib.Dec.{leb, ltb}
use lib.ListN.{length, take, length-map, length-take, replicate, length-replicate}
use lib.Pow.{pow_mono}
use Rattle.lists.specs.First.{first_of, has, repeated}
use Rattle.lists.specs.Members.{All}
use Rattle.lists.proofs.Finding.Firsts.{first_length}
use Rattle.vectors.specs.declared.Kind.{Kind}
use Rattle.vectors.specs.declared.Variable.{Variable}
use Rattle.vectors.specs.Bounds.{max_inputs, max_vectors, max_cells, max_variables, max_side, outside, too_many}
use Rattle.vectors.specs.Variable.{number_of, mask_of, kinds_of, faulty}
use Rattle.choice.specs.Choice.{apart, choose}
use Rattle.span.specs.Span.{spans, first_dependent}
use Rattle.rows.specs.Allowance.{end_within}
use Rattle.rows.specs.End.{NoFit, Over}
use Rattle.rows.proofs.Placing.Turns.{ended}
use Rattle.rows.proofs.Placing.Allowed.{within_stuck}
use Rattle.rows.proofs.Placing.Within.{over_in}
use Rattle.rows.proofs.Placing.Wider.{stuck_low}
use Rattle.record.specs.Tables.{Tables}
use Rattle.record.proofs.Formed.{inside, few}
use Rattle.build.specs.Built.{Refusal}
use Rattle.build.specs.Refusals.{accepted, refuse_if, refuse_at, ladder, list_checks, given_checks, check1, check2_chosen, check2_given, check3, check4, check5, check6, check7, check8, check9, check10, check11, check12}
use Rattle.build.specs.Build.{rows_share, chosen_kinds, chosen_refusal, given_refusal, cares_from, placing_of, outcome, build_chosen, build_given}
use Rattle.build.specs.Cells.{needed_limit}
use Rattle.build.proofs.Refusing.Ladder.{ladder_more, ladder_all, if_passed}
use Rattle.build.proofs.Holding.Ends.{Comes, early, whole, stuck, over, comes, placing_rows}
use Rattle.build.proofs.Holding.Passed.{chosen_passed, given_passed}
use Rattle.build.proofs.Holding.Cares.{cares_columns}

abbrev pub place_limit : ℕ
place_limit = 2 ^ max_side

-- the number is at most `most`, and the place that of a row, a vector or a variable
pub record Small (most : ℕ) (r : Refusal) : Type 0 where
  pub number_low : r.number ≤ most
  pub place_low : r.place < place_limit

module _ (most : ℕ) where
  pub none_small : Small most accepted
  none_small = record { number_low = omega arith; place_low = omega arith }

  pub if_small : (m : ℕ) (t : Bool) → m ≤ most → Small most (refuse_if m t)
  if_small m true h = record { number_low = h; place_low = omega arith }
  if_small m false h = none_small

  at_small : (m i : ℕ) → m ≤ most → i < place_limit → Small most (refuse_at m i)
  at_small m zero h l = none_small
  at_small m (suc i) h l = record { number_low = h; place_low = l }

  -- the place is that of an entry of a short list
  pub first_small : {A : Type 0} (m : ℕ) (test : List A → A → Bool) (xs : List A) → m ≤ most → length xs < place_limit → Small most (refuse_at m (first_of test xs))
  first_small m test xs h l = at_small m (first_of test xs) h (omega (arith, first_length test xs))

-- ---- what refusals 1 to 12 give

-- past check 3 the vectors are few
list_small : (n : ℕ) (second : Refusal) (cells : ℕ) (vs : List ℕ) (g aux : ℕ) (rs : List Refusal) → Small 12 second
    → (second.number ≡ 0 → length vs ≤ max_vectors → All (Small 12) rs) → Small 12 (ladder (list_checks n second cells vs g aux ++ rs))
unfolding repeated
list_small n second cells vs g aux rs h l =
    let after : List Refusal = check4 cells ∷ check5 (length vs) cells g aux ∷ check6 n vs ∷ check7 vs ∷ rs in
    ladder_more (Small 12) (check1 n) (second ∷ check3 (length vs) ∷ after) (if_small 12 1 (outside 1 max_inputs n) (omega arith))
    (λ a.
    ladder_more (Small 12) second (check3 (length vs) ∷ after) h
    (λ two.
    ladder_more (Small 12) (check3 (length vs)) after (if_small 12 3 (outside 1 max_vectors (length vs)) (omega arith))
    (λ three.
    let k : length vs ≤ max_vectors = (inside 1 max_vectors (length vs) (if_passed 2 _ three)).1 in
    let fourth : Small 12 (check4 cells) = if_small 12 4 (outside 1 max_cells cells) (omega arith) in
    let fifth : Small 12 (check5 (length vs) cells g aux) = if_small 12 5 (ltb g cells || ltb aux (suc (length vs))) (omega arith) in
    let sixth : Small 12 (check6 n vs) = first_small 12 6 (λ before v. leb (2 ^ n) v) vs (omega arith) (omega arith) in
    let seventh : Small 12 (check7 vs) = first_small 12 7 (λ before x. has x before) vs (omega arith) (omega arith) in
    ladder_all (Small 12) (none_small 12) after (fourth, (fifth, (sixth, (seventh, l two k)))))))

pub chosen_small : (n degree : ℕ) (vs : List ℕ) (cells : ℕ) (t : Tables) → Small 12 (chosen_refusal n degree (chosen_kinds n degree vs) cells vs t)
unfolding chosen_refusal
chosen_small n degree vs cells t =
    let ks : List Kind = chosen_kinds n degree vs in
    list_small n (check2_chosen degree) cells vs (length t.g) (length t.aux) (check11 ks vs ∷ check12 (rows_share (length ks)) t.h ∷ [])
    (if_small 12 2 (outside 1 2 degree) (omega arith))
    (λ two k. (if_small 12 11 (not (apart vs ks)) (omega arith), (if_small 12 12 (ltb (length t.h) (2 ^ rows_share (length ks))) (omega arith), tt)))

-- past check 2 the variables are few
pub given_small : (n : ℕ) (variables : List Variable) (p n1 : ℕ) (vs : List ℕ) (cells : ℕ) (t : Tables) → Small 12 (given_refusal n p n1 (kinds_of (take p variables)) cells vs t)
unfolding given_refusal first_dependent repeated
given_small n variables p n1 vs cells t =
    let ks : List Kind = kinds_of (take p variables) in
    list_small n (check2_given p n1) cells vs (length t.g) (length t.aux) (given_checks n ks vs ++ (check12 n1 t.h ∷ []))
    (if_small 12 2 (too_many p n1) (omega arith))
    (λ two k.
    let v : length ks ≤ max_variables = omega (arith, (few p n1 (if_passed 1 _ two)).all_few, length-map (take p variables) (λ (x : Variable). x.kind), length-take p variables) in
    let eighth : Small 12 (check8 n ks) = first_small 12 8 (λ before x. faulty n x) ks (omega arith) (omega arith) in
    let ninth : Small 12 (check9 ks) = first_small 12 9 spans (map mask_of ks) (omega arith) (omega (arith, length-map ks mask_of)) in
    let tenth : Small 12 (check10 ks vs) = first_small 12 10 (λ before x. has x before) (map (number_of ks) vs) (omega arith) (omega (arith, length-map vs (number_of ks))) in
    (eighth, (ninth, (tenth, (if_small 12 12 (ltb (length t.h) (2 ^ n1)) (omega arith), tt)))))

-- ---- past refusals 1 to 12

-- a row is below the number of rows
pub row_low : (n1 row : ℕ) → n1 ≤ max_side → row < 2 ^ n1 → row < place_limit
row_low n1 row h l = lt_of_lt_of_le l (pow_mono {i = n1} {j = max_side} h)

module _ (n1 : ℕ) (ks : List Kind) (cells : ℕ) (vs : List ℕ) where
  stuck_row : (a row tried needed : ℕ) → end_within a (placing_of n1 ks cells vs) ≡ NoFit row tried needed → row < 2 ^ n1
  unfolding placing_of
  stuck_row a row tried needed e =
      rw (placing_rows n1 ks cells vs) at
      ((ended (cares_from 1 n1 ks vs) (replicate (2 ^ n1) 0) (replicate cells 0)).no_fit row tried needed (within_stuck a (placing_of n1 ks cells vs) row tried needed e).is).0.row_in

  over_row : (a row : ℕ) → end_within a (placing_of n1 ks cells vs) ≡ Over row → row < 2 ^ n1
  unfolding placing_of
  over_row a row e = rw (length-replicate (2 ^ n1)) at (over_in a (cares_from 1 n1 ks vs) (replicate (2 ^ n1) 0) (replicate cells 0) row e)

  -- what is needed beside a refusal
  needed_low : cells ≤ max_cells → length ks - n1 ≤ max_side → (a row tried needed : ℕ) → end_within a (placing_of n1 ks cells vs) ≡ NoFit row tried needed → needed ≤ needed_limit
  unfolding placing_of
  needed_low few h a row tried needed e =
      let q = (within_stuck a (placing_of n1 ks cells vs) row tried needed e).is in
      let s = stuck_low (cares_from 1 n1 ks vs) (replicate (2 ^ n1) 0) (replicate cells 0) row tried needed q (2 ^ (length ks - n1)) (cares_columns n1 ks 1 vs) in
      omega (arith, s, length-replicate {A = ℕ} cells 0, pow_mono {i = length ks - n1} {j = max_side} h)

module _ (r : Refusal) (n n1 : ℕ) (ks : List Kind) (cells a : ℕ) (vs : List ℕ) (t : Tables) where
  outcome_needed : (r.number ≡ 0 → (cells ≤ max_cells) × (length ks - n1 ≤ max_side)) → (outcome r n n1 ks cells a vs t).built.needed ≤ needed_limit
  outcome_needed l = go (comes n n1 ks cells a vs t r)
    where
      go : Comes n n1 ks cells a vs t r → (outcome r n n1 ks cells a vs t).built.needed ≤ needed_limit
      go (early k e) = rw e (omega arith)
      go (whole z q e) = rw e (omega arith)
      go (stuck z row tried needed q e) = rw e (needed_low n1 ks cells vs (l z).0 (l z).1 a row tried needed q)
      go (over z row q e) = rw e (omega arith)

  outcome_low : Small 12 r → (r.number ≡ 0 → n1 ≤ max_side) → (outcome r n n1 ks cells a vs t).built.place < place_limit
  outcome_low h l = go (comes n n1 ks cells a vs t r)
    where
      go : Comes n n1 ks cells a vs t r → (outcome r n n1 ks cells a vs t).built.place < place_limit
      go (early k e) = rw e h.place_low
      go (whole z q e) = rw e (omega arith)
      go (stuck z row tried needed q e) = rw e (row_low n1 row (l z) (stuck_row n1 ks cells vs a row tried needed q))
      go (over z row q e) = rw e (row_low n1 row (l z) (over_row n1 ks cells vs a row q))

-- ---- the builds

pub chosen_place : (n degree cells a : ℕ) (vs : List ℕ) (t : Tables) → (build_chosen n degree cells a vs t).built.place < place_limit
unfolding build_chosen
chosen_place n degree cells a vs t =
    let ks : List Kind = choose max_variables n degree vs in
    outcome_low (chosen_refusal n degree ks cells vs t) n (rows_share (length ks)) ks cells a vs t (chosen_small n degree vs cells t)
    (λ z. (chosen_passed n degree cells vs t z).split.rows_few)

pub given_place : (n : ℕ) (variables : List Variable) (p n1 cells a : ℕ) (vs : List ℕ) (t : Tables) → length variables ≡ max_variables
    → (build_given n variables p n1 cells a vs t).built.place < place_limit
unfolding build_given
given_place n variables p n1 cells a vs t places =
    let ks : List Kind = kinds_of (take p variables) in
    outcome_low (given_refusal n p n1 ks cells vs t) n n1 ks cells a vs t (given_small n variables p n1 vs cells t)
    (λ z. (given_passed n variables p n1 cells vs t places z).split.rows_few)

-- ---- the cells needed

pub chosen_needed : (n degree cells a : ℕ) (vs : List ℕ) (t : Tables) → (build_chosen n degree cells a vs t).built.needed ≤ needed_limit
unfolding build_chosen
chosen_needed n degree cells a vs t =
    let ks : List Kind = choose max_variables n degree vs in
    outcome_needed (chosen_refusal n degree ks cells vs t) n (rows_share (length ks)) ks cells a vs t
    (λ z. let p = chosen_passed n degree cells vs t z in (p.list.few_cells, p.split.columns_few))

pub given_needed : (n : ℕ) (variables : List Variable) (p n1 cells a : ℕ) (vs : List ℕ) (t : Tables) → length variables ≡ max_variables
    → (build_given n variables p n1 cells a vs t).built.needed ≤ needed_limit
unfolding build_given
given_needed n variables p n1 cells a vs t places =
    outcome_needed (given_refusal n p n1 (kinds_of (take p variables)) cells vs t) n n1 (kinds_of (take p variables)) cells a vs t
    (λ z. let q = given_passed n variables p n1 cells vs t places z in (q.list.few_cells, q.split.columns_few))
