-- The variables past refusals 1 to 12, of both builds. Assumes nothing.
use Prim.Native.Nat.{ℕ, zero, suc, ◌+◌, ◌-◌, ◌^◌, ◌≤◌}
use native.Mathlib.Omega.{arith}
use mathlib.Core.Path.{◌≡◌, refl}
use mathlib.Core.Bool.{true, false}
use mathlib.Core.List.{List, [], ◌∷◌, ◌++◌, map}
use lib.Count.{ones}
use lib.ListN.{length, take}
use borrow.Author.Tests.{ltb-false, not-false, eqb-true}
use Rattle.lists.specs.First.{repeated}
use Rattle.lists.specs.Members.{All}
use Rattle.lists.proofs.Finding.NonePass.{none_all}
use Rattle.vectors.specs.declared.Kind.{Kind}
use Rattle.vectors.specs.declared.Variable.{Variable}
use Rattle.vectors.specs.Variable.{faulty, number_of, kinds_of}
use Rattle.choice.specs.Choice.{left, apart}
use Rattle.span.specs.Span.{kept, first_dependent}
use Rattle.vectors.proofs.Variables.Numbers.{kinds_length}
use Rattle.choice.proofs.Choice.Pairs.{pairs_repeated}
use Rattle.span.proofs.Labels.Edges.{all_edges}
use Rattle.span.proofs.Count.{kept_number}
use Rattle.vectors.specs.Bounds.{max_variables, max_side}
use Rattle.build.specs.Build.{rows_share, chosen_refusal, given_refusal, chosen_kinds}
use Rattle.build.specs.Built.{Refusal}
use Rattle.build.specs.Refusals.{or_else, ladder, list_checks, given_checks, check2_chosen, check2_given, check11, check12}
use Rattle.record.specs.Tables.{Tables}
use Rattle.build.specs.Inner.Ready.{Split}
use Rattle.build.proofs.Refusing.Ladder.{ladder_append, pass_at, if_passed, at_passed, ListPassed, list_passed}
use Rattle.record.proofs.Formed.{Few, few}
use Rattle.build.proofs.Holding.Chosen.{choose_few, choose_right, choose_independent}

-- past a ladder, past both of its parts
pub pass_both : (ps qs : List Refusal) → (ladder (ps ++ qs)).number ≡ 0 → ((ladder ps).number ≡ 0) × ((ladder qs).number ≡ 0)
pass_both ps qs h = go (ladder ps).number refl (rw (ladder_append ps qs) at h)
  where
    go : (m : ℕ) → (ladder ps).number ≡ m → (or_else m (ladder ps) (ladder qs)).number ≡ 0 → ((ladder ps).number ≡ 0) × ((ladder qs).number ≡ 0)
    go zero e h = (e, h)
    go (suc m) e h = absurd (omega arith)

-- ---- the bounds of the variables

-- SCOPE 5.1: with at most 24 variables neither side is above 12
pub share_sides : (p : ℕ) → p ≤ max_variables → (rows_share p ≤ p) × (rows_share p ≤ max_side) × (p - rows_share p ≤ max_side)
share_sides p h = (omega arith, omega arith, omega arith)

-- past refusal 12, of either build
pub record Passed (n n1 : ℕ) (second : Refusal) (ks : List Kind) (cells : ℕ) (vs : List ℕ) (t : Tables) : Type 0 where
  pub list : ListPassed n second cells vs (length t.g) (length t.aux)
  pub split : Split n n1 ks
  -- no two vectors agree on every variable
  pub apart : repeated (map (number_of ks) vs) ≡ 0
  pub rows_fit : 2 ^ n1 ≤ length t.h

-- SCOPE 6.2: as many inputs are kept as the variables leave over
pub split_kept : (n n1 : ℕ) (ks : List Kind) → Split n n1 ks → ones (kept n ks) + length ks ≡ n
split_kept n n1 ks s = kept_number n ks (all_edges n ks s.right) s.independent

-- ---- variables chosen by rule

module _ (n degree : ℕ) (second : Refusal) (cells : ℕ) (vs : List ℕ) (g aux : ℕ) (h : (ladder (list_checks n second cells vs g aux)).number ≡ 0) where
  -- past checks 1 to 7 none of the chosen variables is faulty
  pub chosen_right : All (λ k. faulty n k ≡ false) (chosen_kinds n degree vs)
  chosen_right = choose_right max_variables n degree vs (list_passed n second cells vs g aux h).some_inputs

  -- .. and none an XOR of earlier ones
  pub chosen_independent : first_dependent (chosen_kinds n degree vs) ≡ 0
  chosen_independent =
      let l = list_passed n second cells vs g aux h in
      choose_independent max_variables n degree vs l.some_inputs l.listed.within l.distinct

  -- they are at most 24, and neither side is above 12
  pub chosen_split : Split n (rows_share (length (chosen_kinds n degree vs))) (chosen_kinds n degree vs)
  chosen_split =
      let f : length (chosen_kinds n degree vs) ≤ max_variables = choose_few max_variables n degree vs in
      let s = share_sides (length (chosen_kinds n degree vs)) f in
      record { few = f; rows_in = s.0; rows_few = s.1; columns_few = s.2; right = chosen_right; independent = chosen_independent }

apart_repeated : (vs : List ℕ) (ks : List Kind) → apart vs ks ≡ true → repeated (map (number_of ks) vs) ≡ 0
unfolding apart left
apart_repeated vs ks e = pairs_repeated (map (number_of ks) vs) (eqb-true (left vs ks) 0 e)

module _ (n degree cells : ℕ) (vs : List ℕ) (t : Tables) (h : (chosen_refusal n degree (chosen_kinds n degree vs) cells vs t).number ≡ 0) where
  pub chosen_passed : Passed n (rows_share (length (chosen_kinds n degree vs))) (check2_chosen degree) (chosen_kinds n degree vs) cells vs t
  unfolding chosen_refusal
  chosen_passed =
      let ks : List Kind = chosen_kinds n degree vs in
      let last : List Refusal = check12 (rows_share (length ks)) t.h ∷ [] in
      let a = pass_both (list_checks n (check2_chosen degree) cells vs (length t.g) (length t.aux)) (check11 ks vs ∷ last) h in
      let b = pass_at (check11 ks vs ∷ last) a.1 in
      record {
        list = list_passed n (check2_chosen degree) cells vs (length t.g) (length t.aux) a.0;
        split = chosen_split n degree (check2_chosen degree) cells vs (length t.g) (length t.aux) a.0;
        apart = apart_repeated vs ks (not-false (apart vs ks) (if_passed 10 _ (b 0)));
        rows_fit = ltb-false (length t.h) (2 ^ rows_share (length ks)) (if_passed 11 _ (b 1));
      }

  -- exactly n - p inputs are kept
  pub chosen_kept : ones (kept n (chosen_kinds n degree vs)) + length (chosen_kinds n degree vs) ≡ n
  chosen_kept = split_kept n _ (chosen_kinds n degree vs) chosen_passed.split

-- ---- variables given by the caller, in 24 places

module _ (n : ℕ) (variables : List Variable) (p n1 cells : ℕ) (vs : List ℕ) (g aux : ℕ) (places : length variables ≡ max_variables)
    (h : (ladder (list_checks n (check2_given p n1) cells vs g aux)).number ≡ 0) where
  given_few : Few p n1
  given_few = few p n1 (if_passed 1 _ (list_passed n (check2_given p n1) cells vs g aux h).two)

  -- past check 2 the variables taken are p
  pub given_length : length (kinds_of (take p variables)) ≡ p
  given_length = kinds_length variables p (omega (arith, given_few.all_few))

  -- past checks 1 to 10 they are within the bounds, none is faulty, and none an XOR of earlier ones
  pub given_split : (ladder (given_checks n (kinds_of (take p variables)) vs)).number ≡ 0 → Split n n1 (kinds_of (take p variables))
  given_split q =
      let ks : List Kind = kinds_of (take p variables) in
      let c = pass_at (given_checks n ks vs) q in
      let s = given_few in
      record {
        few = omega (arith, given_length);
        rows_in = omega (arith, given_length);
        rows_few = s.rows_few;
        columns_few = omega (arith, given_length);
        right = none_all (faulty n) ks (at_passed 7 _ (c 0));
        independent = at_passed 8 _ (c 1);
      }

module _ (n : ℕ) (variables : List Variable) (p n1 cells : ℕ) (vs : List ℕ) (t : Tables) (places : length variables ≡ max_variables)
    (h : (given_refusal n p n1 (kinds_of (take p variables)) cells vs t).number ≡ 0) where
  given_parts : ((ladder (list_checks n (check2_given p n1) cells vs (length t.g) (length t.aux))).number ≡ 0)
      × ((ladder (given_checks n (kinds_of (take p variables)) vs)).number ≡ 0)
      × ((ladder (check12 n1 t.h ∷ [])).number ≡ 0)
  unfolding given_refusal
  given_parts =
      let ks : List Kind = kinds_of (take p variables) in
      let a = pass_both (list_checks n (check2_given p n1) cells vs (length t.g) (length t.aux)) (given_checks n ks vs ++ (check12 n1 t.h ∷ [])) h in
      let b = pass_both (given_checks n ks vs) (check12 n1 t.h ∷ []) a.1 in
      (a.0, b.0, b.1)

  pub given_passed : Passed n n1 (check2_given p n1) (kinds_of (take p variables)) cells vs t
  given_passed =
      let ks : List Kind = kinds_of (take p variables) in
      record {
        list = list_passed n (check2_given p n1) cells vs (length t.g) (length t.aux) given_parts.0;
        split = given_split n variables p n1 cells vs (length t.g) (length t.aux) places given_parts.0 given_parts.1;
        apart = at_passed 9 _ (pass_at (given_checks n ks vs) given_parts.1 2);
        rows_fit = ltb-false (length t.h) (2 ^ n1) (if_passed 11 _ (pass_at (check12 n1 t.h ∷ []) given_parts.2 0));
      }

  -- exactly n - p inputs are kept
  pub given_kept : ones (kept n (kinds_of (take p variables))) + p ≡ n
  given_kept =
      rw (given_length n variables p n1 cells vs (length t.g) (length t.aux) places given_parts.0) at (split_kept n n1 (kinds_of (take p variables)) given_passed.split)
