-- Each of the checks 1 to 12 answers for its cause. Assumes nothing.
use Prim.Native.Nat.{ℕ, suc, ◌+◌, ◌-◌, ◌*◌, ◌^◌, ◌≤◌, ◌<◌}
use native.Mathlib.Omega.{arith}
use mathlib.Core.Path.{◌≡◌, refl, sym, ap, ap₂, ◌∙◌}
use mathlib.Core.Bool.{true, false, not, ◌||◌, true≢false}
use mathlib.Core.List.{List, [], ◌∷◌, map, append-nil}
use mathlib.Core.Logic.{◌⊎◌, inl, inr, ⊎_elim}
use lib.Dec.{leb, ltb}
use lib.ListN.{length, get_or, take, length-map}
use borrow.Author.Tests.{ltb-true, ltb-false, leb-true, leb-false, eqb-true, eq-eqb, not-true, not-false}
use Rattle.lists.specs.First.{has, repeated}
use Rattle.lists.proofs.Tests.{or_true, or_false, le_or_lt}
use Rattle.lists.proofs.Entries.Members.{get_d_map}
use Rattle.lists.proofs.Finding.Has.{has_in, in_has}
use Rattle.lists.proofs.Finding.Repeats.{repeated_zero}
use Rattle.vectors.specs.declared.Kind.{Kind}
use Rattle.vectors.specs.declared.Kind.TheVariants.{One}
use Rattle.vectors.specs.Bounds.{max_inputs, max_vectors, max_cells, max_variables, max_side, outside, too_many}
use Rattle.vectors.specs.Variable.{number_of, mask_of, faulty}
use Rattle.vectors.proofs.Variables.Numbers.{number_head}
use Rattle.span.specs.Span.{spans, first_dependent}
use Rattle.choice.specs.Choice.{left, apart, candidates, choose}
use Rattle.choice.proofs.Choice.Pairs.{pairs_repeated, repeated_pairs}
use Rattle.choice.proofs.Choice.Steps.{choice_full}
use Rattle.record.specs.Tables.{Tables}
use Rattle.record.proofs.Formed.{inside, few}
use Rattle.build.specs.Build.{chosen_kinds}
use Rattle.build.proofs.Refusing.Ladder.{at_passed}
use Rattle.build.specs.Refusals.{refuse_if, check2_chosen, check2_given, check5, check6, check7, check8, check9, check10, check11, check12, list_checks, given_checks}
use Rattle.unit.specs.Demand1.{Outside, WrongDegree, TooMany, TooShort, Beyond, Same, Faulty, Dependent, Agree, Agrees, PairLeft, FewRows, First, cause, cause_at, list_causes, variable_causes}
use Rattle.unit.proofs.Demand1.Ladder.{Answers, AnswersAll, if_answers}
use Rattle.unit.proofs.Demand1.Entries.{past, first_answers, none_passes, passes_none, in_before, before_in, spans_past}

-- ---- 1 to 5, and 12

module _ (m high x : ℕ) where
  pub outside_yes : outside 1 high x ≡ true → Outside high x
  outside_yes h = ⊎_elim (λ a. inl (omega (arith, ltb-true x 1 a))) (λ a. inr (ltb-true high x a)) (or_true (ltb x 1) (ltb high x) h)

  pub outside_no : outside 1 high x ≡ false → Outside high x → ⊥
  outside_no h (inl e) = omega (arith, (inside 1 high x h).0)
  outside_no h (inr l) = omega (arith, (inside 1 high x h).1)

  outside_answers : Answers (refuse_if (suc m) (outside 1 high x)) (cause (suc m) (Outside high x))
  outside_answers = if_answers m (outside 1 high x) (Outside high x) outside_yes outside_no

degree_answers : (degree : ℕ) → Answers (check2_chosen degree) (cause 2 (WrongDegree degree))
degree_answers degree = if_answers 1 (outside 1 2 degree) (WrongDegree degree) yes no
  where
    yes : outside 1 2 degree ≡ true → WrongDegree degree
    yes h =
        ⊎_elim
        (λ a. let l = ltb-true degree 1 a in ((λ e. omega arith), (λ e. omega arith)))
        (λ a. let l = ltb-true 2 degree a in ((λ e. omega arith), (λ e. omega arith)))
        (or_true (ltb degree 1) (ltb 2 degree) h)

    no : outside 1 2 degree ≡ false → WrongDegree degree → ⊥
    no h w =
        let i = inside 1 2 degree h in
        ⊎_elim (λ e. w.0 e) (λ e. w.1 e) (either degree i.0 i.1)
      where
        either : (x : ℕ) → 1 ≤ x → x ≤ 2 → (x ≡ 1) ⊎ (x ≡ 2)
        either x a b = ⊎_elim (λ l. inl (omega arith)) (λ l. inr (omega arith)) (le_or_lt x 1)

many_answers : (p n1 : ℕ) → Answers (check2_given p n1) (cause 2 (TooMany p n1))
many_answers p n1 = if_answers 1 (too_many p n1) (TooMany p n1) yes no
  where
    yes : too_many p n1 ≡ true → TooMany p n1
    yes h =
        ⊎_elim
        (λ a. ⊎_elim
        (λ b. ⊎_elim (λ c. inl (ltb-true max_variables p c)) (λ c. inr (inl (ltb-true p n1 c))) (or_true (ltb max_variables p) (ltb p n1) b))
        (λ b. inr (inr (inl (ltb-true max_side n1 b))))
        (or_true (ltb max_variables p || ltb p n1) (ltb max_side n1) a))
        (λ a. inr (inr (inr (ltb-true max_side (p - n1) a))))
        (or_true (ltb max_variables p || ltb p n1 || ltb max_side n1) (ltb max_side (p - n1)) h)

    no : too_many p n1 ≡ false → TooMany p n1 → ⊥
    no h (inl a) = omega (arith, (few p n1 h).all_few)
    no h (inr (inl a)) = omega (arith, (few p n1 h).rows_in)
    no h (inr (inr (inl a))) = omega (arith, (few p n1 h).rows_few)
    no h (inr (inr (inr a))) = omega (arith, (few p n1 h).columns_few)

short_answers : (cells k : ℕ) (t : Tables) → Answers (check5 k cells (length t.g) (length t.aux)) (cause 5 (TooShort cells k t))
short_answers cells k t = if_answers 4 (ltb (length t.g) cells || ltb (length t.aux) (suc k)) (TooShort cells k t) yes no
  where
    yes : (ltb (length t.g) cells || ltb (length t.aux) (suc k)) ≡ true → TooShort cells k t
    yes h = ⊎_elim (λ a. inl (ltb-true (length t.g) cells a)) (λ a. inr (ltb-true (length t.aux) (suc k) a)) (or_true (ltb (length t.g) cells) (ltb (length t.aux) (suc k)) h)

    no : (ltb (length t.g) cells || ltb (length t.aux) (suc k)) ≡ false → TooShort cells k t → ⊥
    no h (inl a) = omega (arith, ltb-false (length t.g) cells (or_false (ltb (length t.g) cells) (ltb (length t.aux) (suc k)) h).0)
    no h (inr a) = omega (arith, ltb-false (length t.aux) (suc k) (or_false (ltb (length t.g) cells) (ltb (length t.aux) (suc k)) h).1)

pub rows_answers : (n1 : ℕ) (t : Tables) → Answers (check12 n1 t.h) (cause 12 (FewRows n1 t))
rows_answers n1 t =
    if_answers 11 (ltb (length t.h) (2 ^ n1)) (FewRows n1 t) (λ a. ltb-true (length t.h) (2 ^ n1) a)
    (λ a l. omega (arith, ltb-false (length t.h) (2 ^ n1) a))

-- ---- 6 and 7

beyond_answers : (n : ℕ) (vs : List ℕ) → Answers (check6 n vs) (cause_at 6 (length vs) (Beyond n vs))
beyond_answers n vs =
    first_answers 5 (λ before v. leb (2 ^ n) v) 0 vs (length vs) (Beyond n vs) refl
    (λ j l e. leb-true (2 ^ n) (get_or vs j 0) e)
    (λ j l e b. omega (arith, leb-false (2 ^ n) (get_or vs j 0) e))

-- an entry is in the list of those before it, or it is not
has_no : (x : ℕ) (xs : List ℕ) (j a : ℕ) → j < length xs → a < j → get_or xs a 0 ≡ x → has x (past [] xs j) ≡ false → ⊥
has_no x xs j a l k e f = true≢false (sym (in_has x (past [] xs j) (before_in x xs j a l k e)) ∙ f)

same_answers : (vs : List ℕ) → Answers (check7 vs) (cause_at 7 (length vs) (Same vs))
unfolding repeated
same_answers vs =
    first_answers 6 (λ before v. has v before) 0 vs (length vs) (Same vs) refl
    (λ j l e. in_before (get_or vs j 0) vs j (has_in (get_or vs j 0) (past [] vs j) e))
    (λ j l e s. has_no (get_or vs j 0) vs j s.0 l s.1 s.2 e)

pub list_chosen : (n degree cells : ℕ) (vs : List ℕ) (t : Tables)
    → AnswersAll (list_checks n (check2_chosen degree) cells vs (length t.g) (length t.aux)) (list_causes n (WrongDegree degree) cells vs t)
list_chosen n degree cells vs t = (
  outside_answers 0 max_inputs n,
  (
    degree_answers degree,
    (
      outside_answers 2 max_vectors (length vs),
      (
        outside_answers 3 max_cells cells,
        (short_answers cells (length vs) t, (beyond_answers n vs, (same_answers vs, tt))),
      ),
    ),
  ),
)

pub list_given : (n p n1 cells : ℕ) (vs : List ℕ) (t : Tables)
    → AnswersAll (list_checks n (check2_given p n1) cells vs (length t.g) (length t.aux)) (list_causes n (TooMany p n1) cells vs t)
list_given n p n1 cells vs t = (
  outside_answers 0 max_inputs n,
  (
    many_answers p n1,
    (
      outside_answers 2 max_vectors (length vs),
      (
        outside_answers 3 max_cells cells,
        (short_answers cells (length vs) t, (beyond_answers n vs, (same_answers vs, tt))),
      ),
    ),
  ),
)

-- ---- 8 to 11

faulty_answers : (n : ℕ) (ks : List Kind) → Answers (check8 n ks) (cause_at 8 (length ks) (Faulty n ks))
faulty_answers n ks =
    first_answers 7 (λ before k. faulty n k) (One 0) ks (length ks) (Faulty n ks) refl (λ j l e. e) (λ j l e f. true≢false (sym f ∙ e))

module _ (ks : List Kind) where
  abbrev masks : List ℕ
  masks = map mask_of ks

  same_span : (j : ℕ) → spans (past [] masks j) (get_or masks j 0) ≡ spans (take j masks) (get_or masks j 0)
  same_span j = spans_past [] masks j (get_or masks j 0) ∙ ap (λ (ms : List ℕ). spans ms (get_or masks j 0)) (append-nil (take j masks))

  dependent_answers : Answers (check9 ks) (cause_at 9 (length ks) (Dependent ks))
  unfolding first_dependent
  dependent_answers =
      first_answers 8 spans 0 masks (length ks) (Dependent ks) (length-map ks mask_of)
      (λ j l e. sym (same_span j) ∙ e)
      (λ j l e f. true≢false (sym f ∙ sym (same_span j) ∙ e))

  pub none_dependent : first_dependent ks ≡ 0 → (i : ℕ) → i < length ks → Dependent ks i → ⊥
  unfolding first_dependent
  none_dependent z i l f = true≢false (sym f ∙ sym (same_span i) ∙ none_passes spans 0 masks z i (omega (arith, length-map ks mask_of)))

  pub dependent_none : ((i : ℕ) → i < length ks → Dependent ks i → ⊥) → first_dependent ks ≡ 0
  unfolding first_dependent
  dependent_none n = passes_none spans 0 masks (λ j l e. n j (omega (arith, length-map ks mask_of)) (sym (same_span j) ∙ e))

-- vectors agree exactly when they have one number
pub number_agree : (ks : List Kind) (x y : ℕ) → number_of ks x ≡ number_of ks y → Agree ks x y
number_agree [] x y e = tt
number_agree (k ∷ ks) x y e = let h = number_head k ks x y e in (h.0, number_agree ks x y h.1)

pub agree_number : (ks : List Kind) (x y : ℕ) → Agree ks x y → number_of ks x ≡ number_of ks y
unfolding number_of
agree_number [] x y a = refl
agree_number (k ∷ ks) x y a = ap₂ (λ (v w : ℕ). v + 2 * w) a.0 (agree_number ks x y a.1)

module _ (ks : List Kind) (vs : List ℕ) where
  abbrev numbers : List ℕ
  numbers = map (number_of ks) vs

  many : length numbers ≡ length vs
  many = length-map vs (number_of ks)

  number_at : (i : ℕ) → i < length vs → get_or numbers i 0 ≡ number_of ks (get_or vs i 0)
  number_at i l = get_d_map (number_of ks) vs i 0 0 l

  same_agrees : (a i : ℕ) → a < i → i < length vs → get_or numbers a 0 ≡ get_or numbers i 0 → Agree ks (get_or vs a 0) (get_or vs i 0)
  same_agrees a i k l e = number_agree ks (get_or vs a 0) (get_or vs i 0) (sym (number_at a (omega arith)) ∙ e ∙ number_at i l)

  agrees_same : (a i : ℕ) → a < i → i < length vs → Agree ks (get_or vs a 0) (get_or vs i 0) → get_or numbers a 0 ≡ get_or numbers i 0
  agrees_same a i k l e = number_at a (omega arith) ∙ agree_number ks (get_or vs a 0) (get_or vs i 0) e ∙ sym (number_at i l)

  agrees_answers : Answers (check10 ks vs) (cause_at 10 (length vs) (Agrees ks vs))
  unfolding repeated
  agrees_answers =
      first_answers 9 (λ before v. has v before) 0 numbers (length vs) (Agrees ks vs) many
      (λ j l e. let b = in_before (get_or numbers j 0) numbers j (has_in (get_or numbers j 0) (past [] numbers j) e) in
      (b.0, b.1, same_agrees b.0 j b.1 (omega (arith, many)) b.2))
      (λ j l e s. has_no (get_or numbers j 0) numbers j s.0 l s.1 (agrees_same s.0 j s.1 (omega (arith, many)) s.2) e)

  pair_yes : apart vs ks ≡ false → (i : ℕ) × (i < length vs) × Agrees ks vs i
  unfolding apart left
  pair_yes e =
      let f : First (length vs) (Agrees ks vs) (check10 ks vs).place = (agrees_answers.some differ).1 in
      (f.entry, f.listed, f.is)
    where
      differ : (check10 ks vs).number ≡ 0 → ⊥
      differ z = true≢false (sym (eq-eqb (left vs ks) 0 (repeated_pairs numbers (at_passed 9 (repeated numbers) z))) ∙ e)

  pair_no : apart vs ks ≡ true → (i : ℕ) × (i < length vs) × Agrees ks vs i → ⊥
  unfolding apart left
  pair_no e s =
      repeated_zero numbers (pairs_repeated numbers (eqb-true (left vs ks) 0 e)) s.2.0 s.0 s.2.1 (omega (arith, many, s.1))
      (agrees_same s.2.0 s.0 s.2.1 s.1 s.2.2)

pub given_answers : (n : ℕ) (ks : List Kind) (vs : List ℕ) → AnswersAll (given_checks n ks vs) (variable_causes n ks vs)
given_answers n ks vs = (faulty_answers n ks, (dependent_answers ks, (agrees_answers ks vs, tt)))

-- the rule stops with a pair left only where it has taken all that it may
pub pair_answers : (n degree : ℕ) (vs : List ℕ) → Answers (check11 (chosen_kinds n degree vs) vs) (cause 11 (PairLeft (chosen_kinds n degree vs) vs))
unfolding choose
pair_answers n degree vs =
    if_answers 10 (not (apart vs ks)) (PairLeft ks vs)
    (λ h. let e : apart vs ks ≡ false = not-true (apart vs ks) h in (choice_full (candidates n degree) vs max_variables e, pair_yes ks vs e))
    (λ h p. pair_no ks vs (not-false (apart vs ks) h) p.1)
  where
    ks : List Kind
    ks = chosen_kinds n degree vs
