-- The first entry of a list that passes a test, as the cause of a refusal. Assumes nothing.
use Prim.Native.Nat.{ℕ, zero, suc, ◌+◌, ◌≤◌, ◌<◌}
use native.Mathlib.Omega.{arith}
use mathlib.Core.Path.{◌≡◌, refl, sym, ◌∙◌}
use mathlib.Core.Bool.{Bool, true, false}
use mathlib.Core.List.{List, [], ◌∷◌, ◌++◌}
use mathlib.Core.Logic.{◌⊎◌, inl, inr}
use lib.ListN.{length, get_or, take}
use Rattle.lists.specs.First.{first_in, first_of}
use Rattle.lists.specs.Members.{In}
use Rattle.lists.proofs.Tests.{le_or_lt}
use Rattle.lists.proofs.Finding.Firsts.{first_here, first_on}
use Rattle.span.specs.Span.{spans}
use Rattle.span.proofs.Spans.{spans_middle}
use Rattle.build.specs.Refusals.{refuse_at}
use Rattle.unit.specs.Demand1.{First, cause_at}
use Rattle.unit.proofs.Demand1.Ladder.{Answers, at_answers}

-- the entries before the one numbered j from 0, the last first, over those passed
abbrev pub past : {A : Type 0} → List A → List A → ℕ → List A
past before xs zero = before
past before [] (suc j) = before
past before (x ∷ xs) (suc j) = past (x ∷ before) xs j

-- ---- the search

module _ {A : Type 0} (test : List A → A → Bool) (d : A) where
  -- entry j passes against those before it, or does not
  abbrev Test : List A → List A → ℕ → Bool → Type 0
  Test before xs j b = test (past before xs j) (get_or xs j d) ≡ b

  record Passes (before xs : List A) (j : ℕ) : Type 0 where
    pub listed : j < length xs
    pub passes : Test before xs j true
    pub none_before : (b : ℕ) → b < j → Test before xs b false

  abbrev Sought : List A → List A → ℕ → Type 0
  Sought before xs i =
      ((first_in test before xs (suc i) ≡ 0) × ((j : ℕ) → j < length xs → Test before xs j false))
      ⊎ ((j : ℕ) × (first_in test before xs (suc i) ≡ suc i + j) × Passes before xs j)

  seek : (before xs : List A) (i : ℕ) → Sought before xs i
  unfolding first_in
  seek before [] i = inl (refl, λ j l. absurd (omega arith))
  seek before (x ∷ xs) i = go (test before x) refl (seek (x ∷ before) xs (suc i))
    where
      below : test before x ≡ false → (n : ℕ) → ((j : ℕ) → j < n → Test (x ∷ before) xs j false) → (j : ℕ) → j < suc n → Test before (x ∷ xs) j false
      below e n r zero l = e
      below e n r (suc j) l = r j (omega arith)

      go : (t : Bool) → test before x ≡ t → Sought (x ∷ before) xs (suc i) → Sought before (x ∷ xs) i
      go true e r = inr (0, first_here test before x xs (suc i) e ∙ omega arith, record { listed = omega arith; passes = e; none_before = λ b l. absurd (omega arith) })
      go false e (inl r) = inl (first_on test before x xs (suc i) e ∙ r.0, below e (length xs) r.1)
      go false e (inr r) =
          inr (
            suc r.0,
            first_on test before x xs (suc i) e ∙ r.1 ∙ omega arith,
            record { listed = omega (arith, r.2.listed); passes = r.2.passes; none_before = below e r.0 r.2.none_before },
          )

-- the first has one place
first_one : (size : ℕ) (P : ℕ → Type 0) (p q : ℕ) → First size P p → First size P q → p ≡ q
first_one size P p q f g = go (le_or_lt f.entry g.entry) (le_or_lt g.entry f.entry)
  where
    go : (f.entry ≤ g.entry) ⊎ (g.entry < f.entry) → (g.entry ≤ f.entry) ⊎ (f.entry < g.entry) → p ≡ q
    go (inr l) k = absurd (f.none_before g.entry l g.is)
    go (inl l) (inr k) = absurd (g.none_before f.entry k f.is)
    go (inl l) (inl k) = omega (arith, f.numbered, g.numbered)

-- a test that says P of each entry: the check at the first that passes answers for the first that is P
pub first_answers : {A : Type 0} (m : ℕ) (test : List A → A → Bool) (d : A) (xs : List A) (size : ℕ) (P : ℕ → Type 0) → length xs ≡ size
    → ((j : ℕ) → j < length xs → test (past [] xs j) (get_or xs j d) ≡ true → P j)
    → ((j : ℕ) → j < length xs → test (past [] xs j) (get_or xs j d) ≡ false → P j → ⊥)
    → Answers (refuse_at (suc m) (first_of test xs)) (cause_at (suc m) size P)
unfolding first_of
first_answers {A} m test d xs size P s y n = at_answers m (first_in test [] xs 1) (First size P) (λ z q f. none z f (seek test d [] xs 0)) (λ h. some h (seek test d [] xs 0)) (first_one size P)
  where
    none : first_in test [] xs 1 ≡ 0 → {q : ℕ} → First size P q → Sought test d [] xs 0 → ⊥
    none z f (inl r) = let l : f.entry < length xs = omega (arith, f.listed) in n f.entry l (r.1 f.entry l) f.is
    none z f (inr r) = omega (arith, r.1)

    some : (first_in test [] xs 1 ≡ 0 → ⊥) → Sought test d [] xs 0 → First size P (first_in test [] xs 1)
    some h (inl r) = absurd (h r.0)
    some h (inr r) =
        let l : r.0 < length xs = r.2.listed in
        record {
          entry = r.0;
          numbered = r.1 ∙ omega arith;
          listed = omega arith;
          is = y r.0 l r.2.passes;
          none_before = λ j k. n j (omega arith) (r.2.none_before j k);
        }

-- where none is found none passes, and the other way round
module _ {A : Type 0} (test : List A → A → Bool) (d : A) (xs : List A) where
  pub none_passes : first_of test xs ≡ 0 → (j : ℕ) → j < length xs → test (past [] xs j) (get_or xs j d) ≡ false
  unfolding first_of
  none_passes z = go (seek test d [] xs 0)
    where
      go : Sought test d [] xs 0 → (j : ℕ) → j < length xs → test (past [] xs j) (get_or xs j d) ≡ false
      go (inl r) = r.1
      go (inr r) = absurd (omega (arith, r.1))

  pub passes_none : ((j : ℕ) → j < length xs → test (past [] xs j) (get_or xs j d) ≡ true → ⊥) → first_of test xs ≡ 0
  unfolding first_of
  passes_none n = go (seek test d [] xs 0)
    where
      go : Sought test d [] xs 0 → first_in test [] xs 1 ≡ 0
      go (inl r) = r.0
      go (inr r) = absurd (n r.0 r.2.listed r.2.passes)

-- ---- what stands before an entry

in_past : (x : ℕ) (before xs : List ℕ) (j : ℕ) → In x (past before xs j) → In x before ⊎ ((a : ℕ) × (a < j) × (get_or xs a 0 ≡ x))
in_past x before xs zero i = inl i
in_past x before [] (suc j) i = inl i
in_past x before (y ∷ xs) (suc j) i = go (in_past x (y ∷ before) xs j i)
  where
    go : In x (y ∷ before) ⊎ ((a : ℕ) × (a < j) × (get_or xs a 0 ≡ x)) → In x before ⊎ ((a : ℕ) × (a < suc j) × (get_or (y ∷ xs) a 0 ≡ x))
    go (inl (inl e)) = inr (zero, omega arith, sym e)
    go (inl (inr m)) = inl m
    go (inr p) = inr (suc p.0, omega (arith, p.1), p.2)

past_keeps : (x : ℕ) (before xs : List ℕ) (j : ℕ) → In x before → In x (past before xs j)
past_keeps x before xs zero i = i
past_keeps x before [] (suc j) i = i
past_keeps x before (y ∷ xs) (suc j) i = past_keeps x (y ∷ before) xs j (inr i)

past_in : (x : ℕ) (before xs : List ℕ) (j a : ℕ) → j < length xs → a < j → get_or xs a 0 ≡ x → In x (past before xs j)
past_in x before xs zero a l k e = absurd (omega arith)
past_in x before [] (suc j) a l k e = absurd (omega arith)
past_in x before (y ∷ xs) (suc j) zero l k e = past_keeps x (y ∷ before) xs j (inl (sym e))
past_in x before (y ∷ xs) (suc j) (suc a) l k e = past_in x (y ∷ before) xs j a (omega arith) (omega arith) e

-- an entry is among those before it exactly when it equals an earlier one
pub in_before : (x : ℕ) (xs : List ℕ) (j : ℕ) → In x (past [] xs j) → (a : ℕ) × (a < j) × (get_or xs a 0 ≡ x)
in_before x xs j i = go (in_past x [] xs j i)
  where
    go : In x [] ⊎ ((a : ℕ) × (a < j) × (get_or xs a 0 ≡ x)) → (a : ℕ) × (a < j) × (get_or xs a 0 ≡ x)
    go (inl m) = absurd m
    go (inr p) = p

pub before_in : (x : ℕ) (xs : List ℕ) (j a : ℕ) → j < length xs → a < j → get_or xs a 0 ≡ x → In x (past [] xs j)
before_in x xs j a l k e = past_in x [] xs j a l k e

-- the order of those before does not count for what they span
pub spans_past : (before xs : List ℕ) (j w : ℕ) → spans (past before xs j) w ≡ spans (take j xs ++ before) w
spans_past before xs zero w = refl
spans_past before [] (suc j) w = refl
spans_past before (x ∷ xs) (suc j) w = spans_past (x ∷ before) xs j w ∙ spans_middle (take j xs) x before w
