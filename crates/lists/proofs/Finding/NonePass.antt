-- No entry of a list passes a test. Assumes nothing.
use Prim.Native.Nat.{ℕ, suc}
use native.Mathlib.Omega.{arith}
use mathlib.Core.Path.{◌≡◌, refl, sym, ◌∙◌}
use mathlib.Core.Bool.{Bool, true, false}
use mathlib.Core.List.{List, [], ◌∷◌}
use Rattle.lists.specs.First.{first_in, first_of}
use Rattle.lists.specs.Members.{All}
use Rattle.lists.proofs.Finding.Firsts.{first_here, first_on}

-- where none is found, the first does not pass, and none is found after it
pub none_head : {A : Type 0} (test : List A → A → Bool) (before : List A) (x : A) (xs : List A) (i : ℕ) → first_in test before (x ∷ xs) (suc i) ≡ 0
    → (test before x ≡ false) × (first_in test (x ∷ before) xs (suc (suc i)) ≡ 0)
none_head test before x xs i h = go (test before x) refl
  where
    go : (t : Bool) → test before x ≡ t → (test before x ≡ false) × (first_in test (x ∷ before) xs (suc (suc i)) ≡ 0)
    go true e = absurd (omega (arith, first_here test before x xs (suc i) e))
    go false e = (e, sym (first_on test before x xs (suc i) e) ∙ h)

module _ {A : Type 0} (test : A → Bool) where
  all_in_none : (before xs : List A) (i : ℕ) → All (λ x. test x ≡ false) xs → first_in (λ b x. test x) before xs i ≡ 0
  unfolding first_in
  all_in_none before [] i a = refl
  all_in_none before (x ∷ xs) i a = first_on (λ b x. test x) before x xs i a.0 ∙ all_in_none (x ∷ before) xs (suc i) a.1

  none_in_all : (before xs : List A) (i : ℕ) → first_in (λ b x. test x) before xs (suc i) ≡ 0 → All (λ x. test x ≡ false) xs
  none_in_all before [] i h = tt
  none_in_all before (x ∷ xs) i h =
      let n = none_head (λ b x. test x) before x xs i h in
      (n.0, none_in_all (x ∷ before) xs (suc i) n.1)

  -- no first entry that passes a test of entries alone: none of them passes it
  pub none_all : (xs : List A) → first_of (λ before x. test x) xs ≡ 0 → All (λ x. test x ≡ false) xs
  unfolding first_of
  none_all xs h = none_in_all [] xs 0 h

  pub all_none : (xs : List A) → All (λ x. test x ≡ false) xs → first_of (λ before x. test x) xs ≡ 0
  unfolding first_of
  all_none xs a = all_in_none [] xs 1 a
