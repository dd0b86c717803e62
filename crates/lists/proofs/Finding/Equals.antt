-- The first entry that equals a number. Assumes nothing.
use Prim.Native.Nat.{ℕ, zero, suc, ◌+◌, ◌<◌}
use native.Mathlib.Nat.{add-zero}
use native.Mathlib.Omega.{arith}
use mathlib.Core.Path.{◌≡◌, refl, sym, ◌∙◌}
use mathlib.Core.Bool.{Bool, true, false}
use mathlib.Core.List.{List, [], ◌∷◌}
use mathlib.Core.Logic.{◌⊎◌, inl, inr}
use lib.Dec.{eqb}
use lib.ListN.{length, get_or}
use borrow.Author.Tests.{eqb-true, eqb-false, eq-eqb, ne_eqb}
use Rattle.lists.specs.First.{first_in, first_of}
use Rattle.lists.proofs.Entries.Alls.{at_all}
use Rattle.lists.proofs.Finding.Firsts.{first_here, first_on}
use Rattle.lists.proofs.Finding.NonePass.{all_none}

-- entry j is the first that equals x
pub record FirstEqual (xs : List ℕ) (x j : ℕ) : Type 0 where
  pub below : j < length xs
  pub equal : get_or xs j 0 ≡ x
  pub first : (a : ℕ) → a < j → get_or xs a 0 ≡ x → ⊥

module _ (x : ℕ) where
  abbrev test : List ℕ → ℕ → Bool
  test before v = eqb v x

  at_from : (before xs : List ℕ) (i j : ℕ) → FirstEqual xs x j → first_in test before xs i ≡ i + j
  at_from before [] i j f = absurd (omega (arith, f.below))
  at_from before (v ∷ xs) i zero f = first_here test before v xs i (eq-eqb v x f.equal) ∙ sym (add-zero i)
  at_from before (v ∷ xs) i (suc j) f =
      first_on test before v xs i (ne_eqb v x (f.first 0 (omega arith)))
      ∙ at_from (v ∷ before) xs (suc i) j (record { below = omega (arith, f.below); equal = f.equal; first = λ a l. f.first (suc a) (omega arith) })
      ∙ omega arith

  search : (before xs : List ℕ) (i : ℕ) → (first_in test before xs i ≡ 0) ⊎ ((j : ℕ) × FirstEqual xs x j × (first_in test before xs i ≡ i + j))
  unfolding first_in
  search before [] i = inl refl
  search before (v ∷ xs) i = go (eqb v x) refl (search (v ∷ before) xs (suc i))
    where
      go : (t : Bool) → eqb v x ≡ t → (first_in test (v ∷ before) xs (suc i) ≡ 0) ⊎ ((j : ℕ) × FirstEqual xs x j × (first_in test (v ∷ before) xs (suc i) ≡ suc i + j))
          → (first_in test before (v ∷ xs) i ≡ 0) ⊎ ((j : ℕ) × FirstEqual (v ∷ xs) x j × (first_in test before (v ∷ xs) i ≡ i + j))
      go true p r =
          let f : FirstEqual (v ∷ xs) x 0 = record { below = omega arith; equal = eqb-true v x p; first = λ a l. absurd (omega arith) } in
          inr (0, f, at_from before (v ∷ xs) i 0 f)
      go false p (inl e) = inl (first_on test before v xs i p ∙ e)
      go false p (inr r) =
          let f : FirstEqual (v ∷ xs) x (suc r.0) = record { below = omega (arith, r.1.below); equal = r.1.equal; first = later r.0 r.1 p } in
          inr (suc r.0, f, at_from before (v ∷ xs) i (suc r.0) f)
        where
          later : (j : ℕ) → FirstEqual xs x j → eqb v x ≡ false → (a : ℕ) → a < suc j → get_or (v ∷ xs) a 0 ≡ x → ⊥
          later j f p zero l e = eqb-false v x p e
          later j f p (suc a) l e = f.first a (omega arith) e

-- it is found
pub equal_first : (xs : List ℕ) (x j : ℕ) → FirstEqual xs x j → first_of (λ before v. eqb v x) xs ≡ suc j
unfolding first_of
equal_first xs x j f = at_from x [] xs 1 j f ∙ omega arith

-- what is found is the first
pub first_equal : (xs : List ℕ) (x j : ℕ) → first_of (λ before v. eqb v x) xs ≡ suc j → FirstEqual xs x j
unfolding first_of
first_equal xs x j e = go (search x [] xs 1)
  where
    go : (first_in (test x) [] xs 1 ≡ 0) ⊎ ((k : ℕ) × FirstEqual xs x k × (first_in (test x) [] xs 1 ≡ 1 + k)) → FirstEqual xs x j
    go (inl z) = absurd (omega arith)
    go (inr r) = let q : r.0 ≡ j = omega (arith, r.2) in rw q at r.1

-- none equals x: none is found
pub equal_none : (xs : List ℕ) (x : ℕ) → ((j : ℕ) → j < length xs → get_or xs j 0 ≡ x → ⊥) → first_of (λ before v. eqb v x) xs ≡ 0
equal_none xs x n = all_none (λ v. eqb v x) xs (at_all (λ v. eqb v x ≡ false) xs 0 (λ j h. ne_eqb _ x (n j h)))
