-- The first entry that passes a test of entries alone, by its place. Assumes nothing.
use Prim.Native.Nat.{ℕ, suc, ◌+◌}
use native.Mathlib.Nat.{suc_inj}
use native.Mathlib.Omega.{arith}
use mathlib.Core.Path.{◌≡◌, refl, sym, ap, ◌∙◌}
use mathlib.Core.Bool.{Bool, true, false, cond}
use mathlib.Core.List.{List, [], ◌∷◌, map}
use lib.Dec.{ltb}
use lib.ListN.{length}
use Rattle.std.specs.List.{position, position_or_len}
use Rattle.std.proofs.Common.{Option, None, Some}
use Rattle.std.proofs.lemmas.Bool.Decides.{nat_tests}
use Rattle.lists.specs.First.{first_in, first_of, place_number}
use Rattle.lists.proofs.Finding.Firsts.{first_here, first_on}

numbered : ℕ → ℕ → ℕ → ℕ
numbered i p n = cond (ltb p n) (i + p) 0

numbered_here : (i n : ℕ) → i ≡ numbered i 0 (suc n)
unfolding numbered
numbered_here i n = grind (arith, nat_tests)

numbered_on : (i p n : ℕ) → numbered (suc i) p n ≡ numbered i (1 + p) (suc n)
unfolding numbered
numbered_on i p n = grind (arith, nat_tests)

numbered_place : (p n : ℕ) → numbered 1 p n ≡ place_number (cond (ltb p n) (Some p) None)
unfolding numbered
numbered_place p n = grind (arith, nat_tests)

module _ {A B : Type 0} (f : A → B) (test : B → Bool) where
  place_in : (before : List B) (xs : List A) (i : ℕ)
      → first_in (λ before y. test y) before (map f xs) i ≡ numbered i (position_or_len (λ x. test (f x)) xs) (length xs)
  unfolding first_in numbered
  place_in before [] i = refl
  place_in before (x ∷ xs) i = go (test (f x)) refl (place_in (f x ∷ before) xs (suc i))
    where
      go : (t : Bool) → test (f x) ≡ t
          → first_in (λ before y. test y) (f x ∷ before) (map f xs) (suc i) ≡ numbered (suc i) (position_or_len (λ x. test (f x)) xs) (length xs)
          → first_in (λ before y. test y) before (f x ∷ map f xs) i ≡ numbered i (position_or_len (λ x. test (f x)) (x ∷ xs)) (suc (length xs))
      go true e r = first_here (λ before y. test y) before (f x) (map f xs) i e ∙ rw e (numbered_here i (length xs))
      go false e r = first_on (λ before y. test y) before (f x) (map f xs) i e ∙ r ∙ rw e (numbered_on i (position_or_len (λ x. test (f x)) xs) (length xs))

  pub place_first : (xs : List A) → place_number (position (λ x. test (f x)) xs) ≡ first_of (λ before y. test y) (map f xs)
  unfolding first_of
  place_first xs = sym (place_in [] xs 1 ∙ numbered_place (position_or_len (λ x. test (f x)) xs) (length xs))

-- a number is that of one place
pub place_one : (r s : Option ℕ) → place_number r ≡ place_number s → r ≡ s
place_one None None e = refl
place_one None (Some j) e = absurd (omega (arith, e))
place_one (Some i) None e = absurd (omega (arith, e))
place_one (Some i) (Some j) e = ap Some (suc_inj e)
