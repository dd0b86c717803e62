-- Members of lists joined, and their places. Assumes nothing.
use Prim.Native.Nat.{ℕ, zero, suc, ◌<◌}
use native.Mathlib.Omega.{arith}
use mathlib.Core.Path.{◌≡◌, sym}
use mathlib.Core.List.{List, [], ◌∷◌, ◌++◌}
use mathlib.Core.Logic.{inl, inr}
use lib.ListN.{length, get_or}
use Rattle.lists.specs.Members.{In, All}

module _ {A : Type 0} where
  pub in_at : (x : A) (l : List A) (d : A) → In x l → (i : ℕ) × (i < length l) × (get_or l i d ≡ x)
  in_at x [] d m = absurd m
  in_at x (y ∷ l) d (inl e) = (zero, omega arith, sym e)
  in_at x (y ∷ l) d (inr m) = let r = in_at x l d m in (suc r.0, omega (arith, r.1), r.2)

  pub in_left : (x : A) (l m : List A) → In x l → In x (l ++ m)
  in_left x [] m h = absurd h
  in_left x (y ∷ l) m (inl e) = inl e
  in_left x (y ∷ l) m (inr h) = inr (in_left x l m h)

  pub all_append : (P : A → Type 0) (l m : List A) → All P l → All P m → All P (l ++ m)
  all_append P [] m a b = b
  all_append P (x ∷ l) m a b = (a.0, all_append P l m a.1 b)
