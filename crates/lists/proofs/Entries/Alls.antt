-- What holds of every member: of a part of a list, and of lists made from it. Assumes nothing.
use Prim.Native.Nat.{ℕ, zero, suc, ◌<◌}
use native.Mathlib.Omega.{arith}
use mathlib.Core.List.{List, [], ◌∷◌, map, flatten}
use lib.ListN.{length, get_or, take, drop}
use Rattle.lists.specs.Members.{All}
use Rattle.lists.proofs.Entries.Members.{all_in, get_d_in}
use Rattle.lists.proofs.Entries.Joined.{all_append}

module _ {A : Type 0} (P : A → Type 0) where
  pub all_take : (n : ℕ) (l : List A) → All P l → All P (take n l)
  all_take zero l a = tt
  all_take (suc n) [] a = tt
  all_take (suc n) (x ∷ l) a = (a.0, all_take n l a.1)

  pub all_drop : (n : ℕ) (l : List A) → All P l → All P (drop n l)
  all_drop zero l a = a
  all_drop (suc n) [] a = tt
  all_drop (suc n) (x ∷ l) a = all_drop n l a.1

  pub all_at : (l : List A) (i : ℕ) (d : A) → All P l → i < length l → P (get_or l i d)
  all_at l i d a h = all_in P (get_or l i d) l a (get_d_in l i d h)

  pub at_all : (l : List A) (d : A) → ((i : ℕ) → i < length l → P (get_or l i d)) → All P l
  at_all [] d f = tt
  at_all (x ∷ l) d f = (f zero (omega arith), at_all l d (λ i h. f (suc i) (omega arith)))

  pub all_flatten : (ls : List (List A)) → All (All P) ls → All P (flatten ls)
  unfolding flatten
  all_flatten [] a = tt
  all_flatten (l ∷ ls) a = all_append P l (flatten ls) a.0 (all_flatten ls a.1)

  pub all_map : {B : Type 0} (f : B → A) (l : List B) → All (λ x. P (f x)) l → All P (map f l)
  all_map f [] a = tt
  all_map f (x ∷ l) a = (a.0, all_map f l a.1)
