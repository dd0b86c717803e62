-- A list stored over the front of another. Assumes nothing.
use Prim.Native.Nat.{ℕ, ◌+◌, ◌≤◌, ◌<◌}
use native.Mathlib.Omega.{arith}
use mathlib.Core.Path.{◌≡◌, ap, ◌∙◌}
use mathlib.Core.List.{List, ◌++◌}
use lib.ListN.{length, get_or, drop, set}
use lib.Seq.{sets, sets-eq}
use Rattle.lists.proofs.Writing.Storing.{Storing, storing_more, storing_end}

module _ {A : Type 0} (vs old : List A) where
  pub stored_more : (d v : A) (l : List A) (i : ℕ) → i < length vs → v ≡ get_or vs i d → Storing vs old 0 l i → Storing vs old 0 (set l i v) (i + 1)
  stored_more d v l i h e s = let z : 0 + i ≡ i = omega arith in rw z at (storing_more vs old 0 d v l i h e s)

  sets_front : length vs ≤ length old → sets old 0 vs ≡ vs ++ drop (length vs) old
  sets_front h = let z : 0 + length vs ≡ length vs = omega arith in sets-eq vs old 0 (omega arith) ∙ ap (λ (j : ℕ). vs ++ drop j old) z

  pub stored_all : (l : List A) (i : ℕ) → length vs ≤ length old → length vs ≤ i → Storing vs old 0 l i → l ≡ vs ++ drop (length vs) old
  stored_all l i n h s = storing_end vs old 0 l i h s ∙ sets_front n
