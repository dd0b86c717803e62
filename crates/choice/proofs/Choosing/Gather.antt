-- The words gathered: those of the first i members. Assumes nothing.
use Prim.Native.Nat.{ℕ, ◌+◌, ◌≤◌, ◌<◌}
use native.Mathlib.Omega.{arith}
use mathlib.Core.Path.{◌≡◌, refl, ap, ◌∙◌}
use mathlib.Core.List.{List, map}
use lib.ListN.{length, get_or, take, set, length-set}
use lib.Seq.{take-length}
use Rattle.lists.proofs.Writing.Mapped.{mapped_more}

pub record Gathered (f : ℕ → ℕ) (order before words : List ℕ) (i : ℕ) : Type 0 where
  pub within : i ≤ length order
  pub size : length words ≡ length before
  pub is : take i words ≡ map f (take i order)

module _ (f : ℕ → ℕ) (order before : List ℕ) where
  pub gathered_none : Gathered f order before before 0
  gathered_none = record { within = omega arith; size = refl; is = refl }

  pub gathered_more : (d : ℕ) (words : List ℕ) (i : ℕ) → i < length order → length order ≤ length before → Gathered f order before words i
      → Gathered f order before (set words i (f (get_or order i d))) (i + 1)
  gathered_more d words i h r s =
      record {
        within = omega arith;
        size = length-set words i (f (get_or order i d)) ∙ s.size;
        is = mapped_more f order words i (f (get_or order i d)) d h (omega (arith, s.size)) refl s.is;
      }

  pub gathered_end : (words : List ℕ) (i : ℕ) → length order ≤ i → Gathered f order before words i → take (length order) words ≡ map f order
  gathered_end words i h s =
      let e : i ≡ length order = omega (arith, s.within) in
      let g : take (length order) words ≡ map f (take (length order) order) = rw e at s.is in
      g ∙ ap (map f) (take-length order)
