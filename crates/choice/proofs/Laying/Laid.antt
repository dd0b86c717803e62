-- How one group is laid out, small or large, and how long the large groups are. Assumes nothing.
use Prim.Native.Nat.{ℕ, ◌+◌, ◌-◌, ◌*◌, ◌/◌, ◌≤◌, ◌<◌}
use native.Mathlib.Omega.{arith}
use mathlib.Core.Path.{◌≡◌, refl}
use mathlib.Core.List.{List, [], ◌∷◌, ◌++◌}
use mathlib.Core.Logic.{◌⊎◌, inl, inr}
use lib.ListN.{length, replicate, length-append, length-replicate}
use borrow.Author.Tests.{le-leb, lt-leb}
use Rattle.lists.proofs.Tests.{le_or_lt}
use Rattle.choice.specs.Inner.Split.{tally}
use Rattle.choice.proofs.Choice.Squares.{tally_append, tally_none}
use Rattle.choice.specs.Inner.Layout.{paired_most, blocks_of, padded, pairs_of, whole_items, ends_of, pair_items, items_of}
use Rattle.choice.specs.Inner.Gain.{small_most}

pub record Small (g : List ℕ) (gs : List (List ℕ)) : Type 0 where
  pub few : length g ≤ paired_most
  pub whole : whole_items (g ∷ gs) ≡ whole_items gs
  pub ends : ends_of (g ∷ gs) ≡ ends_of gs
  pub pairs : pair_items (g ∷ gs) ≡ pairs_of g ++ pair_items gs
  pub most : small_most (g ∷ gs) ≡ length g * length g / 4 + small_most gs

pub record Large (g : List ℕ) (gs : List (List ℕ)) : Type 0 where
  pub many : paired_most < length g
  pub whole : whole_items (g ∷ gs) ≡ padded g ++ whole_items gs
  pub ends : ends_of (g ∷ gs) ≡ replicate (blocks_of (length g) - 1) 0 ++ (length g ∷ ends_of gs)
  pub pairs : pair_items (g ∷ gs) ≡ pair_items gs
  pub most : small_most (g ∷ gs) ≡ small_most gs

module _ (g : List ℕ) (gs : List (List ℕ)) where
  pub small : length g ≤ paired_most → Small g gs
  unfolding whole_items ends_of pair_items small_most
  small h = let e = le-leb (length g) paired_most h in record { few = h; whole = rw e; ends = rw e; pairs = rw e; most = rw e }

  pub large : paired_most < length g → Large g gs
  unfolding whole_items ends_of pair_items small_most
  large h = let e = lt-leb (length g) paired_most h in record { many = h; whole = rw e; ends = rw e; pairs = rw e; most = rw e }

  pub laid : Small g gs ⊎ Large g gs
  laid = go (le_or_lt (length g) paired_most)
    where
      go : (length g ≤ paired_most) ⊎ (paired_most < length g) → Small g gs ⊎ Large g gs
      go (inl h) = inl (small h)
      go (inr h) = inr (large h)

-- whole blocks
pub padded_length : (g : List ℕ) → length (padded g) ≡ 64 * blocks_of (length g)
unfolding padded
padded_length g = simp (length-append, length-replicate) (omega arith)

-- zeros add nothing
pub padded_tally : (f : ℕ → ℕ) → f 0 ≡ 0 → (g : List ℕ) → tally f (padded g) ≡ tally f g
unfolding padded
padded_tally f e g =
    omega (arith, tally_append f g (replicate (64 * blocks_of (length g) - length g) 0), tally_none f e (64 * blocks_of (length g) - length g))

-- an end for each block of the large groups
pub whole_length : (gs : List (List ℕ)) → length (whole_items gs) ≡ 64 * length (ends_of gs)
unfolding whole_items ends_of
whole_length [] = refl
whole_length (g ∷ gs) = go (laid g gs) (whole_length gs)
  where
    go : Small g gs ⊎ Large g gs → length (whole_items gs) ≡ 64 * length (ends_of gs) → length (whole_items (g ∷ gs)) ≡ 64 * length (ends_of (g ∷ gs))
    go (inl s) r = rw (s.whole, s.ends) r
    go (inr s) r = rw (s.whole, s.ends) (simp (length-append, length-replicate) (omega (arith, s.many)))

-- the large groups' blocks are among all
pub ends_few : (gs : List (List ℕ)) → length (ends_of gs) ≤ blocks_of (length (items_of gs))
ends_few gs = omega (arith, whole_length gs, length-append (whole_items gs) (pair_items gs))
