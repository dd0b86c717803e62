-- What groups tell apart at most: halves. Assumes nothing.
use Prim.Native.Nat.{ℕ, zero, suc, ◌+◌, ◌-◌, ◌*◌, ◌/◌, ◌≤◌}
use native.Mathlib.Nat.{mul-le-mul, le_trans}
use native.Mathlib.Omega.{arith}
use mathlib.Core.Path.{◌≡◌, refl, ap₂, ◌∙◌}
use mathlib.Core.List.{List, [], ◌∷◌, ◌++◌, map}
use mathlib.Core.Logic.{◌⊎◌, inl, inr}
use lib.ListN.{length, drop, replicate, length-drop}
use lib.Seq.{length-take-le}
use Rattle.lists.specs.Cut.{cut, total}
use Rattle.choice.specs.Inner.Split.{tally}
use Rattle.choice.proofs.Choice.Squares.{tally_le, tally_append}
use Rattle.vectors.proofs.Bits.Xor.{Linear}
use Rattle.choice.specs.Inner.Layout.{blocks_of, pairs_of, ends_of, pair_items}
use Rattle.choice.specs.Inner.Gain.{most_of, small_most}
use Rattle.vectors.specs.Bounds.{max_vectors}
use Rattle.choice.specs.Inner.Judged.{max_gain}
use Rattle.choice.proofs.Counting.Splits.{pairs_splits, splits_half}
use Rattle.choice.proofs.Laying.Laid.{Small, Large, laid}

zeros_most : (m : ℕ) (es : List ℕ) → most_of (replicate m 0 ++ es) ≡ most_of es
unfolding most_of
zeros_most zero es = refl
zeros_most (suc m) es = omega (arith, zeros_most m es)

-- no more than the square of all
most_square : (ss : List ℕ) → most_of ss ≤ total ss * total ss
unfolding most_of total
most_square [] = omega arith
most_square (s ∷ ss) = omega (arith, most_square ss)

pub halves_low : (sizes : List ℕ) → total sizes ≤ max_vectors → most_of sizes ≤ max_gain
halves_low sizes h = le_trans (most_square sizes) (le_trans (mul-le-mul h h) (omega arith))

-- the groups cut have their sizes
cut_most : (sizes words : List ℕ) → total sizes ≤ length words → most_of (map length (cut sizes words)) ≡ most_of sizes
unfolding most_of cut total
cut_most [] words h = refl
cut_most (s ∷ sizes) words h =
    ap₂ (λ (m n : ℕ). m * m / 4 + n) (length-take-le s words (omega arith)) (cut_most sizes (drop s words) (omega (arith, length-drop s words)))

-- the large groups and the small ones
parts_most : (gs : List (List ℕ)) → most_of (ends_of gs) + small_most gs ≡ most_of (map length gs)
unfolding most_of ends_of small_most
parts_most [] = refl
parts_most (g ∷ gs) = go (laid g gs) (parts_most gs)
  where
    go : Small g gs ⊎ Large g gs → most_of (ends_of gs) + small_most gs ≡ most_of (map length gs)
        → most_of (ends_of (g ∷ gs)) + small_most (g ∷ gs) ≡ length g * length g / 4 + most_of (map length gs)
    go (inl s) r = rw (s.ends, s.most) (omega arith)
    go (inr s) r = rw (s.ends, s.most, zeros_most (blocks_of (length g) - 1) (length g ∷ ends_of gs)) (omega arith)

pub halves : (sizes words : List ℕ) → total sizes ≡ length words → most_of (ends_of (cut sizes words)) + small_most (cut sizes words) ≡ most_of sizes
halves sizes words h = parts_most (cut sizes words) ∙ cut_most sizes words (omega arith)

-- the pairs told apart in the small groups
pub pairs_most : (f : ℕ → ℕ) → Linear f → (gs : List (List ℕ)) → tally f (pair_items gs) ≤ small_most gs
unfolding tally pair_items small_most
pairs_most f l [] = omega arith
pairs_most f l (g ∷ gs) = go (laid g gs) (pairs_most f l gs)
  where
    go : Small g gs ⊎ Large g gs → tally f (pair_items gs) ≤ small_most gs → tally f (pair_items (g ∷ gs)) ≤ small_most (g ∷ gs)
    go (inl s) r =
        rw (s.pairs, s.most)
        (omega (arith, tally_append f (pairs_of g) (pair_items gs), pairs_splits f l g, splits_half (tally f g) (length g) (tally_le f l.low g)))
    go (inr s) r = rw (s.pairs, s.most) r
