-- The items of groups: how many there are at most. Assumes nothing.
use Prim.Native.Nat.{ℕ, ◌+◌, ◌-◌, ◌*◌, ◌≤◌}
use native.Mathlib.Omega.{arith}
use native.Mathlib.Nat.{mul-le-mul_right}
use mathlib.Core.Path.{◌≡◌, refl, ◌∙◌}
use mathlib.Core.List.{List, [], ◌∷◌, ◌++◌}
use mathlib.Core.Logic.{◌⊎◌, inl, inr}
use lib.ListN.{length, drop, replicate, length-append, length-map, length-replicate, length-drop}
use lib.Seq.{sets, length-take-le}
use Rattle.lists.specs.Cut.{cut, total}
use Rattle.lists.proofs.Writing.Over.{Over, over_start, over_length, over_take, over_sets}
use Rattle.vectors.specs.Bounds.{max_vectors}
use Rattle.choice.specs.Inner.Split.{members}
use Rattle.choice.specs.Inner.Layout.{pairs_of, whole_items, ends_of, pair_items, items_of, blocks_of, max_blocks, paired_most}
use Rattle.choice.specs.Inner.Laid.{Grouped, WholeLaid, PairsLaid, LaidOut}
use Rattle.choice.specs.declared.lay.Laid.{Laid}
use Rattle.choice.proofs.Laying.Laid.{Small, Large, laid, padded_length}

-- ---- how many items

pairs_length : (g : List ℕ) → 2 * length (pairs_of g) + length g ≡ length g * length g
unfolding pairs_of
pairs_length [] = refl
pairs_length (x ∷ xs) = rw (length-append, length-map) (omega (arith, pairs_length xs))

-- of at most 11 members, at most 5 pairs for each
pub pairs_few : (g : List ℕ) → length g ≤ paired_most → length (pairs_of g) ≤ 5 * length g
pairs_few g h = omega (arith, pairs_length g, mul-le-mul_right {m = length g} {n = paired_most} (length g) h)

-- a block for each 12 members at most, and 16 items for each 3
abbrev Bounded : List (List ℕ) → ℕ → Type 0
Bounded gs m = (12 * length (ends_of gs) ≤ m) × (3 * (length (whole_items gs) + length (pair_items gs)) ≤ 16 * m)

bounds : (gs : List (List ℕ)) → Bounded gs (members gs)
unfolding whole_items ends_of pair_items members
bounds [] = (omega arith, omega arith)
bounds (g ∷ gs) = go (laid g gs) (bounds gs)
  where
    go : Small g gs ⊎ Large g gs → Bounded gs (members gs) → Bounded (g ∷ gs) (length g + members gs)
    go (inl s) b = rw (s.whole, s.ends, s.pairs, length-append) (omega (arith, b.0), omega (arith, b.1, pairs_few g s.few))
    go (inr s) b =
        rw (s.whole, s.ends, s.pairs, length-append, length-append, length-replicate)
        (omega (arith, b.0, s.many), omega (arith, b.1, s.many, padded_length g))

cut_members : (ss l : List ℕ) → total ss ≤ length l → members (cut ss l) ≡ total ss
unfolding cut total members
cut_members [] l h = refl
cut_members (s ∷ ss) l h = omega (arith, length-take-le s l (omega arith), cut_members ss (drop s l) (omega (arith, length-drop s l)))

module _ {sizes words : List ℕ} (w : Grouped sizes words) where
  all_members : members (cut sizes words) ≤ max_vectors
  all_members = omega (arith, cut_members sizes words (omega (arith, w.sum)), w.sum, w.few)

  pub ends_room : length (ends_of (cut sizes words)) ≤ max_blocks
  ends_room = omega (arith, (bounds (cut sizes words)).0, all_members)

  pub items_room : length (items_of (cut sizes words)) ≤ 64 * max_blocks
  items_room = rw length-append (omega (arith, (bounds (cut sizes words)).1, all_members))

  pub whole_room : length (whole_items (cut sizes words)) ≤ 64 * max_blocks
  whole_room = omega (arith, (bounds (cut sizes words)).1, all_members)

-- both parts together, and zeros up to the end of the last block
pub laid_out : {gs : List (List ℕ)} {before laid items ends rests : List ℕ} (r : Laid) → WholeLaid gs before ends r.whole → PairsLaid gs laid rests r.items
    → items ≡ sets laid r.items (replicate (64 * blocks_of r.items - r.items) 0) → LaidOut gs items ends rests r
laid_out {gs} {before} {laid} {items} {ends} {rests} r w p e =
    let z : ℕ = 64 * blocks_of (length (items_of gs)) - length (items_of gs) in
    let few : length (items_of gs) ≤ 64 * max_blocks = omega (arith, p.count_is, p.few) in
    let q : items ≡ sets laid (length (items_of gs)) (replicate z 0) = rw (← p.count_is) e in
    let n : length (replicate {A = ℕ} z 0) ≡ z = length-replicate z 0 in
    let s : length (items_of gs ++ replicate z 0) ≡ 64 * blocks_of (length (items_of gs)) = rw length-append (omega arith) in
    let o : Over laid (items_of gs ++ replicate z 0) items = rw q (over_sets (over_start (items_of gs) laid (rw p.count_is at p.items_are)) (replicate z 0) (omega (arith, p.size))) in
    record {
      size = over_length o ∙ p.size;
      items_are = rw s at (over_take o);
      ends_are = w.ends_are;
      whole_is = w.whole_is;
      count_is = p.count_is;
      few = few;
      whole_few = w.few;
      bounds = p.bounds;
    }
