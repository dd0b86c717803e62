-- What the functions that lay groups out ask and leave.
use Rattle.std.specs.Prelude.{ℕ, ◌-◌, ◌*◌, ◌≤◌, ◌<◌, ◌≡◌, List, ◌++◌, length, get_or, take, drop, replicate}
use Rattle.lists.specs.Cut.{total}
use Rattle.vectors.specs.Bounds.{max_vectors}
use Rattle.choice.specs.Inner.Split.{tally}
use Rattle.vectors.proofs.Bits.Xor.{Linear}
use Rattle.choice.specs.Inner.Layout.{blocks_of, whole_items, ends_of, items_of, max_blocks}
use Rattle.choice.specs.Inner.Gain.{small_most}
use Rattle.choice.specs.declared.lay.Laid.{Laid}

-- words in groups of those sizes, as many as there is room for
pub record Grouped (sizes words : List ℕ) : Type 0 where
  pub sum : total sizes ≡ length words
  pub few : length words ≤ max_vectors

-- the large groups are laid, in r blocks
pub record WholeLaid (gs : List (List ℕ)) (items ends : List ℕ) (r : ℕ) : Type 0 where
  pub size : length items ≡ 64 * max_blocks
  pub items_are : take (64 * r) items ≡ whole_items gs
  pub ends_are : take r ends ≡ ends_of gs
  pub whole_is : r ≡ length (ends_of gs)
  pub few : r ≤ max_blocks

-- each block of pairs before block to has its rest: no less than what the items from it on tell apart, and no more than the small groups' halves
pub record Bounds (gs : List (List ℕ)) (rests : List ℕ) (to : ℕ) : Type 0 where
  pub size : length rests ≡ max_blocks
  pub high : (f : ℕ → ℕ) → Linear f → (w : ℕ) → length (ends_of gs) ≤ w → w < to → tally f (drop (64 * w) (items_of gs)) ≤ get_or rests w 0
  pub low : (w : ℕ) → length (ends_of gs) ≤ w → w < to → get_or rests w 0 ≤ small_most gs

-- all groups are laid, in r items
pub record PairsLaid (gs : List (List ℕ)) (items rests : List ℕ) (r : ℕ) : Type 0 where
  pub size : length items ≡ 64 * max_blocks
  pub items_are : take r items ≡ items_of gs
  pub count_is : r ≡ length (items_of gs)
  pub few : r ≤ 64 * max_blocks
  pub bounds : Bounds gs rests (blocks_of (length (items_of gs)))

-- the items of the groups, zeros after them up to the end of a block, the sizes with which the whole blocks end, and the rests of the others
pub record LaidOut (gs : List (List ℕ)) (items ends rests : List ℕ) (r : Laid) : Type 0 where
  pub size : length items ≡ 64 * max_blocks
  pub items_are : take (64 * blocks_of (length (items_of gs))) items ≡ items_of gs ++ replicate (64 * blocks_of (length (items_of gs)) - length (items_of gs)) 0
  pub ends_are : take r.whole ends ≡ ends_of gs
  pub whole_is : r.whole ≡ length (ends_of gs)
  pub count_is : r.items ≡ length (items_of gs)
  pub few : length (items_of gs) ≤ 64 * max_blocks
  pub whole_few : r.whole ≤ max_blocks
  pub bounds : Bounds gs rests (blocks_of (length (items_of gs)))
