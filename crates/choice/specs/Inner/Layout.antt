-- How the groups are laid out: items, 64 to a block. A large group begins a block of its own; of a small one, each two members are one item, their XOR.
use Rattle.std.specs.Prelude.{ℕ, zero, suc, ◌+◌, ◌-◌, ◌*◌, ◌/◌, cond, List, [], ◌∷◌, ◌++◌, map, leb, length, take, drop, replicate}
use Rattle.std.specs.Int.Bits.{bit_xor}
use Rattle.transpose.specs.Turn.{column}

-- the members of a group that is laid by its pairs, at most
abbrev pub paired_most : ℕ
paired_most = 11

-- how many blocks so many items take
abbrev pub blocks_of : ℕ → ℕ
blocks_of m = (m + 63) / 64

-- with zeros up to the end of a block
unfoldable pub padded : List ℕ → List ℕ
padded g = g ++ replicate (64 * blocks_of (length g) - length g) 0

-- the XOR of each two
unfoldable pub pairs_of : List ℕ → List ℕ
pairs_of [] = []
pairs_of (x ∷ xs) = map (bit_xor x) xs ++ pairs_of xs

-- the items of the large groups
unfoldable pub whole_items : List (List ℕ) → List ℕ
unfolding padded
whole_items [] = []
whole_items (g ∷ gs) = cond (leb (length g) paired_most) (whole_items gs) (padded g ++ whole_items gs)

-- of each block of these, the size of the group that ends with it, or 0
unfoldable pub ends_of : List (List ℕ) → List ℕ
ends_of [] = []
ends_of (g ∷ gs) = cond (leb (length g) paired_most) (ends_of gs) (replicate (blocks_of (length g) - 1) 0 ++ (length g ∷ ends_of gs))

-- the items of the small groups
unfoldable pub pair_items : List (List ℕ) → List ℕ
unfolding pairs_of
pair_items [] = []
pair_items (g ∷ gs) = cond (leb (length g) paired_most) (pairs_of g ++ pair_items gs) (pair_items gs)

-- all items, those of the large groups first
abbrev pub items_of : List (List ℕ) → List ℕ
items_of gs = whole_items gs ++ pair_items gs

-- block w of the items
abbrev pub block : ℕ → List ℕ → List ℕ
block w items = take 64 (drop (64 * w) items)

-- room for the items of 1,023 members: a block for each 12 members of a large group, 5 items for each member of a small one
abbrev pub max_blocks : ℕ
max_blocks = 88

-- the column of input i: its values in the items, the first as lowest bit; of input 0, zeros
abbrev pub input_column : ℕ → List ℕ → ℕ
input_column zero xs = 0
input_column (suc i) xs = column i xs
