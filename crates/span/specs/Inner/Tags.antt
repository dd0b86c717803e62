-- Nodes and their tags. The nodes are 0, the ground, and the inputs; a variable is an edge between two. A node's tag is twice its label
-- and its parity, what it is apart by from the label's node. Joined nodes have one label.
use Rattle.std.specs.Prelude.{ℕ, zero, suc, ◌+◌, ◌*◌, ◌/◌, ◌%◌, Bool, cond, List, [], ◌∷◌, map, eqb, get_or}
use Rattle.std.specs.Int.Bits.{bit_xor}
use Rattle.std.specs.List.{range_with_len}
use Rattle.vectors.specs.declared.Kind.{Kind}
use Rattle.vectors.specs.Variable.{earlier, later}

-- d nodes from s on, each its own label
unfoldable pub nodes_from : ℕ → ℕ → List ℕ
nodes_from d s = range_with_len s d

abbrev pub start_tags : ℕ → List ℕ
start_tags d = map (λ (x : ℕ). 2 * x) (nodes_from d 0)

-- the label of a tag
abbrev pub half : ℕ → ℕ
half x = x / 2

-- the nodes a and b have one label
abbrev pub met : List ℕ → ℕ → ℕ → Bool
met c a b = eqb (get_or c a 0 / 2) (get_or c b 0 / 2)

-- a tag of the label p is turned by d
abbrev pub turn : ℕ → ℕ → ℕ → ℕ
turn p d x = cond (eqb (x / 2) p) (bit_xor x d) x

-- the labels of a and b become one, with a and b apart by v; two nodes of one label stay as they are
abbrev pub joined : List ℕ → ℕ → ℕ → ℕ → List ℕ
joined c a b v = cond (met c a b) c (map (turn (get_or c a 0 / 2) (bit_xor (bit_xor (get_or c a 0) (get_or c b 0)) v)) c)

-- joined by the variables, the first one's value the lowest bit of v
unfoldable pub tags_on : List Kind → ℕ → List ℕ → List ℕ
tags_on [] v c = c
tags_on (k ∷ ks) v c = tags_on ks (v / 2) (joined c (earlier k) (later k) (v % 2))

-- d inputs from bit j on, each joined to the ground; those that were not yet get the bits of w
unfoldable pub grounded_on : ℕ → ℕ → ℕ → List ℕ → List ℕ
grounded_on zero j w c = c
grounded_on (suc d) j w c = grounded_on d (suc j) (cond (met c (suc j) 0) w (w / 2)) (joined c (suc j) 0 (w % 2))

-- ---- labels alone

-- the label p becomes q
abbrev pub relabel : ℕ → ℕ → ℕ → ℕ
relabel p q x = cond (eqb x p) q x

-- the label of a becomes that of b
abbrev pub merged : List ℕ → ℕ → ℕ → List ℕ
merged c a b = map (relabel (get_or c a 0) (get_or c b 0)) c

-- the mask of the d inputs from bit j on that get the ground's label only when it is their turn, shifted to bit 0
unfoldable pub kept_on : ℕ → ℕ → List ℕ → ℕ
kept_on zero j c = 0
kept_on (suc d) j c = cond (eqb (get_or c (suc j) 0) (get_or c 0 0)) 0 1 + 2 * kept_on d (suc j) (merged c (suc j) 0)

-- ---- the vector

-- d bits from j on: each node's parity to the ground
unfoldable pub read_off : ℕ → ℕ → List ℕ → ℕ
read_off zero j c = 0
read_off (suc d) j c = (get_or c (suc j) 0 + get_or c 0 0) % 2 + 2 * read_off d (suc j) c
