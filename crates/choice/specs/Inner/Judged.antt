-- A candidate judged by a sheet: the columns, ends and rests of the blocks, and what all groups have at most.
use Rattle.std.specs.Prelude.{ℕ, zero, suc, ◌+◌, ◌-◌, ◌*◌, ◌^◌, ◌≤◌, ◌<◌, ◌≡◌, List, length, get_or}
use Rattle.std.specs.Int.Bits.{bit_xor}
use Rattle.std.specs.Int.Count.{ones}
use Rattle.vectors.specs.declared.Kind.{Kind}
use Rattle.choice.specs.Inner.Layout.{max_blocks, block, input_column}
use Rattle.choice.specs.Inner.Gain.{whole_gain, most_of, pair_gain, Counts}
use Rattle.vectors.specs.Bounds.{max_inputs}
use Rattle.vectors.specs.Variable.{earlier, later}

-- above what any candidate tells apart
abbrev pub max_gain : ℕ
max_gain = 2 ^ 20

-- a word for each input in each block
abbrev pub columns_size : ℕ
columns_size = 64 * max_blocks

-- the word of input i in block w; of input 0, zeros
abbrev pub column_at : List ℕ → ℕ → ℕ → ℕ
column_at columns zero w = 0
column_at columns (suc i) w = get_or columns (64 * w + i) 0

-- the columns of the first blocks of the items
pub record Drawn (items columns : List ℕ) (blocks : ℕ) : Type 0 where
  pub size : length columns ≡ columns_size
  pub are : (i w : ℕ) → i ≤ max_inputs → w < blocks → column_at columns i w ≡ input_column i (block w items)

-- the XOR of the columns of inputs i and j in block w
abbrev pub cross_at : List ℕ → ℕ → ℕ → ℕ → ℕ
cross_at columns i j w = bit_xor (column_at columns i w) (column_at columns j w)

-- its ones
abbrev pub tally_at : List ℕ → ℕ → ℕ → ℕ → ℕ
tally_at columns i j w = ones (cross_at columns i j w)

-- the pairs told apart by the XOR of inputs i and j, by those columns
unfoldable pub gain_at : List ℕ → List ℕ → ℕ → ℕ → ℕ → ℕ
unfolding whole_gain pair_gain
gain_at columns ends blocks i j =
    whole_gain ends (tally_at columns i j) 0 0 + pair_gain (blocks - length ends) (tally_at columns i j) (length ends)

-- what counting the pairs of inputs i and j from a block on needs, with start counted before
pub record Pairs (columns rests : List ℕ) (i j from start : ℕ) : Type 0 where
  pub size : length columns ≡ columns_size
  pub first_in : i ≤ max_inputs
  pub second_in : j ≤ max_inputs
  pub second_some : 0 < j
  pub fit : length rests ≤ max_blocks
  pub within : from ≤ length rests
  pub high : (w : ℕ) → from ≤ w → w < length rests → pair_gain (length rests - w) (tally_at columns i j) w ≤ get_or rests w 0
  pub low : (w : ℕ) → from ≤ w → w < length rests → get_or rests w 0 ≤ max_gain
  pub sum_low : start + pair_gain (length rests - from) (tally_at columns i j) from ≤ max_gain

-- what judging inputs i and j needs
pub record Judgeable (columns ends rests : List ℕ) (most i j : ℕ) : Type 0 where
  pub size : length columns ≡ columns_size
  pub whole : length ends ≤ length rests
  pub fit : length rests ≤ max_blocks
  pub first_in : i ≤ max_inputs
  pub second_in : j ≤ max_inputs
  pub second_some : 0 < j
  pub counts : Counts ends (tally_at columns i j) 0 0
  pub low : gain_at columns ends (length rests) i j ≤ max_gain
  pub most_high : most_of ends ≤ most
  pub most_low : most ≤ max_gain
  pub rests_high : (w : ℕ) → length ends ≤ w → w < length rests → pair_gain (length rests - w) (tally_at columns i j) w ≤ get_or rests w 0
  pub rests_low : (w : ℕ) → length ends ≤ w → w < length rests → get_or rests w 0 ≤ most - most_of ends

-- every candidate of n inputs can be judged
abbrev pub AllJudgeable : List ℕ → List ℕ → List ℕ → ℕ → ℕ → Type 0
AllJudgeable columns ends rests most n = (i j : ℕ) → i < j → j ≤ n → Judgeable columns ends rests most i j

-- the less a candidate leaves, the more it tells apart
abbrev pub left_by : List ℕ → List ℕ → ℕ → Kind → ℕ
left_by columns ends blocks k = max_gain - gain_at columns ends blocks (earlier k) (later k)

-- above beat a judgement is exact, and up to beat it says that no more is right
pub record Judges (exact beat r : ℕ) : Type 0 where
  pub above : beat < r → r ≡ exact
  pub below : r ≤ beat → exact ≤ beat
