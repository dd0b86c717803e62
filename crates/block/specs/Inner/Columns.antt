-- Bytes summed by columns, in rows of 16.
use Rattle.std.specs.Prelude.{ℕ, suc, ◌+◌, ◌*◌, ◌≤◌, ◌≡◌, List, length}
use Rattle.lists.specs.Members.{All}
use Rattle.block.specs.Block.{sum_of, weigh}

abbrev pub lanes : ℕ
lanes = 16

-- half of a block
abbrev pub half_size : ℕ
half_size = 256

-- after so many rows: the sum of each column, and the sum of its sums row by row, in words of 16 bits
pub record Columns (rows : ℕ) (sums runs : List ℕ) : Type 0 where
  pub sums_long : length sums ≡ lanes
  pub runs_long : length runs ≡ lanes
  pub sums_low : All (λ x. x ≤ 255 * rows) sums
  pub runs_low : All (λ x. x ≤ 4080 * rows) runs

-- one more row of bytes
pub record Added (bytes : List ℕ) (row : ℕ) (sums runs sums' runs' : List ℕ) : Type 0 where
  pub columns : Columns (suc row) sums' runs'
  pub plain : sum_of sums' ≡ sum_of sums + sum_of bytes
  pub weighed : weigh lanes sums' ≡ weigh lanes sums + weigh lanes bytes
  pub running : sum_of runs' ≡ sum_of runs + sum_of sums'
