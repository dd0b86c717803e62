-- How a placing ends.
use Rattle.std.specs.Prelude.{ℕ}

-- all rows are placed; or a row has no displacement: which, how many were tried, and the least number of cells with which it would have one; or the tries exceed the allowance, with the row in hand; or what was lent cannot be placed
pub data End : Type 0 where
  All : End
  NoFit : ℕ → ℕ → ℕ → End
  Over : ℕ → End
  Unfit : End
