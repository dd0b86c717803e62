-- What is so of each place of a text that is reached.
use Rattle.std.specs.Prelude.{◌+◌, ◌≤◌}
use Rattle.fault.specs.declared.State.{State}

-- line and column are above the bytes read by at most 1, and no more numbers have begun than bytes were read
pub record Within (s : State) : Type 0 where
  pub lines : s.line ≤ s.at + 1
  pub columns : s.column ≤ s.at + 1
  pub numbers : s.count ≤ s.at
