-- What the tests of a well-formed unit say.
use Rattle.std.specs.Prelude.{◌-◌, ◌^◌, ◌≤◌, ◌<◌, ◌≡◌, false, length}
use Rattle.std.specs.Int.Count.{ones}
use Rattle.lists.specs.Members.{All}
use Rattle.vectors.specs.Variable.{faulty}
use Rattle.record.specs.declared.Record.{Record}
use Rattle.vectors.specs.Bounds.{max_inputs, max_variables, max_side}
use Rattle.record.specs.Record.{kinds_in}
use Rattle.record.specs.Tables.{Tables}

-- of the numbers
pub record InBounds (u : Record) : Type 0 where
  pub inputs : u.n ≤ max_inputs
  pub within : u.p ≤ u.n
  pub few : u.p ≤ max_variables
  pub rows_in : u.n1 ≤ u.p
  pub rows_few : u.n1 ≤ max_side
  pub columns_few : u.p - u.n1 ≤ max_side

-- of the variables and the kept inputs
pub record RightInputs (u : Record) : Type 0 where
  pub right : All (λ k. faulty u.n k ≡ false) (kinds_in u)
  pub kept_number : ones u.kept ≡ u.n - u.p
  pub kept_in : u.kept < 2 ^ u.n

pub record WellFormed (u : Record) (t : Tables) : Type 0 where
  pub bounds : InBounds u
  pub inputs : RightInputs u
  pub rows_held : 2 ^ u.n1 ≤ length t.h
  pub cells_held : u.cells ≤ length t.g
  pub words_held : u.k < length t.aux
