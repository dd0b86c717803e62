use Rattle.std.proofs.Common.{◌≡◌, take}
use Rattle.flat.specs.Flat.{low_variables}
use Rattle.flat.proofs.low_variables.Given as goal

abbrev pub invariant-loop-i : goal.invariant-loop-i
invariant-loop-i l = l.v ≡ low_variables (take l.i l.words)
