use Rattle.std.proofs.Common.{◌≡◌, map, take, length}
use Rattle.flat.specs.Flat.{variable_at}
use Rattle.flat.proofs.variables.Given as goal

abbrev pub invariant-loop-i : goal.invariant-loop-i
invariant-loop-i l = (length l.v ≡ 24) × (take l.i l.v ≡ map variable_at (take l.i l.words))
