use Rattle.std.proofs.Common.{◌≡◌, length, take}
use Rattle.vectors.specs.Bounds.{max_variables}
use Rattle.vectors.specs.Variable.{kinds_of}
use Rattle.record.specs.Record.{variables_of}
use Rattle.record.proofs.marked.Given as goal

abbrev pub invariant-loop-i : goal.invariant-loop-i
invariant-loop-i l = (length l.variables ≡ max_variables) × (l.m ≡ variables_of l.n1 (kinds_of (take l.i l.variables)))
