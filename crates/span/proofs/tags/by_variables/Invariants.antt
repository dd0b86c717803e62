use Rattle.span.specs.Within.{kinds_within}
use Rattle.span.proofs.Walking.{Walking}
use Rattle.span.proofs.tags.by_variables.Given as goal

abbrev pub invariant-loop-i : goal.invariant-loop-i
invariant-loop-i l = Walking (kinds_within l.fn.n l.fn.p l.fn.variables) l.fn.values l.tags l.rest l.first l.i
