use Rattle.many.proofs.Inputs.{Peeling}
use Rattle.many.proofs.images.mark_kept.Given as goal

abbrev pub invariant-loop-j : goal.invariant-loop-j
invariant-loop-j l = Peeling l.n l.kept l.at l.initial.images l.images l.rest l.j l.q
