use Rattle.vectors.specs.Bounds.{max_words}
use Rattle.recover.proofs.Firsts.{Marking}
use Rattle.recover.proofs.first_cells.Given as goal

abbrev pub invariant-loop-c : goal.invariant-loop-c
invariant-loop-c l = Marking l.g max_words l.firsts l.c
