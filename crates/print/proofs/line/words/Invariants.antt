use Rattle.print.proofs.Writing.Words.{Named}
use Rattle.print.proofs.line.words.Given as goal

abbrev pub invariant-loop-word : goal.invariant-loop-word
invariant-loop-word g l = Named g.T.Into.converts l.name l.fn.out l.at l.words l.out l.end l.word-index
