use Rattle.print.specs.Line.{lines}
use Rattle.print.proofs.Writing.Words.{Filling}
use Rattle.print.proofs.line.lines.Given as goal

abbrev pub invariant-loop-word : goal.invariant-loop-word
invariant-loop-word l = Filling lines l.initial.out l.at l.words l.out l.end l.word-index
