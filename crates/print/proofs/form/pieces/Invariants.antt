use Rattle.print.specs.Sentence.{sentence}
use Rattle.print.proofs.Writing.Words.{Filling}
use Rattle.print.proofs.form.pieces.Given as goal

abbrev pub invariant-loop-b : goal.invariant-loop-b
invariant-loop-b l = Filling (sentence l.numbers) l.initial.out 0 l.form l.out l.end l.b-index
