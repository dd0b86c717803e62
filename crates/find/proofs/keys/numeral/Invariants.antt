use Rattle.find.proofs.Numerals.{Counting}
use Rattle.find.proofs.keys.numeral.Given as goal

abbrev pub invariant-loop-b : goal.invariant-loop-b
invariant-loop-b l = Counting l.base l.bytes l.value l.b-index
