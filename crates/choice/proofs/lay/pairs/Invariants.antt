use Rattle.choice.proofs.Laying.Pairs.{Pairing}
use Rattle.choice.proofs.lay.pairs.Given as goal

abbrev pub invariant-loop-i : goal.invariant-loop-i
invariant-loop-i l = Pairing l.group l.initial.out l.at l.out l.w l.i
