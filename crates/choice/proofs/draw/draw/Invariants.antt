use Rattle.choice.proofs.Laying.Drawing.{Drawing}
use Rattle.choice.proofs.draw.draw.Given as goal

abbrev pub invariant-loop-w : goal.invariant-loop-w
invariant-loop-w l = Drawing l.initial.items l.items l.w
