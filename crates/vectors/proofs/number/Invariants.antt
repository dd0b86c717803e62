use Rattle.vectors.proofs.Variables.Masking.{Numbering}
use Rattle.vectors.proofs.number.Given as goal

abbrev pub invariant-loop-mask : goal.invariant-loop-mask
invariant-loop-mask l = Numbering l.masks l.x l.mask-iterator.iter.rest.now l.r
