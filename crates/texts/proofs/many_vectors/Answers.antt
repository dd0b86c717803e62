use Rattle.std.proofs.Common.{sym, length-take-le, arith}
use Rattle.texts.proofs.many_vectors.Goals as goal

pub slice_bounds-answer-end-2 : goal.slice_bounds-answer-end-2
slice_bounds-answer-end-2 g c = sym (length-take-le 2053 c.loop-i.text (omega (arith, c.loop-i.invariant)))
