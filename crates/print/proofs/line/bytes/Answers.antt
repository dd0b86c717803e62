use native.Mathlib.Omega.{arith}
use Rattle.print.proofs.Writing.Pieces.{writing_none, writing_more, writing_end, byte_pieces}
use Rattle.print.proofs.line.bytes.Goals as goal

pub loop-b-init : goal.loop-b-init
loop-b-init c = (omega arith, writing_none byte_pieces)

pub loop-b-preserved : goal.loop-b-preserved
loop-b-preserved c =
    let w = c.byte-end.ensures in
    (omega (arith, w.place), writing_more byte_pieces c.loop-b.invariant.1 c.loop-b-test.true w)

pub shape_of-out : goal.shape_of-out
shape_of-out c = c.loop-b.invariant.1.so_far.size

pub returns : goal.returns
returns c = writing_end byte_pieces c.loop-b.invariant.1 c.loop-b-test.false
