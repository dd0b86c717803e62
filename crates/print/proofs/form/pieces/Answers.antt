use Prim.Native.Nat.{ℕ, ◌^◌, ◌<◌}
use native.Mathlib.Omega.{arith}
use lib.ListN.{get_or}
use Rattle.print.proofs.Sentences.{sentence_short}
use Rattle.print.proofs.Writing.Pieces.{writing_end}
use Rattle.print.proofs.Writing.Words.{filling_none, filling_more}
use Rattle.print.proofs.form.pieces.Goals as goal
use Rattle.print.proofs.form.pieces.Goals.{After-slice_known-1}

-- the numbers are words
fit : (c : After-slice_known-1) (i : ℕ) → get_or c.args.numbers.now i 0 < 2 ^ 64
fit c i = omega (arith, c.shared_slice_known-2-1.given i)

pub loop-b-init : goal.loop-b-init
loop-b-init c = filling_none (sentence_short _ (fit c))

pub piece-end-requires : goal.piece-end-requires
piece-end-requires c =
    omega (arith, c.loop-b.invariant.low, c.loop-b-test.true, c.requires)

pub loop-b-preserved : goal.loop-b-preserved
loop-b-preserved c =
    filling_more (sentence_short _ (fit (goal.at.loop-b-preserved c).After-slice_known-1)) c.loop-b.invariant c.loop-b-test.true
    (omega (arith, (c.type_inv.form c.loop-b.b-index).fits)) c.piece-end.ensures

pub shape_of-out : goal.shape_of-out
shape_of-out c = c.loop-b.invariant.so_far.so_far.size

pub returns : goal.returns
returns c = writing_end (sentence_short _ (fit (goal.at.returns c).After-slice_known-1)).pieces c.loop-b.invariant.so_far c.loop-b-test.false
