use native.Mathlib.Omega.{arith}
use lib.ListN.{get_or}
use Rattle.print.proofs.Decimals.Digits.{length_word}
use Rattle.print.proofs.Writing.Pieces.{written_more, writing_end}
use Rattle.print.proofs.Writing.Words.{line_short, filling_none, filling_more}
use Rattle.print.proofs.line.lines.Goals as goal

pub loop-word-init : goal.loop-word-init
loop-word-init c = filling_none line_short

pub byte-end-requires : goal.byte-end-requires
byte-end-requires c =
    omega (arith, c.loop-word.invariant.low, c.put-after.ensures.place, length_word (get_or c.args.words.now c.loop-word.word-index 0) (omega (arith, (c.type_inv.words c.loop-word.word-index).fits)), c.loop-word-test.true, c.requires)

pub loop-word-preserved : goal.loop-word-preserved
loop-word-preserved c =
    filling_more line_short c.loop-word.invariant c.loop-word-test.true (omega (arith, (c.type_inv.words c.loop-word.word-index).fits)) (written_more c.put-after.ensures c.byte-end.ensures)

pub returns : goal.returns
returns c = writing_end line_short.pieces c.loop-word.invariant.so_far c.loop-word-test.false
