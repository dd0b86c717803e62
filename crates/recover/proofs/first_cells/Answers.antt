use Rattle.std.proofs.Common.{arith}
use Rattle.vectors.specs.Bounds.{max_words}
use Rattle.recover.proofs.Firsts.{marking_none, marking_more, marking_past, marking_end}
use Rattle.recover.proofs.first_cells.Goals as goal

pub loop-c-init : goal.loop-c-init
loop-c-init c = marking_none _ max_words

pub loop-c-preserved-then-i-lt-MAX_WORDS : goal.loop-c-preserved-then-i-lt-MAX_WORDS
loop-c-preserved-then-i-lt-MAX_WORDS c =
    marking_more c.loop-c.c c.loop-c.invariant (omega arith) _ c.index-i.ensures c.if-i-lt-MAX_WORDS.true

pub loop-c-preserved : goal.loop-c-preserved
loop-c-preserved c =
    marking_past c.loop-c.c c.loop-c.invariant (omega arith) _ c.index-i.ensures c.if-i-lt-MAX_WORDS.false

pub returns : goal.returns
returns c = marking_end _ c.loop-c.invariant c.loop-c-test.false
