use native.Mathlib.Omega.{arith}
use Rattle.print.proofs.Writing.Words.{named_none, named_more, named_end}
use Rattle.print.proofs.line.words.Goals as goal

pub loop-word-init : goal.loop-word-init
loop-word-init g c = named_none c.bytes-end.ensures

pub field-end-requires : goal.field-end-requires
field-end-requires g c = omega (arith, c.loop-word.invariant.low, c.requires)

pub loop-word-preserved : goal.loop-word-preserved
loop-word-preserved g c = named_more c.loop-word.invariant c.loop-word-test.true c.word-item.is c.into.ensures c.into.type_inv c.field-end.ensures

pub returns : goal.returns
returns g c =
    record {
      written = named_end c.loop-word.invariant c.loop-word-test.false;
      upper_bound = omega (arith, c.loop-word.invariant.low, c.loop-word.auto.word-index-end);
    }
