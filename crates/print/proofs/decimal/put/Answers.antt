use native.Mathlib.Omega.{arith}
use Rattle.print.proofs.Decimals.Digits.{decimal_one, length_word}
use Rattle.print.proofs.Writing.Spelling.{spelling_none, spelling_in, spelling_more, spelling_end}
use Rattle.print.proofs.Writing.Pieces.{written_not}
use Rattle.print.proofs.decimal.put.Goals as goal

pub returns-then-n-lt10 : goal.returns-then-n-lt10
returns-then-n-lt10 c = rw (decimal_one c.args.n c.if-n-lt10.true) c.byte.ensures

pub overflow_add-end : goal.overflow_add-end
overflow_add-end c =
    omega (arith, c.digits.ensures, length_word c.args.n c.ranges.n.fits)

pub returns-then-out-end : goal.returns-then-out-end
returns-then-out-end c = written_not _ (omega (arith, c.digits.ensures)) c.if-out-end.true

pub loop-i-init : goal.loop-i-init
loop-i-init c = spelling_none (omega (arith, c.digits.ensures)) (omega (arith, c.if-out-end.false, c.digits.ensures))

pub bounds-out-i : goal.bounds-out-i
bounds-out-i c = spelling_in c.loop-i.invariant c.loop-i-test.true

pub loop-i-preserved : goal.loop-i-preserved
loop-i-preserved c = spelling_more c.loop-i.invariant c.loop-i-test.true

pub returns : goal.returns
returns c =
    record {
      place = omega (arith, c.digits.ensures);
      size = c.loop-i.auto.out;
      is = λ _. spelling_end c.loop-i.invariant c.loop-i-test.false;
    }
