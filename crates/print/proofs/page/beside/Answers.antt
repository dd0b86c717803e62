use mathlib.Core.Path.{◌∙◌}
use Rattle.print.specs.Line.{beside}
use Rattle.print.proofs.Pages.Fitting.{beside_long, beside_fits, measured_short, measured_written}
use Rattle.print.proofs.page.beside.Goals as goal

pub returns-then-text-gt-MAX_BYTES : goal.returns-then-text-gt-MAX_BYTES
returns-then-text-gt-MAX_BYTES c = beside_long c.args.text.now c.args.numbers.now _ c.if-text-gt-MAX_BYTES.true

pub returns-then-out-size : goal.returns-then-out-size
returns-then-out-size c =
    measured_short (beside c.args.text.now c.args.numbers.now) c.beside-size.new.out c.args.out.now c.beside-size.ensures.size c.beside-size.ensures.place c.if-out-size.true
    ∙ beside_fits c.args.text.now c.args.numbers.now c.args.out.now c.if-text-gt-MAX_BYTES.false

pub returns : goal.returns
returns c =
    measured_written (beside c.args.text.now c.args.numbers.now) c.beside-size.new.out c.args.out.now c.beside-size.ensures.size c.beside-size.ensures.place c.if-out-size.false
    c.beside.ensures
    ∙ beside_fits c.args.text.now c.args.numbers.now c.args.out.now c.if-text-gt-MAX_BYTES.false
