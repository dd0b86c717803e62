use mathlib.Core.Path.{◌∙◌}
use Rattle.print.specs.Line.{lines}
use Rattle.print.proofs.Pages.Fitting.{lines_many, lines_few, measured_short, measured_written}
use Rattle.print.proofs.page.lines.Goals as goal

pub returns-then-words-gt-MAX_FIELDS : goal.returns-then-words-gt-MAX_FIELDS
returns-then-words-gt-MAX_FIELDS c = lines_many c.args.words.now _ c.if-words-gt-MAX_FIELDS.true

pub returns-then-out-size : goal.returns-then-out-size
returns-then-out-size c =
    measured_short (lines c.args.words.now) c.lines-size.new.out c.args.out.now c.lines-size.ensures.size c.lines-size.ensures.place c.if-out-size.true
    ∙ lines_few c.args.words.now c.args.out.now c.if-words-gt-MAX_FIELDS.false

pub returns : goal.returns
returns c =
    measured_written (lines c.args.words.now) c.lines-size.new.out c.args.out.now c.lines-size.ensures.size c.lines-size.ensures.place c.if-out-size.false
    c.lines.ensures
    ∙ lines_few c.args.words.now c.args.out.now c.if-words-gt-MAX_FIELDS.false
