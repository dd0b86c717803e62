use mathlib.Core.Path.{◌∙◌}
use Rattle.print.specs.Sentence.{sentence}
use Rattle.print.proofs.Pages.Fitting.{measured_short, measured_written}
use Rattle.print.proofs.Sentences.{sentence_many, sentence_few}
use Rattle.print.proofs.form.sentence.Goals as goal

pub returns-then-form-gt-MAX_FIELDS : goal.returns-then-form-gt-MAX_FIELDS
returns-then-form-gt-MAX_FIELDS c = sentence_many c.args.form.now c.args.numbers.now _ c.if-form-gt-MAX_FIELDS.true

pub returns-then-out-size : goal.returns-then-out-size
returns-then-out-size c =
    measured_short (sentence c.args.numbers.now c.args.form.now) c.pieces-size.new.out c.args.out.now c.pieces-size.ensures.size c.pieces-size.ensures.place c.if-out-size.true
    ∙ sentence_few c.args.form.now c.args.numbers.now c.args.out.now c.if-form-gt-MAX_FIELDS.false

pub returns : goal.returns
returns c =
    measured_written (sentence c.args.numbers.now c.args.form.now) c.pieces-size.new.out c.args.out.now c.pieces-size.ensures.size c.pieces-size.ensures.place c.if-out-size.false
    c.pieces.ensures
    ∙ sentence_few c.args.form.now c.args.numbers.now c.args.out.now c.if-form-gt-MAX_FIELDS.false
