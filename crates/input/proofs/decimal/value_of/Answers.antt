use mathlib.Core.Path.{sym, ◌∙◌}
use Rattle.input.proofs.Reading.Bytes.{hand_none, hand_on, hand_stop, hand_end}
use Rattle.input.proofs.decimal.value_of.Goals as goal

pub loop-b-init : goal.loop-b-init
loop-b-init c = hand_none c.args.field.now

pub returns-in_err-grown : goal.returns-in_err-grown
returns-in_err-grown c =
    c.from_residual.ensures ∙ sym (hand_stop c.args.field.now _ _ c.loop-b.invariant c.loop-b-test.true (sym c.grown.ensures ∙ c.in_err-grown.was))

pub loop-b-preserved : goal.loop-b-preserved
loop-b-preserved c = hand_on c.args.field.now _ _ c.loop-b.invariant _ c.loop-b-test.true (sym c.grown.ensures ∙ c.in_ok-grown.was)

pub returns : goal.returns
returns c = hand_end c.args.field.now _ _ c.loop-b.invariant c.loop-b-test.false
