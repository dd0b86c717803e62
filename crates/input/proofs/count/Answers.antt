use mathlib.Core.Path.{sym, ◌∙◌}
use Rattle.input.proofs.Reading.Bytes.{going_none, going_part, going_empty, going_more, going_bad, going_end, going_short}
use Rattle.input.proofs.count.Goals as goal
use Rattle.input.proofs.count.Goals.{then-separator+in_ok-number, else-separator+in_ok-grown}

pub loop-b-init : goal.loop-b-init
loop-b-init c = going_none _

pub returns-in_err-number : goal.returns-in_err-number
returns-in_err-number c =
    c.from_residual.ensures ∙ sym (going_empty c.loop-b.invariant c.loop-b-test.true (sym c.separator.ensures ∙ c.if-separator.true) c.in_err-number.was)

pub returns-in_err-grown : goal.returns-in_err-grown
returns-in_err-grown c =
    c.from_residual-in_err-grown.ensures
    ∙ sym (going_bad c.loop-b.invariant c.loop-b-test.true (sym c.separator.ensures ∙ c.if-separator.false) (sym c.grown.ensures ∙ c.in_err-grown.was))

pub loop-b-preserved : goal.loop-b-preserved
loop-b-preserved c = elim c.if-separator.branch [
  | then-separator+in_ok-number w ↦
      rw (w.found-is, w.number-is) (going_part c.loop-b.invariant c.loop-b-test.true (sym c.separator.ensures ∙ w.if-separator.true) w.in_ok-number.field-0 w.in_ok-number.was)
  | else-separator+in_ok-grown w ↦
      rw (w.found-is, w.number-is) (going_more c.loop-b.invariant c.loop-b-test.true (sym c.separator.ensures ∙ w.if-separator.false) w.in_ok-grown.field-0 (sym w.grown.ensures ∙ w.in_ok-grown.was))
]

pub returns-in_err-number-2 : goal.returns-in_err-number-2
returns-in_err-number-2 c = c.from_residual-in_err-number-2.ensures ∙ sym (going_short c.loop-b.invariant c.loop-b-test.false c.in_err-number-2.was)

pub returns : goal.returns
returns c = sym (going_end c.loop-b.invariant c.loop-b-test.false c.in_ok-number-2.field-0 c.in_ok-number-2.was)
