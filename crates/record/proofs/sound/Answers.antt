use Rattle.std.proofs.Common.{◌≤◌, length, arith, sym, ◌∙◌}
use borrow.Author.Tests.{eqb-true, eqb-false}
use Rattle.vectors.proofs.Variables.Numbers.{kinds_length}
use Rattle.record.proofs.Formed.{in_bounds}
use Rattle.record.proofs.Soundness.{right_says, kept_same, right_sound, unright_sound, other_kept}
use Rattle.record.proofs.sound.Goals as goal
use Rattle.record.proofs.sound.Goals.{then-right, else-right}

pub returns-then-unit-kept_inputs : goal.returns-then-unit-kept_inputs
returns-then-unit-kept_inputs c =
    let u = c.args.unit in
    elim c.if-right.branch [
      | then-right w ↦
          let e = sym c.right.ensures ∙ w.if-right.true in
          let r = right_says u e in
          let few : u.p ≤ length u.variables = omega (arith, (in_bounds u r.in_bounds).few, c.well_formed.0.1.1.1.1.1.1.1.1.1.1.0.1.0.1) in
          c.long_enough.ensures
          ∙ right_sound u _ e (kinds_length u.variables u.p few) (eqb-true _ _ (sym w.value-is ∙ c.if-unit-kept_inputs.true) ∙ w.kept_inputs.ensures ∙ kept_same u r)
      | else-right w ↦ cc
    ]

pub returns-else-unit-kept_inputs : goal.returns-else-unit-kept_inputs
returns-else-unit-kept_inputs c =
    elim c.if-right.branch [
      | then-right w ↦
          c.if-unit-kept_inputs.false
          ∙ sym (other_kept _ _ (sym c.right.ensures ∙ w.if-right.true) _ w.kept_inputs.ensures (eqb-false _ _ (sym w.value-is ∙ c.if-unit-kept_inputs.false)))
      | else-right w ↦ c.if-unit-kept_inputs.false ∙ sym (unright_sound _ _ (sym c.right.ensures ∙ w.if-right.false))
    ]
