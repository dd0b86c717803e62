use Rattle.std.proofs.Common.{sym, ◌∙◌}
use borrow.Author.Tests.{eqb-true, eqb-false}
use Rattle.record.proofs.Formed.{none_is}
use Rattle.record.proofs.Soundness.{right_unbound, right_faulty, right_free}
use Rattle.record.proofs.right.Goals as goal
use Rattle.record.proofs.right.Goals.{then-in_bounds, else-in_bounds}

pub returns-then-is_none : goal.returns-then-is_none
returns-then-is_none c =
    let b = c.in_bounds.ensures in
    elim c.if-in_bounds.branch [
      | then-in_bounds w ↦
          let z = eqb-true _ _ (sym (none_is _ _ w.is_none.ensures) ∙ sym w.value-is ∙ c.if-is_none.true) in
          none_is _ _ c.is_none-then-is_none.ensures ∙ right_free _ (sym b ∙ w.if-in_bounds.true) _ _ w.first_faulty.ensures z c.first_dependent.ensures
      | else-in_bounds w ↦ cc
    ]

pub returns-else-is_none : goal.returns-else-is_none
returns-else-is_none c =
    let b = c.in_bounds.ensures in
    elim c.if-in_bounds.branch [
      | then-in_bounds w ↦
          let n = eqb-false _ _ (sym (none_is _ _ w.is_none.ensures) ∙ sym w.value-is ∙ c.if-is_none.false) in
          c.if-is_none.false ∙ sym (right_faulty _ (sym b ∙ w.if-in_bounds.true) _ w.first_faulty.ensures n)
      | else-in_bounds w ↦ c.if-is_none.false ∙ sym (right_unbound _ (sym b ∙ w.if-in_bounds.false))
    ]
