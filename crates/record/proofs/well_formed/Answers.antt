use Rattle.std.proofs.Common.{ℕ, eqb, arith, sym, ap, ◌∙◌}
use Rattle.record.proofs.Formed.{framed_bounds, formed_not, formed_right, none_is}
use Rattle.record.proofs.well_formed.Goals as goal

pub overflow_cast-unit : goal.overflow_cast-unit
overflow_cast-unit c = omega (arith, (framed_bounds c.args.unit _ (sym c.framed.ensures ∙ c.if-framed.true)).inputs)

pub returns-then-framed : goal.returns-then-framed
returns-then-framed c =
    formed_right _ _ _ (sym c.framed.ensures ∙ c.if-framed.true) (none_is _ _ c.is_none.ensures ∙ ap (λ (i : ℕ). eqb i 0) c.first_faulty.ensures)

pub returns-else-framed : goal.returns-else-framed
returns-else-framed c = c.if-framed.false ∙ sym (formed_not _ _ (sym c.framed.ensures ∙ c.if-framed.false))
