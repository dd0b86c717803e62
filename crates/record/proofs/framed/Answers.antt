use Rattle.std.proofs.Common.{◌≡◌, Bool, ◌&&◌, sym, ap, ap₂, ◌∙◌}
use Rattle.record.specs.Tables.{lent}
use Rattle.record.specs.Formed.{is_in_bounds, right_kept, long_enough, framed_by}
use Rattle.record.proofs.framed.Goals as goal
use Rattle.record.proofs.framed.Goals.{After-in_bounds, Joined-in_bounds, then-in_bounds, else-in_bounds}

kept : (c : Joined-in_bounds) → c.if-in_bounds.value ≡ (is_in_bounds c.args.unit && right_kept c.args.unit)
kept c =
    let b = c.in_bounds.ensures in
    elim c.if-in_bounds.branch [
      | then-in_bounds w ↦ w.value-is ∙ ap₂ ◌&&◌ (sym w.if-in_bounds.true ∙ b) w.right_kept.ensures
      | else-in_bounds w ↦ w.value-is ∙ w.if-in_bounds.false ∙ ap (λ (a : Bool). a && right_kept c.args.unit) (sym w.if-in_bounds.false ∙ b)
    ]

pub returns-then-right_kept : goal.returns-then-right_kept
unfolding framed_by
returns-then-right_kept c = ap₂ ◌&&◌ (sym c.if-right_kept.true ∙ kept (goal.at.returns-then-right_kept c).Joined-in_bounds) c.long_enough.ensures

pub returns-else-right_kept : goal.returns-else-right_kept
unfolding framed_by
returns-else-right_kept c =
    let a = c.args in
    c.if-right_kept.false
    ∙ ap (λ (b : Bool). b && long_enough a.unit (lent a.h.now a.g.now a.aux.now)) (sym c.if-right_kept.false ∙ kept (goal.at.returns-else-right_kept c).Joined-in_bounds)
