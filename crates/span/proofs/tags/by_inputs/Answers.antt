use mathlib.Core.Path.{sym, ◌∙◌}
use native.Mathlib.Omega.{arith}
use Rattle.vectors.specs.Bounds.{max_inputs}
use Rattle.vectors.proofs.Bits.Laws.{put_bit}
use Rattle.span.proofs.Walking.{grounding_on, grounding_kept, grounding_all}
use Rattle.span.proofs.tags.by_inputs.Goals as goal
use Rattle.span.proofs.tags.by_inputs.Goals.{then-not-join, else-not-join}

pub loop-j-preserved : goal.loop-j-preserved
loop-j-preserved c =
    let l = c.loop-j in (
      l.invariant.0,
      elim c.if-not-join.branch [
        | then-not-join w ↦
            rw (w.kept-is, w.bits-is)
            (grounding_kept c.args.n _ _ _ l.bits l.kept l.j (omega arith) _ c.join.ensures.tags_after l.invariant.1
            (sym c.join.ensures.value ∙ w.if-not-join.true) _ (put_bit max_inputs _ _ l.invariant.1.low.low (omega arith)))
        | else-not-join w ↦
            rw (w.kept-is, w.bits-is)
            (grounding_on c.args.n _ _ _ l.bits l.kept l.j (omega arith) _ c.join.ensures.tags_after l.invariant.1
            (sym c.join.ensures.value ∙ w.if-not-join.false))
      ],
    )

pub returns : goal.returns
returns c = grounding_all _ _ _ _ _ _ _ (omega arith) c.loop-j.invariant.1
