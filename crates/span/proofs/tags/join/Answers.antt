use Rattle.std.proofs.Common.{get_or, arith}
use Rattle.std.proofs.lemmas.List.{get_or_default}
use Rattle.std.proofs.lemmas.List.Edits.{map_over_more}
use Rattle.span.specs.Inner.Tags.{turn}
use Rattle.span.proofs.tags.join.Goals as goal

pub loop-tag-preserved : goal.loop-tag-preserved
loop-tag-preserved c =
    let l = c.loop-tag in
    rw c.turned.ensures
    (map_over_more (turn _ _) c.args.tags.now l.tags l.tag-index (get_or l.tags l.tag-index 0) (omega arith) l.invariant
    (get_or_default l.tags l.tag-index 0 _ (omega arith)))
