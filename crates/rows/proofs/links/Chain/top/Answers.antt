use native.Mathlib.Omega.{arith}
use mathlib.Core.Path.{sym, ◌∙◌}
use Rattle.rows.proofs.Chains.Walks.{larger, next_rises, top_on, top_end}
use Rattle.rows.proofs.links.Chain.top.Goals as goal

pub loop-j-preserved : goal.loop-j-preserved
loop-j-preserved c =
    let s = c.args.self.now in
    let v = c.loop-j.invariant in
    let w = c.column.ensures in (
      omega (arith, next_rises _ s.rises _ v.0 c.loop-j-test.true _ _ w c.next-j.ensures),
      rw (c.max-most.ensures, larger) (sym (top_on _ s.rises _ v.0 c.loop-j-test.true _ _ w c.next-j.ensures c.loop-j.most) ∙ v.1),
    )

pub returns : goal.returns
returns c = sym (top_end _ _ c.loop-j-test.false _) ∙ c.loop-j.invariant.1
