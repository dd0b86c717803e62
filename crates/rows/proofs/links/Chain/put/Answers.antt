use Prim.Native.Nat.{◌+◌, ◌<◌}
use native.Mathlib.Omega.{arith}
use mathlib.Core.Path.{refl, sym, ◌∙◌}
use lib.ListN.{length}
use Rattle.rows.proofs.Chains.Walks.{next_rises, inside_on, put_on, put_end}
use Rattle.rows.proofs.Taken.Bits.{taken_put}
use Rattle.rows.proofs.links.Chain.put.Goals as goal
use Rattle.rows.proofs.links.Chain.put.Goals.{After-column}

-- the cell is one of the cells
below : (c : After-column) → c.column.result + c.args.d < length c.loop-j.g
below c =
    let q = (inside_on _ c.args.self.now.rises _ c.loop-j.invariant.low c.loop-j-test.true _ _ c.column.ensures refl _ _ c.loop-j.invariant.inside).0 in
    omega (arith, q, c.loop-j.auto.g)

pub overflow_add-c : goal.overflow_add-c
overflow_add-c c = omega (arith, below c, c.loop-j.invariant.taken.few)

pub offset_bounds-g-c : goal.offset_bounds-g-c
offset_bounds-g-c c = omega (arith, below (goal.at.offset_bounds-g-c c).After-column, c.loop-j.invariant.taken.few)

pub bounds-g-c : goal.bounds-g-c
bounds-g-c c = below (goal.at.bounds-g-c c).After-column

pub bounds-taken-c : goal.bounds-taken-c
bounds-taken-c c = omega (arith, below (goal.at.bounds-taken-c c).After-column, c.loop-j.invariant.taken.few)

pub bounds-taken-c-in-loop-j : goal.bounds-taken-c-in-loop-j
bounds-taken-c-in-loop-j c = omega (arith, below (goal.at.bounds-taken-c-in-loop-j c).After-column, c.loop-j.invariant.taken.few)

pub loop-j-preserved : goal.loop-j-preserved
loop-j-preserved c =
    let v = c.loop-j.invariant in
    let at = c.loop-j-test.true in
    let col = c.column.ensures in
    let rises = c.args.self.now.rises in
    record {
      low = omega (arith, next_rises _ rises _ v.low at _ _ col c.next-j.ensures);
      inside = (inside_on _ rises _ v.low at _ _ col c.next-j.ensures _ _ v.inside).1;
      put = sym (put_on _ rises _ v.low at _ _ col c.next-j.ensures _ _ _) ∙ v.put;
      taken = taken_put _ _ _ _ v.taken (below (goal.at.loop-j-preserved c).After-column) (omega (arith, v.low));
    }

pub returns-clause-g_after : goal.returns-clause-g_after
returns-clause-g_after c = sym (put_end _ _ c.loop-j-test.false _ _ _) ∙ c.loop-j.invariant.put
