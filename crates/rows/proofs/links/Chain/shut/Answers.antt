use Prim.Native.Nat.{◌+◌, ◌<◌}
use native.Mathlib.Omega.{arith}
use mathlib.Core.Path.{refl}
use Rattle.rows.specs.Inner.Taken.{taken_cells}
use Rattle.rows.proofs.Chains.Walks.{next_rises, inside_on, shut_more, shut_all, shut_end}
use Rattle.rows.proofs.links.Chain.shut.Goals as goal
use Rattle.rows.proofs.links.Chain.shut.Goals.{After-column}

-- the column's cell is one of the cells
below : (c : After-column) → c.column.result + c.args.d < taken_cells
below c =
    (inside_on _ c.args.self.now.rises _ c.loop-j.invariant.0 c.loop-j-test.true _ _ c.column.ensures refl _ _ c.loop-j.invariant.1).0

pub overflow_add-column : goal.overflow_add-column
overflow_add-column c = omega (arith, below c)

pub window-closed-requires : goal.window-closed-requires
window-closed-requires c = below c

pub returns-then-closed : goal.returns-then-closed
returns-then-closed c =
    λ t h. shut_all _ c.args.self.now.rises _ c.loop-j.invariant.0 c.loop-j-test.true _ _ c.column.ensures refl _ _ _ _ _ t h c.if-closed.true (c.window-closed.ensures t h) (c.loop-j.invariant.2 t h)

pub loop-j-preserved : goal.loop-j-preserved
loop-j-preserved c =
    let v = c.loop-j.invariant in
    let at = c.loop-j-test.true in
    let col = c.column.ensures in
    let rises = c.args.self.now.rises in (
      omega (arith, next_rises _ rises _ v.0 at _ _ col c.next-j.ensures),
      (inside_on _ rises _ v.0 at _ _ col c.next-j.ensures _ _ v.1).1,
      λ t h. shut_more _ rises _ v.0 at _ _ col c.next-j.ensures _ _ _ _ _ t (c.window-closed.ensures t h) (v.2 t h),
    )

pub returns : goal.returns
returns c = λ t h. shut_end _ _ c.loop-j-test.false _ _ _ _ (c.loop-j.invariant.2 t h)
