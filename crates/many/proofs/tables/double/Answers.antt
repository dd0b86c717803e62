use native.Mathlib.Omega.{arith}
use Rattle.many.proofs.Linear.{doubling_none, doubling_more}
use Rattle.many.proofs.tables.double.Goals as goal

pub loop-m-init : goal.loop-m-init
loop-m-init c = doubling_none _ _ _

pub bounds-table-m : goal.bounds-table-m
bounds-table-m c = omega (arith, c.loop-m.invariant.size)

pub bounds-table-span : goal.bounds-table-span
bounds-table-span c = omega (arith, c.loop-m.invariant.size)

pub loop-m-preserved : goal.loop-m-preserved
loop-m-preserved c = let l = c.loop-m in doubling_more _ _ _ l.table l.m (omega arith) c.requires l.invariant

pub returns : goal.returns
returns c =
    let l = c.loop-m in
    λ k h. (l.invariant.same k h, l.invariant.twin k (omega arith))
