use native.Mathlib.Omega.{arith}
use Rattle.keys.proofs.Powers.{doubling_none, doubling_more, doubling_end}
use Rattle.keys.proofs.cells_for.Goals as goal

pub loop-cells-init : goal.loop-cells-init
loop-cells-init c = doubling_none _ c.requires

pub overflow_mul-k : goal.overflow_mul-k
overflow_mul-k c = record { fits = omega (arith, c.requires) }

pub overflow_mul-cells : goal.overflow_mul-cells
overflow_mul-cells c = record { fits = omega (arith, c.requires, c.loop-cells-test.true) }

pub loop-cells-smaller : goal.loop-cells-smaller
loop-cells-smaller c = omega (arith, c.loop-cells.invariant.some, c.requires, c.loop-cells-test.true)

pub loop-cells-preserved : goal.loop-cells-preserved
loop-cells-preserved c = doubling_more _ c.requires _ c.loop-cells.invariant c.loop-cells-test.true

pub returns : goal.returns
returns c = doubling_end _ c.requires _ c.loop-cells.invariant c.loop-cells-test.false
