use Prim.Native.Nat.{◌-◌, ◌^◌}
use Rattle.keys.specs.Keys.{doublings}
use Rattle.keys.proofs.Powers.{Doubling}
use Rattle.keys.proofs.cells_for.Given as goal

abbrev pub invariant-loop-cells : goal.invariant-loop-cells
invariant-loop-cells l = Doubling l.k l.cells

abbrev pub decreases-loop-cells : goal.decreases-loop-cells
decreases-loop-cells l = 2 ^ doublings - l.cells
