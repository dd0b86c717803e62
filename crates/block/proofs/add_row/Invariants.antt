use Prim.Native.Nat.{◌+◌, ◌*◌}
use lib.ListN.{take, drop}
use Rattle.block.specs.Inner.Columns.{lanes}
use Rattle.block.proofs.Check.Columns.{Adding}
use Rattle.block.proofs.add_row.Given as goal

abbrev pub invariant-loop-j : goal.invariant-loop-j
invariant-loop-j l = Adding (take lanes (drop (l.start + lanes * l.row) l.block)) l.row l.initial.sums l.initial.runs l.sums l.runs l.j
