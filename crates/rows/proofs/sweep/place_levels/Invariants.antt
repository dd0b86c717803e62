use Prim.Native.Nat.{◌≤◌}
use lib.ListN.{length}
use Rattle.rows.specs.Inner.Taken.{Taken}
use Rattle.rows.proofs.Sweeps.Going.{Going}
use Rattle.rows.proofs.sweep.place_levels.Given as goal

abbrev pub invariant-loop-row : goal.invariant-loop-row
invariant-loop-row l = record {
  going : Going l.owner l.aux (length l.fn.h) l.fn.g l.h l.g l.tries l.level l.below l.row;
  taken : Taken l.g l.taken;
  within : l.tries ≤ l.allowance;
}

abbrev pub invariant-loop-level : goal.invariant-loop-level
invariant-loop-level l = record {
  going : Going l.owner l.aux (length l.initial.h) l.initial.g l.h l.g l.tries l.level 0 0;
  taken : Taken l.g l.taken;
  within : l.tries ≤ l.allowance;
}

abbrev pub decreases-loop-level : goal.decreases-loop-level
decreases-loop-level l = l.level
