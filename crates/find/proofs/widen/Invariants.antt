use mathlib.Core.Path.{◌≡◌}
use lib.ListN.{take}
use Rattle.find.proofs.widen.Given as goal

abbrev pub invariant-loop-i : goal.invariant-loop-i
invariant-loop-i l = take l.i l.words ≡ take l.i l.narrow
