use mathlib.Core.Path.{◌≡◌}
use lib.ListN.{length, take}
use Rattle.choice.specs.Inner.Split.{numbers}
use Rattle.choice.proofs.groups.all.Given as goal

abbrev pub invariant-loop-i : goal.invariant-loop-i
invariant-loop-i l = (length l.order ≡ 1024) × (take l.i l.order ≡ numbers l.i 0)
