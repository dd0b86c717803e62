use mathlib.Core.Path.{◌≡◌}
use mathlib.Core.List.{map}
use lib.ListN.{take}
use Rattle.vectors.specs.Masks.{number_by}
use Rattle.build.proofs.checks.numbers.Given as goal

abbrev pub invariant-loop-i : goal.invariant-loop-i
invariant-loop-i l = take l.i l.out ≡ map (number_by l.masks) (take l.i l.vectors)
