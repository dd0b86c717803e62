use Prim.Native.Nat.{ℕ}
use mathlib.Core.Path.{◌≡◌}
use mathlib.Core.List.{List, ◌++◌}
use lib.ListN.{length}
use Rattle.vectors.specs.Bounds.{max_inputs}
use Rattle.vectors.specs.Masks.{number_by}
use Rattle.many.specs.Inner.Images.{OnBits}
use Rattle.many.proofs.Inputs.{marked}
use Rattle.many.proofs.images.mark_variables.Given as goal

abbrev pub invariant-loop-i : goal.invariant-loop-i
invariant-loop-i l = (length l.images ≡ max_inputs)
    × ((ms : List ℕ) → length ms ≡ l.at → OnBits max_inputs (number_by ms) l.initial.images → OnBits max_inputs (number_by (ms ++ marked l.i l.variables)) l.images)
