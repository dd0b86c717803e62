use Rattle.std.proofs.Common.{◌≡◌}
use Rattle.vectors.specs.Masks.{masks_in}
use Rattle.vectors.proofs.masks.Given as goal

abbrev pub invariant-loop-i : goal.invariant-loop-i
invariant-loop-i l = l.masks ≡ masks_in l.i l.v-items
