use mathlib.Core.Path.{◌≡◌}
use lib.ListN.{length}
use Rattle.texts.proofs.many_vectors.Given as goal

abbrev pub invariant-loop-i : goal.invariant-loop-i
invariant-loop-i g l = length l.text ≡ 2055
