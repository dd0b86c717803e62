use mathlib.Core.Path.{◌≡◌}
use Prim.Native.Nat.{◌+◌}
use lib.ListN.{length}
use Rattle.vectors.specs.Bounds.{max_inputs}
use Rattle.span.proofs.Walking.{Grounding}
use Rattle.span.proofs.tags.by_inputs.Given as goal

abbrev pub invariant-loop-j : goal.invariant-loop-j
invariant-loop-j l = (length l.initial.tags ≡ max_inputs + 1) × Grounding l.n l.word l.initial.tags l.tags l.bits l.kept l.j
