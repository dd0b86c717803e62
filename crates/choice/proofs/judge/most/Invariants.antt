use Prim.Native.Nat.{◌+◌}
use mathlib.Core.Path.{◌≡◌}
use lib.ListN.{drop}
use Rattle.choice.specs.Inner.Gain.{most_of}
use Rattle.choice.proofs.judge.most.Given as goal

abbrev pub invariant-loop-s : goal.invariant-loop-s
invariant-loop-s l = l.sum + most_of (drop l.s-index l.sizes) ≡ most_of l.sizes
