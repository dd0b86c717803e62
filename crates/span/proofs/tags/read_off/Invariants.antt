use Prim.Native.Nat.{◌-◌}
use Rattle.span.specs.Inner.Tags.{read_off}
use Rattle.span.proofs.Labels.Walk.{Low}
use Rattle.span.proofs.tags.read_off.Given as goal

abbrev pub invariant-loop-j : goal.invariant-loop-j
invariant-loop-j l = Low (read_off l.n 0 l.fn.tags) l.x l.j (read_off (l.n - l.j) l.j l.fn.tags)
