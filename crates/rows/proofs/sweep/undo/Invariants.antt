use Prim.Native.Nat.{◌+◌}
use Rattle.rows.proofs.Sweeps.Undoing.{Emptying}
use Rattle.rows.proofs.sweep.undo.Given as goal

abbrev pub invariant-loop-word : goal.invariant-loop-word
invariant-loop-word l = Emptying l.aux l.h l.initial.g l.g (l.word-index + 1)
