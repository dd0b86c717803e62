use mathlib.Core.List.{map}
use Rattle.block.proofs.Laying.Words.{Laying}
use Rattle.block.proofs.fill.Given as goal

abbrev pub invariant-loop-i : goal.invariant-loop-i
invariant-loop-i g l = let w = g.W.Word in Laying w.SIZE l.used (map w.value l.words) l.initial.block l.block l.i
