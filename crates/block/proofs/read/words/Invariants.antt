use mathlib.Core.List.{map}
use Rattle.lists.proofs.Writing.Storing.{Storing}
use Rattle.block.proofs.Reading.Looks.{taken}
use Rattle.block.proofs.read.words.Given as goal

abbrev pub invariant-loop-i : goal.invariant-loop-i
invariant-loop-i g l = let w = g.W.Word in Storing (taken w.SIZE w.PER_BLOCK l.block (map w.value l.initial.words) l.used) (map w.value l.initial.words) 0 (map w.value l.words) l.i
