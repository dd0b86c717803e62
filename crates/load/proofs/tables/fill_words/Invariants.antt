use Prim.Native.Nat.{◌+◌, ◌*◌}
use mathlib.Core.List.{map}
use Rattle.load.proofs.Filling.{Filling}
use Rattle.load.proofs.tables.fill_words.Given as goal

abbrev pub invariant-loop-i : goal.invariant-loop-i
invariant-loop-i g l =
    let w = g.W.Word in
    Filling w.SIZE w.PER_BLOCK l.first l.file (map w.value l.initial.words) (map w.value l.words) (l.first + l.i) (w.PER_BLOCK * l.i)
