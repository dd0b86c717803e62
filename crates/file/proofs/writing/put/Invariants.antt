use mathlib.Core.List.{map}
use Rattle.file.specs.Kinds.{byte_of}
use Rattle.file.specs.File.{table_block}
use Rattle.file.proofs.Laying.Stacks.{Stacked}
use Rattle.file.proofs.writing.put.Given as goal

abbrev pub invariant-loop-i : goal.invariant-loop-i
invariant-loop-i g l =
    let w = g.W.Word in
    Stacked (table_block (byte_of l.fn.kind) w.SIZE w.PER_BLOCK l.first (map w.value l.words)) l.first l.initial.target l.target l.i
