use Rattle.file.specs.Kinds.{byte_of}
use Rattle.load.proofs.Checking.{Laying}
use Rattle.load.proofs.blocks.Blocks.table_laid.Given as goal

abbrev pub invariant-loop-number : goal.invariant-loop-number
invariant-loop-number l = Laying (byte_of l.part.kind) l.part.past l.part.first l.part.bytes l.self.bytes.now l.number l.left
