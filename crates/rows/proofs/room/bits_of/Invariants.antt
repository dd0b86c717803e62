use Rattle.std.specs.Iterator.Adapters.{rev_source}
use Rattle.std.specs.Slice.Iter.{iter_rest}
use Rattle.rows.proofs.Taken.Gathering.{Gathering}
use Rattle.rows.proofs.room.bits_of.Given as goal

abbrev pub invariant-loop-word : goal.invariant-loop-word
invariant-loop-word l = Gathering l.cells (iter_rest (rev_source l.word-iterator)) l.bits
