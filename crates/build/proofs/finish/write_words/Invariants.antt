use Prim.Native.Nat.{suc}
use mathlib.Core.Path.{◌≡◌}
use lib.ListN.{length}
use Rattle.vectors.specs.Masks.{word_by}
use Rattle.build.proofs.Writing.Filling.{Writing}
use Rattle.build.proofs.finish.write_words.Given as goal

abbrev pub invariant-loop-i : goal.invariant-loop-i
invariant-loop-i l = (length l.initial.aux ≡ suc (length l.vectors)) × Writing (word_by l.rows l.kept) l.vectors l.initial.aux l.aux l.i
