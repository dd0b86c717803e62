use Rattle.std.proofs.Common.{◌≡◌, map, take}
use Rattle.flat.specs.Flat.{variable_word}
use Rattle.flat.proofs.write_variables.Given as goal

abbrev pub invariant-loop-i : goal.invariant-loop-i
invariant-loop-i l = take l.i l.words ≡ map variable_word (take l.i l.v-items)
