use mathlib.Core.List.{map}
use lib.Bits.{bit_xor}
use Rattle.lists.proofs.Writing.Storing.{Storing}
use Rattle.choice.proofs.lay.xored.Given as goal

abbrev pub invariant-loop-i : goal.invariant-loop-i
invariant-loop-i l = Storing (map (bit_xor l.x) l.words) l.initial.out l.at l.out l.i
