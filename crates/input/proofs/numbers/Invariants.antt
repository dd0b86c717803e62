use mathlib.Core.Path.{◌≡◌}
use mathlib.Core.List.{map}
use lib.ListN.{length, take, drop}
use Rattle.input.specs.Fields.{fields}
use Rattle.input.specs.Decimal.{value_of}
use Rattle.input.proofs.numbers.Given as goal

abbrev pub invariant-loop-i : goal.invariant-loop-i
invariant-loop-i l =
    (goal.iterator-loop-i).can_next l.i-iterator
    × (goal.iterator-loop-i).is_finite l.i-iterator
    × (take (length l.yielded) l.vectors ≡ take (length l.yielded) (drop 3 (map value_of (fields l.text))))
