use mathlib.Core.Path.{◌≡◌}
use Prim.Native.Nat.{◌-◌}
use lib.ListN.{length, take}
use Rattle.std.specs.List.{slice_split}
use Rattle.find.proofs.Lines.{ends, Reading}
use Rattle.find.proofs.keys.read.Given as goal

abbrev pub invariant-loop-line : goal.invariant-loop-line
invariant-loop-line l =
    (goal.iterator-loop-line).can_next l.line-iterator
    × (goal.iterator-loop-line).is_finite l.line-iterator
    × (l.count ≡ length l.yielded)
    × Reading (slice_split ends (take (length l.text - 1) l.text)) l.keys (length l.yielded)
