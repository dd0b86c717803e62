use Prim.Native.Nat.{◌+◌}
use mathlib.Core.Path.{◌≡◌}
use lib.ListN.{length}
use Rattle.vectors.specs.Bounds.{max_vectors}
use Rattle.choice.specs.Inner.Groups.{max_groups, sizes_of, order_of, value_at}
use Rattle.choice.proofs.Grouping.Split.{Splitting}
use Rattle.choice.proofs.groups.refined.Given as goal

abbrev pub invariant-loop-size : goal.invariant-loop-size
invariant-loop-size l =
    Splitting (value_at l.vectors l.mask) (sizes_of l.fn.groups) (order_of l.fn.groups) l.next l.from l.size-index × (length l.next.order ≡ max_vectors + 1) × (length l.next.sizes ≡ max_groups)
