use Prim.Native.Nat.{◌*◌}
use mathlib.Core.Path.{◌≡◌}
use lib.ListN.{length, get_or}
use Rattle.choice.specs.Choice.{candidates}
use Rattle.choice.specs.Inner.Groups.{groups_of}
use Rattle.choice.specs.Inner.Layout.{max_blocks}
use Rattle.choice.specs.Inner.Ties.{Ties}
use Rattle.choice.proofs.Choosing.Stage.{Stage}
use Rattle.choice.proofs.rule.choose.Given as goal

abbrev pub invariant-loop-p : goal.invariant-loop-p
invariant-loop-p l =
    (length l.words ≡ 1024) × (length l.items ≡ 64 * max_blocks) × Stage l.vectors (candidates l.n l.degree) l.groups l.variables l.p
    × Ties l.tied (λ i. get_or l.vectors i 0) (groups_of l.groups)
