use mathlib.Core.Path.{◌≡◌}
use Rattle.choice.specs.Inner.Groups.{value_at}
use Rattle.choice.proofs.Grouping.Split.{Listing}
use Rattle.choice.proofs.groups.Groups.keep_half.Given as goal

-- nothing but the members is written
abbrev pub invariant-loop-m : goal.invariant-loop-m
invariant-loop-m l = (l.self.members ≡ l.initial.self.members) × (l.self.count ≡ l.initial.self.count) × (l.self.sizes ≡ l.initial.self.sizes)
    × Listing (value_at l.vectors l.mask) l.bit l.group l.initial.self.order l.initial.self.members l.self.order l.to l.m-index
