use Rattle.std.proofs.Common.{◌≡◌, ◌++◌, map, take, drop}
use Rattle.span.specs.Inner.Tags.{turn}
use Rattle.span.proofs.tags.join.Given as goal

abbrev pub invariant-loop-tag : goal.invariant-loop-tag
invariant-loop-tag l = l.tags ≡ map (turn l.from l.d) (take l.tag-index l.initial.tags) ++ drop l.tag-index l.initial.tags
