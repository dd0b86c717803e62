use mathlib.Core.Path.{◌≡◌}
use Rattle.transpose.specs.Stage.{swapped_words}
use Rattle.transpose.proofs.Stage.words.Given as goal

abbrev pub invariant-loop-t : goal.invariant-loop-t
invariant-loop-t l = l.block ≡ swapped_words l.self.distance l.self.mask l.first l.t l.initial.block
