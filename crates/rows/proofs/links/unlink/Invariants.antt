use Prim.Native.Nat.{◌%◌}
use mathlib.Core.Path.{◌≡◌}
use mathlib.Core.List.{◌++◌, map}
use lib.ListN.{take, drop}
use Rattle.rows.specs.Answer.{max_places}
use Rattle.rows.proofs.links.unlink.Given as goal

abbrev pub invariant-loop-word : goal.invariant-loop-word
invariant-loop-word l = l.word-items ≡ map (λ w. w % max_places) (take l.word-index l.initial.word-items) ++ drop l.word-index l.initial.word-items
