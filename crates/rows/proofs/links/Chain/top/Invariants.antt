use Prim.Native.Nat.{◌-◌, ◌<◌}
use mathlib.Core.Path.{◌≡◌}
use lib.ListN.{length}
use Rattle.rows.specs.Inner.Chains.{chain, top_from, top_of}
use Rattle.rows.proofs.links.Chain.top.Given as goal

abbrev pub invariant-loop-j : goal.invariant-loop-j
invariant-loop-j l = (0 < l.j) × (top_from l.most (chain l.self.words.now l.j) ≡ top_of (chain l.self.words.now l.self.first))

abbrev pub decreases-loop-j : goal.decreases-loop-j
decreases-loop-j l = length l.self.words.now - l.j
