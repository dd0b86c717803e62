use Prim.Native.Nat.{◌-◌}
use lib.ListN.{length}
use Rattle.rows.specs.Inner.Chains.{chain}
use Rattle.rows.proofs.Fits.Needed.{Shut}
use Rattle.rows.proofs.links.Chain.first_fit.Given as goal

abbrev pub invariant-loop-d : goal.invariant-loop-d
invariant-loop-d l = Shut l.g (chain l.self.words.now l.self.first) l.d

abbrev pub decreases-loop-d : goal.decreases-loop-d
decreases-loop-d l = length l.g - l.d
