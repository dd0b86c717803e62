use Prim.Native.Nat.{◌-◌, ◌<◌}
use mathlib.Core.Path.{◌≡◌}
use mathlib.Core.Bool.{true}
use lib.ListN.{length}
use Rattle.rows.specs.Fit as fits
use Rattle.rows.specs.Inner.Chains.{chain, chain_of}
use Rattle.rows.specs.Inner.Taken.{Taken}
use Rattle.rows.proofs.links.Chain.put.Given as goal

abbrev pub invariant-loop-j : goal.invariant-loop-j
invariant-loop-j l = record {
  low : 0 < l.j;
  inside : fits.inside (length l.initial.g) l.d (chain l.self.words.now l.j) ≡ true;
  put : fits.put l.g l.d (chain_of l.self.owner l.self.words.now l.j) ≡ fits.put l.initial.g l.d (chain_of l.self.owner l.self.words.now l.self.first);
  taken : Taken l.g l.taken;
}

abbrev pub decreases-loop-j : goal.decreases-loop-j
decreases-loop-j l = length l.self.words.now - l.j
