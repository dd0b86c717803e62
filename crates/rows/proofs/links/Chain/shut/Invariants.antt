use Prim.Native.Nat.{ℕ, ◌+◌, ◌-◌, max, ◌<◌}
use mathlib.Core.Path.{◌≡◌}
use mathlib.Core.Bool.{true}
use lib.ListN.{length}
use Rattle.vectors.specs.Bits.{bit}
use Rattle.rows.specs.Fit as fits
use Rattle.rows.specs.Inner.Chains.{chain}
use Rattle.rows.specs.Inner.Taken.{taken_cells, shut_row}
use Rattle.rows.proofs.links.Chain.shut.Given as goal

abbrev pub invariant-loop-j : goal.invariant-loop-j
invariant-loop-j l =
    (0 < l.j)
    × (fits.inside taken_cells l.d (chain l.self.words.now l.j) ≡ true)
    × ((t : ℕ) → t < 64 → max (bit l.closed t) (shut_row l.taken (l.d + t) (chain l.self.words.now l.j)) ≡ shut_row l.taken (l.d + t) (chain l.self.words.now l.self.first))

abbrev pub decreases-loop-j : goal.decreases-loop-j
decreases-loop-j l = length l.self.words.now - l.j
