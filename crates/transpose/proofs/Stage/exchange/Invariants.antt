use Prim.Native.Nat.{ℕ, ◌-◌, ◌*◌}
use mathlib.Core.Path.{◌≡◌}
use Rattle.transpose.proofs.Loop.{Blocks}
use Rattle.transpose.proofs.Stage.exchange.Given as goal

abbrev pub invariant-loop-first : goal.invariant-loop-first
invariant-loop-first l = (k : ℕ) × (l.first ≡ 2 * k) × Blocks l.self.distance k l.initial.block l.block

abbrev pub decreases-loop-first : goal.decreases-loop-first
decreases-loop-first l = 64 - l.first
