use mathlib.Core.Path.{◌≡◌}
use native.Mathlib.Omega.{arith}
use Prim.Native.Nat.{ℕ}
use Rattle.many.proofs.open.Open.run.Goals as goal

-- the last key has no eighth byte
pub along-requires : goal.along-requires
along-requires c = let p = c.requires in (p.0, p.1, λ e. c.if-self-lt-EIGHTH.true)

-- wide keys: nothing is asked of them
pub along-requires-2 : goal.along-requires-2
along-requires-2 c = let p = c.requires in (p.0, p.1, λ e. let z : ◌≡◌ {A = ℕ} 0 1 = cc in omega arith)
