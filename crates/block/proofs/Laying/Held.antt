-- How far the words of a block reach. Assumes nothing.
use Prim.Native.Nat.{ℕ, ◌+◌, ◌*◌, ◌≤◌, ◌<◌}
use mathlib.Core.Path.{◌≡◌}
use native.Mathlib.Nat.{mul-le-mul_left}
use native.Mathlib.Omega.{arith}
use Rattle.block.specs.Block.{payload_at, check_at}
use Rattle.block.specs.Held.{Held}

-- up to so many words
pub held_used : (size per used : ℕ) → Held size per → used ≤ per → payload_at + size * used ≤ check_at
held_used size per used h k = omega (arith, h.fits, mul-le-mul_left {m = used} {n = per} size k)

-- with one word more
pub held_word : (size per i : ℕ) → Held size per → i < per → payload_at + size * i + size ≤ check_at
held_word size per i h k = let e : size * (i + 1) ≡ size * i + size = omega arith in omega (arith, held_used size per (i + 1) h (omega arith))
