use Prim.Native.Nat.{ℕ, ◌-◌, ◌*◌, ◌%◌, ◌^◌, ◌<◌}
use native.Mathlib.Nat.{one-mul}
use native.Mathlib.Omega.{arith}
use mathlib.Core.Path.{◌≡◌, ap, ◌∙◌}
use lib.Pow.{shl_exact, pow_pos}
use Rattle.many.proofs.find.last.Goals as goal

shifted : (n : ℕ) → n < 64 → 1 * 2 ^ n % 2 ^ 64 ≡ 2 ^ n
shifted n h = shl_exact 1 n 64 (omega arith) (omega arith) ∙ one-mul (2 ^ n)

pub overflow_sub-result : goal.overflow_sub-result
overflow_sub-result c = omega (arith, shifted c.args.n c.if-n-lt-MAX_INPUTS.true, pow_pos c.args.n)

pub returns-then-n-lt-MAX_INPUTS : goal.returns-then-n-lt-MAX_INPUTS
returns-then-n-lt-MAX_INPUTS c = ap (λ (k : ℕ). k - 1) (shifted c.args.n c.if-n-lt-MAX_INPUTS.true)

pub returns-else-n-lt-MAX_INPUTS : goal.returns-else-n-lt-MAX_INPUTS
returns-else-n-lt-MAX_INPUTS c = let e : 64 ≡ c.args.n = omega arith in ap (λ (k : ℕ). 2 ^ k - 1) e
