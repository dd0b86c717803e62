use native.Mathlib.Omega.{arith}
use Prim.Native.Nat.{◌≤◌}
use mathlib.Core.Path.{◌≡◌, sym, ◌∙◌}
use mathlib.Core.Bool.{false}
use Rattle.input.specs.Fields.{separator}
use Rattle.input.specs.Decimal.{max_number}
use Rattle.fault.specs.Fault.{grown}
use Rattle.fault.proofs.Scanning.Causes.{clean, digit_low}
use Rattle.fault.proofs.past.Goals as goal
use Rattle.fault.proofs.past.Goals.{Else-separator}

pub counted-requires : goal.counted-requires
counted-requires c = omega (arith, (clean _ _ c.requires.1).short, c.requires.0.numbers)

pub overflow_add-result : goal.overflow_add-result
overflow_add-result c = omega (arith, (clean _ _ c.requires.1).short)

pub overflow_add-result-then-ends : goal.overflow_add-result-then-ends
overflow_add-result-then-ends c = omega (arith, (clean _ _ c.requires.1).short, c.requires.0.lines)

pub overflow_add-result-else-ends-2 : goal.overflow_add-result-else-ends-2
overflow_add-result-else-ends-2 c = omega (arith, (clean _ _ c.requires.1).short, c.requires.0.columns)

-- at a digit
module _ (c : Else-separator) where
  other : separator c.args.b ≡ false
  other = sym c.separator.ensures ∙ c.if-separator.false

  small : grown c.args.s c.args.b ≤ max_number
  small = (clean _ _ c.requires.1).small other

  low : 48 ≤ c.args.b
  low = (digit_low c.args.b ((clean _ _ c.requires.1).decimal other)).0

pub overflow_mul-result : goal.overflow_mul-result
overflow_mul-result c = record { fits = omega (arith, small c) }

pub overflow_sub-b : goal.overflow_sub-b
overflow_sub-b c = low c

pub overflow_add-result-else-separator : goal.overflow_add-result-else-separator
overflow_add-result-else-separator c = record { fits = omega (arith, c.from.ensures, small (goal.at.overflow_add-result-else-separator c).Else-separator) }
