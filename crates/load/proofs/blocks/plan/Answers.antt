use Prim.Native.Nat.{ℕ, ◌*◌, ◌%◌, ◌^◌, ◌≤◌}
use native.Mathlib.Nat.{one-mul}
use native.Mathlib.Numerals.{add-one}
use native.Mathlib.Omega.{arith}
use mathlib.Core.Path.{◌≡◌, ap₂, ◌∙◌}
use lib.Pow.{shl_exact, pow_mono}
use Rattle.vectors.specs.Bounds.{max_inputs, max_side}
use Rattle.record.specs.Inner.Formed.{InBounds}
use Rattle.record.proofs.Formed.{Numbers, numbers, in_bounds}
use Rattle.file.specs.Plan.{plan_of}
use Rattle.load.proofs.blocks.plan.Goals as goal
use Rattle.load.proofs.blocks.plan.Goals.{Start}

bounds : (s : Start) → InBounds s.args.unit
bounds s = in_bounds s.args.unit s.requires

few : (s : Start) → Numbers s.args.unit
few s = numbers s.args.unit s.requires

-- the code's number of rows
power : (s : Start) → 1 * 2 ^ s.args.unit.n1 % 2 ^ max_inputs ≡ 2 ^ s.args.unit.n1
power s = shl_exact {a = 1} 1 s.args.unit.n1 max_inputs (omega arith) (omega (arith, (bounds s).rows_few)) ∙ one-mul (2 ^ s.args.unit.n1)

rows_few : (s : Start) → 2 ^ s.args.unit.n1 ≤ 2 ^ max_side
rows_few s = pow_mono {i = s.args.unit.n1} {j = max_side} (bounds s).rows_few

pub overflow_shl-rows : goal.overflow_shl-rows
overflow_shl-rows c = omega (arith, (bounds (goal.at.overflow_shl-rows c).Start).rows_few)

pub overflow_add-words : goal.overflow_add-words
overflow_add-words c = omega (arith, few (goal.at.overflow_add-words c).Start)

pub overflow_cast-rows : goal.overflow_cast-rows
overflow_cast-rows c = omega (arith, power (goal.at.overflow_cast-rows c).Start, rows_few (goal.at.overflow_cast-rows c).Start)

pub overflow_cast-unit : goal.overflow_cast-unit
overflow_cast-unit c = omega (arith, few (goal.at.overflow_cast-unit c).Start)

pub overflow_cast-words : goal.overflow_cast-words
overflow_cast-words c = omega (arith, few (goal.at.overflow_cast-words c).Start)

pub returns : goal.returns
returns c = c.plan.ensures ∙ ap₂ (λ (x y : ℕ). plan_of x c.args.unit.cells y) (power (goal.at.returns c).Start) (add-one c.args.unit.k)
