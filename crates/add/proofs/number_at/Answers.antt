use Prim.Native.Nat.{◌≤◌}
use native.Mathlib.Omega.{arith}
use mathlib.Core.Path.{sym, ◌∙◌}
use Rattle.record.proofs.Formed.{inside}
use Rattle.add.proofs.Seating.{number_out, number_outside, number_later, number_here}
use Rattle.add.proofs.number_at.Goals as goal
use Rattle.add.proofs.number_at.Goals.{Else-outside}

few : (c : Else-outside) → c.index-i.result ≤ c.args.unit.k
few c = (inside 1 _ _ (sym c.outside.ensures ∙ c.if-outside.false)).1

pub returns-then-unit-cell : goal.returns-then-unit-cell
returns-then-unit-cell c = λ h aux f. number_out _ _ _ c.if-unit-cell.true

pub returns-then-outside : goal.returns-then-outside
returns-then-outside c = λ h aux f. number_outside _ _ _ _ c.index-i.ensures (sym c.outside.ensures ∙ c.if-outside.true)

pub offset_bounds-firsts-i : goal.offset_bounds-firsts-i
offset_bounds-firsts-i c = omega (arith, few c, c.requires.sizes, c.well_formed.1.1.0)

pub bounds-firsts-i : goal.bounds-firsts-i
bounds-firsts-i c = omega (arith, few (goal.at.bounds-firsts-i c).Else-outside, c.requires.sizes)

pub overflow_cast-firsts : goal.overflow_cast-firsts
overflow_cast-firsts c = omega (arith, c.type_inv.firsts c.index-i.result)

pub returns-then-firsts-i : goal.returns-then-firsts-i
returns-then-firsts-i c = λ h aux f. number_later _ _ _ _ c.index-i.ensures c.args.firsts.now f (sym c.outside.ensures ∙ c.if-outside.false) c.if-firsts-i.true

pub returns : goal.returns
returns c = λ h aux f. number_here _ _ _ _ c.index-i.ensures c.args.firsts.now f (sym c.outside.ensures ∙ c.if-outside.false) c.if-firsts-i.false
