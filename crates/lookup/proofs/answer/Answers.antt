use Rattle.std.proofs.Common.{ℕ, ◌≡◌, ◌+◌, ◌-◌, ◌/◌, ◌^◌, ◌≤◌, length, get_or, arith, ap, ap₂, ◌∙◌}
use native.Mathlib.Nat.{lt_of_lt_of_le}
use lib.Pow.{pow_mono}
use Rattle.vectors.specs.Bounds.{max_side}
use Rattle.record.specs.Tables.{lent}
use Rattle.record.specs.Leads.{cell_in}
use Rattle.lookup.specs.Lookup.{compared}
use Rattle.lookup.proofs.Pass.{Parted, parted}
use Rattle.lookup.proofs.Lookups.{answer_out, answer_in}
use Rattle.lookup.proofs.answer.Goals as goal
use Rattle.lookup.proofs.answer.Goals.{After-low-row, Start}

within : (s : Start) → s.args.unit.p ≤ length s.args.unit.variables
within s = omega (arith, s.well_formed.0.1.1.1.1.1.1.1.1.1.1.0.1.0.1, s.requires.formed.bounds.few)

-- the row and the column
parts : (c : After-low-row) → let u = c.args.unit in
    (h : u.p ≤ length u.variables) → Parted u.variables u.p u.n1 c.args.x h c.requires.formed.bounds.rows_in c.low-row.result (c.args.values / 2 ^ u.n1)
parts c h = parted c.args.unit.variables c.args.unit.p c.args.unit.n1 c.args.x h c.requires.formed.bounds.rows_in c.args.values _ c.requires.values c.low-row.ensures

-- the cell
cell_is : (c : After-low-row) → let a = c.args in
    a.unit.p ≤ length a.unit.variables → get_or a.h.now c.low-row.result 0 + a.values / 2 ^ a.unit.n1 ≡ cell_in a.unit (lent a.h.now a.g.now a.aux.now) a.x
cell_is c h = let p = parts c h in ap₂ (λ (r q : ℕ). get_or c.args.h.now r 0 + q) p.row_is p.column_is

pub overflow_add-cell : goal.overflow_add-cell
overflow_add-cell c =
    let u = c.args.unit in
    let p = parts (goal.at.overflow_add-cell c).After-low-row (within (goal.at.overflow_add-cell c).Start) in
    let l : 2 ^ (u.p - u.n1) ≤ 2 ^ max_side = pow_mono {i = u.p - u.n1} {j = max_side} c.requires.formed.bounds.columns_few in
    omega (arith, lt_of_lt_of_le p.column_low l, c.type_inv.h c.low-row.result)

pub returns-then-unit-cell : goal.returns-then-unit-cell
returns-then-unit-cell c =
    answer_out _ _ _ _ (cell_is (goal.at.returns-then-unit-cell c).After-low-row (within (goal.at.returns-then-unit-cell c).Start)) c.if-unit-cell.true

pub compared-requires-clause-row : goal.compared-requires-clause-row
compared-requires-clause-row c =
    let p = parts (goal.at.compared-requires-clause-row c).After-low-row (within (goal.at.compared-requires-clause-row c).Start) in
    (p.row_is, p.row_low)

pub returns : goal.returns
returns c =
    let a = c.args in
    c.compared.ensures
    ∙ ap (λ i. compared a.unit a.aux.now a.x i) c.index.ensures
    ∙ answer_in _ _ _ _ (cell_is (goal.at.returns c).After-low-row (within (goal.at.returns c).Start)) c.if-unit-cell.false
