use Prim.Native.Nat.{ℕ, ◌+◌, ◌<◌}
use native.Mathlib.Nat.{lt_of_le_of_lt}
use native.Mathlib.Omega.{arith}
use lib.Bits.{bit_and, and_le_r}
use lib.ListN.{length, get_or}
use Rattle.record.specs.Tables.{lent}
use Rattle.many.proofs.Answers.{held_out, held_in}
use Rattle.many.proofs.find.held.Goals as goal
use Rattle.many.proofs.find.held.Goals.{Start}

abbrev row : Start → ℕ
row s = bit_and s.args.word s.args.frame.rows

row_held : (s : Start) → row s < length s.args.h.now
row_held s = lt_of_le_of_lt (and_le_r s.args.word s.args.frame.rows) s.requires.rows_held

abbrev cell : Start → ℕ
cell s = get_or s.args.h.now (row s) 0 + bit_and s.args.y s.args.frame.columns

pub offset_bounds-h-row : goal.offset_bounds-h-row
offset_bounds-h-row c = omega (arith, row_held (goal.at.offset_bounds-h-row c).Start, c.well_formed.1.0)

pub bounds-h-row : goal.bounds-h-row
bounds-h-row c = row_held (goal.at.bounds-h-row c).Start

pub overflow_cast-cell : goal.overflow_cast-cell
overflow_cast-cell c = omega (arith, c.type_inv.h (row (goal.at.overflow_cast-cell c).Start))

pub overflow_add-cell : goal.overflow_add-cell
overflow_add-cell c =
    omega (arith, c.type_inv.h (row (goal.at.overflow_add-cell c).Start), and_le_r c.args.y c.args.frame.columns, c.requires.columns_low)

pub returns-then-frame-cell : goal.returns-then-frame-cell
returns-then-frame-cell c =
    (omega arith, λ u aux x o e w. held_out u c.args.frame x c.args.y o e c.args.word w (lent c.args.h.now c.args.g.now aux) c.if-frame-cell.true)

pub returns : goal.returns
returns c = (
  omega (arith, c.index.ensures, c.type_inv.g (cell (goal.at.returns c).Start)),
  λ u aux x o e w. held_in u c.args.frame x c.args.y o e c.args.word w (lent c.args.h.now c.args.g.now aux) c.if-frame-cell.false _ c.index.ensures,
)
