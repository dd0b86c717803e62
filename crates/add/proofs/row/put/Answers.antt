use Prim.Native.Nat.{◌+◌, ◌-◌, ◌<◌}
use native.Mathlib.Omega.{arith}
use mathlib.Core.Path.{◌≡◌, sym, ◌∙◌}
use lib.ListN.{length, get_or}
use Rattle.add.specs.Inner.Mates.{row_in, Stand}
use Rattle.add.proofs.Moving.Putting.{putting_none, putting_skip, putting_cell, putting_more, putting_end}
use Rattle.add.proofs.row.put.Goals as goal
use Rattle.add.proofs.row.put.Goals.{then-low-seat, else-low-seat, Then-low-seat}

-- the number is in the row, and stands in a column of it, which has a cell at d
in_row_lem : (c : Then-low-seat) → row_in c.args.row.seat c.args.row.aux.now c.loop-n.n ≡ c.args.row.seat.row
in_row_lem c = sym c.low.ensures ∙ c.if-low-seat.true

stands : (c : Then-low-seat) → Stand c.args.row.seat (length c.args.g.now) (get_or c.args.row.firsts.now c.loop-n.n 0)
stands c = c.requires.stands _ c.loop-n.auto.n c.loop-n-test.true (in_row_lem c)

in_cells : (c : Then-low-seat) → get_or c.args.row.firsts.now c.loop-n.n 0 - 1 - c.args.row.seat.displacement + c.args.d < length c.loop-n.g
in_cells c = putting_cell c.loop-n.invariant c.loop-n-test.true (in_row_lem c) c.loop-n.auto.g

pub loop-n-init : goal.loop-n-init
loop-n-init c = putting_none _ _ _ _ _ c.requires.inside

pub overflow_sub-column : goal.overflow_sub-column
overflow_sub-column c = omega (arith, (stands (goal.at.overflow_sub-column c).Then-low-seat).above)

pub overflow_sub-column-then-low-seat : goal.overflow_sub-column-then-low-seat
overflow_sub-column-then-low-seat c = omega (arith, (stands (goal.at.overflow_sub-column-then-low-seat c).Then-low-seat).above)

pub overflow_cast-g : goal.overflow_cast-g
overflow_cast-g c = omega (arith, c.args.row.words, c.args.row.cells, c.loop-n-test.true)

pub overflow_add-g : goal.overflow_add-g
overflow_add-g c = omega (arith, in_cells (goal.at.overflow_add-g c).Then-low-seat)

pub offset_bounds-g-column : goal.offset_bounds-g-column
offset_bounds-g-column c = omega (arith, in_cells (goal.at.offset_bounds-g-column c).Then-low-seat)

pub bounds-g-column : goal.bounds-g-column
bounds-g-column c = in_cells (goal.at.bounds-g-column c).Then-low-seat

pub loop-n-preserved : goal.loop-n-preserved
loop-n-preserved c =
    elim c.if-low-seat.branch [
      | then-low-seat w ↦ rw w.g-is (putting_more c.loop-n.invariant c.loop-n-test.true (sym c.low.ensures ∙ w.if-low-seat.true))
      | else-low-seat w ↦ rw w.g-is (putting_skip c.loop-n.invariant c.loop-n-test.true (λ e. w.if-low-seat.false (c.low.ensures ∙ e)))
    ]

pub returns : goal.returns
returns c = putting_end c.loop-n.invariant (omega arith)
