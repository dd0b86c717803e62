use Prim.Native.Nat.{◌+◌, ◌*◌}
use native.Mathlib.Omega.{arith}
use mathlib.Core.Path.{◌≡◌, ◌∙◌}
use lib.ListN.{length, get_or, take, drop, length-drop}
use lib.Seq.{length-take-le}
use Rattle.block.specs.Inner.Columns.{lanes}
use Rattle.block.proofs.Check.Columns.{adding_none, adding_more, adding_end, sum_fits, run_fits, row_byte}
use Rattle.block.proofs.add_row.Goals as goal
use Rattle.block.proofs.add_row.Goals.{Start, After-from}

-- the row lies in the block
long : (s : Start) → length (take lanes (drop (s.args.start + lanes * s.args.row) s.args.block.now)) ≡ lanes
long s = length-take-le lanes (drop (s.args.start + lanes * s.args.row) s.args.block.now) (omega (arith, s.requires.row_lt_lanes.1, length-drop (s.args.start + lanes * s.args.row) s.args.block.now))

pub loop-j-init : goal.loop-j-init
loop-j-init c = adding_none _ _ _ _ c.requires.columns

-- the byte that is added
byte : (c : After-from) → c.from.result ≡ get_or (take lanes (drop (c.args.start + lanes * c.args.row) c.args.block.now)) c.loop-j.j 0
byte c = c.from.ensures ∙ row_byte c.args.block.now (c.args.start + lanes * c.args.row) _ (omega arith)

pub overflow_add-s : goal.overflow_add-s
overflow_add-s c = omega (arith, c.requires.row_lt_lanes.0, sum_fits _ _ _ _ _ _ _ _ (omega arith) (long (goal.at.overflow_add-s c).Start) c.requires.row_lt_lanes.0 (byte c) (omega arith) c.loop-j.invariant)

pub overflow_add-runs : goal.overflow_add-runs
overflow_add-runs c = omega (arith, c.requires.row_lt_lanes.0, run_fits _ _ _ _ _ _ _ _ (omega arith) (long (goal.at.overflow_add-runs c).Start) c.requires.row_lt_lanes.0 (byte (goal.at.overflow_add-runs c).After-from) (omega arith) c.loop-j.invariant)

pub loop-j-preserved : goal.loop-j-preserved
loop-j-preserved c = adding_more _ _ _ _ _ _ _ _ (omega arith) (long (goal.at.loop-j-preserved c).Start) c.requires.row_lt_lanes.0 (byte (goal.at.loop-j-preserved c).After-from) (omega arith) c.loop-j.invariant

pub returns : goal.returns
returns c = adding_end _ _ _ _ _ _ _ (long (goal.at.returns c).Start) (omega arith) c.loop-j.invariant
