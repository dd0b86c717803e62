use Prim.Native.Nat.{◌*◌}
use native.Mathlib.Omega.{arith}
use mathlib.Core.Path.{◌≡◌, sym, ap}
use lib.ListN.{take, drop, length-drop}
use lib.Seq.{drop-drop}
use Rattle.block.specs.Inner.Columns.{lanes}
use Rattle.block.proofs.Check.Columns.{rows_none, rows_more, rows_end}
use Rattle.block.proofs.half.Goals as goal

pub loop-row-init : goal.loop-row-init
loop-row-init c = rows_none _

pub loop-row-preserved : goal.loop-row-preserved
loop-row-preserved c =
    let a = c.args in
    rows_more (drop a.start a.block.now) _ _ _ _ _ _ (omega arith) (omega (arith, c.requires, length-drop a.start a.block.now)) (ap (take lanes) (sym (drop-drop (lanes * c.loop-row.row) a.start a.block.now))) c.loop-row.invariant c.add_row.ensures

pub fold-requires : goal.fold-requires
fold-requires c =
    let e : c.loop-row.row ≡ lanes = omega (arith, c.loop-row.invariant.within) in
    (rw e at c.loop-row.invariant.columns, c.loop-row.invariant.run_most)

pub returns : goal.returns
returns c =
    let r = rows_end _ _ _ _ _ _ (omega arith) c.loop-row.invariant c.fold.ensures in
    record {
      plain_value = (r.plain_is, r.weighed_is);
      plain_bound = (r.plain_low, r.weighed_low);
    }
