use Prim.Native.Nat.{◌+◌, ◌*◌, ◌^◌, ◌%◌}
use native.Mathlib.Nat.{one-mul}
use native.Mathlib.Numerals.{add-one}
use native.Mathlib.Omega.{arith}
use mathlib.Core.Path.{◌≡◌, sym, ap, ◌∙◌}
use lib.ListN.{length}
use lib.Pow.{shl_exact}
use lib.Seq.{length-take-le}
use Rattle.vectors.specs.Bounds.{max_inputs}
use Rattle.std.proofs.Common.{Err}
use Rattle.refusal.specs.declared.Refused.{Refused}
use Rattle.build.specs.Built.{told}
use Rattle.build.specs.Inner.Charts.{kinds_by}
use Rattle.build.proofs.Writing.Parts.{end_short, end_parts}
use borrow.Author.Rules.{rules}
use Rattle.build.proofs.finish.complete.Goals as goal
use Rattle.build.proofs.finish.complete.Goals.{Start}

-- the code's number of rows
power : (s : Start) → 1 * 2 ^ s.args.chart.n1 % 2 ^ max_inputs ≡ 2 ^ s.args.chart.n1
power s = shl_exact {a = 1} 1 s.args.chart.n1 max_inputs (omega arith) (omega (arith, s.args.chart.split.rows_few)) ∙ one-mul (2 ^ s.args.chart.n1)

pub returns-then-h-rows : goal.returns-then-h-rows
returns-then-h-rows c =
    end_short c.args.chart.n c.args.chart.n1 (kinds_by c.args.chart) c.args.cells c.args.allowance c.args.chart.vectors.now c.args.h.now c.args.g.now c.args.aux.now _ (omega (arith, power (goal.at.returns-then-h-rows c).Start, c.if-h-rows.true)) (ap (λ (e : Refused). told (Err e)) c.at.ensures)

pub slice_bounds-finish-end-2 : goal.slice_bounds-finish-end-2
slice_bounds-finish-end-2 c = sym (length-take-le _ _ (search rules))

pub slice_bounds-finish-end-4 : goal.slice_bounds-finish-end-4
slice_bounds-finish-end-4 c = sym (length-take-le c.args.cells c.args.g.now c.requires.0)

pub slice_bounds-finish-end-6 : goal.slice_bounds-finish-end-6
slice_bounds-finish-end-6 c = sym (length-take-le (length c.args.chart.vectors.now + 1) c.args.aux.now (omega (arith, c.requires.2)))

pub finish-requires : goal.finish-requires
finish-requires c =
    let q = c.requires in
    let a = length-take-le (length c.args.chart.vectors.now + 1) c.args.aux.now (omega (arith, q.2)) in
    (a ∙ add-one (length c.args.chart.vectors.now), length-take-le _ c.args.h.now c.if-h-rows.false ∙ power (goal.at.finish-requires c).Start, omega (arith, length-take-le c.args.cells c.args.g.now q.0, q.1))

pub returns : goal.returns
returns c =
    end_parts c.args.chart.n c.args.chart.n1 (kinds_by c.args.chart) c.args.cells c.args.allowance c.args.chart.vectors.now c.args.h.now c.args.g.now c.args.aux.now _ _ _ _ _ _ (power (goal.at.returns c).Start) (add-one (length c.args.chart.vectors.now)) c.if-h-rows.false c.requires.0 c.requires.2 c.finish.ensures
