use Prim.Native.Nat.{◌+◌, ◌-◌, ◌*◌}
use native.Mathlib.Omega.{arith}
use mathlib.Core.Path.{◌≡◌, sym, ◌∙◌}
use Rattle.choice.proofs.Laying.Drawing.{drawing_none, drawing_more}
use Rattle.choice.proofs.draw.draw.Goals as goal

pub loop-w-init : goal.loop-w-init
loop-w-init c = drawing_none _ c.requires.0

pub slice_bounds-transpose-end : goal.slice_bounds-transpose-end
slice_bounds-transpose-end c = omega (arith, c.loop-w.invariant.drawn.size, c.requires.1)

pub loop-w-preserved : goal.loop-w-preserved
loop-w-preserved c =
    let l = c.loop-w in
    let p = c.requires in
    let d : 64 * l.w + 64 - 64 * l.w ≡ 64 = omega arith in
    rw d (drawing_more _ l.items _ l.w (omega (arith, p.1)) (rw d at c.transpose.ensures) l.invariant)

pub shape_of-items : goal.shape_of-items
shape_of-items c = c.loop-w.invariant.drawn.size ∙ sym c.requires.0

pub returns : goal.returns
returns c =
    let l = c.loop-w in
    let e : l.w ≡ c.args.blocks = omega arith in
    rw e at l.invariant.drawn
