use native.Mathlib.Omega.{arith}
use mathlib.Core.Path.{refl}
use Rattle.many.proofs.Inputs.{peel_none, peel_even, peel_room, peel_odd, peel_end}
use Rattle.many.proofs.images.mark_kept.Goals as goal
use Rattle.many.proofs.images.mark_kept.Goals.{then-rest-ne0, else-rest-ne0}

pub loop-j-init : goal.loop-j-init
loop-j-init c = peel_none _ _ _ _ c.requires.2 c.requires.3 c.requires.1

pub overflow_shl-images : goal.overflow_shl-images
overflow_shl-images c = peel_room _ _ _ _ _ _ _ _ c.loop-j.invariant (omega arith) (omega arith) c.requires.0

pub bounds-images-j : goal.bounds-images-j
bounds-images-j c = omega (arith, c.loop-j.invariant.size, c.requires.2)

pub overflow_add-q : goal.overflow_add-q
overflow_add-q c = omega (arith, peel_room _ _ _ _ _ _ _ _ c.loop-j.invariant (omega arith) (omega arith) c.requires.0)

pub loop-j-preserved : goal.loop-j-preserved
loop-j-preserved c =
    elim c.if-rest-ne0.branch [
      | then-rest-ne0 w ↦ rw (w.images-is, w.q-is) (peel_odd _ _ _ _ _ _ _ _ c.loop-j.invariant (omega arith) _ (omega arith) c.requires.0 refl)
      | else-rest-ne0 w ↦ rw (w.images-is, w.q-is) (peel_even _ _ _ _ _ _ _ _ c.loop-j.invariant (omega arith) w.if-rest-ne0.false)
    ]

pub returns : goal.returns
returns c = peel_end _ _ _ _ _ _ _ _ c.loop-j.invariant (omega arith)
