use native.Mathlib.Omega.{arith}
use mathlib.Core.Path.{refl, ◌∙◌}
use mathlib.Core.List.{append-nil}
use Rattle.std.proofs.lemmas.List.{take_all}
use Rattle.many.proofs.Inputs.{variable_more}
use Rattle.many.proofs.images.mark_variables.Goals as goal

pub loop-i-init : goal.loop-i-init
loop-i-init c = (c.requires.1, λ ms e o. rw (append-nil ms) o)

pub loop-i-preserved : goal.loop-i-preserved
loop-i-preserved c =
    let l = c.loop-i in
    let f = c.mark in (
      f.auto.images ∙ l.invariant.0,
      λ ms e o. variable_more c.args.variables.now ms l.images f.new.images c.args.at l.i _ _ (omega arith) e (omega (arith, c.requires)) refl (l.invariant.1 ms e o) f.ensures,
    )

pub returns : goal.returns
returns c = λ ms n o. rw (take_all c.loop-i.i c.args.variables.now (omega arith)) at (c.loop-i.invariant.1 ms n o)
