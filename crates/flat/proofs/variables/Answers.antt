use Rattle.std.proofs.Common.{map, arith, refl, sym, ap, ◌∙◌}
use lib.ListN.{length, length-set}
use lib.Seq.{take_all}
use Rattle.lists.proofs.Writing.Mapped.{mapped_more}
use Rattle.flat.specs.Flat.{variable_at}
use Rattle.flat.proofs.variables.Goals as goal

pub loop-i-init : goal.loop-i-init
loop-i-init c = (ap length c.blank_variables-v.ensures, refl)

pub loop-i-preserved : goal.loop-i-preserved
loop-i-preserved c = let l = c.loop-i in (length-set l.v l.i _ ∙ l.invariant.0, mapped_more variable_at _ l.v l.i _ _ (omega arith) (omega arith) c.variable_at.ensures l.invariant.1)

pub returns : goal.returns
returns c = let l = c.loop-i in sym (take_all l.i l.v (omega arith)) ∙ l.invariant.1 ∙ ap (map variable_at) (take_all l.i _ (omega arith))
