use native.Mathlib.Omega.{arith}
use mathlib.Core.Path.{ap}
use lib.ListN.{length}
use Rattle.load.proofs.Naming.{naming_none, naming_more, naming_end}
use Rattle.load.proofs.head.variables.Goals as goal

pub loop-i-init : goal.loop-i-init
loop-i-init c = naming_none _ _ (ap length c.blank_variables-all.ensures)

pub loop-i-preserved : goal.loop-i-preserved
loop-i-preserved c = naming_more _ _ _ _ (omega arith) c.kind_of.ensures c.loop-i.invariant

pub returns : goal.returns
returns c = naming_end _ _ _ (omega arith) c.loop-i.invariant
