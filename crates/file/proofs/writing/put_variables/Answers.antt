use Prim.Native.Nat.{◌+◌, ◌-◌, ◌*◌}
use native.Mathlib.Omega.{arith}
use mathlib.Core.Path.{◌≡◌, ◌∙◌}
use Rattle.file.specs.Layout.{variables_at}
use Rattle.file.proofs.Laying.Heads.{placing_none, placing_more, placing_end}
use Rattle.file.proofs.writing.put_variables.Goals as goal

pub loop-i-init : goal.loop-i-init
loop-i-init c = placing_none _ _

pub loop-i-preserved : goal.loop-i-preserved
loop-i-preserved c =
    let at = variables_at + 2 * c.loop-i.i in
    let two : at + 2 - at ≡ 2 = omega arith in
    rw two (placing_more c.args.variables.now _ _ c.copy_from_slice.new.self _ _ (omega arith) (omega arith) (c.copy_from_slice.ensures.after ∙ c.positions.ensures) c.loop-i.invariant)

pub returns : goal.returns
returns c = placing_end _ _ _ _ (omega arith) c.loop-i.invariant
