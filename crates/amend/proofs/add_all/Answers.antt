use native.Mathlib.Omega.{arith}
use mathlib.Core.Path.{refl}
use Rattle.std.proofs.lemmas.Result.{err_from_is_err_and}
use Rattle.refusal.proofs.Numbers.{numbered}
use Rattle.amend.proofs.Adds.{adding_more, adding_refused, adding_end}
use Rattle.amend.proofs.add_all.Goals as goal

pub returns-in_err-unit : goal.returns-in_err-unit
returns-in_err-unit c =
    let p = err_from_is_err_and c.from_residual.result c.from_residual.ensures.1 in
    rw (p.1, p.2) (adding_refused _ _ _ c.loop-x.x-index c.loop-x.unit _ c.loop-x.invariant c.loop-x-test.true _ _ c.in_err-unit.ensures (λ z. omega (arith, numbered c.in_err-unit.field-0.0.refusal)))

pub loop-x-preserved : goal.loop-x-preserved
loop-x-preserved c = adding_more _ _ _ c.loop-x.x-index c.loop-x.unit _ c.loop-x.invariant c.loop-x-test.true _ _ c.in_ok-unit.ensures refl

pub returns : goal.returns
returns c = adding_end _ _ _ _ _ _ c.loop-x.invariant c.loop-x-test.false
