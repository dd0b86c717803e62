use native.Mathlib.Omega.{arith}
use mathlib.Core.Path.{ap}
use mathlib.Core.List.{◌∷◌, []}
use Rattle.recover.specs.Recover.{Recovered}
use Rattle.bridge.proofs.Answers.{recovered_by}
use Rattle.bridge.proofs.igu_recover.Goals as goal

pub returns-in-Ok : goal.returns-in-Ok
returns-in-Ok c =
    let e = recovered_by _ _ _ _ _ c.seen.ensures c.in-Ok.ensures in
    record {
      value = ap (λ (r : Recovered). r.refusal) e;
      vector_after = ap (λ (r : Recovered). r.vector ∷ []) e;
    }

pub returns-in-Err : goal.returns-in-Err
returns-in-Err c =
    let e = recovered_by _ _ _ _ _ c.seen.ensures c.in-Err.ensures in
    record {
      value = omega (arith, c.from.ensures, c.number.ensures, ap (λ (r : Recovered). r.refusal) e);
      vector_after = ap (λ (r : Recovered). r.vector ∷ []) e;
    }
