use native.Mathlib.Omega.{arith}
use Rattle.bridge.proofs.Answers.{many_called}
use Rattle.bridge.proofs.igu_lookup_many.Goals as goal

pub returns-in-Ok : goal.returns-in-Ok
returns-in-Ok c = many_called _ _ _ _ _ _ _ _ c.seen.ensures c.in-Ok.ensures (omega arith)

pub returns-in-Err : goal.returns-in-Err
returns-in-Err c = many_called _ _ _ _ _ _ _ _ c.seen.ensures c.in-Err.ensures (omega (arith, c.from.ensures, c.number.ensures))
