use native.Mathlib.Omega.{arith}
use mathlib.Core.Path.{refl, ◌∙◌}
use Rattle.std.specs.Prelude.{Err}
use Rattle.refusal.proofs.Numbers.{numbered}
use Rattle.build.specs.Built.{told}
use Rattle.cells.proofs.Counts.{fewest_accepted, fewest_refused}
use Rattle.cells.proofs.print_fewest.Goals as goal

pub returns-in-Ok : goal.returns-in-Ok
returns-in-Ok c = rw c.in-Ok.is (c.sentence.ensures ∙ fewest_accepted _ c.args.g.now c.args.out.now _ c.used.ensures refl)

pub returns-in-Err : goal.returns-in-Err
returns-in-Err c =
    rw c.in-Err.is
    (c.refused.ensures ∙ fewest_refused (told (Err c.in-Err.refused)) c.args.g.now c.args.out.now (λ z. omega (arith, numbered c.in-Err.refused.refusal)))
