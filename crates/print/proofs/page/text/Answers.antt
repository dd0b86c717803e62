use native.Mathlib.Omega.{arith}
use Rattle.print.proofs.Pages.Fitting.{fitted_short, fitted_written}
use Rattle.print.proofs.page.text.Goals as goal

pub returns-then-out-bytes : goal.returns-then-out-bytes
returns-then-out-bytes c = fitted_short _ _ c.if-out-bytes.true

pub returns : goal.returns
returns c = fitted_written c.bytes.ensures (omega (arith, c.bytes.ensures.place, c.if-out-bytes.false))
