-- One answer alone is told as the definition of choosing says. Assumes nothing.
use mathlib.Core.Path.{◌≡◌, sym, ap}
use mathlib.Core.Bool.{true≢false}
use Rattle.std.proofs.Common.{Result, Ok, Err}
use Rattle.choice.specs.declared.Chosen.{Chosen as Taken}
use Rattle.choice.specs.Choosing.{Chosen, told}

abbrev taken : Chosen → Taken
taken c = record { variables = c.variables; p = c.p }

pub told_one : (r s : Result Taken Taken) → told r ≡ told s → r ≡ s
told_one (Ok a) (Ok b) e = ap (λ (c : Chosen). Ok (taken c)) e
told_one (Ok a) (Err b) e = absurd (true≢false (ap (λ (c : Chosen). c.apart) e))
told_one (Err a) (Ok b) e = absurd (true≢false (sym (ap (λ (c : Chosen). c.apart) e)))
told_one (Err a) (Err b) e = ap (λ (c : Chosen). Err (taken c)) e
