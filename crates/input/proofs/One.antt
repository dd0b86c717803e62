-- One answer alone is told as the definition of reading says. Assumes nothing.
use mathlib.Core.Path.{◌≡◌, refl, sym, ap}
use mathlib.Core.Bool.{true≢false}
use Rattle.std.proofs.Common.{Option, None, Some}
use Rattle.input.specs.declared.Input as code
use Rattle.input.specs.Input.{Input, told}

pub told_one : (r s : Option code.Input) → told r ≡ told s → r ≡ s
told_one (Some a) (Some b) e = ap (λ (i : Input). Some (record { n = i.n; degree = i.degree; cells = i.cells; count = i.count })) e
told_one (Some a) None e = absurd (true≢false (ap (λ (i : Input). i.good) e))
told_one None (Some b) e = absurd (true≢false (sym (ap (λ (i : Input). i.good) e)))
told_one None None e = refl
