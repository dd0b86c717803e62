-- One answer alone is told as the definition of given keys says. Assumes nothing.
use mathlib.Core.Path.{◌≡◌, refl, sym, ap}
use mathlib.Core.Bool.{true≢false}
use Rattle.std.proofs.Common.{Option, None, Some}
use Rattle.find.specs.declared.Given as code
use Rattle.find.specs.Given.{Given, told}

pub told_one : (r s : Option code.Given) → told r ≡ told s → r ≡ s
told_one (Some a) (Some b) e = ap (λ (g : Given). Some (record { count = g.count; words = g.words })) e
told_one (Some a) None e = absurd (true≢false (ap (λ (g : Given). g.good) e))
told_one None (Some b) e = absurd (true≢false (sym (ap (λ (g : Given). g.good) e)))
told_one None None e = refl
