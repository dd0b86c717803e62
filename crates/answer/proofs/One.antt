-- One answer alone is told as the definition of making says. Assumes nothing.
use Prim.Native.Nat.{ℕ}
use mathlib.Core.Path.{◌≡◌, refl, sym, ap}
use mathlib.Core.Bool.{true≢false}
use mathlib.Core.List.{List}
use Rattle.std.proofs.Common.{Option, None, Some, Result}
use Rattle.refusal.specs.declared.Refused.{Refused}
use Rattle.record.specs.declared.Record.{Record}
use Rattle.build.proofs.Telling as build
use Rattle.answer.specs.Make.{Making, making}

pub making_one : (r s : Option (Result Record Refused)) (h g aux h' g' aux' : List ℕ) → making r h g aux ≡ making s h' g' aux' → r ≡ s
making_one (Some a) (Some b) h g aux h' g' aux' e = ap Some (build.told_one a b (ap (λ (m : Making). m.outcome.built) e))
making_one (Some a) None h g aux h' g' aux' e = absurd (true≢false (ap (λ (m : Making). m.good) e))
making_one None (Some b) h g aux h' g' aux' e = absurd (true≢false (sym (ap (λ (m : Making). m.good) e)))
making_one None None h g aux h' g' aux' e = refl
