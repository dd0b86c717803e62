-- One answer alone is told as the definition of a dated key says. Assumes nothing.
use Prim.Native.Nat.{ℕ}
use mathlib.Core.Path.{◌≡◌, refl, sym, ap}
use mathlib.Core.Bool.{true≢false}
use Rattle.std.proofs.Common.{Result, Ok, Err}
use Rattle.dated.specs.declared.NoWord.{NoWord}
use Rattle.dated.specs.declared.NoWord.TheVariants.{NoKey, Wide}
use Rattle.dated.specs.Dated.{Dated, told}

pub told_one : (r s : Result ℕ NoWord) → told r ≡ told s → r ≡ s
told_one (Ok a) (Ok b) e = ap (λ (d : Dated). Ok d.word) e
told_one (Ok a) (Err NoKey) e = absurd (true≢false (ap (λ (d : Dated). d.good) e))
told_one (Ok a) (Err Wide) e = absurd (true≢false (sym (ap (λ (d : Dated). d.wide) e)))
told_one (Err NoKey) (Ok b) e = absurd (true≢false (sym (ap (λ (d : Dated). d.good) e)))
told_one (Err Wide) (Ok b) e = absurd (true≢false (ap (λ (d : Dated). d.wide) e))
told_one (Err NoKey) (Err NoKey) e = refl
told_one (Err NoKey) (Err Wide) e = absurd (true≢false (sym (ap (λ (d : Dated). d.good) e)))
told_one (Err Wide) (Err NoKey) e = absurd (true≢false (ap (λ (d : Dated). d.good) e))
told_one (Err Wide) (Err Wide) e = refl
