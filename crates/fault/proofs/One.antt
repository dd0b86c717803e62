-- One answer alone is told as the definition says. Assumes nothing.
use Prim.Native.Nat.{ℕ}
use mathlib.Core.Path.{◌≡◌, refl, sym, ap, ◌∙◌}
use mathlib.Core.Bool.{cond}
use lib.Dec.{eqb}
use Rattle.std.proofs.Common.{Result, Ok, Err}
use Rattle.fault.specs.declared.Cause.{Cause}
use Rattle.fault.specs.declared.Cause.TheVariants.{NoDigit, EndBefore, OtherByte, LargeNumber, FewNumbers, ManyVectors, LongText}
use Rattle.fault.specs.declared.Fault as code
use Rattle.fault.specs.declared.Place.{Place}
use Rattle.fault.specs.Fault.{Fault, number_of, told}
use Rattle.fault.proofs.Scanning.Causes.{some_number}

-- the cause by its number
abbrev cause_by : ℕ → Cause
cause_by n =
    cond (eqb n 1) NoDigit (
    cond (eqb n 2) EndBefore (
    cond (eqb n 3) OtherByte (
    cond (eqb n 4) LargeNumber (
    cond (eqb n 5) FewNumbers (
    cond (eqb n 6) ManyVectors LongText)))))

cause_back : (c : Cause) → cause_by (number_of c) ≡ c
cause_back NoDigit = refl
cause_back EndBefore = refl
cause_back OtherByte = refl
cause_back LargeNumber = refl
cause_back FewNumbers = refl
cause_back ManyVectors = refl
cause_back LongText = refl

-- a fault with a cause
abbrev of : code.Fault → Cause → Result Place code.Fault
of f c = Err (record { cause = c; line = f.line; column = f.column; byte = f.byte })

back : (f : code.Fault) → of f (cause_by (number_of f.cause)) ≡ Err f
back f = ap (of f) (cause_back f.cause)

pub told_one : (r s : Result Place code.Fault) → told r ≡ told s → r ≡ s
told_one (Ok p) (Ok q) e = ap (λ (f : Fault). Ok (record { line = f.line; column = f.column })) e
told_one (Ok p) (Err f) e = absurd (some_number f.cause (sym (ap (λ (r : Fault). r.cause) e)))
told_one (Err f) (Ok q) e = absurd (some_number f.cause (ap (λ (r : Fault). r.cause) e))
told_one (Err f) (Err g) e =
    sym (back f)
    ∙ ap (λ (r : Fault). Err (record { cause = cause_by r.cause; line = r.line; column = r.column; byte = r.byte })) e
    ∙ back g
