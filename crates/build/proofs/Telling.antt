-- One answer alone is told as a definition says. Assumes nothing.
use Prim.Native.Nat.{ℕ}
use native.Mathlib.Omega.{arith}
use mathlib.Core.Path.{◌≡◌, ap, ap₂}
use Rattle.std.proofs.Common.{Result, Ok, Err}
use Rattle.refusal.specs.declared.Refused.{Refused}
use Rattle.refusal.specs.declared.Refusal.{Refusal}
use Rattle.refusal.proofs.Numbers.{numbered, number_one}
use Rattle.record.specs.declared.Record.{Record}
use Rattle.build.specs.Built.{Built, told}

refusal_is : {r s : Built} → r ≡ s → r.refusal ≡ s.refusal
refusal_is e = ap (λ (r : Built). r.refusal) e

pub told_one : (r s : Result Record Refused) → told r ≡ told s → r ≡ s
told_one (Ok u) (Ok v) e = ap Ok (ap (λ (r : Built). r.unit) e)
told_one (Ok u) (Err b) e = let q = refusal_is e in absurd (omega (arith, numbered b.refusal))
told_one (Err a) (Ok v) e = let q = refusal_is e in absurd (omega (arith, numbered a.refusal))
told_one (Err a) (Err b) e =
    ap₂ (λ (r : Refusal) (p : ℕ). Err (record { refusal = r; place = p }))
    (number_one a.refusal b.refusal (refusal_is e) (ap (λ (r : Built). r.needed) e))
    (ap (λ (r : Built). r.place) e)
