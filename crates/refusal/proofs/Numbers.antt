-- Every refusal has a number above 0, and its number and the cells needed name it. Assumes nothing.
use Prim.Native.Nat.{ℕ, ◌<◌}
use native.Mathlib.Omega.{arith}
use mathlib.Core.Path.{◌≡◌, refl, sym, ap₂, ◌∙◌}
use mathlib.Core.Bool.{cond}
use lib.Dec.{eqb}
use Rattle.refusal.specs.declared.Refusal.{Refusal}
use Rattle.refusal.specs.declared.Refusal.TheVariants.{Inputs, Degree, Vectors, Cells, ShortTables, Beyond, Repeated, Faulty, Dependent, Alike, NotApart, ShortRows, NoPlace, NoUnit, NoVector, ShortTarget, FileLength, BlockCheck, NoFile, ShortForFile, Width, ShortSlab, Registered, Allowance}
use Rattle.refusal.specs.Refusal.{number_of, needed_of}

pub numbered : (r : Refusal) → 0 < number_of r
numbered Inputs = omega arith
numbered Degree = omega arith
numbered Vectors = omega arith
numbered Cells = omega arith
numbered ShortTables = omega arith
numbered Beyond = omega arith
numbered Repeated = omega arith
numbered Faulty = omega arith
numbered Dependent = omega arith
numbered Alike = omega arith
numbered NotApart = omega arith
numbered ShortRows = omega arith
numbered (NoPlace cells) = omega arith
numbered NoUnit = omega arith
numbered NoVector = omega arith
numbered ShortTarget = omega arith
numbered FileLength = omega arith
numbered BlockCheck = omega arith
numbered NoFile = omega arith
numbered ShortForFile = omega arith
numbered Width = omega arith
numbered ShortSlab = omega arith
numbered Registered = omega arith
numbered Allowance = omega arith

-- the refusal by its number, and the cells that are needed
by_number : ℕ → ℕ → Refusal
by_number n cells =
    cond (eqb n 1) Inputs (
    cond (eqb n 2) Degree (
    cond (eqb n 3) Vectors (
    cond (eqb n 4) Cells (
    cond (eqb n 5) ShortTables (
    cond (eqb n 6) Beyond (
    cond (eqb n 7) Repeated (
    cond (eqb n 8) Faulty (
    cond (eqb n 9) Dependent (
    cond (eqb n 10) Alike (
    cond (eqb n 11) NotApart (
    cond (eqb n 12) ShortRows (
    cond (eqb n 13) (NoPlace cells) (
    cond (eqb n 14) NoUnit (
    cond (eqb n 15) NoVector (
    cond (eqb n 20) ShortTarget (
    cond (eqb n 21) FileLength (
    cond (eqb n 22) BlockCheck (
    cond (eqb n 23) NoFile (
    cond (eqb n 24) ShortForFile (
    cond (eqb n 30) Width (
    cond (eqb n 31) ShortSlab (
    cond (eqb n 40) Registered (
    Allowance)))))))))))))))))))))))

named : (r : Refusal) → by_number (number_of r) (needed_of r) ≡ r
unfolding by_number
named Inputs = refl
named Degree = refl
named Vectors = refl
named Cells = refl
named ShortTables = refl
named Beyond = refl
named Repeated = refl
named Faulty = refl
named Dependent = refl
named Alike = refl
named NotApart = refl
named ShortRows = refl
named (NoPlace cells) = refl
named NoUnit = refl
named NoVector = refl
named ShortTarget = refl
named FileLength = refl
named BlockCheck = refl
named NoFile = refl
named ShortForFile = refl
named Width = refl
named ShortSlab = refl
named Registered = refl
named Allowance = refl

pub number_one : (a b : Refusal) → number_of a ≡ number_of b → needed_of a ≡ needed_of b → a ≡ b
number_one a b e f = sym (named a) ∙ ap₂ by_number e f ∙ named b

-- cells are needed beside 13 alone
none_needed : (r : Refusal) → (number_of r ≡ 13 → ⊥) → needed_of r ≡ 0
none_needed (NoPlace cells) h = absurd (h refl)
none_needed Inputs h = refl
none_needed Degree h = refl
none_needed Vectors h = refl
none_needed Cells h = refl
none_needed ShortTables h = refl
none_needed Beyond h = refl
none_needed Repeated h = refl
none_needed Faulty h = refl
none_needed Dependent h = refl
none_needed Alike h = refl
none_needed NotApart h = refl
none_needed ShortRows h = refl
none_needed NoUnit h = refl
none_needed NoVector h = refl
none_needed ShortTarget h = refl
none_needed FileLength h = refl
none_needed BlockCheck h = refl
none_needed NoFile h = refl
none_needed ShortForFile h = refl
none_needed Width h = refl
none_needed ShortSlab h = refl
none_needed Registered h = refl
none_needed Allowance h = refl

-- so any other number alone names its refusal
pub number_names : (a b : Refusal) → (number_of a ≡ 13 → ⊥) → number_of a ≡ number_of b → a ≡ b
number_names a b h e = number_one a b e (none_needed a h ∙ sym (none_needed b (λ z. h (e ∙ z))))
