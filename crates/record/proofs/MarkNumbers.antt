-- The mark of a unit and its number. Assumes nothing.
use Prim.Native.Nat.{ℕ, zero, suc, ◌<◌}
use native.Mathlib.Omega.{arith}
use mathlib.Core.Path.{◌≡◌, refl, sym, ◌∙◌}
use mathlib.Core.Bool.{false}
use lib.Dec.{eqb, leb}
use borrow.Author.Tests.{ne_eqb, lt-leb}
use Rattle.record.specs.declared.Mark.{Mark}
use Rattle.record.specs.declared.Mark.TheVariants.{Built, Amended}
use Rattle.record.specs.Record.{mark_number, mark_of}

pub mark_low : (m : Mark) → mark_number m < 2
mark_low Built = omega arith
mark_low Amended = omega arith

pub mark_back : (m : Mark) → mark_of (mark_number m) ≡ m
mark_back Built = refl
mark_back Amended = refl

-- 0 and 1 are numbers of marks, and no other
pub mark_known : (b : ℕ) → eqb (mark_number (mark_of b)) b ≡ leb b 1
mark_known zero = refl
mark_known (suc zero) = refl
mark_known (suc (suc b)) =
    let z : eqb (suc (suc b)) 0 ≡ false = ne_eqb (suc (suc b)) 0 (λ e. omega arith) in
    rw z (ne_eqb 1 (suc (suc b)) (λ e. omega arith) ∙ sym (lt-leb (suc (suc b)) 1 (omega arith)))
