use Prim.Native.Nat.{ℕ, ◌%◌}
use native.Mathlib.Omega.{arith}
use mathlib.Core.Path.{◌≡◌, sym, ap, ap₂, ◌∙◌}
use lib.ListN.{get_or}
use Rattle.fault.specs.declared.State.{State}
use Rattle.fault.specs.Fault.{fault_at}
use Rattle.fault.proofs.Scanning.Causes.{some_number}
use Rattle.fault.proofs.Scanning.Reading.{reading_none, reading_more, reading_fault, reading_end}
use Rattle.fault.proofs.find.Goals as goal

pub loop-b-init : goal.loop-b-init
loop-b-init c = reading_none _

pub cause_at-requires : goal.cause_at-requires
cause_at-requires c = c.loop-b.invariant.within.numbers

pub returns-in-Some : goal.returns-in-Some
returns-in-Some c =
    let s : State = c.loop-b.s in
    let b = get_or c.args.text.now c.loop-b.b-index 0 in
    let byte : b ≡ b % 256 = omega (arith, c.type_inv.text c.loop-b.b-index) in
    ap₂ (λ (n b : ℕ). record { cause = n; line = s.line; column = s.column; byte = b }) c.in-Some.ensures byte
    ∙ reading_fault c.loop-b.invariant 0 c.loop-b-test.true (λ z. some_number c.in-Some.cause (c.in-Some.ensures ∙ z))

pub past-s-requires : goal.past-s-requires
past-s-requires c = (c.loop-b.invariant.within, sym c.in_default.ensures)

pub loop-b-preserved : goal.loop-b-preserved
loop-b-preserved c = rw c.past-s.ensures (reading_more c.loop-b.invariant 0 c.loop-b-test.true (sym c.in_default.ensures))

pub returns-in-Some-cause_end : goal.returns-in-Some-cause_end
returns-in-Some-cause_end c = ap (λ (n : ℕ). fault_at c.loop-b.s n 0) c.in-Some-cause_end.ensures ∙ reading_end c.loop-b.invariant c.loop-b-test.false

pub returns-in-None : goal.returns-in-None
returns-in-None c = ap (λ (n : ℕ). fault_at c.loop-b.s n 0) c.in-None.ensures ∙ reading_end c.loop-b.invariant c.loop-b-test.false
