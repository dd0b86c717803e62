use Prim.Native.Nat.{ℕ, ◌+◌, ◌*◌, ◌^◌, ◌<◌}
use mathlib.Core.Path.{◌≡◌, ap, ◌∙◌}
use native.Mathlib.Omega.{arith}
use lib.ListN.{get_or}
use Rattle.std.specs.Char.{digit_value}
use borrow.Author.Rules.{rules}
use Rattle.find.specs.Inner.{told}
use Rattle.find.proofs.Numerals.{numeral_none, counting_none, counting_other, counting_large, counting_over, counting_more, counting_end}
use Rattle.find.proofs.keys.numeral.Goals as goal

pub returns-then-is_empty : goal.returns-then-is_empty
returns-then-is_empty c = numeral_none _ c.args.bytes.now (search rules)

pub loop-b-init : goal.loop-b-init
loop-b-init c = counting_none _ c.args.bytes.now (search rules)

pub returns-in_err-d : goal.returns-in_err-d
returns-in_err-d c =
    ap told c.from_residual.ensures ∙ counting_other _ _ _ _ c.loop-b.invariant c.loop-b-test.true c.requires.1 (rw c.from.ensures at c.in_err-d.ensures.value)

pub returns-in_err-checked_mul : goal.returns-in_err-checked_mul
returns-in_err-checked_mul c =
    let d = rw c.from.ensures at c.in_ok-d.ensures.value in
    ap told c.from_residual-in_err-checked_mul.ensures
    ∙ counting_large _ _ _ _ c.loop-b.invariant c.loop-b-test.true c.requires.1 d.0 (rw c.from-in-loop-b.ensures at c.in_err-checked_mul.ensures)

-- the product and the sum, in the numbers of the loop
module _ (base value d m n b x : ℕ) where
  sum_is : n ≡ base → m ≡ value * n → x ≡ d → d ≡ digit_value b → m + x ≡ value * base + digit_value b
  sum_is e p f q = rw (p, e, f, q)

pub returns-in_err-value : goal.returns-in_err-value
returns-in_err-value c =
    let d = rw c.from.ensures at c.in_ok-d.ensures.value in
    let s = sum_is c.args.base c.loop-b.value c.in_ok-d.d c.in_ok-checked_mul.field-0 c.from-in-loop-b.result (get_or c.args.bytes.now c.loop-b.b-index 0) c.from-in-loop-b-2.result c.from-in-loop-b.ensures c.in_ok-checked_mul.ensures.1 c.from-in-loop-b-2.ensures d.1 in
    let n : c.in_ok-checked_mul.field-0 + c.from-in-loop-b-2.result < 2 ^ 64 → ⊥ = c.in_err-value.ensures in
    ap told c.from_residual-in_err-value.ensures
    ∙ counting_over _ _ _ _ c.loop-b.invariant c.loop-b-test.true c.requires.1 d.0 (rw s at n)

pub loop-b-preserved : goal.loop-b-preserved
loop-b-preserved c =
    let d = rw c.from.ensures at c.in_ok-d.ensures.value in
    let s = sum_is c.args.base c.loop-b.value c.in_ok-d.d c.in_ok-checked_mul.field-0 c.from-in-loop-b.result (get_or c.args.bytes.now c.loop-b.b-index 0) c.from-in-loop-b-2.result c.from-in-loop-b.ensures c.in_ok-checked_mul.ensures.1 c.from-in-loop-b-2.ensures d.1 in
    let v = c.in_ok-value.ensures in
    counting_more _ _ _ _ c.loop-b.invariant c.loop-b-test.true c.requires.1 d.0 c.in_ok-value.value (v.1 ∙ s) (omega arith)

pub returns : goal.returns
returns c = counting_end _ _ _ _ c.loop-b.invariant c.loop-b-test.false
