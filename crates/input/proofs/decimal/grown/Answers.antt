use native.Mathlib.Omega.{arith}
use mathlib.Core.Path.{◌≡◌, sym, ap, ◌∙◌}
use Rattle.std.proofs.Common.{Some}
use Rattle.input.specs.Inner.{grown}
use Rattle.input.proofs.Reading.Bytes.{next, grown_is, grown_large}
use Rattle.input.proofs.decimal.grown.Goals as goal

pub returns-then-not-digit : goal.returns-then-not-digit
unfolding grown
returns-then-not-digit c = rw (sym c.digit.ensures ∙ c.if-not-digit.true, grown)

pub returns-in_err-checked_mul : goal.returns-in_err-checked_mul
returns-in_err-checked_mul c =
    c.from_residual.ensures
    ∙ sym (grown_large c.args.number c.args.b (sym c.digit.ensures ∙ c.if-not-digit.false) (omega (arith, c.in_err-checked_mul.ensures, c.unwrap_or.ensures)))

pub returns-in_err-more : goal.returns-in_err-more
returns-in_err-more c =
    c.from_residual-in_err-more.ensures
    ∙ sym
    (grown_large c.args.number c.args.b (sym c.digit.ensures ∙ c.if-not-digit.false)
    (omega (arith, c.from-d.ensures, c.in_ok-checked_mul.ensures, c.in_err-more.ensures, c.unwrap_or.ensures)))

pub returns : goal.returns
returns c =
    let e = c.in_ok-checked_mul.ensures in
    let k = c.in_ok-more.ensures in
    let n : c.in_ok-more.more ≡ next c.args.number c.args.b = omega (arith, e.1, k.1, c.from-d.ensures, c.unwrap_or.ensures) in
    ap Some n ∙ sym (grown_is c.args.number c.args.b (sym c.digit.ensures ∙ c.if-not-digit.false) (omega (arith, k, n)))
