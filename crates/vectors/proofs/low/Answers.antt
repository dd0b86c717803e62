use Rattle.std.proofs.Common.{◌≡◌, ℕ, ◌*◌, ◌%◌, ◌^◌, ◌<◌, sym, ◌∙◌, lt_of_lt_of_le, mod-eq_of_lt, one-mul, arith, pow_mono, shl_exact}
use Rattle.vectors.specs.Bounds.{max_inputs}
use Rattle.vectors.proofs.low.Goals as goal

power : (n : ℕ) → n < max_inputs → 1 * 2 ^ n % 2 ^ max_inputs ≡ 2 ^ n
power n h = shl_exact 1 n max_inputs (omega arith) (omega arith) ∙ one-mul (2 ^ n)

pub returns-else-n : goal.returns-else-n
returns-else-n c =
    let a = c.args in
    sym (mod-eq_of_lt (lt_of_lt_of_le c.ranges.y.fits (pow_mono {i = max_inputs} {j = a.n} c.if-n.false)))
