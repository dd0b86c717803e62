use Rattle.std.proofs.Common.{◌^◌, sym, ◌∙◌, lt_of_lt_of_le, le-ltb, arith, pow_mono}
use borrow.Author.Tests.{lt-leb}
use Rattle.vectors.specs.Bounds.{max_inputs}
use Rattle.vectors.proofs.beyond.Goals as goal

pub returns-else-n-lt-MAX_INPUTS : goal.returns-else-n-lt-MAX_INPUTS
returns-else-n-lt-MAX_INPUTS c =
    let a = c.args in
    le-ltb _ _ c.if-n-lt-MAX_INPUTS.false ∙ sym (lt-leb (2 ^ a.n) a.x (lt_of_lt_of_le c.ranges.x.fits (pow_mono {i = max_inputs} {j = a.n} (omega arith))))
