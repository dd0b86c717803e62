use native.Mathlib.Nat.{mod-eq_of_lt}
use native.Mathlib.Omega.{arith}
use mathlib.Core.Path.{ap, ◌∙◌}
use lib.Bits.{bit_xor}
use Rattle.many.proofs.Linear.{eight_bytes}
use Rattle.many.proofs.tables.image.Goals as goal

pub returns-then-this-ne0 : goal.returns-then-this-ne0
returns-then-this-ne0 g c =
    let b = c.of_seven-seven in
    let a = c.args in
    λ f n l s h w. ap (bit_xor b.result) c.of_byte.ensures ∙ eight_bytes f l a.tables.now a.x n s h _ (b.ensures f n l s h) (omega arith)

pub returns : goal.returns
returns g c = λ f n l s h w. c.of_seven-seven.ensures f n l s h ∙ ap f (mod-eq_of_lt (w (rw c.if-this-ne0.false)))
