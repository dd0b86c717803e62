use mathlib.Core.Path.{ap₂, ◌∙◌}
use lib.Bits.{bit_xor}
use Rattle.many.proofs.Linear.{seven_bytes}
use Rattle.many.proofs.tables.of_seven.Goals as goal

pub returns : goal.returns
returns c =
    let a = c.args in
    λ f n l s h.
    ap₂ bit_xor
    (ap₂ bit_xor
    (ap₂ bit_xor (ap₂ bit_xor (ap₂ bit_xor (ap₂ bit_xor c.of_byte.ensures c.of_byte-2.ensures) c.of_byte-3.ensures) c.of_byte-4.ensures) c.of_byte-5.ensures)
    c.of_byte-6.ensures)
    c.of_byte-7.ensures
    ∙ seven_bytes f l a.tables.now a.x n s h
