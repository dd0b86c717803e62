use Rattle.std.proofs.Common.{sym, ◌∙◌, ap₂}
use lib.Bits.{bit_xor, xor_mod}
use Rattle.vectors.specs.Bits.{place_of}
use Rattle.vectors.specs.Bounds.{max_inputs}
use Rattle.vectors.proofs.mask.Goals as goal

pub returns-in-Two : goal.returns-in-Two
returns-in-Two c =
    rw c.in-Two.is (ap₂ bit_xor c.place-in-Two.ensures c.place-in-Two-2.ensures ∙ sym (xor_mod (place_of c.in-Two.i) (place_of c.in-Two.j) max_inputs))
