use mathlib.Core.Path.{sym, ap, ap₂, ◌∙◌}
use Prim.Native.Nat.{◌%◌, ◌^◌}
use lib.Bits.{bit_xor, xor_mod}
use Rattle.vectors.specs.Bits.{place_of}
use Rattle.vectors.specs.declared.Kind.{Kind}
use Rattle.vectors.specs.Variable.{mask_of}
use Rattle.vectors.specs.Bounds.{max_inputs}
use Rattle.lookup.proofs.mask_within.Goals as goal

pub returns-in-Two : goal.returns-in-Two
returns-in-Two c =
    ap₂ bit_xor c.place_within-in-Two.ensures c.place_within-in-Two-2.ensures ∙ sym (xor_mod (place_of c.in-Two.i) (place_of c.in-Two.j) max_inputs)
    ∙ ap (λ (k : Kind). mask_of k % 2 ^ max_inputs) (sym c.in-Two.is)
