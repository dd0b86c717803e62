-- The image of a key is linear over XOR, and one to one where the unit is sound. Assumes nothing.
use Prim.Native.Nat.{◌-◌, ◌^◌}
use mathlib.Core.Path.{◌≡◌, sym, ap₂, ◌∙◌}
use mathlib.Core.Bool.{true}
use lib.Bits.{bit_xor, xor_lt}
use lib.ListN.{length}
use Rattle.vectors.specs.Bounds.{max_inputs}
use Rattle.vectors.proofs.Variables.Numbers.{parts, column_lt}
use Rattle.span.proofs.Unique.{one_vector}
use Rattle.record.specs.declared.Record.{Record}
use Rattle.record.specs.Record.{kinds_in}
use Rattle.record.specs.Tables.{Tables}
use Rattle.record.specs.Formed.{well_formed, sound}
use Rattle.record.proofs.Formed.{well_formed_facts}
use Rattle.record.proofs.Soundness.{sound_says}
use Rattle.many.specs.Image.{image_of, LinearBelow, OneToOne}
use Rattle.many.specs.Inner.Images.{image_masks}
use Rattle.many.proofs.Linear.{number_linear}
use Rattle.many.proofs.Masking.{image_masks_lem}

-- the record has as many variables as it says
pub image_linear : (u : Record) (t : Tables) → well_formed u t ≡ true → length (kinds_in u) ≡ u.p → LinearBelow (2 ^ max_inputs) (image_of u)
image_linear u t w l a b ha hb =
    let f = well_formed_facts u t w in
    let is = image_masks_lem u f.bounds f.inputs l in
    sym (is (bit_xor a b) (xor_lt max_inputs a b ha hb)) ∙ number_linear (image_masks u) a b ∙ ap₂ bit_xor (is a ha) (is b hb)

pub image_one_to_one : (u : Record) (t : Tables) → sound u t ≡ true → OneToOne (2 ^ u.n) (image_of u)
image_one_to_one u t s x y hx hy e =
    let S = sound_says u t s in
    let (column, word) =
    parts (2 ^ (u.p - u.n1)) _ _ _ _ (rw S.variables at (column_lt u.n1 (kinds_in u) x)) (rw S.variables at (column_lt u.n1 (kinds_in u) y)) e in
    one_vector u.n u.n1 (kinds_in u) x y S.rows_in hx hy (rw S.kept_is at word) column
