-- The masks of an image's bits: they make the image. Assumes nothing.
use Prim.Native.Nat.{ℕ, suc, ◌+◌, ◌-◌, ◌*◌, ◌^◌, ◌<◌}
use native.Mathlib.Nat.{zero-add, one-mul, mul_comm, mul_assoc, pow-suc, div-one}
use native.Mathlib.Omega.{arith}
use mathlib.Core.Path.{◌≡◌, sym, ap, ap₂, ◌∙◌}
use mathlib.Core.List.{List, [], ◌∷◌, ◌++◌, append_assoc}
use lib.ListN.{length, take, drop, length-drop}
use lib.Seq.{length-take-le}
use Rattle.vectors.specs.Masks.{masks_of}
use Rattle.vectors.specs.Variable.{row_of, column_of}
use Rattle.vectors.specs.Word.{pack_in, word_of}
use Rattle.vectors.proofs.Words.Packing.{pack_more}
use Rattle.record.specs.declared.Record.{Record}
use Rattle.vectors.specs.Bounds.{max_inputs}
use Rattle.record.specs.Record.{kinds_in}
use Rattle.record.specs.Leads.{word_in}
use Rattle.vectors.specs.Masks.{number_by}
use Rattle.record.specs.Inner.Formed.{InBounds, RightInputs}
use Rattle.vectors.proofs.Variables.Masking.{number_masks, masks_length}
use Rattle.many.specs.Image.{image_of}
use Rattle.many.specs.Inner.Images.{singles, image_masks}
use Rattle.many.proofs.Singles.{singles_number}

-- ---- masks one after the other

pub number_append : (ms ns : List ℕ) (x : ℕ) → number_by (ms ++ ns) x ≡ number_by ms x + 2 ^ length ms * number_by ns x
unfolding number_by
number_append [] ns x = sym (zero-add _ ∙ one-mul _)
number_append (m ∷ ms) ns x =
    let e : 2 ^ suc (length ms) * number_by ns x ≡ 2 * (2 ^ length ms * number_by ns x) =
    ap (λ (t : ℕ). t * number_by ns x) (pow-suc 2 (length ms) ∙ mul_comm (2 ^ length ms) 2) ∙ mul_assoc 2 (2 ^ length ms) (number_by ns x) in
    omega (arith, number_append ms ns x)

-- ---- the image

module _ (u : Record) (b : InBounds u) (r : RightInputs u) (l : length (kinds_in u) ≡ u.p) where
  pub image_masks_lem : (x : ℕ) → x < 2 ^ max_inputs → number_by (image_masks u) x ≡ image_of u x
  unfolding image_masks word_of
  image_masks_lem x h =
      let ks = kinds_in u in
      let cs = masks_of (drop u.n1 ks) in
      let rs = masks_of (take u.n1 ks) in
      let ss = singles max_inputs 0 u.kept in
      let lc : length cs ≡ u.p - u.n1 = masks_length (drop u.n1 ks) ∙ length-drop u.n1 ks ∙ ap (λ (k : ℕ). k - u.n1) l in
      let lr : length rs ≡ u.n1 = masks_length (take u.n1 ks) ∙ length-take-le u.n1 ks (omega (arith, b.rows_in)) in
      let e : u.n + (max_inputs - u.n) ≡ max_inputs = omega (arith, b.inputs) in
      let q : number_by ss x ≡ pack_in u.n u.kept x =
      singles_number max_inputs 0 u.kept x ∙ ap (pack_in max_inputs u.kept) (div-one x) ∙ ap (λ (d : ℕ). pack_in d u.kept x) (sym e) ∙ pack_more u.n (max_inputs - u.n) u.kept x r.kept_in in
      let w : number_by (rs ++ ss) x ≡ word_in u x =
      number_append rs ss x ∙ ap₂ (λ (p : ℕ) (k : ℕ). p + 2 ^ k * number_by ss x) (number_masks (take u.n1 ks) x h) lr ∙ ap (λ (p : ℕ). row_of u.n1 ks x + 2 ^ u.n1 * p) q in
      ap (λ (ms : List ℕ). number_by ms x) (append_assoc cs rs ss)
      ∙ number_append cs (rs ++ ss) x ∙ ap₂ (λ (p : ℕ) (k : ℕ). p + 2 ^ k * number_by (rs ++ ss) x) (number_masks (drop u.n1 ks) x h) lc
      ∙ ap (λ (p : ℕ). column_of u.n1 ks x + 2 ^ (u.p - u.n1) * p) w
