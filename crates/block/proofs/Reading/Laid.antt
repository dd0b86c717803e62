-- When a block with a right check is that of an opening and a payload. Assumes nothing.
use mathlib.Core.Path.{◌≡◌, refl, sym, ap, ap₂, ◌∙◌}
use mathlib.Core.Bool.{Bool, true, false, ◌&&◌}
use mathlib.Core.List.{List, [], ◌∷◌, ◌++◌}
use Prim.Native.Nat.{ℕ, zero, suc, ◌+◌, ◌-◌, ◌≤◌}
use native.Mathlib.Omega.{arith}
use lib.Dec.{eqb}
use lib.ListN.{length, take, drop, replicate, length-append, length-drop, take-append-drop}
use lib.Seq.{length-take-le, take-take, take-add}
use borrow.Author.Tests.{eqb-true, eq-eqb}
use Rattle.lists.specs.Members.{every}
use Rattle.lists.proofs.Tests.{and_unit, true_iff}
use Rattle.block.specs.declared.Opening.{Opening}
use Rattle.block.specs.Block.{block_size, payload_at, check_at, opening_of, check_of, block_of, same, right_check}
use Rattle.block.specs.Look.{blank_from, laid_out}
use Rattle.block.proofs.Laying.Words.{length_opening, length_padded}
use Rattle.block.proofs.Reading.Same.{same_is, same_true, same_append}
use Rattle.block.proofs.Reading.Blocks.{body_of, unused}

-- zeros, as many
pub zeros_same : (n : ℕ) (l : List ℕ) → length l ≡ n → same (replicate n 0) l ≡ every (λ b. eqb b 0) l
unfolding same every
zeros_same zero [] e = refl
zeros_same zero (b ∷ l) e = absurd (omega arith)
zeros_same (suc n) [] e = absurd (omega arith)
zeros_same (suc n) (b ∷ l) e = ap₂ ◌&&◌ (turned b) (zeros_same n l (omega arith))
  where
    turned : (b : ℕ) → eqb 0 b ≡ eqb b 0
    turned b = true_iff (eqb 0 b) (eqb b 0) (λ h. eq-eqb b 0 (sym (eqb-true 0 b h))) (λ h. eq-eqb 0 b (sym (eqb-true b 0 h)))

module _ (o : Opening) (q b : List ℕ) (n : length b ≡ block_size) (fits : length q ≤ check_at - payload_at) where
  abbrev at : ℕ
  at = payload_at + length q

  -- the bytes in front of the check, part by part
  body_same : same (body_of o q) (take check_at b) ≡ (same (opening_of o) (take payload_at b) && same q (take (length q) (drop payload_at b))) && blank_from at b
  unfolding blank_from
  body_same =
      let p : List ℕ = take payload_at b in
      let w : List ℕ = take (length q) (drop payload_at b) in
      let z : List ℕ = drop at (take check_at b) in
      let np : length p ≡ payload_at = length-take-le payload_at b (omega arith) in
      let nw : length w ≡ length q = length-take-le (length q) (drop payload_at b) (omega (arith, length-drop payload_at b)) in
      let nc : length (take check_at b) ≡ check_at = length-take-le check_at b (omega arith) in
      let nq : length (opening_of o ++ q) ≡ at = length-append (opening_of o) q ∙ ap (λ (i : ℕ). i + length q) (length_opening o) in
      let nz : length z ≡ check_at - length (opening_of o ++ q) = length-drop at (take check_at b) ∙ omega arith in
      let cut : take check_at b ≡ p ++ w ++ z =
      sym (take-append-drop at (take check_at b)) ∙ ap (λ (l : List ℕ). l ++ z) (take-take at check_at b (omega arith) ∙ take-add payload_at (length q) b) in
      ap (same (body_of o q)) cut
      ∙ same_append (opening_of o ++ q) (unused o q) (p ++ w) z (nq ∙ sym (length-append p w ∙ ap₂ ◌+◌ np nw))
      ∙ ap₂ ◌&&◌ (same_append (opening_of o) q p w (length_opening o ∙ sym np)) (zeros_same (check_at - length (opening_of o ++ q)) z nz)

  -- where the check is right the bytes in front of it decide
  pub block_same : right_check b ≡ true → same (block_of o q) b ≡ (same (opening_of o) (take payload_at b) && same q (take (length q) (drop payload_at b))) && blank_from at b
  unfolding block_of right_check
  block_same right =
      let l : length (body_of o q) ≡ check_at = length_padded check_at (opening_of o ++ q) (omega (arith, length-append (opening_of o) q, length_opening o)) in
      ap (same (body_of o q ++ check_of (body_of o q))) (sym (take-append-drop check_at b))
      ∙ same_append (body_of o q) (check_of (body_of o q)) (take check_at b) (drop check_at b) (l ∙ sym (length-take-le check_at b (omega arith)))
      ∙ go (same (body_of o q) (take check_at b)) refl
      ∙ body_same
    where
      go : (t : Bool) → same (body_of o q) (take check_at b) ≡ t → (t && same (check_of (body_of o q)) (drop check_at b)) ≡ same (body_of o q) (take check_at b)
      go true e = same_is (check_of (body_of o q)) (drop check_at b) (ap check_of (same_true (body_of o q) (take check_at b) e) ∙ sym (same_true (drop check_at b) (check_of (take check_at b)) right)) ∙ sym e
      go false e = sym e

-- a block is that of its own opening and payload where it is laid out so
pub laid_same : (o : Opening) (used : ℕ) (b : List ℕ) → length b ≡ block_size → used ≤ check_at - payload_at → right_check b ≡ true
    → same (block_of o (take used (drop payload_at b))) b ≡ laid_out o (payload_at + used) b
unfolding laid_out
laid_same o used b n fits right =
    let q : List ℕ = take used (drop payload_at b) in
    let l : length q ≡ used = length-take-le used (drop payload_at b) (omega (arith, length-drop payload_at b)) in
    let s : same q (take (length q) (drop payload_at b)) ≡ true = same_is q (take (length q) (drop payload_at b)) (ap (λ (i : ℕ). take i (drop payload_at b)) (sym l)) in
    block_same o q b n (omega arith) right
    ∙ ap₂ (λ (x y : Bool). x && y) (ap (λ (t : Bool). same (opening_of o) (take payload_at b) && t) s ∙ and_unit (same (opening_of o) (take payload_at b))) (ap (λ (i : ℕ). blank_from (payload_at + i) b) l)
