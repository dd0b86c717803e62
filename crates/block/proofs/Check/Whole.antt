-- The sums of a whole block, and what its check's own bytes have in them. Assumes nothing.
use mathlib.Core.Path.{◌≡◌, sym, ap, ◌∙◌}
use mathlib.Core.List.{List}
use Prim.Native.Nat.{ℕ, ◌+◌, ◌-◌, ◌*◌}
use native.Mathlib.Omega.{arith}
use lib.ListN.{length, take, drop, take-append-drop, length-drop}
use lib.Seq.{take_all, length-take-le}
use Rattle.block.specs.Block.{block_size, check_at, sum_of, weigh}
use Rattle.block.specs.Inner.Columns.{half_size}
use Rattle.block.proofs.Check.Sums.{sum_append, weigh_append, weigh_add}
use Rattle.block.proofs.Check.Columns.{Halved}

module _ (b : List ℕ) (n : length b ≡ block_size) where
  -- the second half
  rest : take half_size (drop half_size b) ≡ drop half_size b
  rest = take_all half_size (drop half_size b) (omega (arith, length-drop half_size b))

  pub whole_plain : (p q w v : ℕ) → Halved b p w → Halved (drop half_size b) q v
      → p + q ≡ sum_of (take check_at b) + sum_of (drop check_at b)
  whole_plain p q w v x y =
      let a : sum_of b ≡ sum_of (take half_size b) + sum_of (drop half_size b) = ap sum_of (sym (take-append-drop half_size b)) ∙ sum_append (take half_size b) (drop half_size b) in
      let c : sum_of b ≡ sum_of (take check_at b) + sum_of (drop check_at b) = ap sum_of (sym (take-append-drop check_at b)) ∙ sum_append (take check_at b) (drop check_at b) in
      omega (arith, x.plain_is, y.plain_is ∙ ap sum_of rest)

  pub whole_weighed : (p q w v : ℕ) → Halved b p w → Halved (drop half_size b) q v
      → w + half_size * p + v ≡ weigh check_at (take check_at b) + 4 * sum_of (take check_at b) + weigh 4 (drop check_at b)
  whole_weighed p q w v x y =
      let i : length (take half_size b) ≡ half_size = length-take-le half_size b (omega arith) in
      let j : length (take check_at b) ≡ check_at = length-take-le check_at b (omega arith) in
      let a : weigh block_size b ≡ weigh block_size (take half_size b) + weigh (block_size - half_size) (drop half_size b) =
      ap (weigh block_size) (sym (take-append-drop half_size b)) ∙ weigh_append block_size (take half_size b) (drop half_size b) ∙ ap (λ (m : ℕ). weigh block_size (take half_size b) + weigh (block_size - m) (drop half_size b)) i in
      let c : weigh block_size b ≡ weigh block_size (take check_at b) + weigh (block_size - check_at) (drop check_at b) =
      ap (weigh block_size) (sym (take-append-drop check_at b)) ∙ weigh_append block_size (take check_at b) (drop check_at b) ∙ ap (λ (m : ℕ). weigh block_size (take check_at b) + weigh (block_size - m) (drop check_at b)) j in
      let d : weigh block_size (take half_size b) ≡ weigh half_size (take half_size b) + half_size * sum_of (take half_size b) = weigh_add half_size half_size (take half_size b) (omega arith) in
      let e : weigh block_size (take check_at b) ≡ weigh check_at (take check_at b) + 4 * sum_of (take check_at b) = weigh_add 4 check_at (take check_at b) (omega arith) in
      omega (arith, x.plain_is, x.weighed_is, y.weighed_is ∙ ap (weigh half_size) rest)
