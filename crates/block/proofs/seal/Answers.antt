use Prim.Native.Nat.{ℕ, ◌+◌}
use native.Mathlib.Omega.{arith}
use mathlib.Core.Path.{◌≡◌, ap, ap₂, ◌∙◌}
use mathlib.Core.List.{List, ◌++◌}
use lib.ListN.{length, take}
use lib.Seq.{sets, length-sets}
use borrow.Rule.Slice.PartMut.{put_mid}
use Rattle.block.specs.Bytes.{little_of}
use Rattle.block.specs.Block.{check_at, check_of}
use Rattle.block.proofs.Laying.Putting.{number_set}
use Rattle.block.proofs.Laying.Words.{sealed_by}
use Rattle.block.proofs.seal.Goals as goal

pub returns : goal.returns
unfolding check_of
returns c =
    let b = c.args.block.now in
    let e : put_mid check_at 2 b c.put_number.new.place ≡ sets b check_at (little_of 2 c.from.result) = number_set b c.put_number.new.place check_at 2 c.from.result c.put_number.ensures (omega arith) in
    number_set _ c.put_number-2.new.place (check_at + 2) 2 c.from-2.result c.put_number-2.ensures (omega (arith, ap length e, length-sets b check_at (little_of 2 c.from.result)))
    ∙ ap (λ (l : List ℕ). sets l (check_at + 2) (little_of 2 c.from-2.result)) e
    ∙ sealed_by b _ _ c.told-block
    ∙ ap₂ (λ (x y : ℕ). take check_at b ++ (little_of 2 x ++ little_of 2 y)) (c.from.ensures ∙ c.sums-s.ensures.0) (c.from-2.ensures ∙ c.sums-s.ensures.1)
