use native.Mathlib.Omega.{arith}
use mathlib.Core.List.{List}
use mathlib.Core.Path.{ap, ◌∙◌}
use Prim.Native.Nat.{ℕ, ◌-◌}
use lib.ListN.{length, take, drop, length-drop}
use lib.Seq.{take_all}
use Rattle.block.specs.Block.{same}
use Rattle.block.proofs.Reading.Same.{same_pointwise}
use Rattle.file.specs.Layout.{letters, letters_at}
use Rattle.load.specs.Inner.Laid.{has_letters}
use Rattle.load.proofs.blocks.Blocks.has_letters.Goals as goal

pub returns : goal.returns
unfolding has_letters
returns c =
    let l = drop letters_at c.args.self.bytes.now in
    c.starts_with.ensures.value ∙ same_pointwise letters (take 4 (take (length c.args.self.bytes.now - letters_at) l)) ∙ ap (λ (x : List ℕ). same letters (take 4 x)) (take_all (length c.args.self.bytes.now - letters_at) l (omega (arith, length-drop letters_at c.args.self.bytes.now)))
