use mathlib.Core.Path.{refl}
use Rattle.block.specs.Bytes.{little_of}
use Rattle.block.specs.Block.{opening_of}
use Rattle.block.proofs.Opening.bytes.Goals as goal

pub returns : goal.returns
unfolding opening_of little_of
returns c = refl
