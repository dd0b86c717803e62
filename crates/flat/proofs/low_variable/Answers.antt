use Rattle.flat.proofs.Ranges.{low_bits}
use Rattle.flat.proofs.low_variable.Goals as goal

pub returns : goal.returns
returns c = low_bits _ _ _ c.kind_at-kind.ensures c.part_at-part.ensures
