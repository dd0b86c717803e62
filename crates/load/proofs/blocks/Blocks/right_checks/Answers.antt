use native.Mathlib.Omega.{arith}
use Rattle.std.proofs.Common.{rules, tests}
use mathlib.Core.Path.{◌∙◌}
use Rattle.std.proofs.lemmas.Iterator.Search.{all_from_yields_List}
use Rattle.block.specs.Block.{block_size, right_check}
use Rattle.load.proofs.Checking.{chunks_yielded, all_right}
use Rattle.load.proofs.blocks.Blocks.right_checks.Goals as goal

pub returns : goal.returns
returns c = all_from_yields_List right_check _ _ c.all.result c.all.ensures.ran (chunks_yielded c.chunks_exact.result c.args.self.bytes.now block_size (omega arith) c.chunks_exact.ensures.rest c.chunks_exact.ensures.size) (λ x b q k. search (rules, tests)) ∙ all_right _ c.args.self.bytes.now
