use Prim.Native.Nat.{◌%◌}
use lib.ListN.{get_or}
use Rattle.std.proofs.Common.{arith}
use Rattle.std.proofs.lemmas.List.{get_or_default}
use Rattle.std.proofs.lemmas.List.Edits.{map_over_more}
use Rattle.rows.specs.Answer.{max_places}
use Rattle.rows.proofs.Chains.Unlinking.{unlinking_end}
use Rattle.rows.proofs.links.unlink.Goals as goal

pub loop-word-preserved : goal.loop-word-preserved
loop-word-preserved c = map_over_more (λ w. w % max_places) _ _ _ (get_or c.loop-word.word-items c.loop-word.word-index 0) (omega arith) c.loop-word.invariant (get_or_default c.loop-word.word-items c.loop-word.word-index _ _ (omega arith))

pub returns : goal.returns
returns c = unlinking_end c.args.aux.now c.loop-word.word-items c.loop-word.word-index c.requires c.loop-word-test.false c.loop-word.invariant
