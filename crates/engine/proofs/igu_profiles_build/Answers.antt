use mathlib.Core.Path.{◌∙◌}
use Rattle.bridge.proofs.Answers.{answer_fits, left_is}
use Rattle.engine.proofs.Answers.{keys_place, keys_needed, keys_left}
use Rattle.engine.proofs.igu_profiles_build.Goals as goal

pub leave-requires : goal.leave-requires
leave-requires c = answer_fits _ _ _ _ _ c.build-built.ensures (keys_place _ _ _ _ _) (keys_needed _ _ _ _ _)

pub returns : goal.returns
returns c = left_is _ _ _ _ _ c.build-built.ensures _ _ c.leave.ensures.words_after c.leave.ensures.value ∙ keys_left _ _ _ _ _
