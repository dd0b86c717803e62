use mathlib.Core.Path.{◌∙◌}
use Rattle.build.proofs.Places.{chosen_place, chosen_needed}
use Rattle.bridge.proofs.Answers.{answer_fits, left_is, build_left}
use Rattle.bridge.proofs.igu_build.Goals as goal

pub leave-requires : goal.leave-requires
leave-requires c = answer_fits _ _ _ _ _ c.build_chosen-built.ensures (chosen_place _ _ _ _ _ _) (chosen_needed _ _ _ _ _ _)

pub returns : goal.returns
returns c = left_is _ _ _ _ _ c.build_chosen-built.ensures _ _ c.leave.ensures.words_after c.leave.ensures.value ∙ build_left _ _ _ _ _ _
