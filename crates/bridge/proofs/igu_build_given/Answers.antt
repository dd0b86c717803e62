use mathlib.Core.Path.{◌∙◌}
use Rattle.build.proofs.Places.{given_place, given_needed}
use Rattle.bridge.proofs.Answers.{answer_fits, left_is, given_left}
use borrow.Author.Rules.{rules}
use Rattle.bridge.proofs.igu_build_given.Goals as goal

pub leave-requires : goal.leave-requires
leave-requires c = answer_fits _ _ _ _ _ c.build_given-built.ensures (given_place _ _ _ _ _ _ _ _ (search rules)) (given_needed _ _ _ _ _ _ _ _ (search rules))

pub returns : goal.returns
returns c = left_is _ _ _ _ _ c.build_given-built.ensures _ _ c.leave.ensures.words_after c.leave.ensures.value ∙ given_left _ _ _ _ _ _ _ _ _ c.variables.ensures
