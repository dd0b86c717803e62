use native.Mathlib.Omega.{arith}
use Rattle.adding.proofs.Answers.{place_fits, left_is}
use Rattle.adding.proofs.igu_add.Goals as goal

pub leave-requires : goal.leave-requires
leave-requires c = omega (arith, place_fits _ _ _ _ c.seen.ensures _ _ _ _ c.add-added.ensures)

pub returns : goal.returns
returns c = left_is _ _ _ _ c.seen.ensures _ _ _ _ c.add-added.ensures _ c.leave.ensures.value _ c.leave.ensures.words_after
