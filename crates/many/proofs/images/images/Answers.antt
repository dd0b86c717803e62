use native.Mathlib.Omega.{arith}
use mathlib.Core.Path.{◌≡◌}
use lib.ListN.{length}
use Rattle.many.proofs.Inputs.{images_are}
use Rattle.many.proofs.images.images.Goals as goal
use Rattle.many.proofs.images.images.Goals.{Start}

sized : (s : Start) → length s.args.unit.variables ≡ 24
sized s = s.well_formed.0.1.1.1.1.1.1.1.1.1.1.0.1.0.1

pub returns : goal.returns
returns c =
    let first = c.mark_variables in
    let second = c.mark_variables-2 in
    let third = c.mark_kept in
    images_are c.args.unit c.requires.0 (omega (arith, sized (goal.at.returns c).Start, c.requires.0.few)) first.new.images second.new.images third.new.images
    first.ensures second.ensures third.ensures
