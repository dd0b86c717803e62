use native.Mathlib.Omega.{arith}
use mathlib.Core.Path.{ap, ◌∙◌}
use lib.ListN.{length, set, length-set}
use Rattle.keys.proofs.Asks.{fitted_whole, behind, behind_length}
use Rattle.keys.proofs.behind_zero.Goals as goal

pub bounds-out-1 : goal.bounds-out-1
bounds-out-1 c = omega (arith, length-set c.args.out.now 0 48, c.requires)

pub slice_bounds-text-count : goal.slice_bounds-text-count
slice_bounds-text-count c = omega (arith, length-set c.args.out.now 0 48, length-set (set c.args.out.now 0 48) 1 10, c.requires)

pub slice_bounds-text-start : goal.slice_bounds-text-start
slice_bounds-text-start c = slice_bounds-text-count c

pub returns : goal.returns
returns c = behind c.args.out.now c.args.words.now _ c.requires (fitted_whole _ _ _ _ c.text.ensures (behind_length c.args.out.now c.args.words.now c.requires))

pub shape_of-out : goal.shape_of-out
shape_of-out c = ap length (returns c) ∙ omega (arith, c.requires)
