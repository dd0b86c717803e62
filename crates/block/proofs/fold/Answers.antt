use Prim.Native.Nat.{◌+◌, ◌<◌}
use Rattle.std.proofs.Common.{rules}
use native.Mathlib.Omega.{arith}
use mathlib.Core.Path.{◌≡◌}
use mathlib.Core.List.{◌∷◌, [], ◌++◌}
use lib.ListN.{length, get_or, length-append}
use Rattle.std.proofs.lemmas.Slice.Zip.{zip_turn, zip_end}
use Rattle.block.specs.Block.{sum_of, weigh}
use Rattle.block.specs.Inner.Columns.{lanes}
use Rattle.block.proofs.Check.Columns.{column_low, run_low, folding_none, folding_more, folding_end}
use Rattle.block.proofs.fold.Goals as goal
use Rattle.block.proofs.fold.Goals.{In-None, In-Some}

-- the pair that this turn takes
turn : (c : In-Some) → let n = length c.loop-sum.yielded in (n < lanes) × (c.in-Some.sum.now ≡ get_or c.args.sums.now n 0) × (c.in-Some.run'.now ≡ get_or c.args.runs.now n 0)
turn c =
    let t = zip_turn c.args.sums.now c.args.runs.now c.loop-sum.yielded c.into_iter-sum-iterator.result c.loop-sum.sum-iterator c.next.new.self c.next.result (search rules) (search rules) c.loop-sum.yielded_by (c.in-Some.sum, c.in-Some.run') c.in-Some.is c.next.ensures.steps in
    (omega (arith, t.0), t.2 0, t.3 0)

folded : (c : In-None) → ((c.loop-sum.s ≡ sum_of c.args.sums.now) × (c.loop-sum.t ≡ weigh lanes c.args.sums.now)) × (c.loop-sum.r ≡ sum_of c.args.runs.now)
folded c =
    let e = zip_end c.args.sums.now c.args.runs.now c.loop-sum.yielded c.into_iter-sum-iterator.result c.loop-sum.sum-iterator c.next.new.self c.next.result (search rules) (search rules) c.loop-sum.yielded_by c.in-None.is c.next.ensures.steps in
    folding_end _ _ _ _ _ _ (omega (arith, e)) c.requires.0 c.loop-sum.invariant

pub loop-sum-init : goal.loop-sum-init
loop-sum-init c = folding_none _ _

pub overflow_add-s : goal.overflow_add-s
overflow_add-s c = let t = turn (goal.at.overflow_add-s c).In-Some in omega (arith, c.loop-sum.invariant.both.plain_low, column_low _ _ _ c.requires.0 t.0)

pub overflow_add-t : goal.overflow_add-t
overflow_add-t c = let t = turn (goal.at.overflow_add-t c).In-Some in omega (arith, c.loop-sum.invariant.both.plain_low, c.loop-sum.invariant.both.weighed_low, column_low _ _ _ c.requires.0 t.0)

pub overflow_add-r : goal.overflow_add-r
overflow_add-r c = let t = turn (goal.at.overflow_add-r c).In-Some in omega (arith, c.loop-sum.invariant.running_low, run_low _ _ _ c.requires.0 t.0)

pub loop-sum-preserved : goal.loop-sum-preserved
loop-sum-preserved c =
    let t = turn (goal.at.loop-sum-preserved c).In-Some in
    let e : length (c.loop-sum.yielded ++ (c.in-Some.sum, c.in-Some.run') ∷ []) ≡ length c.loop-sum.yielded + 1 = length-append c.loop-sum.yielded _ in
    rw (e, c.from-s.ensures, c.from-r.ensures, t.1, t.2) (folding_more c.args.sums.now c.args.runs.now c.loop-sum.s c.loop-sum.t c.loop-sum.r (length c.loop-sum.yielded) t.0 c.requires.0 c.loop-sum.invariant)

pub overflow_sub-result : goal.overflow_sub-result
overflow_sub-result c = let f = folded c in omega (arith, c.requires.1)

pub returns : goal.returns
returns c = let f = folded c in (f.0.0, omega (arith, c.requires.1))
