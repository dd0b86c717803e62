use Prim.Native.Nat.{◌+◌, ◌≤◌}
use native.Mathlib.Omega.{arith}
use mathlib.Core.Path.{refl, sym, ◌∙◌}
use lib.ListN.{length, get_or}
use lib.Seq.{length-take-le}
use Rattle.vectors.specs.Bounds.{max_vectors}
use Rattle.choice.specs.Inner.Groups.{sizes_of, order_of}
use Rattle.choice.proofs.Grouping.Split.{splitting_none, splitting_end}
use Rattle.choice.proofs.Grouping.Held.{refined_are, split_fits, split_low, split_room, split_room_2, split_more}
use Rattle.choice.proofs.groups.refined.Goals as goal
use Rattle.choice.proofs.groups.refined.Goals.{In-loop-size, Start}

-- the members are no more than the vectors
few : (s : Start) → length (order_of s.args.groups) ≤ max_vectors
few s = omega (arith, s.requires.1.cuts.few, s.requires.0)

pub slice_bounds-size-items-end : goal.slice_bounds-size-items-end
slice_bounds-size-items-end c = sym (length-take-le _ _ c.requires.1.places)

pub loop-size-init : goal.loop-size-init
loop-size-init c =
    (splitting_none _ _ _ _ _ c.requires.1.cuts.sum (omega (arith, few (goal.at.loop-size-init c).Start)) (omega (arith, few (goal.at.loop-size-init c).Start)), refl, refl)

-- the group is within the members
to : (c : In-loop-size) → c.loop-size.from + get_or (sizes_of c.args.groups) c.loop-size.size-index 0 ≤ c.args.groups.members
to c = split_fits _ c.requires.1 c.loop-size.invariant.0 c.loop-size-test.true

pub overflow_add-to : goal.overflow_add-to
overflow_add-to c = omega (arith, to (goal.at.overflow_add-to c).In-loop-size, c.requires.1.room)

pub slice_bounds-keep_half-end : goal.slice_bounds-keep_half-end
slice_bounds-keep_half-end c = omega (arith, to (goal.at.slice_bounds-keep_half-end c).In-loop-size, c.requires.1.room)

pub keep_half-requires : goal.keep_half-requires
keep_half-requires c =
    let i = c.loop-size.invariant.0 in
    record {
      all = split_low _ c.requires.1 i c.loop-size-test.true;
      room = split_room _ c.requires.1 i c.loop-size-test.true (few (goal.at.keep_half-requires c).Start);
    }

pub keep_half-requires-in-loop-size : goal.keep_half-requires-in-loop-size
keep_half-requires-in-loop-size c =
    let i = c.loop-size.invariant.0 in
    let k = c.keep_half in
    record {
      all = split_low _ c.requires.1 i c.loop-size-test.true;
      room = split_room_2 _ c.requires.1 i c.loop-size-test.true (few (goal.at.keep_half-requires-in-loop-size c).Start) _ k.ensures.adds k.ensures.sized;
    }

pub loop-size-preserved : goal.loop-size-preserved
loop-size-preserved c =
    let m = c.keep_half-in-loop-size in
    let k = c.keep_half in (
      split_more _ c.requires.1 c.loop-size.invariant.0 c.loop-size-test.true (few (goal.at.loop-size-preserved c).Start) _ k.ensures.adds k.ensures.sized _ m.ensures.adds m.ensures.sized,
      m.ensures.sized.order ∙ k.ensures.sized.order ∙ c.loop-size.invariant.1,
      m.ensures.sized.sizes ∙ k.ensures.sized.sizes ∙ c.loop-size.invariant.2,
    )

pub returns : goal.returns
returns c =
    let below : length c.args.vectors.now ≤ max_vectors = c.requires.0 in
    refined_are _ _ _ _ _ c.requires.1.cuts (splitting_end _ _ _ c.loop-size-test.false c.loop-size.invariant.0)
    (omega (arith, c.loop-size.invariant.1)) (omega (arith, c.loop-size.invariant.2))
