use Prim.Native.Nat.{◌<◌}
use native.Mathlib.Omega.{arith}
use mathlib.Core.Path.{refl, ap, ◌∙◌}
use lib.ListN.{length, get_or, length-set}
use Rattle.lists.proofs.Entries.Alls.{all_at}
use Rattle.choice.specs.Inner.Split.{part}
use Rattle.choice.specs.Inner.Groups.{value_at}
use Rattle.choice.proofs.Grouping.Split.{Listed, listing_none, listing_room, listing_next, listing_end, adds_none, adds_one}
use Rattle.choice.proofs.groups.Groups.keep_half.Goals as goal
use Rattle.choice.proofs.groups.Groups.keep_half.Goals.{In-loop-m, After-loop-m, After-value}

low : (c : In-loop-m) → get_or c.args.group.now c.loop-m.m-index 0 < length c.args.vectors.now
low c = all_at (λ i. i < length c.args.vectors.now) c.args.group.now c.loop-m.m-index 0 c.requires.all c.loop-m-test.true

room : (c : In-loop-m) → c.loop-m.to < length c.loop-m.self.order
room c = listing_room _ _ _ _ _ 0 _ _ _ c.loop-m-test.true c.loop-m.invariant.3 c.requires.room.order_room

pub loop-m-init : goal.loop-m-init
loop-m-init c = (refl, refl, refl, listing_none _ _ _ _ _)

pub offset_bounds-self-to : goal.offset_bounds-self-to
offset_bounds-self-to c = omega (arith, room (goal.at.offset_bounds-self-to c).In-loop-m)

pub bounds-self-to : goal.bounds-self-to
bounds-self-to c = omega (arith, room (goal.at.bounds-self-to c).In-loop-m)

pub overflow_cast-to : goal.overflow_cast-to
overflow_cast-to c = omega (arith, low (goal.at.overflow_cast-to c).In-loop-m)

pub offset_bounds-vectors-m : goal.offset_bounds-vectors-m
offset_bounds-vectors-m c = omega (arith, low (goal.at.offset_bounds-vectors-m c).In-loop-m, c.well_formed)

pub bounds-vectors-m : goal.bounds-vectors-m
bounds-vectors-m c = low (goal.at.bounds-vectors-m c).In-loop-m

-- before `add-to`, which reads the place from it
pub loop-m-preserved : goal.loop-m-preserved
loop-m-preserved c =
    let v = c.loop-m.invariant in
    (v.0, v.1, v.2, listing_next _ _ _ _ _ 0 _ _ _ c.loop-m-test.true v.3 c.requires.room.order_room c.value.result c.value.ensures)

pub overflow_add-to : goal.overflow_add-to
overflow_add-to c = omega (arith, (loop-m-preserved c).3.place, c.requires.room.order_room)

-- the half is written
listed : (c : After-loop-m) → Listed (part (value_at c.args.vectors.now c.args.mask) c.args.bit c.args.group.now) c.args.self.now.order c.args.self.now.members c.loop-m.self.order c.loop-m.to
listed c = listing_end _ _ _ _ _ _ _ _ c.loop-m-test.false c.loop-m.invariant.3

pub overflow_sub-to : goal.overflow_sub-to
overflow_sub-to c = omega (arith, (listed c).place)

pub returns-then-to-from-lt2 : goal.returns-then-to-from-lt2
returns-then-to-from-lt2 c =
    let v = c.loop-m.invariant in
    record {
      adds = adds_none _ _ _ _ v.0 v.1 v.2 (listed (goal.at.returns-then-to-from-lt2 c).After-loop-m) c.requires.room c.if-to-from-lt2.true;
      sized = record { order = v.3.size; sizes = ap length v.2 };
    }

pub overflow_sub-self : goal.overflow_sub-self
overflow_sub-self c = omega (arith, (listed (goal.at.overflow_sub-self c).After-loop-m).place)

pub overflow_cast-self : goal.overflow_cast-self
overflow_cast-self c = omega (arith, (listed (goal.at.overflow_cast-self c).After-loop-m).place, c.requires.room.few)

pub offset_bounds-self-self : goal.offset_bounds-self-self
offset_bounds-self-self c = omega (arith, c.loop-m.invariant.1, c.requires.room.sizes_room)

pub bounds-self-self : goal.bounds-self-self
bounds-self-self c = omega (arith, c.loop-m.invariant.1, c.requires.room.sizes_room)

pub overflow_add-self : goal.overflow_add-self
overflow_add-self c = omega (arith, c.loop-m.invariant.1, c.requires.room.sizes_room)

pub returns : goal.returns
returns c =
    let v = c.loop-m.invariant in
    record {
      adds = adds_one _ _ _ _ v.0 v.1 v.2 (listed (goal.at.returns c).After-loop-m) c.requires.room c.if-to-from-lt2.false;
      sized = record { order = v.3.size; sizes = length-set _ _ _ ∙ ap length v.2 };
    }
