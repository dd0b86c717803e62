use Prim.Native.Nat.{ℕ, ◌+◌, ◌*◌, ◌≤◌, ◌<◌}
use native.Mathlib.Nat.{mul-le-mul}
use native.Mathlib.Omega.{arith}
use mathlib.Core.Path.{sym, ◌∙◌}
use lib.ListN.{length, get_or}
use Rattle.lists.specs.Cut.{cut}
use Rattle.lists.proofs.Writing.Over.{filling_length}
use Rattle.lists.proofs.Entries.Walk.{walk_fits}
use Rattle.choice.specs.Inner.Layout.{items_of, max_blocks}
use Rattle.choice.proofs.Laying.Room.{items_room, whole_room}
use Rattle.choice.proofs.Laying.Small.{adding_none, adding_end, adding_bounds, adding_part, adding_left, adding_within, adding_block, adding_next, adding_large}
use Rattle.choice.proofs.lay.lay_pairs.Goals as goal
use Rattle.choice.proofs.lay.lay_pairs.Goals.{In-loop-size, Start, Then-b-w, then-s-le-PAIRED_MOST+then-b-w, then-s-le-PAIRED_MOST+else-b-w, else-s-le-PAIRED_MOST}

-- the group is within the words
to : (c : In-loop-size)
    → let s = c.args.groups.now in
    c.loop-size.from + get_or s.sizes.now c.loop-size.size-index 0 ≤ length s.words.now
to c = walk_fits c.loop-size.invariant.walk 0 c.loop-size-test.true

-- all items have room
room : (s : Start) → length (items_of (cut s.args.groups.now.sizes.now s.args.groups.now.words.now)) ≤ length s.args.items.now
room s = omega (arith, items_room s.args.groups.now.grouped, s.requires.len.0)

-- a small group's size has a small square
square : (n : ℕ) → n ≤ 11 → n * n ≤ 121
square n h = mul-le-mul h h

pub loop-size-init : goal.loop-size-init
loop-size-init c =
    adding_none _ _ _ _ _ _ c.args.groups.now.grouped.sum c.requires.len.1 c.requires.len.2 (omega (arith, c.requires.len.2, whole_room c.args.groups.now.grouped)) c.requires.rests_len.0 c.requires.rests_len.1

pub overflow_add-from : goal.overflow_add-from
overflow_add-from c = omega (arith, to (goal.at.overflow_add-from c).In-loop-size, c.args.groups.now.grouped.few)

pub slice_bounds-pairs-end : goal.slice_bounds-pairs-end
slice_bounds-pairs-end c = to (goal.at.slice_bounds-pairs-end c).In-loop-size

pub pairs-w-requires : goal.pairs-w-requires
pairs-w-requires c =
    adding_part _ _ _ _ _ _ _ _ _ _ c.loop-size.invariant 0 c.loop-size-test.true c.if-s-le-PAIRED_MOST.true (room (goal.at.pairs-w-requires c).Start)

pub overflow_mul-left : goal.overflow_mul-left
overflow_mul-left c = omega (arith, square _ c.if-s-le-PAIRED_MOST.true)

pub overflow_cast-left : goal.overflow_cast-left
overflow_cast-left c = omega (arith, square _ c.if-s-le-PAIRED_MOST.true)

pub overflow_sub-left : goal.overflow_sub-left
overflow_sub-left c =
    adding_left _ _ _ _ _ _ _ _ _ _ c.loop-size.invariant 0 c.loop-size-test.true c.if-s-le-PAIRED_MOST.true (room (goal.at.overflow_sub-left c).Start)

pub overflow_mul-b : goal.overflow_mul-b
overflow_mul-b c = omega (arith, c.loop-size.invariant.few)

-- a block that is reached has a place for its rest
reached : (c : Then-b-w) → c.loop-size.b < max_blocks
reached c =
    let e = c.pairs-w.ensures in
    adding_block _ _ _ _ _ _ _ _ _ _ c.loop-size.invariant 0 c.loop-size-test.true c.if-s-le-PAIRED_MOST.true (omega (arith, items_room c.args.groups.now.grouped, c.requires.len.0)) _ _ e.0 e.1 c.if-b-w.true c.requires.len.0

pub bounds-rests-b : goal.bounds-rests-b
bounds-rests-b c = omega (arith, reached c, c.loop-size.invariant.bounds.size)

pub overflow_add-b : goal.overflow_add-b
overflow_add-b c = omega (arith, reached c)

pub loop-size-preserved : goal.loop-size-preserved
loop-size-preserved c =
    let l = c.loop-size in
    let r = room (goal.at.loop-size-preserved c).Start in
    elim c.if-s-le-PAIRED_MOST.branch [
      | then-s-le-PAIRED_MOST+then-b-w w ↦
          rw (w.items-is, w.rests-is, w.left-is, w.b-is, w.w-is)
          (adding_next _ _ _ _ _ _ _ _ _ _ l.invariant 0 c.loop-size-test.true w.if-s-le-PAIRED_MOST.true r _ _ w.pairs-w.ensures.0 w.pairs-w.ensures.1 w.if-b-w.true c.requires.len.0)
      | then-s-le-PAIRED_MOST+else-b-w w ↦
          rw (w.items-is, w.rests-is, w.left-is, w.b-is, w.w-is)
          (adding_within _ _ _ _ _ _ _ _ _ _ l.invariant 0 c.loop-size-test.true w.if-s-le-PAIRED_MOST.true r _ _ w.pairs-w.ensures.0 w.pairs-w.ensures.1 w.if-b-w.false)
      | else-s-le-PAIRED_MOST w ↦
          rw (w.items-is, w.rests-is, w.left-is, w.b-is, w.w-is) (adding_large _ _ _ _ _ _ _ _ _ _ l.invariant 0 c.loop-size-test.true w.if-s-le-PAIRED_MOST.false)
    ]

pub shape_of-items : goal.shape_of-items
shape_of-items c = filling_length c.loop-size.invariant.items_are

pub shape_of-rests : goal.shape_of-rests
shape_of-rests c = c.loop-size.invariant.bounds.size ∙ sym c.requires.rests_len.0

pub returns : goal.returns
returns c =
    let e = adding_end _ _ _ _ _ _ _ _ _ _ c.loop-size.invariant c.loop-size-test.false in
    record {
      size = filling_length c.loop-size.invariant.items_are ∙ c.requires.len.0;
      items_are = e.0;
      count_is = e.1;
      few = omega (arith, e.1, items_room c.args.groups.now.grouped);
      bounds = adding_bounds _ _ _ _ _ _ _ _ _ _ c.loop-size.invariant c.loop-size-test.false;
    }
