use Prim.Native.Nat.{ℕ, ◌+◌, ◌*◌, ◌/◌, ◌≤◌}
use native.Mathlib.Omega.{arith}
use mathlib.Core.Path.{◌≡◌, sym, ap, ◌∙◌}
use lib.ListN.{length, get_or, length-replicate}
use Rattle.lists.specs.Cut.{cut}
use Rattle.lists.proofs.Writing.Over.{filling_length}
use Rattle.lists.proofs.Entries.Walk.{lent, walk_fits}
use Rattle.choice.specs.Inner.Layout.{whole_items, max_blocks}
use Rattle.choice.proofs.Laying.Room.{whole_room, ends_room}
use Rattle.choice.proofs.Laying.Whole.{laying_none, laying_end, laying_small, laying_part, laying_room, laying_zeros, laying_large}
use Rattle.choice.proofs.lay.lay_whole.Goals as goal
use Rattle.choice.proofs.lay.lay_whole.Goals.{In-loop-s, Start, Then-s-gt-PAIRED_MOST, then-s-gt-PAIRED_MOST, else-s-gt-PAIRED_MOST}

-- the group is within the words
to : (c : In-loop-s) → c.loop-s.from + get_or c.args.groups.now.sizes.now c.loop-s.s-index 0 ≤ length c.args.groups.now.words.now
to c = walk_fits c.loop-s.invariant.walk 0 c.loop-s-test.true

-- all large groups have room
room : (s : Start) → length (whole_items (cut s.args.groups.now.sizes.now s.args.groups.now.words.now)) ≤ length s.args.items.now
room s = omega (arith, whole_room s.args.groups.now.grouped, s.requires.0)

-- where a large group is laid
module _ (c : Then-s-gt-PAIRED_MOST) where
  abbrev size : ℕ
  size = get_or c.args.groups.now.sizes.now c.loop-s.s-index 0

  roomy : length (whole_items (cut c.args.groups.now.sizes.now c.args.groups.now.words.now)) ≤ length c.args.items.now
  roomy = omega (arith, whole_room c.args.groups.now.grouped, c.requires.0)

  part : 64 * c.loop-s.whole + length (lent c.loop-s.from (c.loop-s.from + size) c.args.groups.now.words.now) ≤ length c.loop-s.items
  part =
      laying_part _ _ _ _ c.loop-s.items c.loop-s.ends c.loop-s.whole c.loop-s.from c.loop-s.s-index c.loop-s.invariant 0 c.loop-s-test.true c.if-s-gt-PAIRED_MOST.true roomy
      (ends_room c.args.groups.now.grouped)

  ends_fit : c.loop-s.whole + (size + 63) / 64 ≤ max_blocks
  ends_fit =
      omega (
        arith,
        laying_room _ _ _ _ c.loop-s.items c.loop-s.ends c.loop-s.whole c.loop-s.from c.loop-s.s-index c.loop-s.invariant 0 c.loop-s-test.true c.if-s-gt-PAIRED_MOST.true roomy
            (ends_room c.args.groups.now.grouped),
        filling_length c.loop-s.invariant.ends_are,
        length-replicate {A = ℕ} max_blocks 0,
      )

  zeros_fit : 64 * (c.loop-s.whole + (size + 63) / 64) ≤ length c.loop-s.items
  zeros_fit =
      laying_zeros _ _ _ _ c.loop-s.items c.loop-s.ends c.loop-s.whole c.loop-s.from c.loop-s.s-index c.loop-s.invariant 0 c.loop-s-test.true c.if-s-gt-PAIRED_MOST.true roomy
      (ends_room c.args.groups.now.grouped)

  ends_long : length c.loop-s.ends ≡ max_blocks
  ends_long = filling_length c.loop-s.invariant.ends_are ∙ length-replicate {A = ℕ} max_blocks 0

  items_long : length c.loop-s.items ≡ 64 * max_blocks
  items_long = filling_length c.loop-s.invariant.items_are ∙ c.requires.0

pub loop-s-init : goal.loop-s-init
loop-s-init c = laying_none _ _ _ _ _ c.args.groups.now.grouped.sum c.requires.1

pub overflow_add-from : goal.overflow_add-from
overflow_add-from c = omega (arith, to (goal.at.overflow_add-from c).In-loop-s, c.args.groups.now.grouped.few)

pub overflow_mul-at : goal.overflow_mul-at
overflow_mul-at c = omega (arith, part (goal.at.overflow_mul-at c).Then-s-gt-PAIRED_MOST, items_long (goal.at.overflow_mul-at c).Then-s-gt-PAIRED_MOST)

pub slice_bounds-xored-end : goal.slice_bounds-xored-end
slice_bounds-xored-end c = to (goal.at.slice_bounds-xored-end c).In-loop-s

pub xored-requires : goal.xored-requires
xored-requires c = part (goal.at.xored-requires c).Then-s-gt-PAIRED_MOST

pub overflow_add-whole : goal.overflow_add-whole
overflow_add-whole c = omega (arith, ends_fit (goal.at.overflow_add-whole c).Then-s-gt-PAIRED_MOST)

pub overflow_add-whole-then-s-gt-PAIRED_MOST : goal.overflow_add-whole-then-s-gt-PAIRED_MOST
overflow_add-whole-then-s-gt-PAIRED_MOST c = omega (arith, ends_fit (goal.at.overflow_add-whole-then-s-gt-PAIRED_MOST c).Then-s-gt-PAIRED_MOST)

pub overflow_add-at : goal.overflow_add-at
overflow_add-at c = omega (arith, ends_fit (goal.at.overflow_add-at c).Then-s-gt-PAIRED_MOST)

pub overflow_mul-whole : goal.overflow_mul-whole
overflow_mul-whole c = omega (arith, ends_fit (goal.at.overflow_mul-whole c).Then-s-gt-PAIRED_MOST)

pub zero-requires : goal.zero-requires
zero-requires c =
    (omega arith, omega (arith, zeros_fit (goal.at.zero-requires c).Then-s-gt-PAIRED_MOST, c.xored.auto.out))

pub overflow_sub-ends : goal.overflow_sub-ends
overflow_sub-ends c = omega (arith, c.if-s-gt-PAIRED_MOST.true)

pub offset_bounds-ends-whole : goal.offset_bounds-ends-whole
offset_bounds-ends-whole c = omega (arith, ends_fit (goal.at.offset_bounds-ends-whole c).Then-s-gt-PAIRED_MOST)

pub bounds-ends-whole : goal.bounds-ends-whole
bounds-ends-whole c =
    let t = (goal.at.bounds-ends-whole c).Then-s-gt-PAIRED_MOST in
    omega (arith, ends_fit t, ends_long t, c.if-s-gt-PAIRED_MOST.true)

pub loop-s-preserved : goal.loop-s-preserved
loop-s-preserved c =
    let l = c.loop-s in
    elim c.if-s-gt-PAIRED_MOST.branch [
      | then-s-gt-PAIRED_MOST w ↦
          rw (w.items-is, w.ends-is, w.whole-is)
          (laying_large _ _ _ _ l.items l.ends l.whole l.from l.s-index l.invariant 0 c.loop-s-test.true w.if-s-gt-PAIRED_MOST.true (room (goal.at.loop-s-preserved c).Start)
          (ends_room c.args.groups.now.grouped) _ _ w.xored.ensures w.zero.ensures)
      | else-s-gt-PAIRED_MOST w ↦
          rw (w.items-is, w.ends-is, w.whole-is) (laying_small _ _ _ _ l.items l.ends l.whole l.from l.s-index l.invariant 0 c.loop-s-test.true w.if-s-gt-PAIRED_MOST.false)
    ]

pub shape_of-items : goal.shape_of-items
shape_of-items c = filling_length c.loop-s.invariant.items_are

pub shape_of-ends : goal.shape_of-ends
shape_of-ends c = filling_length c.loop-s.invariant.ends_are ∙ sym (ap length c.requires.1)

pub returns : goal.returns
returns c =
    let e = laying_end _ _ _ _ c.loop-s.items c.loop-s.ends c.loop-s.whole c.loop-s.from c.loop-s.s-index c.loop-s.invariant c.loop-s-test.false in
    record {
      size = filling_length c.loop-s.invariant.items_are ∙ c.requires.0;
      items_are = e.0;
      ends_are = e.1;
      whole_is = e.2;
      few = omega (arith, e.2, ends_room c.args.groups.now.grouped);
    }
