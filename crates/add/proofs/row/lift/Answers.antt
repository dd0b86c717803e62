use native.Mathlib.Omega.{arith}
use mathlib.Core.Path.{refl, sym, ◌∙◌}
use Prim.Native.Nat.{◌<◌}
use lib.ListN.{length, get_or}
use Rattle.add.specs.Inner.Mates.{Stand}
use Rattle.add.proofs.Moving.Lifting.{lifting_none, lifting_skip, lifting_more, lifting_end}
use Rattle.add.proofs.row.lift.Goals as goal
use Rattle.add.proofs.row.lift.Goals.{then-low-seat, else-low-seat, Then-low-seat}

-- a number of the row stands in a column of it
stands : (c : Then-low-seat) → Stand c.args.row.seat (length c.args.g.now) (get_or c.args.row.firsts.now c.loop-n.n 0)
stands c = c.requires.stands _ c.loop-n.auto.n c.loop-n-test.true (sym c.low.ensures ∙ c.if-low-seat.true)

-- and there is a word for the column
in_words : (c : Then-low-seat) → c.loop-n.m < length c.loop-n.words
in_words c = omega (arith, c.loop-n.invariant.few, c.args.row.words, c.requires.room, c.loop-n-test.true)

pub loop-n-init : goal.loop-n-init
loop-n-init c = lifting_none _ _ _ _ _

pub overflow_sub-cell : goal.overflow_sub-cell
overflow_sub-cell c = omega (arith, (stands (goal.at.overflow_sub-cell c).Then-low-seat).above)

pub bounds-g-cell : goal.bounds-g-cell
bounds-g-cell c = let s = stands (goal.at.bounds-g-cell c).Then-low-seat in omega (arith, s.above, s.within)

pub overflow_sub-words : goal.overflow_sub-words
overflow_sub-words c = omega (arith, (stands (goal.at.overflow_sub-words c).Then-low-seat).above)

pub overflow_mul-words : goal.overflow_mul-words
overflow_mul-words c = omega (arith, (stands (goal.at.overflow_mul-words c).Then-low-seat).narrow)

pub bounds-words-m : goal.bounds-words-m
bounds-words-m c = in_words (goal.at.bounds-words-m c).Then-low-seat

pub overflow_add-m : goal.overflow_add-m
overflow_add-m c = omega (arith, in_words (goal.at.overflow_add-m c).Then-low-seat)

pub loop-n-preserved : goal.loop-n-preserved
loop-n-preserved c =
    elim c.if-low-seat.branch [
      | then-low-seat w ↦
          let r = sym c.low.ensures ∙ w.if-low-seat.true in
          let s = c.requires.stands _ c.loop-n.auto.n c.loop-n-test.true r in
          rw (w.g-is, w.words-is, w.m-is) (lifting_more c.loop-n.invariant _ _ c.loop-n-test.true r s.above (omega (arith, c.loop-n.invariant.few, c.args.row.words, c.requires.room)) refl refl)
      | else-low-seat w ↦ rw (w.g-is, w.words-is, w.m-is) (lifting_skip c.loop-n.invariant c.loop-n-test.true (λ e. w.if-low-seat.false (c.low.ensures ∙ e)))
    ]

pub returns : goal.returns
returns c = let e = lifting_end c.loop-n.invariant (omega arith) in record {
  count = e.0;
  words = e.1;
  cells = e.2;
}
