use Prim.Native.Nat.{◌+◌, ◌<◌}
use native.Mathlib.Omega.{arith}
use mathlib.Core.Path.{ap}
use lib.ListN.{length, length-drop}
use Rattle.rows.proofs.Chains.Steps.{tail_is, tail_at}
use Rattle.rows.proofs.Sweeps.Undoing.{emptying_none, emptying_at, emptying_cell, emptying_yes, emptying_no, emptying_end}
use Rattle.rows.proofs.sweep.undo.Goals as goal
use Rattle.rows.proofs.sweep.undo.Goals.{In-loop-word, then-d-le-MARK, else-d-le-MARK}

low : (c : In-loop-word) → c.loop-word.word-index + 1 < length c.args.aux.now
low c = omega (arith, c.loop-word-test.true, ap length (tail_is c.args.aux.now), length-drop 1 c.args.aux.now)

pub loop-word-init : goal.loop-word-init
loop-word-init c = emptying_none _ _ _ c.requires.within

pub bounds-h-w : goal.bounds-h-w
bounds-h-w c = rw (tail_at c.args.aux.now c.loop-word.word-index) ((emptying_at _ _ _ _ _ c.loop-word.invariant (low (goal.at.bounds-h-w c).In-loop-word)).0)

pub bounds-g-column : goal.bounds-g-column
bounds-g-column c =
    let t = tail_at c.args.aux.now c.loop-word.word-index in
    rw t
    (emptying_cell _ _ _ _ _ c.loop-word.invariant (low (goal.at.bounds-g-column c).In-loop-word) _ (rw t at c.column.ensures) (rw t at c.if-d-le-MARK.true))

pub loop-word-preserved : goal.loop-word-preserved
loop-word-preserved c =
    let l = low (goal.at.loop-word-preserved c).In-loop-word in
    let t = tail_at c.args.aux.now c.loop-word.word-index in
    elim c.if-d-le-MARK.branch [
      | then-d-le-MARK w ↦ rw (w.g-is, t) (emptying_yes _ _ _ _ _ c.loop-word.invariant l _ (rw t at w.column.ensures) (rw t at w.if-d-le-MARK.true))
      | else-d-le-MARK w ↦ rw w.g-is (emptying_no _ _ _ _ _ c.loop-word.invariant l (rw t at w.if-d-le-MARK.false))
    ]

pub returns-clause-g_after : goal.returns-clause-g_after
returns-clause-g_after c =
    emptying_end _ _ _ _ _ c.loop-word.invariant
    (omega (arith, c.loop-word-test.false, ap length (tail_is c.args.aux.now), length-drop 1 c.args.aux.now))
