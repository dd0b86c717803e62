use native.Mathlib.Omega.{arith}
use Rattle.std.proofs.lemmas.Result.{err_from_is_err_and}
use Rattle.rows.proofs.Chains.Walks.{larger}
use Rattle.rows.proofs.Sweeps.Going.{going_start, going_skip, going_pass, going_level, going_end}
use Rattle.rows.proofs.sweep.place_levels.Goals as goal
use Rattle.rows.proofs.sweep.place_levels.Goals.{in-Some+then-w-level+in_ok-tries, in-Some+else-w-level, in_default}

pub loop-level-init : goal.loop-level-init
loop-level-init c = record { going = going_start _ _ _ _ c.requires.marked; taken = c.requires.taken; within = omega arith }

pub loop-row-preserved : goal.loop-row-preserved
loop-row-preserved c =
    let v = c.loop-row.invariant in
    let r = c.requires.linked in
    elim c.match-head.branch [
      | in-Some+then-w-level+in_ok-tries w ↦
          let e = w.in-Some.ensures in
          let ew = rw e.1 at w.weight-w.ensures in
          let k = w.in_ok-tries.ensures in
          let l = going_level _ _ r.0 r.1 _ _ _ _ _ _ _ _ v.going (omega arith) e.0 _ ew c.loop-level-test.true w.if-w-level.true c.requires.rows c.args.allowance v.within in
          let n = l.next v.taken.few (rw e.1 at k.row_tried) in
          rw (w.h-is, w.g-is, w.taken-is, w.tries-is, w.below-is) (record { going = n.0; taken = k.taken_2; within = n.1 })
      | in-Some+else-w-level w ↦
          let e = w.in-Some.ensures in
          let ew = rw e.1 at w.weight-w.ensures in
          rw (w.h-is, w.g-is, w.taken-is, w.tries-is, w.below-is, w.max-below.ensures, larger)
          (record { going = going_pass _ _ r.0 r.1 _ _ _ _ _ _ _ _ v.going (omega arith) e.0 _ ew w.if-w-level.false; taken = v.taken; within = v.within })
      | in_default w ↦ rw (w.h-is, w.g-is, w.taken-is, w.tries-is, w.below-is) (record { going = going_skip _ _ r.0 r.1 _ _ _ _ _ _ _ _ v.going (omega arith) w.in_default.ensures; taken = v.taken; within = v.within })
    ]

pub returns-in_err-tries : goal.returns-in_err-tries
returns-in_err-tries c =
    let p = err_from_is_err_and c.from_residual.result c.from_residual.ensures.1 in
    let v = c.loop-row.invariant in
    let r = c.requires.linked in
    let e = c.in-Some.ensures in
    let ew = rw e.1 at c.weight-w.ensures in
    let l = going_level _ _ r.0 r.1 _ _ _ _ _ _ _ _ v.going (omega arith) e.0 _ ew c.loop-level-test.true c.if-w-level.true c.requires.rows c.args.allowance v.within in
    rw (p.1, p.2) (l.next v.taken.few (rw e.1 at c.in_err-tries.ensures.row_tried))

pub returns : goal.returns
returns c = going_end _ _ c.requires.linked.0 c.requires.linked.1 _ _ _ _ _ _ _ _ c.loop-level.invariant.going _ c.loop-level.invariant.within c.loop-level-test.false
