use Prim.Native.Nat.{◌-◌, ◌≤◌, ◌<◌}
use native.Mathlib.Omega.{arith}
use lib.ListN.{length, get_or}
use Rattle.vectors.specs.Bounds.{max_words}
use Rattle.rows.specs.Answer.{max_places, row_in}
use Rattle.rows.specs.Inner.Chains.{Packed}
use Rattle.rows.proofs.Chains.Linking.{linking_start, linking_next, linking_end, at_row, at_word, at_first, at_link, at_weight}
use Rattle.rows.proofs.Chains.Steps.{Met, met_none, met_some}
use Rattle.rows.proofs.links.link.Goals as goal
use Rattle.rows.proofs.links.link.Goals.{Joined-head, in-Some, in-None}

pub loop-i-init : goal.loop-i-init
loop-i-init c = (c.requires.inside.0, linking_start _ _ (rw c.fill.auto.self (c.fill.ensures.after (λ y e. e))))

pub bounds-h-r : goal.bounds-h-r
bounds-h-r c =
    let p : Packed c.args.aux.now (length c.fill.new.self) = rw c.fill.auto.self c.requires.packed in
    let v = c.loop-i.invariant.1 in
    omega (arith, at_row _ _ p _ _ _ (omega (arith, c.loop-i-test.true)) (omega (arith, c.loop-i.auto.i)) v, v.all_rows)

met : (c : Joined-head) → Met c.loop-i.aux (get_or c.loop-i.h (row_in (get_or c.loop-i.aux (c.loop-i.i - 1) 0)) 0) c.match-head.next.0 c.match-head.next.1
met c =
    elim c.match-head.branch [
      | in-Some w ↦
          let p : Packed c.args.aux.now (length c.fill.new.self) = rw c.fill.auto.self c.requires.packed in
          let e = w.in-Some.ensures in
          let l = at_first _ _ p _ _ _ (omega (arith, c.loop-i-test.true)) (omega (arith, c.loop-i.auto.i, c.loop-i-test.true)) c.loop-i.invariant.1 e.0 in
          rw w.next-is (met_some _ _ _ _ e.0 e.1 (omega (arith, e, l)) w.weight.ensures)
      | in-None w ↦ rw w.next-is (met_none _ _ w.in-None.ensures)
    ]

bounds : (c : Joined-head) → (get_or c.loop-i.aux (c.loop-i.i - 1) 0 < max_places) × (c.match-head.next.0 ≤ max_words) × (c.match-head.next.1 ≤ max_words) × (length c.loop-i.aux ≤ max_words) × (c.loop-i.i - 1 < length c.loop-i.aux)
bounds c =
    let p : Packed c.args.aux.now (length c.fill.new.self) = rw c.fill.auto.self c.requires.packed in
    let test : 0 < c.loop-i.i - 1 = omega (arith, c.loop-i-test.true) in
    let low : c.loop-i.i - 1 < length c.args.aux.now = omega (arith, c.loop-i.auto.i, c.loop-i-test.true) in
    let v = c.loop-i.invariant.1 in
    let m = met c in
    let b = at_link _ _ p _ _ _ test low v _ m.next_is in
    let d = at_weight _ _ p _ _ _ test low v _ _ m.next_is m.later_is in
    let e = c.requires.inside.1 in
    (at_word _ _ p _ _ _ test low v, omega (arith, b, e, v.size), omega (arith, d, e, v.size), omega (arith, e, v.size), omega (arith, low, v.size))

pub overflow_mul-aux-in-loop-i : goal.overflow_mul-aux-in-loop-i
overflow_mul-aux-in-loop-i c = omega (arith, bounds c)

pub overflow_add-aux-in-loop-i-2 : goal.overflow_add-aux-in-loop-i-2
overflow_add-aux-in-loop-i-2 c = omega (arith, bounds c)

pub loop-i-preserved : goal.loop-i-preserved
loop-i-preserved c = let m = met c in (
  omega (arith, c.loop-i-test.true),
  linking_next _ _ (rw c.fill.auto.self c.requires.packed) _ _ _ (omega (arith, c.loop-i-test.true)) (omega (arith, c.loop-i.auto.i, c.loop-i-test.true)) (omega (arith, c.requires.inside)) c.loop-i.invariant.1 _ _ m.next_is m.later_is,
)

pub returns : goal.returns
returns c = linking_end _ _ _ _ _ (rw c.fill.auto.self c.requires.packed) (omega (arith, c.loop-i-test.false)) c.loop-i.invariant.1
