use Rattle.std.proofs.Common.{arith, ◌≡◌, ◌*◌, ◌^◌, ◌<◌, sym, ◌∙◌}
use Rattle.lookup.proofs.Pass.{values_none, values_turn, values_low, right_none, right_turn, values_all, fault_here, fault_none}
use Rattle.lookup.proofs.take_values.Goals as goal
use Rattle.lookup.proofs.take_values.Goals.{At-loop-i}

-- what is made so far fits with room for a bit more
low : (l : At-loop-i) → l.loop-i.number * 2 < 2 ^ 63
low l =
    let a = l.args in
    omega (arith, l.loop-i.invariant.value, values_low a.variables a.p a.x (omega (arith, l.loop-i.invariant.places)) l.loop-i.i l.requires.1)

pub loop-i-init : goal.loop-i-init
loop-i-init c =
    let e = c.well_formed.1.0.1.0.1 in
    record {
      places = e;
      value = values_none c.args.variables c.args.p c.args.x (omega (arith, e));
      right = right_none c.args.n c.args.variables c.args.p (omega (arith, e));
    }

pub returns-then-faulty : goal.returns-then-faulty
returns-then-faulty c =
    let a = c.args in
    fault_here a.n a.variables a.p (omega (arith, c.loop-i.invariant.places)) _ _ (omega arith) (sym c.faulty.ensures ∙ c.if-faulty.true)

pub overflow_mul-number : goal.overflow_mul-number
overflow_mul-number c = omega (arith, low (goal.at.overflow_mul-number c).At-loop-i)

pub overflow_add-number : goal.overflow_add-number
overflow_add-number c = omega (arith, low (goal.at.overflow_add-number c).At-loop-i, c.value.ensures)

pub loop-i-preserved : goal.loop-i-preserved
loop-i-preserved c =
    let a = c.args in
    let i = c.loop-i.invariant in
    record {
      places = i.places;
      value = values_turn a.variables a.p a.x (omega (arith, i.places)) c.loop-i.i _ _ _ _ c.ranges.x.fits (omega arith) (omega arith) i.value c.mask_within.ensures c.value.ensures;
      right = right_turn a.n a.variables a.p (omega (arith, i.places)) c.loop-i.i _ (omega arith) (omega arith) (sym c.faulty.ensures ∙ c.if-faulty.false) i.right;
    }

pub returns : goal.returns
returns c =
    let a = c.args in
    let z : c.loop-i.i ≡ 0 = omega arith in (
      fault_none a.n a.variables a.p (omega (arith, c.loop-i.invariant.places)) (rw z at c.loop-i.invariant.right),
      (rw z at c.loop-i.invariant.value) ∙ values_all a.variables a.p a.x,
    )
