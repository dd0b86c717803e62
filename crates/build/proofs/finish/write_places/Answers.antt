use Prim.Native.Nat.{ℕ, ◌+◌, ◌-◌, ◌*◌, ◌%◌, ◌^◌, ◌<◌}
use native.Mathlib.Omega.{arith}
use mathlib.Core.Path.{◌≡◌, sym, ap, ap₂, ◌∙◌}
use lib.ListN.{length, get_or, take, drop, length-set, length-take, length-drop}
use lib.Seq.{length-take-le, take_all}
use mathlib.Core.List.{List}
use Rattle.vectors.specs.Bounds.{max_inputs, max_side}
use Rattle.vectors.specs.Masks.{number_by}
use Rattle.vectors.proofs.Variables.Masking.{number_side, number_fits}
use Rattle.build.proofs.Writing.Filling.{writing_none, writing_more, writing_end}
use Rattle.build.proofs.finish.write_places.Goals as goal
use Rattle.build.proofs.finish.write_places.Lts.View
use Rattle.build.proofs.finish.write_places.Goals.{After-number-column, After-number-row, Start}

-- the part from n1 on is what is left
rest : (s : Start) → take (length s.args.masks.now - s.args.n1) (drop s.args.n1 s.args.masks.now) ≡ drop s.args.n1 s.args.masks.now
rest s = take_all (length s.args.masks.now - s.args.n1) (drop s.args.n1 s.args.masks.now) (omega (arith, length-drop s.args.n1 s.args.masks.now))

row : (c : After-number-row) → let a = c.args in
    c.number-row.result ≡ number_by (take a.n1 a.masks.now) (get_or a.vectors.now c.loop-i.i 0)
row c =
    c.number-row.ensures ∙ number_fits (take c.args.n1 c.args.masks.now) _ (omega (arith, length-take c.args.n1 c.args.masks.now, c.requires.2))

column : (c : After-number-column) → let a = c.args in
    c.number-column.result ≡ number_by (drop a.n1 a.masks.now) (get_or a.vectors.now c.loop-i.i 0)
column c =
    let m = drop c.args.n1 c.args.masks.now in
    c.number-column.ensures
    ∙ ap (λ (l : List ℕ). number_by l (get_or c.args.vectors.now c.loop-i.i 0) % 2 ^ max_inputs) (rest c.before.before.before.before.before.before.before.before.before.before)
    ∙ number_fits m _ (omega (arith, length-drop c.args.n1 c.args.masks.now, c.requires.3))

small : (c : After-number-column) → (c.number-row.result < 2 ^ max_side) × (c.number-column.result < 2 ^ max_side)
small c =
    let m = c.args.masks.now in
    (rw (row (View.up-After-number-row _ _ _ _ _ c.before.before.before)) (number_side (take c.args.n1 m) _ (omega (arith, length-take c.args.n1 m, c.requires.2))), rw (column c) (number_side (drop c.args.n1 m) _ (omega (arith, length-drop c.args.n1 m, c.requires.3))))

pub loop-i-init : goal.loop-i-init
loop-i-init c = (length-set c.args.aux.now 0 0 ∙ c.requires.0, writing_none _ _ c.args.aux.now c.requires.0)

pub slice_bounds-number-end : goal.slice_bounds-number-end
slice_bounds-number-end c = sym (length-take-le c.args.n1 c.args.masks.now c.requires.1)

pub overflow_mul-aux : goal.overflow_mul-aux
overflow_mul-aux c = omega (arith, small c)

pub overflow_add-aux : goal.overflow_add-aux
overflow_add-aux c = omega (arith, small c)

pub bounds-aux-i : goal.bounds-aux-i
bounds-aux-i c = omega (arith, c.loop-i.invariant.1.size)

pub loop-i-preserved : goal.loop-i-preserved
loop-i-preserved c =
    (c.loop-i.invariant.0, writing_more _ c.loop-i.invariant.0 c.loop-i.invariant.1 c.loop-i-test.true (ap₂ (λ (a b : ℕ). a + 4096 * b) (row (goal.at.loop-i-preserved c).After-number-row) (column c)))

pub shape_of-aux : goal.shape_of-aux
shape_of-aux c = c.loop-i.invariant.1.size ∙ sym c.requires.0

pub returns : goal.returns
returns c = writing_end c.loop-i.invariant.0 c.loop-i.invariant.1 c.loop-i-test.false
