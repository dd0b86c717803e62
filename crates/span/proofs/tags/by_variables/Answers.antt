use mathlib.Core.Path.{◌≡◌, refl, ap, ◌∙◌}
use Prim.Native.Nat.{ℕ, ◌≤◌}
use native.Mathlib.Omega.{arith}
use lib.ListN.{get_or, take}
use Rattle.vectors.specs.declared.Kind.{Kind}
use Rattle.vectors.specs.declared.Kind.TheVariants.{One}
use Rattle.vectors.specs.Bounds.{max_inputs}
use Rattle.vectors.specs.Variable.{earlier, later, kinds_of}
use Rattle.span.specs.Within.{inputs_in, kinds_within}
use Rattle.span.proofs.Labels.Edges.{edges_within}
use Rattle.span.proofs.Labels.Depend.{edge_at}
use Rattle.span.proofs.Walking.{kinds_many, kinds_one, walking_none, walking_more, walking_all}
use Rattle.span.proofs.tags.by_variables.Goals as goal
use Rattle.span.proofs.tags.by_variables.Goals.{After-ends-e}

-- the ends are those of the variable at i, and nodes
record Ends (k : Kind) (a b : ℕ) : Type 0 where
  one : a ≡ earlier k
  other : b ≡ later k
  one_low : a ≤ max_inputs
  other_low : b ≤ max_inputs

ends : (c : After-ends-e) → Ends (get_or (kinds_within c.args.n c.args.p c.args.variables) c.loop-i.i (One 0)) c.ends-e.result.earlier c.ends-e.result.later
ends c =
    let a = c.args in
    let vs = kinds_within a.n a.p a.variables in
    let k = kinds_one a.n a.p c.min.result a.variables c.well_formed.1.0.1.0.1 c.min.ensures c.loop-i.i _ c.loop-i-test.true in
    let one : c.ends-e.result.earlier ≡ earlier (get_or vs c.loop-i.i (One 0)) = rw c.min-n.ensures at c.ends-e.ensures.0 ∙ ap earlier k in
    let other : c.ends-e.result.later ≡ later (get_or vs c.loop-i.i (One 0)) = rw c.min-n.ensures at c.ends-e.ensures.1 ∙ ap later k in
    let e = edge_at (inputs_in a.n) vs c.loop-i.i (One 0) (edges_within (inputs_in a.n) (kinds_of (take a.p a.variables)))
    (omega (arith, kinds_many a.n a.p c.min.result a.variables c.well_formed.1.0.1.0.1 c.min.ensures)) in
    record { one = one; other = other; one_low = omega (arith, e.earlier_in); other_low = omega (arith, e.later_in) }

pub loop-i-init : goal.loop-i-init
loop-i-init c = walking_none _ _ _ c.start-tags.ensures

pub loop-i-preserved : goal.loop-i-preserved
loop-i-preserved c =
    let a = c.args in
    let l = c.loop-i in
    let w = ends (goal.at.loop-i-preserved c).After-ends-e in
    rw (c.or-first.ensures, c.then_some.ensures)
    (walking_more (inputs_in a.n) _ a.values l.tags l.rest l.first l.i _ _ c.join-inside.result (omega arith)
    (edges_within (inputs_in a.n) (kinds_of (take a.p a.variables)))
    (omega (arith, kinds_many a.n a.p c.min.result a.variables c.well_formed.1.0.1.0.1 c.min.ensures)) refl
    (rw (w.one, w.other) at c.join-inside.ensures.tags_after) (rw (w.one, w.other) at c.join-inside.ensures.value) l.invariant)

pub returns : goal.returns
returns c =
    let a = c.args in
    walking_all _ _ _ _ _ _ (omega (arith, kinds_many a.n a.p c.min.result a.variables c.well_formed.1.0.1.0.1 c.min.ensures)) c.loop-i.invariant
