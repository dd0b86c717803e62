use Prim.Native.Nat.{ℕ, ◌^◌, ◌≤◌, ◌<◌}
use native.Mathlib.Omega.{arith}
use mathlib.Core.Path.{◌≡◌, refl, sym, ◌∙◌}
use mathlib.Core.List.{map}
use lib.ListN.{length, get_or, take}
use lib.Seq.{length-take-le}
use borrow.Author.Tests.{ne_eqb}
use Rattle.vectors.specs.Bounds.{max_inputs, max_vectors}
use Rattle.choice.specs.Inner.Laid.{Grouped}
use Rattle.choice.specs.Inner.Groups.{sizes_of, order_of, groups_of}
use Rattle.choice.proofs.Choosing.Stage.{stage_none, stage_more, stage_ties, stage_stop, stage_end}
use Rattle.choice.proofs.Choosing.Ties.{best_sound, ties_none, ties_words}
use Rattle.choice.proofs.rule.choose.Goals as goal
use Rattle.choice.proofs.rule.choose.Goals.{After-gather, At-loop-p}

low : (l : At-loop-p) → l.loop-p.groups.members ≤ max_vectors
low l =
    let s = l.loop-p.invariant.2.shape in
    omega (arith, length-take-le _ l.loop-p.groups.order s.room, s.cuts.few, l.requires.2)

-- from where the words are gathered
module _ (c : After-gather) where
  few : c.loop-p.groups.members ≤ max_vectors
  few =
      let s = c.loop-p.invariant.2.shape in
      omega (arith, length-take-le _ c.loop-p.groups.order s.room, s.cuts.few, c.requires.2)

  room : c.loop-p.groups.members ≤ length c.gather.new.words
  room = omega (arith, c.gather.auto.words, few, c.loop-p.invariant.0)

  -- the groups are all of the words gathered
  grouped : Grouped (sizes_of c.loop-p.groups) (take c.loop-p.groups.members c.gather.new.words)
  grouped =
      let s = c.loop-p.invariant.2.shape in
      let e = length-take-le c.loop-p.groups.members c.gather.new.words room in
      record { sum = s.cuts.sum ∙ length-take-le _ c.loop-p.groups.order s.room ∙ sym e; few = omega (arith, few, e) }

  gathered : take c.loop-p.groups.members c.gather.new.words ≡ map (λ i. get_or c.args.vectors.now i 0) (order_of c.loop-p.groups)
  gathered =
      let o = length-take-le _ c.loop-p.groups.order c.loop-p.invariant.2.shape.room in
      rw o at c.gather.ensures

pub all-groups-requires : goal.all-groups-requires
all-groups-requires c = c.requires.2

pub loop-p-init : goal.loop-p-init
loop-p-init c =
    (refl, refl, stage_none _ _ _ _ c.blank_variables-variables.ensures c.all-groups.ensures, ties_none (λ i. get_or c.args.vectors.now i 0) (groups_of c.all-groups.result))

pub returns-then-groups-eq0 : goal.returns-then-groups-eq0
returns-then-groups-eq0 c = stage_stop _ _ c.loop-p.invariant.2 c.if-groups-eq0.true

pub slice_bounds-gather-end : goal.slice_bounds-gather-end
slice_bounds-gather-end c = sym (length-take-le _ _ c.loop-p.invariant.2.shape.room)

pub gather-requires : goal.gather-requires
gather-requires c =
    (c.loop-p.invariant.2.shape.cuts.low, omega (arith, low (goal.at.gather-requires c).At-loop-p, c.loop-p.invariant.0, length-take-le _ c.loop-p.groups.order c.loop-p.invariant.2.shape.room))

pub slice_bounds-members-end : goal.slice_bounds-members-end
slice_bounds-members-end c = sym (length-take-le _ _ (room (goal.at.slice_bounds-members-end c).After-gather))

pub slice_bounds-members-end-in-loop-p : goal.slice_bounds-members-end-in-loop-p
slice_bounds-members-end-in-loop-p c = sym (length-take-le _ _ c.loop-p.invariant.2.shape.places)

pub invariant_of-members : goal.invariant_of-members
invariant_of-members c = record { grouped = grouped (goal.at.invariant_of-members c).After-gather }

pub best-kind-requires : goal.best-kind-requires
best-kind-requires c =
    let l = c.loop-p in
    let g = (goal.at.best-kind-requires c).After-gather in
    record {
      inputs = (c.requires.0, c.requires.1);
      ties = rw (gathered g) (ties_words _ _ (sizes_of l.groups) (order_of l.groups) l.invariant.3);
      len = l.invariant.1;
    }

pub refined-groups-requires : goal.refined-groups-requires
refined-groups-requires c = (c.requires.2, c.loop-p.invariant.2.shape)

pub loop-p-preserved : goal.loop-p-preserved
loop-p-preserved c =
    let fits : (i : ℕ) → get_or c.args.vectors.now i 0 < 2 ^ max_inputs = λ i. omega (arith, c.type_inv.vectors i) in (
      c.gather.auto.words ∙ c.loop-p.invariant.0,
      c.best-kind.auto.items ∙ c.loop-p.invariant.1,
      stage_more c.loop-p.invariant.2 _ c.best-kind.result _ _ c.loop-p-test.true c.if-groups-eq0.false
          fits (gathered (goal.at.loop-p-preserved c).After-gather) c.best-kind.ensures c.mask.ensures c.refined-groups.ensures,
      stage_ties c.loop-p.invariant.2 c.args.n _ _ c.best-kind.result _ _ c.requires.1 (best_sound _ _ _ _ c.requires.0 c.best-kind.ensures)
          fits c.mask.ensures c.later-tied.ensures c.refined-groups.ensures c.loop-p.invariant.3,
    )

pub returns-then-groups-eq0-2 : goal.returns-then-groups-eq0-2
returns-then-groups-eq0-2 c =
    let e : c.loop-p.p ≡ 24 = omega arith in
    rw e at (stage_stop _ _ c.loop-p.invariant.2 c.if-groups-eq0-2.true)

pub returns-else-groups-eq0-2 : goal.returns-else-groups-eq0-2
returns-else-groups-eq0-2 c =
    let e : c.loop-p.p ≡ 24 = omega arith in
    rw (e, ne_eqb _ 0 c.if-groups-eq0-2.false) at (stage_end _ _ c.loop-p.invariant.2 c.loop-p-test.false)
