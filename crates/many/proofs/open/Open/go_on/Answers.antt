use Prim.Native.Nat.{ℕ, ◌+◌, ◌-◌, ◌≤◌, ◌<◌}
use native.Mathlib.Omega.{arith}
use mathlib.Core.Path.{◌≡◌, refl, sym, ◌∙◌}
use lib.ListN.{length, length-set}
use Rattle.record.specs.Tables.{lent}
use Rattle.lookup.specs.Lookup.{lookup_of}
use Rattle.many.proofs.Keys.{done_more, within_any, ahead_less}
use Rattle.many.proofs.open.Open.go_on.Goals as goal
use Rattle.many.proofs.open.Open.go_on.Goals.{In-Err}

-- the run stopped at one of the keys
stopped : (c : In-Err) → (0 < c.in-Err.stop.place) × (c.in-Err.stop.place ≤ length c.args.keys.now)
stopped c = rw c.in-Err.is at c.loop-next.invariant.1

pub loop-next-init : goal.loop-next-init
loop-next-init c = (refl, c.requires.1, λ u o old d z. (d, z))

pub overflow_sub-indices : goal.overflow_sub-indices
overflow_sub-indices c = omega (arith, stopped (goal.at.overflow_sub-indices c).In-Err)

pub offset_bounds-indices-stop : goal.offset_bounds-indices-stop
offset_bounds-indices-stop c = omega (arith, stopped (goal.at.offset_bounds-indices-stop c).In-Err, c.requires.0, c.well_formed)

pub bounds-indices-stop : goal.bounds-indices-stop
bounds-indices-stop c = omega (arith, stopped (goal.at.bounds-indices-stop c).In-Err, c.loop-next.invariant.0, c.requires.0)

pub run-next-requires : goal.run-next-requires
run-next-requires c = (
  omega (arith, length-set {A = ℕ}, c.loop-next.invariant.0, c.requires.0),
  (stopped (goal.at.run-next-requires c).In-Err).1,
)

pub loop-next-smaller : goal.loop-next-smaller
loop-next-smaller c = rw c.in-Err.is (ahead_less _ _ _ (stopped (goal.at.loop-next-smaller c).In-Err).1 c.run-next.ensures.0)

pub loop-next-preserved : goal.loop-next-preserved
loop-next-preserved c =
    let f = c.run-next in
    let k : ℕ = c.in-Err.stop.place - 1 in
    let w = stopped (goal.at.loop-next-preserved c).In-Err in
    let low : k < length c.args.keys.now = omega (arith, w) in
    let next : k + 1 ≡ c.in-Err.stop.place = omega (arith, w) in (
      f.auto.indices ∙ length-set c.loop-next.indices _ _ ∙ c.loop-next.invariant.0,
      within_any _ _ _ f.ensures.0,
      λ u o old d z.
          let look = lookup_of u (lent c.args.self.now.h.now c.args.self.now.g.now c.args.self.now.aux.now) in
          let e = rw c.in-Err.is at (c.loop-next.invariant.2 u o old d z) in
          let s = f.ensures.1 u o old (rw next at (done_more look c.args.keys.now old _ 0 k low (sym (e.1 low)) e.0)) in
          (s.stored, s.blank),
    )

pub returns : goal.returns
returns c =
    λ u o old d z. (rw c.in_default.is at (c.loop-next.invariant.2 u o old d z)).0
