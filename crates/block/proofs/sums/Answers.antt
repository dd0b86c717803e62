use Prim.Native.Nat.{ℕ, ◌+◌, ◌-◌, ◌*◌, ◌%◌}
use native.Mathlib.Omega.{arith}
use mathlib.Core.Path.{◌≡◌, ap}
use lib.ListN.{take, drop}
use Rattle.block.specs.Block.{check_at, modulus, sum_of, weigh}
use Rattle.block.specs.Inner.Columns.{half_size}
use Rattle.block.proofs.Check.Columns.{Halved}
use Rattle.block.proofs.Check.Whole.{whole_plain, whole_weighed}
use Rattle.block.proofs.sums.Goals as goal
use Rattle.block.proofs.sums.Goals.{After-own-c}

-- the sums of the whole block, and of the bytes before the check
told : (c : After-own-c) →
    let b = c.args.block.now in
    let p = c.half-a.result in
    let q = c.half-b.result in
    (p.plain + q.plain ≡ sum_of (take check_at b) + c.own-c.result.plain)
    × (p.weighed + half_size * p.plain + q.weighed ≡ weigh check_at (take check_at b) + 4 * sum_of (take check_at b) + c.own-c.result.weighed)
told c =
    let b = c.args.block.now in
    let x : Halved b c.half-a.result.plain c.half-a.result.weighed =
    record { plain_is = c.half-a.ensures.plain_value.0; weighed_is = c.half-a.ensures.plain_value.1; plain_low = c.half-a.ensures.plain_bound.0; weighed_low = c.half-a.ensures.plain_bound.1 } in
    let y : Halved (drop half_size b) c.half-b.result.plain c.half-b.result.weighed =
    record { plain_is = c.half-b.ensures.plain_value.0; weighed_is = c.half-b.ensures.plain_value.1; plain_low = c.half-b.ensures.plain_bound.0; weighed_low = c.half-b.ensures.plain_bound.1 } in (
      omega (arith, whole_plain b c.told-block _ _ _ _ x y, c.own-c.ensures.plain_value.0),
      omega (arith, whole_weighed b c.told-block _ _ _ _ x y, c.own-c.ensures.plain_value.1),
    )

pub overflow_sub-plain : goal.overflow_sub-plain
overflow_sub-plain c = let t = told (goal.at.overflow_sub-plain c).After-own-c in let o = c.own-c.ensures.plain_bound in omega arith

pub overflow_mul-weighed-2 : goal.overflow_mul-weighed-2
overflow_mul-weighed-2 c = let t = told (goal.at.overflow_mul-weighed-2 c).After-own-c in let o = c.own-c.ensures.plain_bound in omega arith

pub overflow_sub-weighed : goal.overflow_sub-weighed
overflow_sub-weighed c = let t = told (goal.at.overflow_sub-weighed c).After-own-c in let o = c.own-c.ensures.plain_bound in omega arith

pub overflow_sub-weighed-2 : goal.overflow_sub-weighed-2
overflow_sub-weighed-2 c = let t = told (goal.at.overflow_sub-weighed-2 c).After-own-c in let o = c.own-c.ensures.plain_bound in omega arith

pub returns : goal.returns
returns c =
    let t = told (goal.at.returns c).After-own-c in
    let b = c.args.block.now in
    let p = c.half-a.result in
    let q = c.half-b.result in
    let o = c.own-c.result in
    let e : p.plain + q.plain - o.plain ≡ sum_of (take check_at b) = omega arith in
    let f : p.weighed + half_size * p.plain + q.weighed - 4 * (p.plain + q.plain - o.plain) - o.weighed ≡ weigh check_at (take check_at b) = omega arith in
    (ap (λ (n : ℕ). n % modulus) e, ap (λ (n : ℕ). n % modulus) f)
