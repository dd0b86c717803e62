use Prim.Native.Nat.{ℕ, ◌*◌, ◌≤◌, ◌<◌, ◌^◌}
use native.Mathlib.Omega.{arith}
use mathlib.Core.Path.{◌≡◌, refl, sym, ap, ◌∙◌}
use lib.ListN.{length-set}
use lib.Pow.{pow_mono}
use Rattle.vectors.proofs.Bits.Laws.{pow_next}
use Rattle.many.proofs.Linear.{below_none, below_more}
use Rattle.many.proofs.tables.fill_one.Goals as goal

span_low : (b : ℕ) → b < 8 → 2 ^ b ≤ 2 ^ 7
span_low b h = pow_mono {i = b} {j = 7} (omega arith)

pub loop-image-init : goal.loop-image-init
loop-image-init c =
    (refl, length-set c.args.table.now 0 0 ∙ c.requires.1, λ f l h. below_none f l c.args.table.now (omega (arith, c.requires.1)))

pub double-requires : goal.double-requires
double-requires c = let l = c.loop-image in omega (arith, c.requires, span_low l.image-index (omega (arith, c.requires)), l.invariant.0, l.invariant.1)

pub overflow_mul-span : goal.overflow_mul-span
overflow_mul-span c = let l = c.loop-image in omega (arith, span_low l.image-index (omega (arith, c.requires)), l.invariant.0)

pub loop-image-preserved : goal.loop-image-preserved
loop-image-preserved c =
    let l = c.loop-image in
    let d = c.double in (
      ap (λ (k : ℕ). k * 2) l.invariant.0 ∙ sym (pow_next l.image-index),
      d.auto.table ∙ l.invariant.1,
      λ f g h. rw (pow_next l.image-index) (below_more f g l.image-index _ l.table d.new.table (h l.image-index (omega (arith, c.requires))) (l.invariant.2 f g h) (rw l.invariant.0 at d.ensures)),
    )

pub returns : goal.returns
returns c =
    let l = c.loop-image in
    let e : l.image-index ≡ 8 = omega (arith, c.requires) in
    λ f g h. rw e at (l.invariant.2 f g h)
