use native.Mathlib.Omega.{arith}
use mathlib.Core.Path.{refl, ◌∙◌}
use lib.ListN.{length-set}
use Rattle.many.proofs.Answers.{image_is, word_of, key_beyond, key_above, key_found}
use Rattle.many.proofs.Keys.{stage_none, stage_more, stage_stop, stage_all}
use Rattle.refusal.specs.declared.Refusal.TheVariants.{Beyond, NoUnit}
use Rattle.many.proofs.open.Open.along.Goals as goal

pub loop-i-init : goal.loop-i-init
loop-i-init g c = (refl, λ u o old d. stage_none _ _ old _ _ d)

pub held-index-requires : goal.held-index-requires
held-index-requires g c = c.args.self.now.room.fits

pub returns-then-frame-x : goal.returns-then-frame-x
returns-then-frame-x g c =
    rw c.at.ensures (
      (omega arith, omega arith),
      λ u o old d. stage_stop _ _ old _ _ _ (c.loop-i.invariant.1 u o old d) (omega arith) Beyond 5 refl (key_beyond u _ _ _ o _ c.if-frame-x.true),
    )

pub returns-then-frame-index : goal.returns-then-frame-index
returns-then-frame-index g c = rw c.at-then-frame-index.ensures (
  (omega arith, omega arith),
  λ u o old d.
      let e = image_is u _ _ _ o _ c.if-frame-x.false _ _ (omega (arith, c.type_inv.keys c.loop-i.i)) c.requires.2 c.image-y.ensures in
      let k = c.held-index.ensures.1 u _ _ o.frame e (word_of u _ _ _ o.frame e) in
      stage_stop _ _ old _ _ _ (c.loop-i.invariant.1 u o old d) (omega arith) NoUnit 13 refl (key_above u _ _ _ o _ c.if-frame-x.false _ k c.if-frame-index.true),
)

pub matched-requires : goal.matched-requires
matched-requires g c = (omega (arith, c.args.self.now.room.words_held), c.held-index.ensures.0)

pub bounds-indices-i : goal.bounds-indices-i
bounds-indices-i g c = omega (arith, c.loop-i.invariant.0, c.requires.0)

pub loop-i-preserved : goal.loop-i-preserved
loop-i-preserved g c = (
  length-set c.loop-i.indices _ _ ∙ c.loop-i.invariant.0,
  λ u o old d.
      let e = image_is u _ _ _ o _ c.if-frame-x.false _ _ (omega (arith, c.type_inv.keys c.loop-i.i)) c.requires.2 c.image-y.ensures in
      let w = word_of u _ _ _ o.frame e in
      let k = c.held-index.ensures.1 u _ _ o.frame e w in
      stage_more _ _ old _ _ _ (c.loop-i.invariant.1 u o old d) (omega arith) _ (key_found u _ _ _ o _ c.if-frame-x.false _ k _ _ c.if-frame-index.false w c.matched.ensures),
)

pub returns : goal.returns
returns g c =
    (tt, λ u o old d. stage_all _ _ old _ _ _ (c.loop-i.invariant.1 u o old d) c.loop-i-test.false)
