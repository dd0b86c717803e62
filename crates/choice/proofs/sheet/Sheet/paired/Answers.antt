use native.Mathlib.Omega.{arith}
use mathlib.Core.Path.{◌≡◌, ap, ◌∙◌}
use lib.Count.{ones}
use Rattle.choice.specs.Inner.Gain.{pair_gain}
use Rattle.choice.specs.Inner.Judged.{tally_at}
use Rattle.choice.proofs.Counting.Judging.{pairing_start, pairing_on, pairing_low, pairing_all, pairing_cross, rest_low, pairing_given, pair_one, pair_three, judges_exact}
use Rattle.choice.proofs.sheet.Sheet.paired.Goals as goal
use Rattle.choice.proofs.sheet.Sheet.paired.Goals.{After-ones-gain, After-ones_of_three-gain}

pub loop-w-init : goal.loop-w-init
loop-w-init c = pairing_start _ _ _ _ _ _ c.requires

-- ---- three blocks at a time

pub overflow_add-w : goal.overflow_add-w
overflow_add-w c = let p = c.loop-w.invariant.pairs in omega (arith, p.within, p.fit)

pub overflow_add-gain : goal.overflow_add-gain
overflow_add-gain c = let l = c.loop-w in omega (arith, rest_low _ _ _ _ _ _ l.gain l.w l.invariant (omega arith))

pub returns-then-gain-rests : goal.returns-then-gain-rests
returns-then-gain-rests c =
    let l = c.loop-w in
    pairing_given _ _ _ _ _ _ l.gain l.w l.invariant (omega arith) _ c.if-gain-rests.true

pub crossed-x-requires : goal.crossed-x-requires
crossed-x-requires c =
    let l = c.loop-w in
    pairing_cross _ _ _ _ _ _ l.gain l.w l.invariant _ (omega arith)

pub crossed-y-requires : goal.crossed-y-requires
crossed-y-requires c =
    let l = c.loop-w in
    pairing_cross _ _ _ _ _ _ l.gain l.w l.invariant _ (omega arith)

pub crossed-z-requires : goal.crossed-z-requires
crossed-z-requires c =
    let l = c.loop-w in
    pairing_cross _ _ _ _ _ _ l.gain l.w l.invariant _ (omega arith)

counts : (c : After-ones_of_three-gain)
    → let a = c.args in
    c.ones_of_three-gain.result ≡ pair_gain 3 (tally_at a.self.now.columns.now a.i a.j) c.loop-w.w
counts c =
    pair_three _ _ _
    (omega (arith, c.ones_of_three-gain.ensures, ap ones c.crossed-x.ensures, ap ones c.crossed-y.ensures, ap ones c.crossed-z.ensures))

pub overflow_add-gain-in-loop-w : goal.overflow_add-gain-in-loop-w
overflow_add-gain-in-loop-w c =
    let l = c.loop-w in
    omega (arith, pairing_low _ _ _ _ _ _ l.gain l.w l.invariant 3 _ (omega arith) (counts c))

pub loop-w-preserved : goal.loop-w-preserved
loop-w-preserved c =
    let l = c.loop-w in
    pairing_on _ _ _ _ _ _ l.gain l.w l.invariant 3 _ (omega arith) (counts c)

-- ---- the blocks left

pub loop-w-2-init : goal.loop-w-2-init
loop-w-2-init c = c.loop-w.invariant

pub overflow_add-gain-in-loop-w-2 : goal.overflow_add-gain-in-loop-w-2
overflow_add-gain-in-loop-w-2 c = let l = c.loop-w-2 in omega (arith, rest_low _ _ _ _ _ _ l.gain l.w l.invariant c.loop-w-2-test.true)

pub returns-then-gain-rests-2 : goal.returns-then-gain-rests-2
returns-then-gain-rests-2 c =
    let l = c.loop-w-2 in
    pairing_given _ _ _ _ _ _ l.gain l.w l.invariant c.loop-w-2-test.true _ c.if-gain-rests-2.true

pub crossed-requires : goal.crossed-requires
crossed-requires c =
    let l = c.loop-w-2 in
    pairing_cross _ _ _ _ _ _ l.gain l.w l.invariant _ c.loop-w-2-test.true

count : (c : After-ones-gain)
    → let a = c.args in
    c.ones-gain.result ≡ pair_gain 1 (tally_at a.self.now.columns.now a.i a.j) c.loop-w-2.w
count c = pair_one _ _ _ (c.ones-gain.ensures.0 ∙ ap ones c.crossed.ensures)

pub overflow_add-gain-in-loop-w-2-2 : goal.overflow_add-gain-in-loop-w-2-2
overflow_add-gain-in-loop-w-2-2 c =
    let l = c.loop-w-2 in
    omega (arith, pairing_low _ _ _ _ _ _ l.gain l.w l.invariant 1 _ (omega arith) (count c))

pub loop-w-2-preserved : goal.loop-w-2-preserved
loop-w-2-preserved c =
    let l = c.loop-w-2 in
    pairing_on _ _ _ _ _ _ l.gain l.w l.invariant 1 _ (omega arith) (count c)

pub returns : goal.returns
returns c = let l = c.loop-w-2 in judges_exact _ _ _ (pairing_all _ _ _ _ _ _ l.gain l.w l.invariant (omega arith))
