use native.Mathlib.Omega.{arith}
use native.Mathlib.Nat.{zero-add}
use native.Mathlib.Numerals.{add-one}
use mathlib.Core.Path.{◌≡◌, refl, ◌∙◌}
use lib.ListN.{length-set}
use lib.Seq.{take-suc-set}
use Rattle.choice.specs.Inner.Split.{numbers}
use Rattle.choice.proofs.Choice.Grouped.{numbers_more}
use Rattle.choice.proofs.Grouping.Held.{all_none, all_one}
use Rattle.choice.proofs.groups.all.Goals as goal

pub returns-then-k-lt2 : goal.returns-then-k-lt2
returns-then-k-lt2 c = all_none _ _ _ c.if-k-lt2.true (omega arith) (omega arith)

pub loop-i-init : goal.loop-i-init
loop-i-init c = (refl, unfold numbers in refl)

pub loop-i-preserved : goal.loop-i-preserved
loop-i-preserved c =
    let l = c.loop-i in
    (length-set l.order l.i l.i ∙ l.invariant.0, rw (add-one l.i, take-suc-set l.order l.i l.i (omega arith), l.invariant.1, numbers_more l.i 0, zero-add l.i))

pub returns : goal.returns
returns c =
    let l = c.loop-i in
    let e : l.i ≡ c.args.k = omega arith in
    all_one _ _ _ c.if-k-lt2.false (rw e at l.invariant.1) refl (omega arith) (omega arith)
