use native.Mathlib.Omega.{arith}
use Rattle.std.proofs.Common.{rules}
use Rattle.std.proofs.lemmas.List.{places}
use mathlib.Core.Path.{◌≡◌, ◌∙◌}
use lib.Seq.{get_or-take}
use lib.ListN.{length, drop, length-drop}
use Rattle.block.specs.Block.{check_at}
use Rattle.block.proofs.Check.Sums.{running_none, running_more, running_end}
use Rattle.block.proofs.own.Goals as goal

pub loop-b-init : goal.loop-b-init
loop-b-init c = running_none 255 4 _

pub overflow_add-s : goal.overflow_add-s
overflow_add-s c = omega (arith, c.loop-b.invariant.plain_low)

pub overflow_add-t : goal.overflow_add-t
overflow_add-t c = omega (arith, c.loop-b.invariant.plain_low, c.loop-b.invariant.weighed_low)

pub loop-b-preserved : goal.loop-b-preserved
loop-b-preserved c =
    let b = c.args.block.now in
    let n : length (drop check_at b) ≡ 4 = length-drop check_at b ∙ omega arith in
    running_more 255 4 (drop check_at b) _ _ _ _ (search rules) (omega arith) (c.from-s.ensures ∙ get_or-take 4 (drop check_at b) c.loop-b.b-index 0 (search rules)) (omega arith) c.loop-b.invariant

pub returns : goal.returns
returns c =
    let b = c.args.block.now in
    let n : length (drop check_at b) ≡ 4 = length-drop check_at b ∙ omega arith in
    let h = running_end 255 4 (drop check_at b) _ _ _ n (search (rules, places)) c.loop-b.invariant in
    record { plain_value = h; plain_bound = (omega (arith, c.loop-b.invariant.plain_low, c.loop-b.invariant.within), omega (arith, c.loop-b.invariant.weighed_low, c.loop-b.invariant.within)) }
