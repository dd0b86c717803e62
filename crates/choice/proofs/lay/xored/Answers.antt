use native.Mathlib.Omega.{arith}
use mathlib.Core.Path.{sym}
use lib.Bits.{bit_xor}
use lib.ListN.{length-map}
use Rattle.lists.proofs.Entries.Members.{get_d_map}
use Rattle.lists.proofs.Writing.Storing.{storing_none, storing_more, storing_end}
use Rattle.choice.proofs.lay.xored.Goals as goal

pub loop-i-init : goal.loop-i-init
loop-i-init c = storing_none _ _ _

pub loop-i-preserved : goal.loop-i-preserved
loop-i-preserved c =
    let a = c.args in
    let h = c.loop-i-test.true in
    storing_more _ _ _ 0 _ _ _ (omega (arith, length-map a.words.now (bit_xor a.x))) (sym (get_d_map (bit_xor a.x) a.words.now c.loop-i.i 0 0 h))
    c.loop-i.invariant

pub shape_of-out : goal.shape_of-out
shape_of-out c = c.loop-i.invariant.size

pub returns : goal.returns
returns c = storing_end _ _ _ _ _ (omega (arith, length-map c.args.words.now (bit_xor c.args.x))) c.loop-i.invariant
