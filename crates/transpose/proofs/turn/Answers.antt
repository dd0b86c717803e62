use native.Mathlib.Omega.{arith}
use mathlib.Core.Path.{refl}
use Rattle.transpose.proofs.Masks.{distance}
use Rattle.transpose.proofs.Stages.{across_none, across_step, across_all}
use Rattle.transpose.proofs.Columns.{turned_by}
use Rattle.transpose.proofs.turn.Goals as goal

pub new-requires : goal.new-requires
new-requires c = distance 5 _ refl refl

pub new-requires-2 : goal.new-requires-2
new-requires-2 c = distance 4 _ refl refl

pub new-requires-3 : goal.new-requires-3
new-requires-3 c = distance 3 _ refl refl

pub new-requires-4 : goal.new-requires-4
new-requires-4 c = distance 2 _ refl refl

pub new-requires-5 : goal.new-requires-5
new-requires-5 c = distance 1 _ refl refl

pub new-requires-6 : goal.new-requires-6
new-requires-6 c = distance 0 _ refl refl

pub returns : goal.returns
returns c =
    let xs = c.args.block.now in
    turned_by xs c.exchange-6.new.block c.told-block c.exchange-6.array_long (λ r _. c.exchange-6.ensures.words r)
    (across_all xs c.exchange-6.new.block
    (across_step 1 (omega arith) xs c.exchange-5.new.block c.exchange-6.new.block refl
    (across_step 2 (omega arith) xs c.exchange-4.new.block c.exchange-5.new.block refl
    (across_step 4 (omega arith) xs c.exchange-3.new.block c.exchange-4.new.block refl
    (across_step 8 (omega arith) xs c.exchange-2.new.block c.exchange-3.new.block refl
    (across_step 16 (omega arith) xs c.exchange.new.block c.exchange-2.new.block refl
    (across_step 32 (omega arith) xs xs c.exchange.new.block refl (across_none xs) (rw c.new.ensures.0 at c.exchange.ensures))
    (rw c.new-2.ensures.0 at c.exchange-2.ensures)) (rw c.new-3.ensures.0 at c.exchange-3.ensures)) (rw c.new-4.ensures.0 at c.exchange-4.ensures))
    (rw c.new-5.ensures.0 at c.exchange-5.ensures)) (rw c.new-6.ensures.0 at c.exchange-6.ensures)))
