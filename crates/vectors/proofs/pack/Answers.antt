use Rattle.std.proofs.Common.{ℕ, ◌+◌, ◌-◌, ◌%◌, ◌^◌, refl, bit_or, arith}
use Rattle.vectors.proofs.Words.Packing.{pack_lt}
use Rattle.vectors.proofs.Words.Runs.{TurnAt, turn, turn_none}
use Rattle.vectors.proofs.pack.Goals as goal
use Rattle.vectors.proofs.pack.Goals.{In-loop-m}

abbrev above : ℕ → ℕ
above m = (bit_or m (m - 1) + 1) % 2 ^ 64

turned : (c : In-loop-m) → TurnAt 64 c.loop-m.k c.loop-m.m c.args.x (above c.loop-m.m)
turned c =
    turn 64 _ _ _ (omega arith) c.loop-m.invariant.0 c.loop-m.invariant.1 _ refl

pub overflow_add-w : goal.overflow_add-w
overflow_add-w c =
    omega (arith, (turned c).adds, c.loop-m.invariant.2, pack_lt 64 c.args.mask c.args.x)

pub overflow_sub-k : goal.overflow_sub-k
overflow_sub-k c = (turned c).ahead

pub loop-m-smaller : goal.loop-m-smaller
loop-m-smaller c = (turned c).less

pub loop-m-preserved : goal.loop-m-preserved
loop-m-preserved c =
    let t = turned c in
    (omega (arith, t.less, c.loop-m.invariant.0), t.kept, omega (arith, t.adds, c.loop-m.invariant.2))

pub returns : goal.returns
returns c = omega (arith, turn_none 64 c.loop-m.k c.loop-m.m c.args.x (omega arith), c.loop-m.invariant.2)
