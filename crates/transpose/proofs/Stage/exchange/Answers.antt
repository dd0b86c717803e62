use Prim.Native.Nat.{◌+◌}
use native.Mathlib.Omega.{arith}
use Rattle.transpose.proofs.Loop.{Blocks, blocks_turn, blocks_all}
use Rattle.transpose.proofs.Stage.exchange.Goals as goal
use Rattle.transpose.proofs.Stage.exchange.Goals.{After-words}

-- the loop has one turn more behind it
turned : (c : After-words) → Blocks c.args.self.distance (c.loop-first.invariant.0 + c.args.self.distance) c.args.block.now c.words.new.block
turned c =
    let i = c.loop-first.invariant in
    blocks_turn _ _ c.args.self.columns _ i.0 c.loop-first.block _ (omega (arith, i.1)) i.2 (rw i.1 at c.words.ensures)

pub loop-first-preserved : goal.loop-first-preserved
loop-first-preserved c =
    (c.loop-first.invariant.0 + c.args.self.distance, omega (arith, c.loop-first.invariant.1), turned (goal.at.loop-first-preserved c).After-words)

pub returns : goal.returns
returns c =
    let i = c.loop-first.invariant in
    blocks_all _ _ c.args.self.columns _ i.0 c.loop-first.block (omega (arith, i.1)) i.2

pub returns-2 : goal.returns-2
returns-2 c =
    let i = c.loop-first.invariant in
    blocks_all _ _ c.args.self.columns _ (i.0 + c.args.self.distance) c.words.new.block (omega (arith, i.1)) (turned (goal.at.returns-2 c).After-words)
