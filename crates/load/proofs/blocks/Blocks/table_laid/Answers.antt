use Prim.Native.Nat.{ℕ, ◌+◌, ◌*◌}
use native.Mathlib.Omega.{arith}
use mathlib.Core.List.{List}
use mathlib.Core.Path.{◌≡◌, sym, ap₂, ◌∙◌}
use lib.ListN.{take, drop}
use Rattle.block.specs.declared.Opening.{Opening}
use Rattle.block.specs.Block.{block_size, payload_at}
use Rattle.block.specs.Look.{laid_out}
use Rattle.file.specs.Kinds.{byte_of}
use Rattle.file.specs.File.{opening}
use Rattle.load.proofs.Checking.{laying_none, laying_more, laying_no, laying_end, part_whole}
use Rattle.load.proofs.blocks.Blocks.table_laid.Goals as goal
use Rattle.load.proofs.blocks.Blocks.table_laid.Goals.{After-laid}

-- what is asked of a block
asked : (c : After-laid) → c.laid.result ≡ laid_out (opening (byte_of c.args.part.kind) c.loop-number.number) (payload_at + c.min-used.result) (take block_size (drop (block_size * c.loop-number.number) c.args.self.bytes.now))
asked c =
    c.laid.ensures ∙ ap₂ (λ (o : Opening) (l : List ℕ). laid_out o (payload_at + c.min-used.result) l) c.opening-opening.ensures (part_whole c.args.self.bytes.now (block_size * c.loop-number.number))

pub loop-number-init : goal.loop-number-init
loop-number-init c = laying_none _ _ _ _ _ c.requires.0

pub returns-then-not-laid : goal.returns-then-not-laid
returns-then-not-laid c = sym (laying_no _ _ _ _ _ _ _ _ (omega arith) c.min-used.ensures c.loop-number.invariant (sym (asked (goal.at.returns-then-not-laid c).After-laid) ∙ c.if-not-laid.true))

pub loop-number-preserved : goal.loop-number-preserved
loop-number-preserved c = laying_more _ _ _ _ _ _ _ _ (omega arith) c.min-used.ensures c.loop-number.invariant (sym (asked (goal.at.loop-number-preserved c).After-laid) ∙ c.if-not-laid.false)

pub returns : goal.returns
returns c = sym (laying_end _ _ _ _ _ _ _ (omega arith) c.loop-number.invariant)
