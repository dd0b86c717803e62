use Prim.Native.Nat.{ℕ, ◌<◌}
use mathlib.Core.Path.{sym, ◌∙◌}
use Rattle.lists.proofs.Entries.Alls.{at_all}
use Rattle.record.proofs.Soundness.{right_says}
use Rattle.load.proofs.Testing.Steps.{not_right, is_laid}
use Rattle.load.proofs.blocks.Blocks.is_file.Goals as goal

pub laid_by-requires : goal.laid_by-requires
laid_by-requires c = (right_says _ (sym c.right.ensures ∙ c.if-right.true)).in_bounds

pub returns-then-right : goal.returns-then-right
returns-then-right c =
    c.laid_by.ensures
    ∙ sym (is_laid c.args.self.bytes.now c.args.unit c.requires.unit_value c.args.self.some c.requires.file_value (at_all (λ (x : ℕ). x < 256) c.args.self.bytes.now 0 (λ i h. c.args.self.low i)) (sym c.right.ensures ∙ c.if-right.true))

pub returns-else-right : goal.returns-else-right
returns-else-right c =
    c.if-right.false
    ∙ not_right c.args.self.bytes.now c.args.unit c.requires.unit_value c.args.self.some c.requires.file_value (at_all (λ (x : ℕ). x < 256) c.args.self.bytes.now 0 (λ i h. c.args.self.low i)) (sym c.right.ensures ∙ c.if-right.false)
