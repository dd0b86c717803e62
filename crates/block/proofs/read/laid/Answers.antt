use mathlib.Core.Path.{◌≡◌, sym, ap, ◌∙◌}
use mathlib.Core.Bool.{Bool, ◌&&◌}
use Rattle.block.specs.Look.{blank_from, laid_out}
use Rattle.block.proofs.Reading.Looks.{laid_is}
use Rattle.block.proofs.read.laid.Goals as goal
use Rattle.block.proofs.read.laid.Goals.{After-starts_with}

told : (c : After-starts_with) → laid_out c.args.opening c.args.at c.args.block.now ≡ (c.starts_with.result && blank_from c.args.at c.args.block.now)
told c = laid_is _ _ _ c.bytes.result c.bytes.ensures ∙ ap (λ (t : Bool). t && blank_from c.args.at c.args.block.now) (sym c.starts_with.ensures.value)

pub returns-then-starts_with : goal.returns-then-starts_with
returns-then-starts_with c = c.blank.ensures ∙ sym (told (goal.at.returns-then-starts_with c).After-starts_with ∙ rw c.if-starts_with.true)

pub returns-else-starts_with : goal.returns-else-starts_with
returns-else-starts_with c = c.if-starts_with.false ∙ sym (told (goal.at.returns-else-starts_with c).After-starts_with ∙ rw c.if-starts_with.false)
