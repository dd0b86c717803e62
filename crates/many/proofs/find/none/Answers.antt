use mathlib.Core.Path.{sym, ◌∙◌}
use borrow.Author.Tests.{eqb-true, eqb-false}
use Rattle.many.proofs.Keys.{unformed_none, unformed_some}
use Rattle.many.proofs.find.none.Goals as goal
use mathlib.Core.Path.{refl}

pub returns-then-is_empty : goal.returns-then-is_empty
returns-then-is_empty c = unformed_none _ _ _ _ c.requires (c.fill.ensures.after (λ y h. h)) refl (eqb-true _ 0 (sym c.is_empty.ensures ∙ c.if-is_empty.true))

pub returns : goal.returns
returns c = unformed_some _ _ _ _ c.requires (c.fill.ensures.after (λ y h. h)) (rw c.at.ensures) (eqb-false _ 0 (sym c.is_empty.ensures ∙ c.if-is_empty.false))
