use mathlib.Core.Path.{sym, ◌∙◌}
use borrow.Author.Tests.{lt-ltb}
use Rattle.choice.proofs.Choosing.Places.{past_inputs, past_vectors, within, by_rule}
use Rattle.choice.proofs.choose.Goals as goal
use Rattle.choice.proofs.choose.Goals.{then-outside-via-then-outside, then-outside-via-else-outside+then-vectors-gt-MAX_VECTORS}

pub returns-then-outside : goal.returns-then-outside
returns-then-outside c =
    elim c.then-outside.branch [
      | then-outside-via-then-outside w ↦ rw c.blank_variables-variables.ensures (past_inputs _ _ _ (sym c.outside.ensures ∙ w.if-outside.true))
      | then-outside-via-else-outside+then-vectors-gt-MAX_VECTORS w ↦ rw c.blank_variables-variables.ensures (past_vectors _ _ _ (lt-ltb _ _ w.if-vectors-gt-MAX_VECTORS.true))
    ]

pub returns : goal.returns
returns c =
    let (some, inputs) = within _ (sym c.outside.ensures ∙ c.if-outside.false) in
    c.choose.ensures ∙ by_rule _ _ _ some inputs c.if-vectors-gt-MAX_VECTORS.false
